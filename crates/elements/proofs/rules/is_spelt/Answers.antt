-- `elements::rules::is_spelt` meets its contract.
use mathlib.Core.Path.{ap, ◌∙◌}
use Rattle.std.proofs.lemmas.Slice.{between_is}
use Rattle.names.specs.Names.{is_identifier}
use Rattle.elements.proofs.Values.{spelt-absent, spelt-there}
use Rattle.elements.proofs.rules.is_spelt.Goals as goal

pub returns-then-past-eq0 : goal.returns-then-past-eq0
returns-then-past-eq0 c =
    let a = c.args in
    spelt-absent a.s.now a.v c.if-past-eq0.true

pub returns : goal.returns
returns c =
    let a = c.args in
    spelt-there a.s.now a.v c.if-past-eq0.false c.is_identifier.result
    (c.is_identifier.ensures ∙ ap is_identifier (between_is a.s.now a.v.first a.v.past))
