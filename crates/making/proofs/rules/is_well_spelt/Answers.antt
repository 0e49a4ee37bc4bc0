-- `making::rules::is_well_spelt` meets its contract: three tests, one after another.
use mathlib.Core.Path.{ap, sym, ◌∙◌}
use Prim.Native.Nat.{ℕ}
use lib.Dec.{leb}
use lib.ListN.{length}
use Rattle.names.specs.Names.{longest_identifier, is_identifier, is_portion}
use Rattle.making.specs.Entries.{said_by, unit_name, all_spelt}
use Rattle.making.proofs.Ruling.{third-tells, second-tells, first-tells, part-is, unit-length}
use Rattle.making.proofs.rules.is_well_spelt.Goals as goal

pub returns-then-is_portion : goal.returns-then-is_portion
unfolding all_spelt
returns-then-is_portion c =
    let args = c.args in
    let pre = c.requires in
    let buffer = args.buffer.now in
    let entry = args.entry in
    let said = said_by buffer entry in
    let a = is_identifier said.identifier in
    let b = is_portion said.portion in
    let d = leb (length (unit_name said)) longest_identifier in
    ap (λ (n : ℕ). leb n longest_identifier) (sym (unit-length buffer entry pre.0 pre.1))
    ∙ third-tells a b d (ap is_identifier (sym (part-is buffer entry.identifier c.requires.0.order)) ∙ (sym c.is_identifier.ensures
    ∙ c.if-is_identifier.true)) (ap is_portion (sym (part-is buffer entry.portion c.requires.1.order)) ∙ (sym c.is_portion.ensures ∙ c.if-is_portion.true))

pub returns-else-is_portion : goal.returns-else-is_portion
unfolding all_spelt
returns-else-is_portion c =
    let args = c.args in
    let buffer = args.buffer.now in
    let entry = args.entry in
    let said = said_by buffer entry in
    let a = is_identifier said.identifier in
    let b = is_portion said.portion in
    let d = leb (length (unit_name said)) longest_identifier in
    second-tells a b d (ap is_identifier (sym (part-is buffer entry.identifier c.requires.0.order)) ∙ (sym c.is_identifier.ensures ∙ c.if-is_identifier.true))
    (ap is_portion (sym (part-is buffer entry.portion c.requires.1.order)) ∙ (sym c.is_portion.ensures ∙ c.if-is_portion.false))

pub returns-else-is_identifier : goal.returns-else-is_identifier
unfolding all_spelt
returns-else-is_identifier c =
    let args = c.args in
    let buffer = args.buffer.now in
    let entry = args.entry in
    let said = said_by buffer entry in
    let a = is_identifier said.identifier in
    let b = is_portion said.portion in
    let d = leb (length (unit_name said)) longest_identifier in
    first-tells a b d (ap is_identifier (sym (part-is buffer entry.identifier c.requires.0.order)) ∙ (sym c.is_identifier.ensures ∙ c.if-is_identifier.false))
