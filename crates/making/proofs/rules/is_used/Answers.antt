-- `making::rules::is_used` meets its contract: it is looked up in the index.
use mathlib.Core.Path.{ap, sym, ◌∙◌, subst}
use mathlib.Core.List.{List}
use Rattle.names.specs.Hash.{hash}
use Prim.Native.Nat.{ℕ}
use Rattle.rows.specs.Columns.{identifier_column}
use Rattle.rows.specs.Chains.{FindsRow}
use Rattle.making.specs.Keeps.{block_space}
use Rattle.making.proofs.Ruling.{part-is}
use Rattle.making.proofs.Steps.{used-found}
use Rattle.making.proofs.rules.is_used.Goals as goal

pub find-requires : goal.find-requires
find-requires c =
    let a = c.args in
    let is = part-is a.buffer.now a.identifier c.requires.part_lies.0.order in
    record { bounded = c.requires.bounded.0; filed = c.requires.bounded.1; hashed_value = c.requires.part_lies.1 ∙ ap hash (sym is) }

pub returns : goal.returns
returns c =
    let a = c.args in
    let is = part-is a.buffer.now a.identifier c.requires.part_lies.0.order in
    λ done said keeps spelt e.
    let finds = subst (λ (bytes : List ℕ). FindsRow a.buffer.now a.rows.now identifier_column a.n block_space bytes c.find.result) (is ∙ sym e) c.find.ensures in
    c.is_some.ensures ∙ sym (used-found keeps said spelt c.find.result finds)
