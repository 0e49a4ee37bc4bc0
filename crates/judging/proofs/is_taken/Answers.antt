-- `judging::is_taken` meets its contract: an empty name is no row's, and any other is looked up.
use Rattle.std.specs.Prelude.{is_some}
use mathlib.Core.Path.{ap, sym, ◌∙◌, subst}
use mathlib.Core.Bool.{Bool}
use mathlib.Core.List.{List}
use Prim.Native.Nat.{ℕ}
use Rattle.names.specs.Hash.{hash}
use Rattle.elements.specs.ElementRows.{bytes_in}
use Rattle.judging.specs.Judges.{Taken}
use Rattle.laws.proofs.Parts.{part-slice}
use Rattle.judging.proofs.Clash.{taken, empty-untaken}
use Rattle.judging.proofs.is_taken.Goals as goal

pub returns-then-first-past : goal.returns-then-first-past
returns-then-first-past c =
    empty-untaken c.args.name c.requires.bounded c.if-first-past.true

pub find-requires : goal.find-requires
find-requires c =
    let name = c.args.name in
    let bytes = part-slice name.first name.past c.args.s.now c.requires.placed.0.order in
    record { bounded = c.requires.bounded; filed = c.requires.filed; hashed_value = c.requires.placed.1 ∙ ap hash (sym bytes) }

pub returns : goal.returns
returns c =
    let a = c.args in
    let bytes = part-slice a.name.first a.name.past a.s.now c.requires.placed.0.order in
    subst (λ (b : Bool). Taken a.s.now a.rows.now a.column a.n a.space (bytes_in a.s.now a.name) b) (sym c.is_some.ensures)
    (subst (λ (xs : List ℕ). Taken a.s.now a.rows.now a.column a.n a.space xs (is_some c.find.result)) bytes (taken _ _ _ _ _ _ c.find.result c.find.ensures))
