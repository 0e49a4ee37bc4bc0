-- `judging::has_double` meets its contract: each look-up is a part of rule 15, and so are the portions.
use mathlib.Core.Path.{◌≡◌, sym, ap, ◌∙◌, subst}
use mathlib.Core.Bool.{Bool, true, false}
use mathlib.Core.List.{List}
use Prim.Native.Nat.{ℕ}
use Rattle.rows.specs.Columns.{identifier_column, logical_column}
use Rattle.rows.specs.Index.{Filed}
use Rattle.rows.specs.Rows.{name_space_of}
use Rattle.portions.specs.Portions.{repeats}
use Rattle.elements.specs.ElementRows.{bytes_in}
use Rattle.judging.specs.declared.Hashes.{Hashes}
use Rattle.judging.specs.Judges.{Taken}
use Rattle.judging.proofs.Clash.{identifier-twice, logical-twice, portions-twice}
use Rattle.judging.proofs.has_double.Goals as goal
use Rattle.judging.proofs.has_double.Goals.{After-is_taken, After-is_taken-2}

-- what the look-up of the identifier says, if it answers b
identifier-taken : (c : After-is_taken) (b : Bool) → c.is_taken.result ≡ b →
    let a = c.args in
    Taken a.s.now a.rows.now identifier_column a.n (name_space_of a.seen.row.kind) (bytes_in a.s.now a.seen.row.identifier) b
identifier-taken c b e =
    let a = c.args in
    subst (λ (k : ℕ). Taken a.s.now a.rows.now identifier_column a.n k (bytes_in a.s.now a.seen.row.identifier) b)
    c.space_of-space.ensures
    (subst (Taken a.s.now a.rows.now identifier_column a.n c.space_of-space.result
    (bytes_in a.s.now a.seen.row.identifier)) e c.is_taken.ensures)

logical-taken : (c : After-is_taken-2) (b : Bool) → c.is_taken-2.result ≡ b →
    let a = c.args in
    Taken a.s.now a.rows.now logical_column a.n (name_space_of a.seen.row.kind) (bytes_in a.s.now a.seen.row.logical) b
logical-taken c b e =
    let a = c.args in
    subst (λ (k : ℕ). Taken a.s.now a.rows.now logical_column a.n k (bytes_in a.s.now a.seen.row.logical) b)
    c.space_of-space.ensures
    (subst (Taken a.s.now a.rows.now logical_column a.n c.space_of-space.result
    (bytes_in a.s.now a.seen.row.logical)) e c.is_taken-2.ensures)

pub is_taken-requires : goal.is_taken-requires
is_taken-requires c =
    let filed = subst (λ (index : List ℕ). Filed c.args.s.now c.args.rows.now identifier_column index c.args.n)
    (sym c.identifiers.ensures) c.requires.both_filed.identifiers in
    record { bounded = c.requires.done_rows.2.identifiers; filed = filed; placed = (c.requires.row_placed.0.identifier, ap (λ (h : Hashes). h.identifier) c.requires.row_placed.1) }

pub returns-then-is_taken : goal.returns-then-is_taken
returns-then-is_taken c = λ table done e holds says stored. sym (identifier-twice holds says (identifier-taken (goal.at.returns-then-is_taken c).After-is_taken true c.if-is_taken.true))

pub is_taken-requires-2 : goal.is_taken-requires-2
is_taken-requires-2 c =
    let filed = subst (λ (index : List ℕ). Filed c.args.s.now c.args.rows.now logical_column index c.args.n)
    (sym c.logicals.ensures) c.requires.both_filed.logicals in
    record { bounded = c.requires.done_rows.2.logicals; filed = filed; placed = (c.requires.row_placed.0.logical, ap (λ (h : Hashes). h.logical) c.requires.row_placed.1) }

pub returns-then-is_taken-2 : goal.returns-then-is_taken-2
returns-then-is_taken-2 c =
    λ table done e holds says stored.
    sym (logical-twice holds says (identifier-taken (goal.at.returns-then-is_taken-2 c).After-is_taken false c.if-is_taken.false)
    (logical-taken (goal.at.returns-then-is_taken-2 c).After-is_taken-2 true c.if-is_taken-2.true))

pub returns : goal.returns
returns c =
    λ table done e holds says stored.
    c.has_repeats.ensures ∙ ap repeats stored
    ∙ sym (portions-twice holds says (identifier-taken (goal.at.returns c).After-is_taken false c.if-is_taken.false)
    (logical-taken (goal.at.returns c).After-is_taken-2 false c.if-is_taken-2.false))
