-- `owners::owner_of` meets its contract: each answer is the unit's record, or tells that there is none.
use mathlib.Core.Path.{sym, ◌∙◌, subst}
use Prim.Native.Nat.{◌≤◌}
use lib.ListN.{length}
use Rattle.rows.specs.Columns.{first_at, past_at}
use Rattle.reading.specs.Ready.{column_of}
use Rattle.letters.proofs.Telling.{rows_tell}
use Rattle.reading.proofs.Scratch.{bounded-on}
use Rattle.parents.specs.Lookup.{CutAt}
use Rattle.owners.specs.Owner.{OwnerIs}
use Rattle.owners.proofs.Telling.{meetable}
use Rattle.owners.proofs.Finding.{no-unit, one-group, no-carrier, by-carrier}
use Rattle.owners.proofs.owner_of.Goals as goal
use Rattle.owners.proofs.owner_of.Goals.{After-bounds_at-name, In_ok-cut}

pub returns-then-kind_at-ne-TEXT_UNIT : goal.returns-then-kind_at-ne-TEXT_UNIT
returns-then-kind_at-ne-TEXT_UNIT c elements ready =
    no-unit ready c.args.side c.args.u (λ k. c.if-kind_at-ne-TEXT_UNIT.true (c.kind_at.ensures ∙ k))

pub returns-in_err-cut : goal.returns-in_err-cut
returns-in_err-cut c elements ready =
    rw c.from_residual.ensures (one-group ready c.args.side c.args.u (rw (c.bounds_at-name.ensures, c.column_of.ensures) at c.in_err-cut.ensures))

inside : (c : After-bounds_at-name) → let a = c.args in past_at a.rows.now (column_of a.side) a.u ≤ length a.s.now
inside c = (bounded-on c.requires.letter_rows.1 c.args.side).inside c.args.u c.requires.u_lt_n

-- where the unit's name is cut
last : (c : In_ok-cut) → let a = c.args in
    CutAt a.s.now (first_at a.rows.now (column_of a.side) a.u) (past_at a.rows.now (column_of a.side) a.u) c.in_ok-cut.cut
last c = rw (c.bounds_at-name.ensures, c.column_of.ensures) at c.in_ok-cut.ensures

pub returns-in_err-row : goal.returns-in_err-row
returns-in_err-row c elements ready =
    let at = goal.at.returns-in_err-row c in
    rw c.from_residual-in_err-row.ensures (no-carrier ready c.args.side c.args.u (last at.In_ok-cut) (inside at.After-bounds_at-name)
    (rw (c.bounds_at-name.ensures, c.column_of.ensures) at c.in_err-row.ensures))

pub owner_by-requires-clause-meetable : goal.owner_by-requires-clause-meetable
owner_by-requires-clause-meetable c = meetable (rows_tell c.requires.letter_rows.1) c.in_ok-row.row c.in_ok-row.ensures.0.below

pub returns : goal.returns
returns c elements ready =
    let at = goal.at.returns c in
    let has = rw (c.bounds_at-name.ensures, c.column_of.ensures) at c.in_ok-row.ensures.0 in
    let unit = sym c.kind_at.ensures ∙ c.if-kind_at-ne-TEXT_UNIT.false in
    let by = by-carrier ready c.args.side c.args.u (last at.In_ok-cut) (inside at.After-bounds_at-name) c.in_ok-row.row has unit c.requires.u_lt_n in
    subst (OwnerIs c.args.side elements c.args.u) (sym (rw (c.bounds_at-name.ensures, c.column_of.ensures) at c.owner_by.ensures)) by
