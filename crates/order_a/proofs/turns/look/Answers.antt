-- `turns::look` meets its contract: what the owner tells is so.
use mathlib.Core.Path.{sym, subst}
use Prim.Native.Nat.{◌≤◌}
use Rattle.letters.proofs.Telling.{rows_tell}
use Rattle.order_a.specs.declared.turns.Own.{Own}
use Rattle.order_a.specs.Turns.{OwnIs}
use Rattle.order_a.proofs.Owning.{own_is, row_inside, row_low}
use Rattle.order_a.proofs.turns.look.Goals as goal

pub own_of-requires : goal.own_of-requires
own_of-requires c =
    let known = rows_tell c.requires.letter_rows.1 in (
      row_inside known c.args.side c.args.u c.requires.u_lt_n c.owner_of-owner.result (c.owner_of-owner.ensures _ known),
      c.requires.letter_rows.1.holds.identifiers.in_table,
    )

pub returns : goal.returns
returns c =
    let a = c.args in
    record {
      is = λ elements ready. subst (OwnIs a.side elements a.n a.u) (sym c.own_of.ensures)
          (own_is ready a.side a.u c.requires.u_lt_n c.owner_of-owner.result (c.owner_of-owner.ensures elements ready));
      in_rows = subst (λ (o : Own). o.row ≤ a.u) (sym c.own_of.ensures) (row_low a.rows.now a.n a.u c.owner_of-owner.result);
    }
