-- `skim_one`: each arm is a case of what a header that was read in a block does (`Skimming`).
use mathlib.Core.Path.{◌≡◌, sym, ◌∙◌, subst}
use mathlib.Core.Bool.{true, false}
use Prim.Native.Nat.{◌/◌, ◌%◌}
use native.Mathlib.Omega.{arith}
use lib.ListN.{set}
use borrow.Author.Tests.{eq-eqb, ne_eqb, not-true}
use Rattle.headers.specs.declared.Head.TheVariants.{Item, ClosingMark, Refusal}
use Rattle.headers.specs.Head.{constructed}
use Rattle.engine.specs.declared.skim.Skim.{Skim}
use Rattle.engine.specs.Skimming.{Skims}
use Rattle.engine.proofs.Skimming.{looked, bounded, skims-open, skims-past, skims-empty, skims-mark, skims-refused}
use Rattle.engine.proofs.skim.skim_one.Goals as goal

pub returns-then-h-ne1 : goal.returns-then-h-ne1
returns-then-h-ne1 c =
    let a = c.args in
    let p = c.requires in
    let w = looked a.seat a.s a.ends.now a.block.now p.0 a.head (Item c.in-Item.h) p.1 c.in-Item.is in
    let q : constructed c.in-Item.h.code ≡ false = ne_eqb (c.in-Item.h.code / 32 % 2) 1 (λ e. omega (arith, e, c.if-h-ne1.true)) in
    subst (λ (r : Skim). Skims a.seat a.s a.ends.now a.block.now r a.ends.now) (sym c.going.ensures)
    (skims-past a.seat a.s a.ends.now a.block.now p.0 c.in-Item.h w.0 w.1 q)

pub returns-then-not-h : goal.returns-then-not-h
returns-then-not-h c =
    let a = c.args in
    let p = c.requires in
    let w = looked a.seat a.s a.ends.now a.block.now p.0 a.head (Item c.in-Item.h) p.1 c.in-Item.is in
    let q : constructed c.in-Item.h.code ≡ true = eq-eqb (c.in-Item.h.code / 32 % 2) 1 (omega (
      arith,
      c.if-h-ne1.false,
    )) in
    let n : c.in-Item.h.start ≡ c.in-Item.h.bound = omega (arith, c.if-h.true) in
    let m = not-true c.in-Item.h.marked c.if-not-h.true in
    subst (λ (r : Skim). Skims a.seat a.s a.ends.now a.block.now r a.ends.now) (sym c.going-then-not-h.ensures)
    (skims-empty a.seat a.s a.ends.now a.block.now p.0 c.in-Item.h w.0 w.1 q n m)

pub overflow_sub-h : goal.overflow_sub-h
overflow_sub-h c =
    let a = c.args in
    let p = c.requires in
    let w = looked a.seat a.s a.ends.now a.block.now p.0 a.head (Item c.in-Item.h) p.1 c.in-Item.is in
    let from = p.0.from in
    let x = w.1.header in
    let y = w.1.order in
    let deep = w.1.deep in
    omega arith

pub overflow_add-seat : goal.overflow_add-seat
overflow_add-seat c =
    let a = c.args in
    let p = c.requires in
    let w = looked a.seat a.s a.ends.now a.block.now p.0 a.head (Item c.in-Item.h) p.1 c.in-Item.is in
    let most = bounded a.seat a.s a.ends.now a.block.now p.0 c.in-Item.h w.1 in
    omega (arith, most)

pub end_of-requires : goal.end_of-requires
end_of-requires c =
    let a = c.args in
    let p = c.requires in
    let w = looked a.seat a.s a.ends.now a.block.now p.0 a.head (Item c.in-Item.h) p.1 c.in-Item.is in
    bounded a.seat a.s a.ends.now a.block.now p.0 c.in-Item.h w.1

pub bounds-ends-n : goal.bounds-ends-n
bounds-ends-n c =
    let a = c.args in
    let p = c.requires in
    let w = looked a.seat a.s a.ends.now a.block.now p.0 a.head (Item c.in-Item.h) p.1 c.in-Item.is in
    let from = p.0.from in
    let x = w.1.header in
    let y = w.1.order in
    let deep = w.1.deep in
    omega arith

pub overflow_cast-number : goal.overflow_cast-number
overflow_cast-number c =
    let a = c.args in
    let p = c.requires in
    let w = looked a.seat a.s a.ends.now a.block.now p.0 a.head (Refusal c.in-Refusal.number c.in-Refusal.place) p.1 c.in-Refusal.is in
    omega (arith, w.0.ahead.1)

pub returns-after-h : goal.returns-after-h
returns-after-h c =
    let a = c.args in
    let p = c.requires in
    let w = looked a.seat a.s a.ends.now a.block.now p.0 a.head (Item c.in-Item.h) p.1 c.in-Item.is in
    let q : constructed c.in-Item.h.code ≡ true = eq-eqb (c.in-Item.h.code / 32 % 2) 1 (omega (
      arith,
      c.if-h-ne1.false,
    )) in
    let e = c.end_of in
    subst (λ (r : Skim). Skims a.seat a.s a.ends.now a.block.now r (set a.ends.now a.s.level e.result)) (sym c.going-in-Item.ensures)
    (skims-open a.seat a.s a.ends.now a.block.now p.0 c.in-Item.h e.result w.0 w.1 q e.ensures)

pub returns-in-ClosingMark : goal.returns-in-ClosingMark
returns-in-ClosingMark c =
    let a = c.args in
    let p = c.requires in
    let w = looked a.seat a.s a.ends.now a.block.now p.0 a.head ClosingMark p.1 c.in-ClosingMark.is in
    subst (λ (r : Skim). Skims a.seat a.s a.ends.now a.block.now r a.ends.now) (sym (c.going-in-ClosingMark.ensures
    ∙ rw c.saturating_sub.ensures)) (skims-mark a.seat a.s a.ends.now a.block.now p.0 w.0)

pub returns-in-Refusal : goal.returns-in-Refusal
returns-in-Refusal c =
    let a = c.args in
    let p = c.requires in
    let w = looked a.seat a.s a.ends.now a.block.now p.0 a.head (Refusal c.in-Refusal.number c.in-Refusal.place) p.1 c.in-Refusal.is in
    subst (λ (r : Skim). Skims a.seat a.s a.ends.now a.block.now r a.ends.now) (sym c.finding.ensures)
    (skims-refused a.seat a.s a.ends.now a.block.now p.0 c.in-Refusal.number c.in-Refusal.place w.0)
