-- `rows::order::is_less` meets its contract. The loop's invariant: the whole is in the order that what is left is, and both have lost as much.
use mathlib.Core.Path.{◌≡◌, sym, ap, ◌∙◌}
use mathlib.Core.Logic.{inl, inr}
use mathlib.Core.List.{List, ◌∷◌}
use Prim.Native.Nat.{ℕ, ◌+◌}
use native.Mathlib.Omega.{arith}
use borrow.Author.Tests.{eq-eqb, ne_eqb}
use lib.ListN.{length}
use Rattle.rows.specs.Order.{less}
use Rattle.rows.proofs.Less.{less_ended}
use Rattle.rows.proofs.order.is_less.Goals as goal

-- one byte less on both sides
lengths : {a b xs ys : List ℕ} {x y : ℕ} (m n : ℕ) → a ≡ x ∷ xs → b ≡ y ∷ ys → m + length b ≡ n + length a → m + length ys ≡ n + length xs
lengths m n p q e = let r = ap length p in let s = ap length q in omega (arith, r, s, e)

pub returns-then-x-y : goal.returns-then-x-y
unfolding less
returns-then-x-y c =
    let s = c.in-Some.ensures.steps in
    sym (c.loop-x.invariant.1 ∙ rw (s.0, s.1, ne_eqb _ _ c.if-x-y.true))

pub loop-x-preserved : goal.loop-x-preserved
unfolding less
loop-x-preserved c =
    let s = c.in-Some.ensures.steps in
    let i = c.loop-x.invariant in
    (lengths _ _ s.0 s.1 i.0, i.1 ∙ rw (s.0, s.1, eq-eqb _ _ c.if-x-y.false))

pub returns : goal.returns
returns c =
    let i = c.loop-x.invariant in
    let a = c.loop-x.x-iterator.a.rest.now in
    let b = c.loop-x.x-iterator.b.rest.now in
    sym (i.1 ∙ elim c.in-None.ensures.steps [
      | inl h ↦ less_ended a b _ _ i.0 (inl h.1.0)
      | inr h ↦ less_ended a b _ _ i.0 (inr h.1.0)
    ])
