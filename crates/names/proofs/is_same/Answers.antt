-- `names::is_same` meets its contract: of unequal lengths it is false; else the bytes are compared up to the same end.
use mathlib.Core.Path.{◌≡◌, sym, ap, ◌∙◌}
use mathlib.Core.List.{List, ◌∷◌}
use mathlib.Core.Logic.{inl, inr}
use Prim.Native.Nat.{ℕ}
use native.Mathlib.Omega.{arith}
use lib.ListN.{length}
use borrow.Author.Tests.{eq-eqb, ne_eqb}
use Rattle.names.specs.Names.{same}
use Rattle.names.proofs.Same.{same-lengths, same_ended}
use Rattle.names.proofs.is_same.Goals as goal

-- one byte less on both sides
lengths : {a b xs ys : List ℕ} {x y : ℕ} → a ≡ x ∷ xs → b ≡ y ∷ ys → length a ≡ length b → length xs ≡ length ys
lengths p q e = let r = ap length p in let s = ap length q in omega (arith, r, s, e)

pub returns-then-a-b : goal.returns-then-a-b
returns-then-a-b c = sym (same-lengths c.args.a.now c.args.b.now c.if-a-b.true)

pub returns-then-x-y : goal.returns-then-x-y
unfolding same
returns-then-x-y c =
    let s = c.in-Some.ensures.steps in
    sym (c.loop-x.invariant.1 ∙ rw (s.0, s.1, ne_eqb _ _ c.if-x-y.true))

pub loop-x-preserved : goal.loop-x-preserved
unfolding same
loop-x-preserved c =
    let s = c.in-Some.ensures.steps in
    let i = c.loop-x.invariant in
    (lengths s.0 s.1 i.0, i.1 ∙ rw (s.0, s.1, eq-eqb _ _ c.if-x-y.false))

pub returns : goal.returns
returns c =
    let i = c.loop-x.invariant in
    let a = c.loop-x.x-iterator.a.rest.now in
    let b = c.loop-x.x-iterator.b.rest.now in
    sym (i.1 ∙ elim c.in-None.ensures.steps [
      | inl h ↦ same_ended a b i.0 h.1.0
      | inr h ↦ same_ended a b i.0 (i.0 ∙ h.1.0)
    ])
