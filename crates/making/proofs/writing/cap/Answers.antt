-- `making::writing::cap` meets its contract: the lesser of the two is the capped size.
use Prim.Native.Nat.{ℕ, ◌+◌, min}
use native.Mathlib.Omega.{arith}
use mathlib.Core.Path.{◌≡◌, refl, ◌∙◌}
use mathlib.Core.Bool.{Bool, true, false, cond}
use lib.Dec.{ltb}
use borrow.Author.Tests.{ltb-true, ltb-false}
use Rattle.octets.specs.Walk.{stream_limit}
use Rattle.making.specs.Octets.{capped}
use Rattle.making.proofs.writing.cap.Goals as goal

lesser : (size : ℕ) → min size (stream_limit + 1) ≡ capped size
unfolding capped
lesser size = go (ltb stream_limit size) refl
  where
    go : (b : Bool) → ltb stream_limit size ≡ b → min size (stream_limit + 1) ≡ cond b (stream_limit + 1) size
    go true e = omega (arith, ltb-true stream_limit size e)
    go false e = omega (arith, ltb-false stream_limit size e)

pub returns : goal.returns
returns c = c.min.ensures ∙ lesser c.args.size
