-- No length octets that say a number are fewer than those of the normal form: k octets say numbers below 256 ^ k.
use mathlib.Core.Path.{◌≡◌, subst}
use mathlib.Core.List.{List, [], ◌∷◌}
use Prim.Native.Nat.{ℕ, suc, ◌+◌, ◌*◌, ◌^◌, ◌<◌, ◌≤◌}
use native.Mathlib.Omega.{arith}
use native.Mathlib.Nat.{zero-add, pow-suc, pow-le-pow_right, lt_of_not-le}
use lib.Dec.{ltb, lit<}
use lib.ListN.{length}
use borrow.Author.Tests.{ltb-false, lt-ltb}
use Rattle.headers.specs.Head.{big_endian, big_endian_from}
use Rattle.laws.proofs.Tests.{cond-holds}
use Rattle.tree.specs.Tree.{Length, short, long}
use Rattle.normal.specs.Normal.{further_octets, length_octets, Octets}
use Rattle.normal.proofs.Lengths.{length-length}
use Rattle.normal.proofs.Own.{octets-second}

be-below : (m k : ℕ) (ds : List ℕ) → m < 256 ^ k → Octets ds → big_endian_from m ds < 256 ^ (k + length ds)
unfolding big_endian_from
be-below m k [] l o = let e : k + 0 ≡ k = omega arith in rw e l
be-below m k (d ∷ ds) l o =
    let small : d < 256 = o 0 in
    let e : k + suc (length ds) ≡ suc k + length ds = omega arith in
    let n : m * 256 + d < 256 ^ suc k = rw (pow-suc 256 k) (omega arith) in
    rw e (be-below (m * 256 + d) (suc k) ds n (λ i. o (suc i)))

-- a number that j octets don't hold wants more of them
more : (j k n : ℕ) → 256 ^ j ≤ n → n < 256 ^ k → j < k
more j k n a b = lt_of_not-le (λ (h : k ≤ j). let p = pow-le-pow_right {n = 256} (lit< tt) h in omega arith)

pub enough : (k n : ℕ) → 1 ≤ k → n < 256 ^ k → further_octets n ≤ k
enough k n a l =
    let P : ℕ → Type 0 = λ x. x ≤ k in
    cond-holds P (ltb n 0x80) (λ _. omega arith)
    (λ _. cond-holds P (ltb n 0x100) (λ _. a)
    (λ e. cond-holds P (ltb n 0x10000) (λ _. more 1 k n (ltb-false n 0x100 e) l)
    (λ e. cond-holds P (ltb n 0x1000000) (λ _. more 2 k n (ltb-false n 0x10000 e) l)
    (λ e. more 3 k n (ltb-false n 0x1000000 e) l))))

-- The length octets of the normal form are the fewest.
pub fewest : {n : ℕ} {len : List ℕ} → Length n len → Octets len → length (length_octets n) ≤ length len
fewest (short {n} l) o = rw (lt-ltb n 0x80 l) (omega arith)
fewest (long {octets} a b) o =
    let n = big_endian octets in
    let below = be-below 0 0 octets (lit< tt) (octets-second ((0x80 + length octets) ∷ []) octets o) in
    let z : n < 256 ^ length octets = subst (λ (k : ℕ). n < 256 ^ k) (zero-add (length octets)) below in
    omega (arith, length-length n, enough (length octets) n a z)
