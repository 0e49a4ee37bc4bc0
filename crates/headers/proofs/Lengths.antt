-- Laws on the definitions of specs/.
use mathlib.Core.Path.{◌≡◌, refl}
use mathlib.Core.List.{List, [], ◌∷◌, ◌++◌}
use Prim.Native.Nat.{ℕ, ◌+◌, ◌*◌, ◌%◌, ◌^◌, ◌<◌, ◌≤◌}
use native.Mathlib.Numerals.{add-one}
use native.Mathlib.Omega.{arith}
use native.Mathlib.Nat.{pow-suc, pow-le-pow_right}
use lib.Dec.{lit<}
use lib.ListN.{length, get_or, take}
use lib.Seq.{take-suc}
use Rattle.headers.specs.Head.{big_endian, big_endian_from}

-- an octet more, at the end
pub be-snoc : (n : ℕ) (xs : List ℕ) (x : ℕ) → big_endian_from n (xs ++ (x ∷ [])) ≡ big_endian_from n xs * 256 + x
unfolding big_endian_from
be-snoc n [] x = refl
be-snoc n (y ∷ ys) x = be-snoc (n * 256 + y) ys x

pub be-more : (xs : List ℕ) (i : ℕ) → i < length xs → big_endian (take (i + 1) xs) ≡ big_endian (take i xs) * 256 + get_or xs i 0
be-more xs i h = rw (add-one, take-suc xs i 0) (be-snoc 0 (take i xs) (get_or xs i 0))

pub be-small : (i : ℕ) → i ≤ 4 → 256 ^ i ≤ 256 ^ 4
be-small i h = pow-le-pow_right (lit< tt) h

-- The shift by 8 is the product with 256, of what fewer than four octets say: no bit is lost of 64.
pub shift_is : (i n : ℕ) → i < 4 → n < 256 ^ i → (n * 2 ^ 8) % 2 ^ 64 ≡ n * 256
shift_is i n h l = let b = be-small i (omega arith) in omega arith

pub be-grows : (i n b : ℕ) → n < 256 ^ i → b < 256 → n * 256 + b < 256 ^ (i + 1)
be-grows i n b hn hb = rw (add-one, pow-suc) (omega arith)
