-- A hash goes on byte by byte, so in parts too, and stays below 2^32; its bucket is one of the buckets.
use mathlib.Core.Path.{◌≡◌, refl, sym, ap, ◌∙◌}
use mathlib.Core.List.{List, [], ◌∷◌, ◌++◌}
use Prim.Native.Nat.{ℕ, ◌*◌, ◌-◌, ◌%◌, ◌^◌, ◌<◌}
use native.Mathlib.Omega.{arith}
use lib.Bits.{and_le_r}
use Rattle.names.specs.Names.{space_byte}
use Rattle.names.specs.Hash.{hashes, hash_step, hash_from, hash, bucket}

pub hash-append : (h : ℕ) (xs ys : List ℕ) → hash_from h (xs ++ ys) ≡ hash_from (hash_from h xs) ys
unfolding hash_from
hash-append h [] ys = refl
hash-append h (x ∷ xs) ys = hash-append (hash_step h x) xs ys

pub hash-below : (h : ℕ) (bytes : List ℕ) → h < hashes → hash_from h bytes < hashes
unfolding hash_from
hash-below h [] l = l
hash-below h (x ∷ xs) l = hash-below (hash_step h x) xs (omega arith)

-- the hash of a joined name, as `hash_over`, `hash_space` and `hash_over` again give it
pub hash-joined : (xs ys : List ℕ) {h i j : ℕ} → h ≡ hash xs → i ≡ hash_from h (space_byte ∷ []) → j ≡ hash_from i ys
    → j ≡ hash (xs ++ space_byte ∷ ys)
unfolding hash_from
hash-joined xs ys p q r =
    r ∙ ap (λ (k : ℕ). hash_from k ys) (q ∙ ap (λ (k : ℕ). hash_step k space_byte) p) ∙ sym (hash-append 0 xs (space_byte ∷ ys))

-- The shift by 6 is the product with 64, of a hash and a byte: no bit is lost of 64.
pub shift_is : (n : ℕ) → n < 2 ^ 33 → (n * 2 ^ 6) % 2 ^ 64 ≡ n * 64
shift_is n l = omega arith

-- what is left of a hash below the number of buckets is one of them
pub bucket-below : (buckets h : ℕ) → 0 < buckets → bucket buckets h < buckets
unfolding bucket
bucket-below buckets h some = let l = and_le_r h (buckets - 1) in omega arith
