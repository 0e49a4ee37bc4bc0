-- A hash of bytes, and the bucket that an index keeps it in.
-- Any function would do: no answer depends on it, only how soon a name is found.
use Rattle.std.specs.Prelude.{ℕ, ◌+◌, ◌*◌, ◌-◌, ◌/◌, ◌%◌, List, [], ◌∷◌}
use Rattle.std.specs.Int.Bits.{bit_and}

-- every hash is below 2^32
abbrev pub hashes : ℕ
hashes = 4294967296

-- a hash is spread to the high bits by the product, which a shift and a sum give, and to the low ones by the quotient
abbrev pub spread : ℕ → ℕ
spread n = (n * 64 + n + n / 512) % hashes

-- the hash after one byte more
abbrev pub hash_step : (h byte : ℕ) → ℕ
hash_step h byte = spread (h + byte)

-- the hash h, after these bytes
unfoldable pub hash_from : (h : ℕ) → List ℕ → ℕ
hash_from h [] = h
hash_from h (byte ∷ bytes) = hash_from (hash_step h byte) bytes

-- the hash of a name
abbrev pub hash : List ℕ → ℕ
hash bytes = hash_from 0 bytes

-- the bucket of a hash, by its low bits; all buckets are used where their number is a power of two
unfoldable pub bucket : (buckets h : ℕ) → ℕ
bucket buckets h = bit_and h (buckets - 1)
