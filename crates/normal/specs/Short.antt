-- The mailroom box is "limited to 65,535 bytes of input" (W-212). "There the normal form is never longer than its input, so 17 can't arise": that is
-- `never_longer` (proofs/Shorter).
use Rattle.std.specs.Prelude.{ℕ}

-- "1 in the new question means over 65,535"
abbrev pub short_limit : ℕ
short_limit = 65535
