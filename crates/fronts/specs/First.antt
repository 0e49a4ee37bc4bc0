-- W-206: "walks the first element alone under rules 1 to 8 .., with the end of the given bytes as limit". Rules 1, 10 and 11 are the
-- caller's: the stream's length, and the item's code.
use Rattle.std.specs.Prelude.{ℕ, List, length}
use Rattle.octets.specs.Walk.{Walked, deepest}
use Rattle.octets.specs.Further.{one_of}

-- the first item of a stream, walked alone
abbrev pub walk_first : List ℕ → Walked
walk_first s = one_of deepest s 0 (length s)
