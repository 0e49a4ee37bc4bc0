-- What it is for a stream to be accepted by rules 1 to 8, and with which tree. Document 01, "Numbers given back".
-- Rules 9 to 15 are no part of it.
use Rattle.std.specs.Prelude.{ℕ, ◌≡◌, List}
use Rattle.octets.specs.Told.{ended as walk_ended}
use Rattle.octets.specs.Walk.{End, ends, stops, walk_of}
use Rattle.tree.specs.Tree.{Tree, tree_of}

-- the walk of s ends, and the tree of its items is t
pub record Accepts (s : List ℕ) (t : Tree) : Type 0 where
  pub at : ℕ
  pub headers : ℕ
  pub ended : walk_of s ≡ walk_ended at headers
  pub tree : tree_of s ≡ t

-- a walk that ended, and was not stopped by a refusal
abbrev pub Whole : End → Type 0
Whole (ends at) = Unit {0}
Whole (stops number place) = ⊥
