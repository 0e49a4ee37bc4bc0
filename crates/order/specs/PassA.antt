-- Class A in one pass over numbers, as code does it: a few numbers of each element, and of what went before four. For the code alone; proofs/
-- shows that it finds the place of 26.
use Rattle.std.specs.Prelude.{ℕ, suc, ◌+◌, ◌-◌, Bool, cond, not, ◌&&◌, ◌||◌, List, [], ◌∷◌, ◌++◌, map, eqb, leb, ltb, length, Option, None, Some}
use Rattle.headers.specs.Head.{is_in}
use Rattle.portions.specs.Portions.{all, any}
use Rattle.elements.specs.Judge.{Element}
use Rattle.reading.specs.Match.{unit_kind}
use Rattle.order.specs.Represents.{named, represents, is_associated, profile_kind, Listed, everything, keep}
use Rattle.order.specs.Ranks.{rank_in}
use Rattle.order.specs.ClassA.{rows_a, end_a, generic_rank, specific_rank, class_kinds, object_kinds, unit_rank, ordered_by, listed_of}

-- what the elements of these kinds list
unfoldable pub listed_in : (kinds : List ℕ) → List Element → List Listed
listed_in kinds elements = keep (λ l. is_in l.by.kind kinds) (everything elements)

-- how many of these a unit represents
unfoldable pub represents_of : List Listed → (unit : Element) → ℕ
represents_of ls u = length (keep (λ l. represents l.by l.portion u) ls)

-- the number, from n + 1 on, of the first that a unit represents; 0 if it represents none
unfoldable pub slot_in : (n : ℕ) → List Listed → (unit : Element) → ℕ
slot_in n [] u = 0
slot_in n (l ∷ ls) u = cond (represents l.by l.portion u) (suc n) (slot_in (suc n) ls u)

-- what is looked at of an element after a front
pub record SightA : Type 0 where
  pub kind : ℕ
  -- it has an identifier
  pub named : Bool
  -- how many portions it lists
  pub lists : ℕ
  -- a unit before it represents one of them
  pub early : Bool
  -- of a unit, how many portions of classes, and of objects, it represents that stand before it: one on each side at most
  pub generic : ℕ
  pub specific : ℕ
  -- of a unit, the number, from 1, of the portion by which it is ordered; 0 if there is none
  pub slot : ℕ

abbrev pub sight_a : (front : List Element) → Element → SightA
sight_a front x =
    record {
      kind = x.kind;
      named = named x;
      lists = length x.portions;
      early = any (map (is_associated x) front);
      generic = represents_of (listed_in class_kinds front) x;
      specific = represents_of (listed_in object_kinds front) x;
      slot = slot_in 0 (listed_of (ordered_by front) front) x;
    }

abbrev pub sights_a : (front rest : List Element) → List SightA
sights_a front [] = []
sights_a front (x ∷ xs) = sight_a front x ∷ sights_a (front ++ x ∷ []) xs

-- what is known of a front
pub record StateA : Type 0 where
  -- the rank of its last element
  pub rank : ℕ
  -- how many portions of classes, and of objects, wait for their units
  pub generic : ℕ
  pub specific : ℕ
  -- how many units that are ordered there were
  pub ordered : ℕ

abbrev pub rank_seen : SightA → ℕ
rank_seen x = cond (eqb x.kind unit_kind) (unit_rank (ltb 0 x.generic) (ltb 0 x.specific)) (rank_in rows_a x.kind)

-- what an element must be to stand next
abbrev pub tests_a : StateA → SightA → List Bool
tests_a s x =
    not x.early
    ∷ not (eqb x.kind profile_kind)
    ∷ ltb (rank_seen x) end_a
    ∷ leb s.rank (rank_seen x)
    ∷ (leb (rank_seen x) generic_rank || eqb s.generic 0)
    ∷ (leb (rank_seen x) specific_rank || eqb s.specific 0)
    ∷ (eqb x.lists 0 || x.named)
    ∷ (eqb x.slot 0 || eqb x.slot (suc s.ordered))
    ∷ []

abbrev pub count_if : Bool → ℕ → ℕ
count_if test n = cond test n 0

abbrev pub next_a : StateA → SightA → StateA
next_a s x =
    record {
      rank = rank_seen x;
      generic = s.generic - x.generic + count_if (is_in x.kind class_kinds) x.lists;
      specific = s.specific - x.specific + count_if (is_in x.kind object_kinds) x.lists;
      ordered = s.ordered + count_if (not (eqb x.slot 0)) 1;
    }

-- the elements from n on
unfoldable pub pass_a : StateA → (n : ℕ) → List SightA → Option ℕ
pass_a s n [] = cond (eqb s.generic 0 && eqb s.specific 0) None (Some n)
pass_a s n (x ∷ xs) = cond (all (tests_a s x)) (pass_a (next_a s x) (suc n) xs) (Some n)

-- nothing has been
abbrev pub none_a : StateA
none_a = record { rank = 0; generic = 0; specific = 0; ordered = 0 }

-- the first is the profile
unfoldable pub place_a : List SightA → Option ℕ
place_a [] = Some 0
place_a (x ∷ xs) = cond (eqb x.kind profile_kind) (pass_a none_a 1 xs) (Some 0)
