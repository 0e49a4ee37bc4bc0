-- One step of class A over numbers, as the code takes it: the tests and the next state of `order`'s PassA, with two answers in the place of
-- the number by which a unit is ordered: whether it has one, and whether that is the next.
use Rattle.std.specs.Prelude.{ℕ, suc, ◌+◌, ◌-◌, ◌≤◌, ◌≡◌, Bool, cond, not, ◌&&◌, ◌||◌, [], ◌∷◌, eqb, leb, ltb}
use Rattle.headers.specs.Head.{is_in}
use Rattle.reading.specs.Match.{unit_kind}
use Rattle.order.specs.Represents.{profile_kind}
use Rattle.order.specs.Ranks.{rank_in}
use Rattle.order.specs.ClassA.{rows_a, end_a, generic_rank, specific_rank, unit_rank}
use Rattle.order.specs.PassA.{SightA, StateA, count_if}
use Rattle.order_a.specs.declared.ranks.Sight.{Sight}
use Rattle.order_a.specs.declared.ranks.State.{State}

unfoldable pub rank_of : Sight → ℕ
rank_of x = cond (eqb x.kind unit_kind) (unit_rank (ltb 0 x.generic) (ltb 0 x.specific)) (rank_in rows_a x.kind)

-- the rank may come next, and it is no second profile
unfoldable pub tabled : State → Sight → (rank : ℕ) → Bool
tabled s x rank = not x.early && (not (eqb x.kind profile_kind) && (ltb rank end_a && leb s.rank rank))

-- nothing is left of what had to come up to a rank
unfoldable pub settled : (rank last left : ℕ) → Bool
settled rank last left = leb rank last || eqb left 0

-- what is listed can come
unfoldable pub comes : Sight → Bool
comes x = eqb x.lists 0 || x.named

-- what had to come has come; what is listed can come; a unit stands in its turn
unfoldable pub complete : State → Sight → (rank : ℕ) → Bool
complete s x rank = settled rank generic_rank s.generic && (settled rank specific_rank s.specific && (comes x && x.turn))

unfoldable pub stands : State → Sight → Bool
stands s x = tabled s x (rank_of x) && complete s x (rank_of x)

-- one or none
abbrev pub one : Bool → ℕ
one test = count_if test 1

-- what an element lists, if it is of one of two kinds
unfoldable pub count_of : (kind a b lists : ℕ) → ℕ
count_of kind a b lists = count_if (is_in kind (a ∷ b ∷ [])) lists

unfoldable pub next : State → Sight → State
next s x =
    record {
      rank = rank_of x;
      generic = s.generic - x.generic + count_of x.kind 1 5 x.lists;
      specific = s.specific - x.specific + count_of x.kind 2 6 x.lists;
      ordered = s.ordered + one x.ordered;
    }

unfoldable pub waiting : State → Bool
waiting s = not (eqb s.generic 0 && eqb s.specific 0)

-- no count can pass what a number holds
abbrev pub most : ℕ
most = 4294967296

pub record Small (s : State) (x : Sight) : Type 0 where
  pub generic : s.generic ≤ most
  pub specific : s.specific ≤ most
  pub ordered : s.ordered ≤ most
  pub lists : x.lists ≤ most

-- the state, as the definition has it
abbrev pub as_state : State → StateA
as_state s = record { rank = s.rank; generic = s.generic; specific = s.specific; ordered = s.ordered }

-- what is seen of an element is what the definition looks at
pub record Sees (s : State) (seen : SightA) (x : Sight) : Type 0 where
  pub kind : seen.kind ≡ x.kind
  pub named : seen.named ≡ x.named
  pub lists : seen.lists ≡ x.lists
  pub early : seen.early ≡ x.early
  pub generic : seen.generic ≡ x.generic
  pub specific : seen.specific ≡ x.specific
  pub ordered : not (eqb seen.slot 0) ≡ x.ordered
  pub turn : eqb seen.slot 0 || eqb seen.slot (suc s.ordered) ≡ x.turn
