-- Class B in one pass over numbers, as code does it: of each element its kind, whether it has an identifier, how many portions it lists and
-- with whom it is associated; of what went before, three numbers. proofs/ shows that it finds the place of 26.
use Rattle.std.specs.Prelude.{ℕ, suc, ◌-◌, Bool, cond, not, ◌&&◌, ◌||◌, List, [], ◌∷◌, eqb, leb, ltb, length, Option, None, Some}
use Rattle.headers.specs.Head.{is_in}
use Rattle.elements.specs.Judge.{Element}
use Rattle.reading.specs.declared.Side.TheVariants.{Layout}
use Rattle.reading.specs.Match.{unit_kind, kinds_of}
use Rattle.order.specs.Represents.{named, is_associated, profile_kind}
use Rattle.order.specs.Ranks.{rank_in}
use Rattle.order.specs.ClassB.{rows_b, end_b}

-- the number, from n + 1 on, of the element that a unit is associated with on the layout side; 0 if there is none
unfoldable pub layout_owner : (n : ℕ) → List Element → (unit : Element) → ℕ
layout_owner n [] u = 0
layout_owner n (e ∷ es) u = cond (is_in e.kind (kinds_of Layout) && is_associated e u) (suc n) (layout_owner (suc n) es u)

-- what is looked at of an element
pub record Sight : Type 0 where
  pub kind : ℕ
  pub named : Bool
  pub lists : ℕ
  pub owner : ℕ

abbrev pub sight_of : (all : List Element) → Element → Sight
sight_of all e = record { kind = e.kind; named = named e; lists = length e.portions; owner = layout_owner 0 all e }

-- after the last element that is no unit: its rank, its number, and how many of its portions wait for their units
pub record StateB : Type 0 where
  pub rank : ℕ
  pub head : ℕ
  pub left : ℕ

pub data StepB : Type 0 where
  goes : StateB → StepB
  stops : StepB

-- the state at element n, an element that is no unit
abbrev pub start_b : (n : ℕ) → Sight → StateB
start_b n x = record { rank = rank_in rows_b x.kind; head = n; left = x.lists }

-- what a head lists can come: it lists nothing, or it has an identifier
abbrev pub can_come : Sight → Bool
can_come x = eqb x.lists 0 || x.named

unfoldable pub step_b : StateB → (n : ℕ) → Sight → StepB
step_b s n x =
    cond (eqb x.kind unit_kind)
    (cond (eqb x.owner (suc s.head)) (goes (record { rank = s.rank; head = s.head; left = s.left - 1 })) stops)
    (cond (eqb s.left 0 && (not (eqb x.kind profile_kind) && (ltb (rank_in rows_b x.kind) end_b && leb s.rank (rank_in rows_b x.kind))) && can_come x)
    (goes (start_b n x)) stops)

abbrev pub after_b : StepB → (n : ℕ) → (StateB → Option ℕ) → Option ℕ
after_b (goes s) n more = more s
after_b stops n more = Some n

-- the elements from n on
unfoldable pub pass_b : StateB → (n : ℕ) → List Sight → Option ℕ
pass_b s n [] = cond (eqb s.left 0) None (Some n)
pass_b s n (x ∷ xs) = after_b (step_b s n x) n (λ t. pass_b t (suc n) xs)

-- the first is the profile
unfoldable pub place_b : List Sight → Option ℕ
place_b [] = Some 0
place_b (x ∷ xs) = cond (eqb x.kind profile_kind && can_come x) (pass_b (start_b 0 x) 1 xs) (Some 0)
