-- The order of interchange class A: 7.2 of source document 001.
--   rank   7.2   kind
--   0      a     0   document profile, one, first
--   1      b     1   layout classes
--   2      c     5   logical classes
--   3      d     3   text units of generic portions: those that classes list
--   4      e     7   presentation styles
--   5      f     8   layout styles
--   6      g     2   layout objects
--   7      h     6   logical objects
--   8      i     3   text units of specific portions: those that objects list; "ordered according to the sequential layout order" if there
--                    are layout objects, "otherwise .. the sequential logical order"
--   9      j     9   sealed profiles (1993)
--   10     k     10  enciphered profiles (1993)
--   11     l     11  pre-enciphered parts (1993)
--   12     m     12  post-enciphered parts (1993)
-- Any group but a may be empty; no other kind has a place, nor has a unit that represents nothing, or portions of a class and of an object. Printed and
-- not judged: the order among the objects (T.412), and alternatives. Portions are in order as their objects are, and as they list them.
use Rattle.std.specs.Prelude.{ℕ, ◌<◌, ◌≡◌, Bool, true, false, cond, ◌&&◌, List, [], ◌∷◌, map, eqb}
use Rattle.headers.specs.Head.{is_in}
use Rattle.portions.specs.Portions.{any}
use Rattle.elements.specs.Judge.{Element}
use Rattle.order.specs.Represents.{◌∈◌, Ascending, is_unit, represents, is_associated, all_represented, ProfileFirst, Listed, everything, keep}
use Rattle.order.specs.Ranks.{rank_in}

-- the kinds by rank, with the two places of text units
abbrev pub rows_a : List ℕ
rows_a = 0 ∷ 1 ∷ 5 ∷ 3 ∷ 7 ∷ 8 ∷ 2 ∷ 6 ∷ 3 ∷ 9 ∷ 10 ∷ 11 ∷ 12 ∷ []

abbrev pub end_a : ℕ
end_a = 13

abbrev pub generic_rank : ℕ
generic_rank = 3

abbrev pub specific_rank : ℕ
specific_rank = 8

-- the kinds of classes, and of objects
abbrev pub class_kinds : List ℕ
class_kinds = 1 ∷ 5 ∷ []

abbrev pub object_kinds : List ℕ
object_kinds = 2 ∷ 6 ∷ []

-- a unit represents a portion that an element of one of these kinds lists
unfoldable pub represents_some : (kinds : List ℕ) → (elements : List Element) → (unit : Element) → Bool
represents_some kinds elements unit = any (map (λ e. is_in e.kind kinds && is_associated e unit) elements)

-- generic or specific, and not both
abbrev pub unit_rank : (generic specific : Bool) → ℕ
unit_rank true true = end_a
unit_rank true false = generic_rank
unit_rank false true = specific_rank
unit_rank false false = end_a

unfoldable pub rank_a : (elements : List Element) → Element → ℕ
rank_a elements e = cond (is_unit e) (unit_rank (represents_some class_kinds elements e) (represents_some object_kinds elements e)) (rank_in rows_a e.kind)

-- the objects by which specific units are ordered: layout objects, if there are any, otherwise logical objects
unfoldable pub ordered_by : List Element → ℕ
ordered_by elements = cond (any (map (λ e. eqb e.kind 2) elements)) 2 6

-- the portions that the elements of a kind list, in stream order and then portion order
unfoldable pub listed_of : (kind : ℕ) → List Element → List Listed
listed_of kind elements = keep (λ l. eqb l.by.kind kind) (everything elements)

-- the units that represent them, in stream order
abbrev pub units_of : (kind : ℕ) → List Element → List Element
units_of kind elements = keep (represents_some (kind ∷ []) elements) elements

-- the first unit represents the first portion, the second the second, and so on for as many units as there are
unfoldable pub in_step : List Listed → List Element → Bool
in_step ls [] = true
in_step [] (u ∷ us) = false
in_step (l ∷ ls) (u ∷ us) = represents l.by l.portion u && in_step ls us

-- a whole run in the order of class A
pub record InOrderA (elements : List Element) : Type 0 where
  pub profile : ProfileFirst elements
  pub tabled : (e : Element) → e ∈ elements → rank_a elements e < end_a
  pub ascending : Ascending (rank_a elements) elements
  pub all_in_step : in_step (listed_of (ordered_by elements) elements) (units_of (ordered_by elements) elements) ≡ true
  pub whole : (e : Element) → e ∈ elements → all_represented elements e ≡ true
