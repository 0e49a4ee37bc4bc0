-- The order of interchange class B: 7.3 of source document 001.
--   rank   7.3   kind
--   0      a     0   document profile, one, first
--   1      b     1   layout classes, each followed immediately by its text units
--   2      c     7   presentation styles
--   3      d     2   layout objects, each followed immediately by its text units
--   4      e     9   sealed profiles (1993)
--   5      f     10  enciphered profiles (1993)
--   6      g     12  post-enciphered parts (1993)
-- Any group but a may be empty; no other kind has a place. Printed and not judged: the order among the objects (T.412), which classes lie
-- together.
use Rattle.std.specs.Prelude.{ℕ, ◌<◌, ◌≡◌, true, List, [], ◌∷◌, ◌++◌}
use Rattle.elements.specs.Judge.{Element}
use Rattle.order.specs.Ranks.{rank_in}
use Rattle.order.specs.Represents.{◌∈◌, Ascending, is_associated, all_represented, ProfileFirst}

-- the kinds by rank
abbrev pub rows_b : List ℕ
rows_b = 0 ∷ 1 ∷ 7 ∷ 2 ∷ 9 ∷ 10 ∷ 12 ∷ []

abbrev pub end_b : ℕ
end_b = 7

abbrev pub rank_b : Element → ℕ
rank_b e = rank_in rows_b e.kind

-- an element with a place in the table, and the text units that follow it immediately
pub record Group : Type 0 where
  pub head : Element
  pub units : List Element

-- groups one after another, as elements
abbrev pub laid : List Group → List Element
laid [] = []
laid (g ∷ gs) = g.head ∷ (g.units ++ laid gs)

-- "each descriptor .. is followed immediately by the associated text units": by no others, and by one for every portion that it lists
pub record Together (g : Group) : Type 0 where
  pub tabled : rank_b g.head < end_b
  pub own : (u : Element) → u ∈ g.units → is_associated g.head u ≡ true
  pub whole : all_represented g.units g.head ≡ true

-- a whole run in the order of class B: groups, ranks ascending
pub record InOrderB (elements : List Element) : Type 0 where
  pub profile : ProfileFirst elements
  pub groups : List Group
  pub laid_out : elements ≡ laid groups
  pub together : (g : Group) → g ∈ groups → Together g
  pub ascending : Ascending (λ (g : Group). rank_b g.head) groups
