-- What the order rules look at: an element's kind, whether it has an identifier, the portions that it lists, and which text unit represents
-- which of them. And what elements are such as a letter has, limits aside. W-207.
use Rattle.std.specs.Prelude.{ℕ, ◌≤◌, ◌≡◌, ◌⊎◌, Bool, true, false, cond, eqb}
use mathlib.Core.List.{List, [], ◌∷◌, ◌++◌, map, Memᴰ}
use Rattle.headers.specs.Head.{is_in}
use Rattle.names.specs.Names.{grouped, is_portion}
use Rattle.contents.specs.Search.{Value, absent, octets}
use Rattle.portions.specs.Portions.{all, any, repeats}
use Rattle.elements.specs.Judge.{Element, clash}
use Rattle.reading.specs.declared.Side.{Side}
use Rattle.reading.specs.declared.Side.TheVariants.{Layout, Logical}
use Rattle.reading.specs.Match.{unit_kind, kinds_of, joins}

-- x is one of a list
infix 40 ◌∈◌
abbrev pub ◌∈◌ : {A : Type 0} → A → List A → Type 0
x ∈ xs = Memᴰ x xs

-- each of a list has a number that no later one falls below
abbrev pub Ascending : {A : Type 0} → (A → ℕ) → List A → Type 0
Ascending rank [] = Unit {0}
Ascending rank (x ∷ xs) = ((y : _) → y ∈ xs → rank x ≤ rank y) × Ascending rank xs

-- a text unit
abbrev pub is_unit : Element → Bool
is_unit e = eqb e.kind unit_kind

-- the element has an identifier
abbrev pub present : Value → Bool
present absent = false
present (octets bytes) = true

abbrev pub named : Element → Bool
named e = present e.identifier

-- the side on which an element's portions are matched: layout for kinds 1 and 2, logical for 5 and 6 (the other kinds list none)
abbrev pub side_of : Element → Side
side_of e = cond (is_in e.kind (kinds_of Layout)) Layout Logical

-- a unit represents a portion of an element (7.4): the three are a match, on the element's side
unfoldable pub represents : (element : Element) → (portion : List ℕ) → (unit : Element) → Bool
represents e portion unit = joins (side_of e) e portion unit

-- a unit is associated with an element (7.3, "the associated text units"): it represents a portion that the element lists
unfoldable pub is_associated : (element unit : Element) → Bool
is_associated e unit = any (map (λ portion. represents e portion unit) e.portions)

-- one of these represents the portion
unfoldable pub is_represented : (among : List Element) → Element → (portion : List ℕ) → Bool
is_represented among e portion = any (map (represents e portion) among)

-- every portion that the element lists is represented by one of these
unfoldable pub all_represented : (among : List Element) → Element → Bool
all_represented among e = all (map (is_represented among e) e.portions)

-- a portion that an element lists
pub record Listed : Type 0 where
  pub by : Element
  pub portion : List ℕ

-- some portions, as this element lists them
abbrev pub listing_of : (e : Element) → (portions : List (List ℕ)) → List Listed
listing_of e ps = map (λ p. record { by = e; portion = p }) ps

-- all that is listed, in stream order and then portion order
unfoldable pub everything : List Element → List Listed
everything [] = []
everything (e ∷ es) = listing_of e e.portions ++ everything es

-- those that pass a test
unfoldable pub keep : {A : Type 0} → (A → Bool) → List A → List A
keep test [] = []
keep test (x ∷ xs) = cond (test x) (x ∷ keep test xs) (keep test xs)

-- "contains one and only one document profile descriptor which is always the first"
abbrev pub profile_kind : ℕ
profile_kind = 0

abbrev pub ProfileFirst : List Element → Type 0
ProfileFirst [] = ⊥
ProfileFirst (x ∷ xs) = (x.kind ≡ profile_kind) × ((y : Element) → y ∈ xs → y.kind ≡ profile_kind → ⊥)

-- an identifier is well spelt, however long
abbrev pub spelt_aside : Value → Bool
spelt_aside absent = true
spelt_aside (octets bytes) = grouped false bytes

-- the kinds that list portions
abbrev pub listing : List ℕ
listing = 1 ∷ 2 ∷ 5 ∷ 6 ∷ []

-- rules 14 and 15 for one element, but for the limits; and who lists portions
pub record FitAside (e : Element) : Type 0 where
  pub identifier : spelt_aside e.identifier ≡ true
  pub logical : spelt_aside e.logical ≡ true
  pub portions : all (map is_portion e.portions) ≡ true
  pub once : repeats e.portions ≡ false
  pub lists : (is_in e.kind listing ≡ true) ⊎ (e.portions ≡ [])

-- rule 15 for any two
abbrev pub NoClash : List Element → Type 0
NoClash [] = Unit {0}
NoClash (d ∷ es) = ((e : Element) → e ∈ es → clash d e ≡ false) × NoClash es

-- elements such as a letter has, limits aside: no limit on how many they are, how long their identifiers, how many octets in all. An edition asks
-- more of an element (a class without 41 is none, nor a kind of 1993 in 1988). It makes no difference: if any run in order starts with a front,
-- then so does the front with one text unit for each portion that waits (specs/Missing), and both editions take such units.
pub record LimitsAside (elements : List Element) : Type 0 where
  pub fit : (e : Element) → e ∈ elements → FitAside e
  pub apart : NoClash elements
