-- The items on the path with their places are those of the tree (`dates-places`), and what a pass tells of them decides the date.
use mathlib.Core.Path.{◌≡◌, refl, ap, sym, ◌∙◌}
use mathlib.Core.Bool.{Bool, true, false, cond, true≢false, false≢true}
use mathlib.Core.List.{List, [], ◌∷◌, ◌++◌, map, map-append}
use Prim.Native.Nat.{ℕ, ◌≤◌}
use native.Mathlib.Omega.{arith}
use lib.Dec.{eqb}
use lib.ListN.{length}
use lib.Seq.{slice}
use borrow.Author.Tests.{eqb-true}
use Rattle.headers.specs.Head.{constructed, type_field}
use Rattle.octets.specs.Walk.{Items, no_items, item}
use Rattle.contents.proofs.Firsts.{is_field}
use Rattle.tree.specs.Tree.{Tree, plain, formed}
use Rattle.dates.specs.declared.Found.{Found}
use Rattle.dates.specs.declared.Found.TheVariants.{Nothing, Sole, Unfit}
use Rattle.dates.specs.Dates.{Date, DateItem, in_primitive, zeros, in_each, dates_in, no_date_by, date_from, the_date}
use Rattle.dates.specs.Dates as dates
use Rattle.dates.specs.Places.{Place, bounds, no_bounds, zero_at, zeros_at, in_each_at}
use Rattle.dates.specs.Finding.{places_from, read_at, counted, Tells, no_place, sole, unfit}

-- an octet that is a given one has the form of that one
form_of : (octet known : ℕ) (b : Bool) → eqb octet known ≡ true → constructed octet ≡ b → constructed known ≡ b
form_of octet known b e f = sym (ap constructed (eqb-true octet known e)) ∙ f

module _ (code : ℕ) (value : List ℕ) (inside after : Tree) where
  zero-formed : (b x y : Bool) → constructed code ≡ b → eqb code 0x80 ≡ x → eqb code 0xA0 ≡ y
      → zeros (formed b (type_field code) value inside after) ≡ cond x (in_primitive value ∷ []) (cond y (dates.in_constructed ∷ []) []) ++ zeros after
  unfolding zeros
  zero-formed true true y f e g = absurd (false≢true (form_of code 0x80 true e f))
  zero-formed true false y f e g = rw (is_field 0xA0 code, g)
  zero-formed false true y f e g = rw (is_field 0x80 code, e)
  zero-formed false false true f e g = absurd (true≢false (form_of code 0xA0 false g f))
  zero-formed false false false f e g = rw (is_field 0x80 code, e)

  each-formed : (known : ℕ) → constructed known ≡ true → (list : Tree → List DateItem) → (b x : Bool) → constructed code ≡ b → eqb code known ≡ x
      → in_each known list (formed b (type_field code) value inside after) ≡ cond x (list inside) [] ++ in_each known list after
  unfolding in_each
  each-formed known k list true x f e = rw (is_field known code, e)
  each-formed known k list false true f e = absurd (true≢false (sym k ∙ form_of code known false e f))
  each-formed known k list false false f e = refl

module _ (s : List ℕ) where
  read-zero : (first past : ℕ) (x y : Bool) → map (read_at s) (cond x (bounds first past ∷ []) (cond y (no_bounds ∷ []) []))
      ≡ cond x (in_primitive (slice first past s) ∷ []) (cond y (dates.in_constructed ∷ []) [])
  read-zero first past true y = refl
  read-zero first past false true = refl
  read-zero first past false false = refl

  zeros-places : (i : Items) → map (read_at s) (zeros_at i) ≡ zeros (plain s i)
  unfolding zeros_at zeros
  zeros-places no_items = refl
  zeros-places (item at code first past inside after) =
      map-append (read_at s) (zero_at code first past) (zeros_at after)
      ∙ ap (λ (l : List DateItem). map (read_at s) (zero_at code first past) ++ l) (zeros-places after)
      ∙ ap (λ (l : List DateItem). l ++ zeros (plain s after)) (read-zero first past (eqb code 0x80) (eqb code 0xA0))
      ∙ sym (zero-formed code (slice first past s) (plain s inside) (plain s after) (constructed code) (eqb code 0x80) (eqb code 0xA0) refl refl refl)

  read-cond : (x : Bool) (l : List Place) → map (read_at s) (cond x l []) ≡ cond x (map (read_at s) l) []
  read-cond true l = refl
  read-cond false l = refl

  each-places : (known : ℕ) → constructed known ≡ true → (list : Tree → List DateItem) (list_at : Items → List Place)
      → ((i : Items) → map (read_at s) (list_at i) ≡ list (plain s i))
      → (i : Items) → map (read_at s) (in_each_at known list_at i) ≡ in_each known list (plain s i)
  unfolding in_each_at in_each
  each-places known k list list_at same no_items = refl
  each-places known k list list_at same (item at code first past inside after) =
      map-append (read_at s) (cond (eqb code known) (list_at inside) []) (in_each_at known list_at after)
      ∙ ap (λ (l : List DateItem). map (read_at s) (cond (eqb code known) (list_at inside) []) ++ l) (each-places known k list list_at same after)
      ∙ ap (λ (l : List DateItem). l ++ in_each known list (plain s after)) (read-cond (eqb code known) (list_at inside)
      ∙ ap (λ (l : List DateItem). cond (eqb code known) l []) (same inside))
      ∙ sym (each-formed code (slice first past s) (plain s inside) (plain s after) known k list (constructed code) (eqb code known) refl refl)

  -- the items on the path, read in the stream, are those of the tree
  pub dates-places : (i : Items) → map (read_at s) (places_from 2 i) ≡ dates_in (plain s i)
  unfolding places_from dates_in
  dates-places i = each-places 0xA3 refl (in_each 0xA0 zeros) (places_from 1) (each-places 0xA0 refl zeros zeros_at zeros-places) i

unfit-date : (s : List ℕ) (places : List Place) → 2 ≤ counted places → the_date (map (read_at s) places) ≡ no_date_by 23
unfolding counted the_date
unfit-date s [] n = absurd (omega arith)
unfit-date s (bounds first past ∷ []) n = absurd (omega arith)
unfit-date s (no_bounds ∷ []) n = refl
unfit-date s (bounds first past ∷ p ∷ ps) n = refl
unfit-date s (no_bounds ∷ p ∷ ps) n = refl

-- the date, by what a pass tells
abbrev pub date_by : List ℕ → Found → Date
date_by s Nothing = no_date_by 23
date_by s (Sole first past) = date_from (slice first past s)
date_by s Unfit = no_date_by 23

pub date_told_by : {s : List ℕ} {places : List Place} {f : Found} → Tells s places f → the_date (map (read_at s) places) ≡ date_by s f
unfolding the_date
date_told_by no_place = refl
date_told_by (sole first past l k) = refl
date_told_by {s} (unfit places m) = unfit-date s places m

-- a pass that tells of one primitive item
pub record One (s : List ℕ) (places : List Place) (first past : ℕ) : Type 0 where
  pub place : places ≡ bounds first past ∷ []
  pub order : first ≤ past
  pub inside : past ≤ length s

abbrev pub OneBy : List ℕ → List Place → Found → Type 0
OneBy s places Nothing = Unit {0}
OneBy s places (Sole first past) = One s places first past
OneBy s places Unfit = Unit {0}

pub is_one : {s : List ℕ} {places : List Place} {f : Found} → Tells s places f → OneBy s places f
is_one no_place = tt
is_one (sole first past l k) = record { place = refl; order = l; inside = k }
is_one (unfit places m) = tt
