-- The items on the path with their places: they are the items of the tree; what the item that is met adds to them; and what a pass
-- tells of them.
use mathlib.Core.Path.{◌≡◌, refl, ap, sym, ◌∙◌, subst}
use mathlib.Core.Bool.{Bool, true, false, cond}
use mathlib.Core.List.{List, [], ◌∷◌, ◌++◌, append-nil, append_assoc}
use Prim.Native.Nat.{ℕ, zero, suc, ◌+◌, ◌-◌, ◌≤◌}
use native.Mathlib.Omega.{arith}
use lib.Dec.{eqb}
use lib.ListN.{length}
use borrow.Author.Tests.{eq-eqb, ne_eqb}
use Rattle.octets.specs.Walk.{Items, no_items}
use Rattle.runs.specs.declared.Run.{Run}
use Rattle.runs.specs.Runs.{items_of, Meeting}
use Rattle.dates.specs.declared.Found.{Found}
use Rattle.dates.specs.declared.Found.TheVariants.{Nothing, Sole, Unfit}
use Rattle.dates.specs.Places.{Place, bounds, no_bounds, zero_at, zeros_at, in_each_at}
use Rattle.dates.specs.Finding.{path_octet, places_from, counted, found_at, both, Tells, no_place, sole, unfit}

pub counted-append : (xs ys : List Place) → counted (xs ++ ys) ≡ counted xs + counted ys
unfolding counted
counted-append [] ys = omega arith
counted-append (p ∷ ps) ys = omega (arith, counted-append ps ys)

-- what was found in one run and then in another
pub both-tell : {s : List ℕ} {xs ys : List Place} {a b : Found} → Tells s xs a → Tells s ys b → Tells s (xs ++ ys) (both a b)
unfolding counted
both-tell no_place t = t
both-tell (sole first past l k) no_place = sole first past l k
both-tell (sole first past l k) (sole from to m n) = unfit (bounds first past ∷ bounds from to ∷ []) (omega arith)
both-tell (sole first past l k) (unfit ys n) = unfit (bounds first past ∷ ys) (omega arith)
both-tell {s} (unfit xs n) no_place = subst (λ (zs : List Place). Tells s zs Unfit) (sym (append-nil xs)) (unfit xs n)
both-tell (unfit xs n) (sole first past l k) = unfit (xs ++ bounds first past ∷ []) (omega (arith, counted-append xs (bounds first past ∷ [])))
both-tell (unfit xs n) (unfit ys m) = unfit (xs ++ ys) (omega (arith, counted-append xs ys))

zero-cases : (s : List ℕ) (first past : ℕ) → first ≤ past → past ≤ length s → (a b : Bool)
    → Tells s (cond a (bounds first past ∷ []) (cond b (no_bounds ∷ []) [])) (cond a (Sole first past) (cond b Unfit Nothing))
unfolding counted
zero-cases s first past l k true b = sole first past l k
zero-cases s first past l k false true = unfit (no_bounds ∷ []) (omega arith)
zero-cases s first past l k false false = no_place

pub zero-tells : (s : List ℕ) (code first past : ℕ) → first ≤ past → past ≤ length s
    → Tells s (zero_at code first past) (found_at code first past)
zero-tells s code first past l k = zero-cases s first past l k (eqb code 0x80) (eqb code 0xA0)

-- the run from `from` has been passed up to `to`, and `had` tells what was found
pub record SoFar (s : List ℕ) (level : ℕ) (from to : Run) (had : Found) : Type 0 where
  pub done : List Place
  pub split : places_from level (items_of s from) ≡ done ++ places_from level (items_of s to)
  pub told : Tells s done had

places-none : (level : ℕ) → places_from level no_items ≡ []
unfolding places_from zeros_at in_each_at
places-none zero = refl
places-none (suc level) = refl

pub at_start : (s : List ℕ) (level : ℕ) (r : Run) → SoFar s level r r Nothing
at_start s level r = record { done = []; split = refl; told = no_place }

pub at-end : {s : List ℕ} {level : ℕ} {from to : Run} {had : Found} → SoFar s level from to had → items_of s to ≡ no_items
    → Tells s (places_from level (items_of s from)) had
at-end {s} {level} {from} {to} {had} f e =
    let all : places_from level (items_of s from) ≡ f.done =
    f.split ∙ ap (λ (i : Items). f.done ++ places_from level i) e ∙ ap (λ (l : List Place). f.done ++ l) (places-none level) ∙ append-nil f.done in
    subst (λ (l : List Place). Tells s l had) (sym all) f.told

pub go_on : {s : List ℕ} {level : ℕ} {from to rest : Run} {had more : Found} → SoFar s level from to had → (own : List Place)
    → places_from level (items_of s to) ≡ own ++ places_from level (items_of s rest) → Tells s own more → SoFar s level from rest (both had more)
go_on {s} {level} {from} {to} {rest} {had} {more} f own e t =
    record {
      done = f.done ++ own;
      split = f.split ∙ ap (λ (l : List Place). f.done ++ l) e ∙ sym (append_assoc f.done own (places_from level (items_of s rest)));
      told = both-tell f.told t;
    }

pub pass-over : {s : List ℕ} {level : ℕ} {from to rest : Run} {had : Found} → SoFar s level from to had
    → places_from level (items_of s to) ≡ places_from level (items_of s rest) → SoFar s level from rest had
pass-over f e = record { done = f.done; split = f.split ∙ ap (λ (l : List Place). f.done ++ l) e; told = f.told }

-- what the item that is met adds
module _ {s : List ℕ} {r : Run} {code first past : ℕ} {inner rest : Run} (m : Meeting s r code first past inner rest) where
  pub zero-adds : (level : ℕ) → level ≡ 0 → places_from level (items_of s r) ≡ zero_at code first past ++ places_from level (items_of s rest)
  unfolding places_from zeros_at
  zero-adds zero e = ap zeros_at m.tree
  zero-adds (suc level) e = absurd (omega arith)

  step-adds : (level : ℕ) → places_from (suc level) (items_of s r)
      ≡ cond (eqb code (path_octet level)) (places_from level (items_of s inner)) [] ++ places_from (suc level) (items_of s rest)
  unfolding places_from in_each_at
  step-adds level = ap (in_each_at (path_octet level) (places_from level)) m.tree

  pub path-adds : (level : ℕ) → (level ≡ 0 → ⊥) → code ≡ path_octet (level - 1)
      → places_from level (items_of s r) ≡ places_from (level - 1) (items_of s inner) ++ places_from level (items_of s rest)
  path-adds zero n e = absurd (n refl)
  path-adds (suc level) n e =
      let k : suc level - 1 ≡ level = omega arith in
      let o : code ≡ path_octet level = e ∙ ap path_octet k in
      step-adds level ∙ rw (eq-eqb code (path_octet level) o, k)

  pub other-adds : (level : ℕ) → (level ≡ 0 → ⊥) → (code ≡ path_octet (level - 1) → ⊥)
      → places_from level (items_of s r) ≡ places_from level (items_of s rest)
  other-adds zero n e = absurd (n refl)
  other-adds (suc level) n e =
      let k : suc level - 1 ≡ level = omega arith in
      step-adds level ∙ rw (ne_eqb code (path_octet level) (λ p. e (p ∙ ap path_octet (sym k))))
