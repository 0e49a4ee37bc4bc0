-- Numbers that bound values begin with the first value's pair, so what is asked of the values goes on with those after it; and a pair
-- stored at their end is a value more.
use mathlib.Core.Path.{◌≡◌, refl, ap, ◌∙◌, subst}
use mathlib.Core.Bool.{false, ◌||◌}
use mathlib.Core.List.{List, [], ◌∷◌, ◌++◌, append_assoc}
use Prim.Native.Nat.{ℕ, suc, ◌+◌, ◌*◌, ◌-◌, ◌<◌, ◌≤◌}
use native.Mathlib.Omega.{arith}
use lib.ListN.{length, take, set, length-set}
use lib.Seq.{slice, slice_empty, take-suc-set}
use Rattle.names.proofs.Parts.{slice-more}
use Rattle.contents.specs.declared.Span.{Span}
use Rattle.names.specs.Names.{same}
use Rattle.portions.specs.Portions.{among, repeats}
use Rattle.portions.specs.Bounds.{pair_at, bounded_at, bounded, Inside}

-- the value k of so many, and those after it
module _ (s numbers : List ℕ) (k count : ℕ) (some : k < count) (enough : 2 * count ≤ length numbers) where
  abbrev span : Span
  span = pair_at numbers k

  abbrev rest : List ℕ
  rest = slice (2 * (k + 1)) (2 * count) numbers

  pair-more : slice (2 * k) (2 * count) numbers ≡ span.first ∷ span.past ∷ rest
  pair-more =
      let e : 2 * (k + 1) ≡ 2 * k + 1 + 1 = omega arith in
      slice-more numbers (2 * k) (2 * count) (omega arith) enough
      ∙ rw e (ap (λ (l : List ℕ). span.first ∷ l) (slice-more numbers (2 * k + 1) (2 * count) (omega arith) enough))

  bounded-more : bounded s (slice (2 * k) (2 * count) numbers) ≡ bounded_at s numbers k ∷ bounded s rest
  unfolding bounded
  bounded-more = ap (bounded s) pair-more

  pub inside-more : Inside s (slice (2 * k) (2 * count) numbers) → (span.first ≤ span.past) × (span.past ≤ length s) × Inside s rest
  unfolding Inside
  inside-more inside = subst (Inside s) pair-more inside

  pub among-more : (v : List ℕ) → among v (bounded s (slice (2 * k) (2 * count) numbers)) ≡ (same v (bounded_at s numbers k) || among v (bounded s rest))
  unfolding among
  among-more v = ap (among v) bounded-more

  pub repeats-more : repeats (bounded s (slice (2 * k) (2 * count) numbers)) ≡ (among (bounded_at s numbers k) (bounded s rest) || repeats (bounded s rest))
  unfolding repeats
  repeats-more = ap repeats bounded-more

-- no value is left
module _ (s numbers : List ℕ) (count : ℕ) where
  bounded-none : bounded s (slice (2 * count) (2 * count) numbers) ≡ []
  unfolding bounded
  bounded-none = ap (bounded s) (slice_empty (2 * count) numbers)

  pub among_none : (v : List ℕ) → among v (bounded s (slice (2 * count) (2 * count) numbers)) ≡ false
  unfolding among
  among_none v = ap (among v) bounded-none

  pub repeats-none : repeats (bounded s (slice (2 * count) (2 * count) numbers)) ≡ false
  unfolding repeats
  repeats-none = ap repeats bounded-none

-- a pair stored after k others
pub pair-stored : (numbers : List ℕ) (k first past : ℕ) → 2 * k + 1 < length numbers
    → take (2 * (k + 1)) (set (set numbers (2 * k) first) (2 * k + 1) past) ≡ take (2 * k) numbers ++ first ∷ past ∷ []
pair-stored numbers k first past l =
    let e : 2 * (k + 1) ≡ suc (suc (2 * k)) = omega arith in
    let f : 2 * k + 1 ≡ suc (2 * k) = omega arith in
    let l₁ : 2 * k < length numbers = omega arith in
    let l₂ : suc (2 * k) < length (set numbers (2 * k) first) = simp length-set (omega arith) in
    rw (e, f, take-suc-set (set numbers (2 * k) first) (suc (2 * k)) past l₂, take-suc-set numbers (2 * k) first l₁)
    (append_assoc (take (2 * k) numbers) (first ∷ []) (past ∷ []))

module _ (s : List ℕ) (first past : ℕ) where
  pub bounded-append : (numbers : List ℕ) (k : ℕ) → length numbers ≡ 2 * k
      → bounded s (numbers ++ first ∷ past ∷ []) ≡ bounded s numbers ++ slice first past s ∷ []
  unfolding bounded
  bounded-append [] k e = refl
  bounded-append (x ∷ []) k e = absurd (omega arith)
  bounded-append (x ∷ y ∷ numbers) k e =
      ap (λ (l : List (List ℕ)). slice x y s ∷ l) (bounded-append numbers (k - 1) (omega arith))

  pub inside-append : (numbers : List ℕ) (k : ℕ) → length numbers ≡ 2 * k → Inside s numbers → first ≤ past → past ≤ length s
      → Inside s (numbers ++ first ∷ past ∷ [])
  unfolding Inside
  inside-append [] k e i order inside = (order, inside, i)
  inside-append (x ∷ []) k e i order inside = absurd (omega arith)
  inside-append (x ∷ y ∷ numbers) k e i order inside =
      (i.0, i.1, inside-append numbers (k - 1) (omega arith) i.2 order inside)
