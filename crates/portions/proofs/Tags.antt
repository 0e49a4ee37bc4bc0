-- Values that are told apart by their tags, from the last to the first: where whatever is among those that are done has its tag marked, a
-- value whose tag is not marked is not among them.
use mathlib.Core.Path.{◌≡◌, refl, ap, sym, ◌∙◌, subst}
use mathlib.Core.Bool.{Bool, true, false, ◌||◌, false≢true}
use mathlib.Core.List.{List}
use Prim.Native.Nat.{ℕ, zero, suc, ◌+◌, ◌*◌, ◌%◌, ◌<◌, ◌≤◌}
use native.Mathlib.Omega.{arith}
use borrow.Author.Tests.{eqb-true, eqb-false}
use borrow.Table.Steps.{cases}
use lib.Dec.{eqb}
use native.Mathlib.Numerals.{add-one}
use lib.ListN.{length, get_or, take, drop, set}
use lib.Seq.{slice, drop-cons, get_or-set_same, get_or-set_other}
use Rattle.names.specs.Names.{same}
use Rattle.std.proofs.lemmas.List.{drop_all}
use Rattle.names.proofs.Same.{same-eq}
use Rattle.portions.specs.Portions.{among, repeats}
use Rattle.portions.specs.Bounds.{bounded_at, bounded, Inside}
use Rattle.portions.specs.Tags.{tags, tag_from, tag}
use Rattle.portions.proofs.Pairs.{inside-more, among-more, repeats-more, among_none}

-- a digit more, and none
module _ (digits : List ℕ) (i t : ℕ) where
  pub tag-more : i < length digits → tag_from t (drop i digits) ≡ tag_from ((10 * t + get_or digits i 0) % tags) (drop (i + 1) digits)
  unfolding tag_from
  tag-more some = rw (add-one, ap (tag_from t) (drop-cons digits i 0 some))

  pub tag-end : length digits ≤ i → tag_from t (drop i digits) ≡ t
  unfolding tag_from
  tag-end end = rw (drop_all i digits end)

or_right : (a : Bool) {b : Bool} → b ≡ true → (a || b) ≡ true
or_right true e = refl
or_right false e = e

module _ (s numbers : List ℕ) (count : ℕ) where
  -- the numbers of the values from k on
  abbrev pub from : ℕ → List ℕ
  from k = slice (2 * k) (2 * count) numbers

  -- whatever is among the values from k on has its tag marked
  abbrev pub Marked : (k : ℕ) → (marks : List Bool) → Type 0
  Marked k marks = (v : List ℕ) → among v (bounded s (from k)) ≡ true → get_or marks (tag v) false ≡ true

  pub none-marked : (marks : List Bool) → Marked count marks
  none-marked marks v e = absurd (false≢true (sym (among_none s numbers count v) ∙ e))

  pub unmarked-apart : (k : ℕ) (marks : List Bool) → Marked k marks → (v : List ℕ) → get_or marks (tag v) false ≡ false → among v (bounded s (from k)) ≡ false
  unmarked-apart k marks m v z = cases (among v (bounded s (from k))) (λ t. absurd (false≢true (sym z ∙ m v t))) (λ t. t)

module _ (s numbers : List ℕ) (count : ℕ) (enough : 2 * count ≤ length numbers) where
  next-is : (k : ℕ) → from s numbers count (k + 1) ≡ from s numbers count (suc k)
  next-is k = let e : k + 1 ≡ suc k = omega arith in ap (from s numbers count) e

  pub inside-from : Inside s (take (2 * count) numbers) → (k : ℕ) → k ≤ count → Inside s (from s numbers count k)
  inside-from inside zero l = inside
  inside-from inside (suc k) l =
      subst (Inside s) (next-is k) (inside-more s numbers k count (omega arith) enough (inside-from inside k (omega arith))).2

  -- what repeats from k on repeats in all
  pub repeats-before : (k : ℕ) → k ≤ count → repeats (bounded s (from s numbers count k)) ≡ true → repeats (bounded s (take (2 * count) numbers)) ≡ true
  repeats-before zero l e = e
  repeats-before (suc k) l e =
      let after : repeats (bounded s (from s numbers count (k + 1))) ≡ true = ap (λ (n : List ℕ). repeats (bounded s n)) (next-is k) ∙ e in
      repeats-before k (omega arith)
      (repeats-more s numbers k count (omega arith) enough ∙ or_right (among (bounded_at s numbers k) (bounded s (from s numbers count (k + 1)))) after)

  module _ (k : ℕ) (some : k < count) (marks : List Bool) (m : Marked s numbers count (k + 1) marks) (small : tag (bounded_at s numbers k) < length marks) where
    own-marked : (v : List ℕ) → tag v ≡ tag (bounded_at s numbers k) → get_or (set marks (tag (bounded_at s numbers k)) true) (tag v) false ≡ true
    own-marked v e = rw e (get_or-set_same marks (tag (bounded_at s numbers k)) true false small)

    still_marked : (v : List ℕ) → among v (bounded s (from s numbers count (k + 1))) ≡ true
        → get_or (set marks (tag (bounded_at s numbers k)) true) (tag v) false ≡ true
    still_marked v e =
        cases (eqb (tag v) (tag (bounded_at s numbers k)))
        (λ t. own-marked v (eqb-true (tag v) (tag (bounded_at s numbers k)) t))
        (λ t. get_or-set_other marks (tag (bounded_at s numbers k)) (tag v) true false (eqb-false (tag v) (tag (bounded_at s numbers k)) t) ∙ m v e)

    -- with its own tag marked, the value k is done too
    pub marked_more : Marked s numbers count k (set marks (tag (bounded_at s numbers k)) true)
    marked_more v e =
        let one_of_lem = sym (among-more s numbers k count some enough v) ∙ e in
        cases (same v (bounded_at s numbers k))
        (λ t. own-marked v (ap tag (same-eq v (bounded_at s numbers k) t)))
        (λ t. still_marked v (rw t at one_of_lem))
