-- What stands where nothing is refused: each test of `head_at` that could have refused went the other way.
use mathlib.Core.Path.{◌≡◌, refl, ◌∙◌, subst}
use mathlib.Core.Bool.{Bool, true, false}
use mathlib.Core.List.{List}
use Prim.Native.Nat.{ℕ, ◌+◌, ◌<◌, ◌≤◌}
use native.Mathlib.Omega.{arith}
use lib.Dec.{leb, ltb, eqb}
use borrow.Author.Tests.{leb-true, ltb-true, eq-eqb, ne_eqb, lt-ltb, le-ltb}
use Rattle.headers.specs.declared.Head.{Head}
use Rattle.headers.specs.declared.Head.TheVariants.{Item, ClosingMark}
use Rattle.headers.specs.Head.{number_bits, constructed, type_number, misfits, octet_at, definite_at, indefinite_at, by_first, length_at, closing_at, head_at}
use Rattle.headers.specs.Passed.{Passed}
use Rattle.headers.proofs.Lies.{FieldRead, in_one, in_two, in_three, item-holds}
use Rattle.laws.proofs.Tests.{cond-holds}

-- a header with a definite length, from start on
abbrev pub definite : (octet start n : ℕ) → Head
definite octet start n = Item (record { code = octet; number = type_number octet; start = start; bound = start + n; marked = false })

module _ (s : List ℕ) (at limit : ℕ) (marked : Bool) (room : ℕ) where
  -- a 00 is a closing mark
  pub passed-mark : octet_at s at ≡ 0 → Passed (head_at s at limit marked room) → head_at s at limit marked room ≡ ClosingMark
  unfolding head_at closing_at
  passed-mark e =
      let P : Head → Type 0 = λ x. Passed x → x ≡ ClosingMark in
      rw (eq-eqb (octet_at s at) 0 e) (cond-holds P marked
      (λ _. cond-holds P (ltb (at + 1) limit)
      (λ _. cond-holds P (eqb (octet_at s (at + 1)) 0) (λ _ _. refl) (λ _ p. absurd p)) (λ _ p. absurd p)) (λ _ p. absurd p))

  -- another octet is an item's: its type field was read, and its length octets follow
  pub passed-item : (octet_at s at ≡ 0 → ⊥) → Passed (head_at s at limit marked room)
      → (code past : ℕ) × FieldRead s (octet_at s at) at limit code past × (head_at s at limit marked room ≡ length_at s code at past limit)
  unfolding head_at
  passed-item n =
      let octet = octet_at s at in
      let P : Head → Type 0 = λ x. Passed x → (code past : ℕ) × FieldRead s octet at limit code past × (x ≡ length_at s code at past limit) in
      rw (ne_eqb octet 0 n) (item-holds P s octet at limit room (λ _ _ _ p. absurd p) (λ _ code past f _. (code, past, f, refl)))

-- which type field was passed: the first octet tells whether it is one octet
module _ (s : List ℕ) (octet at limit : ℕ) where
  one_field : {code past : ℕ} → FieldRead s octet at limit code past → (number_bits octet ≡ 31 → ⊥)
      → length_at s code at past limit ≡ length_at s octet at (at + 1) limit
  one_field (in_one n f) ne = refl
  one_field (in_two n f l a b) ne = absurd (ne n)
  one_field (in_three n f l a b c) ne = absurd (ne n)

module _ (s : List ℕ) (at limit : ℕ) (marked : Bool) (room : ℕ) (p : Passed (head_at s at limit marked room)) where
  pub passed-one : (octet_at s at ≡ 0 → ⊥) → (number_bits (octet_at s at) ≡ 31 → ⊥)
      → head_at s at limit marked room ≡ length_at s (octet_at s at) at (at + 1) limit
  passed-one n o =
      let (code, past, f, e) = passed-item s at limit marked room n p in
      e ∙ one_field s (octet_at s at) at limit f o

module _ (s : List ℕ) (code at from limit : ℕ) where
  -- the first length octet decides
  pub passed_first : Passed (length_at s code at from limit)
      → (length_at s code at from limit ≡ by_first s code at from (octet_at s from) limit) × (from < limit)
  unfolding length_at
  passed_first =
      let P : Head → Type 0 = λ x. Passed x → (x ≡ by_first s code at from (octet_at s from) limit) × (from < limit) in
      cond-holds P (ltb from limit) (λ e _. (refl, ltb-true _ _ e)) (λ _ p. absurd p)

  passed-definite : (start n : ℕ) → Passed (definite_at code at start n limit) → (definite_at code at start n limit ≡ definite code start n) × (start + n ≤ limit)
  unfolding definite_at
  passed-definite start n =
      let P : Head → Type 0 = λ x. Passed x → (x ≡ definite code start n) × (start + n ≤ limit) in
      cond-holds P (leb (start + n) limit) (λ e. cond-holds P (misfits code n) (λ _ p. absurd p) (λ _ _. (refl, leb-true _ _ e))) (λ _ p. absurd p)

  pub passed-short : (first : ℕ) → first < 0x80 → Passed (by_first s code at from first limit)
      → (by_first s code at from first limit ≡ definite code (from + 1) first) × (from + 1 + first ≤ limit)
  unfolding by_first
  passed-short first l = rw (lt-ltb first 0x80 l) (passed-definite (from + 1) first)

  pub passed-open : (first : ℕ) → first ≡ 0x80 → Passed (by_first s code at from first limit)
      → by_first s code at from first limit ≡ Item (record { code = code; number = type_number code; start = from + 1; bound = limit; marked = true })
  unfolding by_first indefinite_at
  passed-open first e =
      let P : Head → Type 0 = λ x. Passed x → x ≡ Item (record { code = code; number = type_number code; start = from + 1; bound = limit; marked = true }) in
      rw (le-ltb first 0x80 (omega arith), eq-eqb first 0x80 e) (cond-holds P (constructed code) (λ _ _. refl) (λ _ p. absurd p))

-- an item with one type octet: the octet after it is within the limit, and decides
pub passed-decided : (s : List ℕ) (at limit : ℕ) (marked : Bool) (room : ℕ) → Passed (head_at s at limit marked room) → (octet_at s at ≡ 0 → ⊥)
    → (number_bits (octet_at s at) ≡ 31 → ⊥) →
    let by = by_first s (octet_at s at) at (at + 1) (octet_at s (at + 1)) limit in
    (head_at s at limit marked room ≡ by) × (at + 1 < limit) × Passed by
passed-decided s at limit marked room p n o =
    let e = passed-one s at limit marked room p n o in
    let (f, l) = passed_first s (octet_at s at) at (at + 1) limit (subst Passed e p) in
    (e ∙ f, l, subst Passed (e ∙ f) p)
