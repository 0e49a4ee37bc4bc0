-- What an item's type field is that was read, and that a header that is read lies between its place and the limit, in the order of its
-- parts; and so does a closing mark.
use Rattle.std.specs.Prelude.{Result, Ok, Err}
use mathlib.Core.Path.{◌≡◌}
use mathlib.Core.Bool.{Bool, true, false≢true}
use mathlib.Core.List.{List, [], ◌∷◌}
use Prim.Native.Nat.{ℕ, ◌+◌, ◌-◌, ◌<◌, ◌≤◌}
use native.Mathlib.Omega.{arith}
use lib.Dec.{leb, ltb, eqb}
use borrow.Author.Tests.{leb-true, ltb-true, ltb-false, eqb-true, eqb-false}
use Rattle.headers.specs.declared.Header.{Header}
use Rattle.headers.specs.declared.Head.{Head}
use Rattle.headers.specs.declared.Head.TheVariants.{Item, ClosingMark, Refusal}
use Rattle.headers.specs.declared.Field.{Field}
use Rattle.headers.specs.Head.{number_bits, constructed, is_in, form_allowed, above_thirty, code_of, misfits, octet_at, definite_at, indefinite_at, long_at}
use Rattle.headers.specs.Head.{by_first, length_at, after_field, field_at, closing_at, item_at, head_at}
use Rattle.laws.proofs.Tests.{cond-holds}

-- a type field that was read at `at`, from this octet on: its code, and the place past it
pub data FieldRead (s : List ℕ) (octet at limit : ℕ) : (code past : ℕ) → Type 0 where
  in_one : (number_bits octet ≡ 31 → ⊥) → form_allowed octet ≡ true → FieldRead s octet at limit octet (at + 1)
  in_two : number_bits octet ≡ 31 → is_in octet above_thirty ≡ true → at + 1 < limit → 31 ≤ octet_at s (at + 1) → octet_at s (at + 1) < 0x80
      → FieldRead s octet at limit (code_of (octet ∷ octet_at s (at + 1) ∷ [])) (at + 2)
  in_three : number_bits octet ≡ 31 → is_in octet above_thirty ≡ true → at + 2 < limit → 0x80 < octet_at s (at + 1) → octet_at s (at + 1) < 0x100
      → octet_at s (at + 2) < 0x80 → FieldRead s octet at limit (code_of (octet ∷ octet_at s (at + 1) ∷ octet_at s (at + 2) ∷ [])) (at + 3)

-- What holds of a refusal by 3 to 7, and of the length octets after any type field that can be read there, holds of an item.
pub item-holds : (P : Head → Type 0) (s : List ℕ) (octet at limit room : ℕ) → ((n : ℕ) → 3 ≤ n → n ≤ 7 → P (Refusal n at))
    → (0 < room → (code past : ℕ) → FieldRead s octet at limit code past → P (length_at s code at past limit)) → P (item_at s octet at limit room)
unfolding item_at
item-holds P s octet at limit room refused read =
    let Q : Result Field ℕ → Type 0 = λ f. P (after_field s at limit f) in
    let four = refused 4 (omega arith) (omega arith) in
    let five = refused 5 (omega arith) (omega arith) in
    let seven = refused 7 (omega arith) (omega arith) in
    let second = octet_at s (at + 1) in
    let third = octet_at s (at + 2) in
    cond-holds P (eqb room 0) (λ _. refused 3 (omega arith) (omega arith))
    (λ e.
    let deep : 0 < room = let ne = eqb-false room 0 e in omega arith in
    cond-holds Q (eqb (number_bits octet) 31)
    (λ n. let bits = eqb-true (number_bits octet) 31 n in
    cond-holds Q (ltb (at + 1) limit)
    (λ a. let there = ltb-true (at + 1) limit a in
    cond-holds Q (ltb second 31) (λ _. four)
    (λ b. let low = ltb-false second 31 b in
    cond-holds Q (ltb second 0x80)
    (λ c. cond-holds Q (is_in octet above_thirty)
    (λ k. read deep (code_of (octet ∷ second ∷ [])) (at + 2) (in_two bits k there low (ltb-true second 0x80 c)))
    (λ _. five))
    (λ c. cond-holds Q (eqb second 0x80) (λ _. four)
    (λ d. let above : 0x80 < second = let ne = eqb-false second 0x80 d in let ge = ltb-false second 0x80 c in omega arith in
    cond-holds Q (ltb second 0x100)
    (λ f. cond-holds Q (ltb (at + 2) limit)
    (λ g. cond-holds Q (ltb third 0x80)
    (λ h. cond-holds Q (is_in octet above_thirty)
    (λ k. read deep (code_of (octet ∷ second ∷ third ∷ [])) (at + 3)
    (in_three bits k (ltb-true (at + 2) limit g) above (ltb-true second 0x100 f) (ltb-true third 0x80 h)))
    (λ _. five))
    (λ _. four))
    (λ _. seven))
    (λ _. four)))))
    (λ _. seven))
    (λ a. cond-holds Q (form_allowed octet)
    (λ b. read deep octet (at + 1) (in_one (eqb-false (number_bits octet) 31 a) b))
    (λ _. five)))

-- the place past a type field
pub field_past : {s : List ℕ} {octet at limit code past : ℕ} → FieldRead s octet at limit code past → at < past
field_past (in_one n f) = omega arith
field_past (in_two n f l a b) = omega arith
field_past (in_three n f l a b c) = omega arith

-- a type field that is read ends within three octets
abbrev pub FieldEnds : (at : ℕ) → Result Field ℕ → Type 0
FieldEnds at (Ok field) = field.past ≤ at + 3
FieldEnds at (Err number) = Unit {0}

pub field-ends : (s : List ℕ) (octet at limit : ℕ) → FieldEnds at (field_at s octet at limit)
field-ends s octet at limit =
    let P = FieldEnds at in
    let second = octet_at s (at + 1) in
    cond-holds P (eqb (number_bits octet) 31)
    (λ _. cond-holds P (ltb (at + 1) limit)
    (λ _. cond-holds P (ltb second 31) (λ _. tt)
    (λ _. cond-holds P (ltb second 0x80) (λ _. cond-holds P (is_in octet above_thirty) (λ _. omega arith) (λ _. tt))
    (λ _. cond-holds P (eqb second 0x80) (λ _. tt)
    (λ _. cond-holds P (ltb second 0x100)
    (λ _. cond-holds P (ltb (at + 2) limit)
    (λ _. cond-holds P (ltb (octet_at s (at + 2)) 0x80) (λ _. cond-holds P (is_in octet above_thirty) (λ _. omega arith) (λ _. tt)) (λ _. tt))
    (λ _. tt))
    (λ _. tt)))))
    (λ _. tt))
    (λ _. cond-holds P (form_allowed octet) (λ _. omega arith) (λ _. tt))

-- a header lies between `at` and the limit, there is room for its item, and only a constructed item is indefinite
pub record Lies (at limit room : ℕ) (h : Header) : Type 0 where
  pub header : at + 2 ≤ h.start
  pub order : h.start ≤ h.bound
  pub within : h.bound ≤ limit
  pub deep : 0 < room
  pub mark : h.marked ≡ true → constructed h.code ≡ true

abbrev pub HeadOk : (at limit room : ℕ) → Head → Type 0
HeadOk at limit room (Item h) = Lies at limit room h
HeadOk at limit room ClosingMark = at + 2 ≤ limit
HeadOk at limit room (Refusal number place) = Unit {0}

module _ (s : List ℕ) (at limit room : ℕ) where
  definite-ok : (code start len : ℕ) → at + 2 ≤ start → 0 < room → HeadOk at limit room (definite_at code at start len limit)
  unfolding definite_at
  definite-ok code start len h r =
      cond-holds (HeadOk at limit room) (leb (start + len) limit)
      (λ e. cond-holds (HeadOk at limit room) (misfits code len) (λ _. tt)
      (λ _. record { header = h; order = omega arith; within = leb-true _ _ e; deep = r; mark = λ m. absurd (false≢true m) }))
      (λ _. tt)

  indefinite-ok : (code from : ℕ) → at < from → from < limit → 0 < room → HeadOk at limit room (indefinite_at code at from limit)
  unfolding indefinite_at
  indefinite-ok code from a h r =
      cond-holds (HeadOk at limit room) (constructed code)
      (λ e. record { header = omega arith; order = omega arith; within = omega arith; deep = r; mark = λ _. e })
      (λ _. tt)

  long_ok : (code from k : ℕ) → at < from → 0 < room → HeadOk at limit room (long_at s code at from k limit)
  unfolding long_at
  long_ok code from k a r =
      cond-holds (HeadOk at limit room) (leb (from + 1 + k) limit) (λ _. definite-ok code (from + 1 + k) _ (omega arith) r) (λ _. tt)

  first-ok : (code from first : ℕ) → at < from → from < limit → 0 < room → HeadOk at limit room (by_first s code at from first limit)
  unfolding by_first
  first-ok code from first a h r =
      cond-holds (HeadOk at limit room) (ltb first 0x80) (λ _. definite-ok code (from + 1) first (omega arith) r)
      (λ _. cond-holds (HeadOk at limit room) (eqb first 0x80) (λ _. indefinite-ok code from a h r)
      (λ _. cond-holds (HeadOk at limit room) (ltb first 0x85) (λ _. long_ok code from (first - 0x80) a r) (λ _. tt)))

  length-ok : (code from : ℕ) → at < from → 0 < room → HeadOk at limit room (length_at s code at from limit)
  unfolding length_at
  length-ok code from a r =
      cond-holds (HeadOk at limit room) (ltb from limit) (λ e. first-ok code from _ a (ltb-true _ _ e) r) (λ _. tt)

  item_ok : (octet : ℕ) → HeadOk at limit room (item_at s octet at limit room)
  item_ok octet =
      item-holds (HeadOk at limit room) s octet at limit room (λ _ _ _. tt) (λ r code past f. length-ok code past (field_past f) r)

  closing-ok : (marked : Bool) → HeadOk at limit room (closing_at s at limit marked)
  unfolding closing_at
  closing-ok marked =
      cond-holds (HeadOk at limit room) marked
      (λ _. cond-holds (HeadOk at limit room) (ltb (at + 1) limit)
      (λ e. cond-holds (HeadOk at limit room) (eqb (octet_at s (at + 1)) 0) (λ _. let l = ltb-true (at + 1) limit e in omega arith) (λ _. tt))
      (λ _. tt))
      (λ _. tt)

  pub head_ok : (marked : Bool) → HeadOk at limit room (head_at s at limit marked room)
  unfolding head_at
  head_ok marked =
      cond-holds (HeadOk at limit room) (eqb (octet_at s at) 0) (λ _. closing-ok marked) (λ _. item_ok _)
