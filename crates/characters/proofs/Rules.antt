-- The rules of the tables: each by one test that is computed over its entries.
use Prim.Native.Nat.{ℕ, ◌+◌, ◌-◌, ◌*◌, ◌/◌, ◌%◌, ◌≤◌, ◌<◌}
use native.Mathlib.Omega.{arith}
use mathlib.Core.Path.{◌≡◌, refl, sym, ap, ◌∙◌}
use mathlib.Core.List.{List, [], ◌∷◌}
use mathlib.Core.Bool.{Bool, true, false, cond, ◌&&◌}
use lib.Dec.{T, ltb, eqb, eqb→eq}
use lib.ListN.{length, get_or}
use borrow.Author.Tests.{ltb-true, ltb-false, le-leb, lt-leb, ne_eqb}
use Rattle.characters.specs.Sets.{latin1}
use Rattle.characters.specs.Pairs.{composed, combining, is_accent, pair_of, column, PairTable}
use Rattle.characters.proofs.Table.{every, at}

-- a table that passes the test is one of pairs
unfoldable pub right_pair : ℕ → ℕ → Bool
right_pair k x = eqb x (composed (0xC0 + k / 64) (column (k % 64)))

pub pair-table : (table : List ℕ) → length table ≡ 1024 → T (every right_pair 0 table) → PairTable table
unfolding right_pair
pair-table table long right = record {
  long = long;
  entry = λ k h. eqb→eq (get_or table k 0) (composed (0xC0 + k / 64) (column (k % 64))) (at right_pair table right k (omega arith));
}

module _ (table : List ℕ) (is : PairTable table) (a b k : ℕ) (l : 0xC0 ≤ a) (h : a ≤ 0xCF) where
  pub pair-space : b ≡ 0x20 → k ≡ (a - 0xC0) * 64 → get_or table k 0 ≡ composed a b
  pair-space eb e =
      let ka : 0xC0 + k / 64 ≡ a = omega arith in
      let kz : k % 64 ≡ 0 = omega arith in
      let kb : column (k % 64) ≡ b = ap column kz ∙ sym eb in
      is.entry k (omega arith) ∙ (ap (λ x. composed x (column (k % 64))) ka ∙ ap (λ x. composed a x) kb)

  pub pair-letter : 0x40 < b → b ≤ 0x7F → k ≡ (a - 0xC0) * 64 + (b - 0x40) → get_or table k 0 ≡ composed a b
  pair-letter lb hb e =
      let ka : 0xC0 + k / 64 ≡ a = omega arith in
      let kj : k % 64 ≡ b - 0x40 = omega arith in
      let some : (b - 0x40 ≡ 0 → ⊥) = λ z. omega arith in
      let kb : column (k % 64) ≡ b = ap column kj ∙ rw (ne_eqb (b - 0x40) 0 some) (omega arith) in
      is.entry k (omega arith) ∙ (ap (λ x. composed x (column (k % 64))) ka ∙ ap (λ x. composed a x) kb)

-- no accent before it, or no letter after it: no pair
pub no-accent-below : (a b : ℕ) → a < 0xC1 → composed a b ≡ 0
unfolding composed
no-accent-below a b h = rw (lt-leb 0xC1 a h)

pub no-accent-above : (a b : ℕ) → 0xCF < a → composed a b ≡ 0
unfolding composed
no-accent-above a b h =
    let l : 0xC1 ≤ a = omega arith in
    rw (le-leb 0xC1 a l, lt-leb a 0xCF h)

and-not : (x : Bool) (y : ℕ) → cond (x && false) y 0 ≡ 0
and-not true y = refl
and-not false y = refl

pub no-letter-below : (a b : ℕ) → (b ≡ 0x20 → ⊥) → b ≤ 0x40 → composed a b ≡ 0
unfolding composed
no-letter-below a b n h =
    let l : b < 0x41 = omega arith in
    let m : b < 0x61 = omega arith in
    rw (lt-leb 0x41 b l, lt-leb 0x61 b m, ne_eqb b 0x20 n) (and-not (is_accent a) _)

pub no-letter-above : (a b : ℕ) → 0x7F < b → composed a b ≡ 0
unfolding composed
no-letter-above a b h =
    let l : 0x41 ≤ b = omega arith in
    let m : 0x61 ≤ b = omega arith in
    let p : 0x5A < b = omega arith in
    let q : 0x7A < b = omega arith in
    let n : (b ≡ 0x20 → ⊥) = λ z. omega arith in
    rw (le-leb 0x41 b l, lt-leb b 0x5A p, le-leb 0x61 b m, lt-leb b 0x7A q, ne_eqb b 0x20 n) (and-not (is_accent a) _)

-- what is a pair has an accent
none-is-none : (x : Bool) (c : ℕ) → c ≡ 0 → cond x 0 c ≡ 0
none-is-none true c e = refl
none-is-none false c e = e

pub accent-of : (s a b : ℕ) → (pair_of s a b ≡ 0 → ⊥) → (0xC0 ≤ a) × (a ≤ 0xCF)
accent-of s a b some = go (ltb a 0xC1) (ltb 0xCF a) refl refl
  where
    go : (x y : Bool) → ltb a 0xC1 ≡ x → ltb 0xCF a ≡ y → (0xC0 ≤ a) × (a ≤ 0xCF)
    go true y e f = absurd (some (none-is-none (eqb s latin1) (composed a b) (no-accent-below a b (ltb-true a 0xC1 e))))
    go false true e f = absurd (some (none-is-none (eqb s latin1) (composed a b) (no-accent-above a b (ltb-true 0xCF a f))))
    go false false e f =
        let l : 0xC1 ≤ a = ltb-false a 0xC1 e in
        let h : a ≤ 0xCF = ltb-false 0xCF a f in
        (omega arith, h)

-- the combining accents
right-accent : ℕ → ℕ → Bool
right-accent k x = eqb x (combining (0xC0 + k))

abbrev combinings : List ℕ
combinings = 0 ∷ 768 ∷ 769 ∷ 770 ∷ 771 ∷ 772 ∷ 774 ∷ 775 ∷ 776 ∷ 776 ∷ 778 ∷ 807 ∷ 818 ∷ 779 ∷ 808 ∷ 780 ∷ []

pub accent-at : (a k : ℕ) → 0xC0 ≤ a → a ≤ 0xCF → k ≡ a - 0xC0 → get_or combinings k 0 ≡ combining a
unfolding right-accent combining
accent-at a k l h e =
    let ka : 0xC0 + k ≡ a = omega arith in
    let within : k < 16 = omega arith in
    eqb→eq (get_or combinings k 0) (combining (0xC0 + k)) (at right-accent combinings tt k within) ∙ ap combining ka
