-- Demand 3: the list of a letter is the list of its matches, of which the crate reading shows what they are; the rest is by the tests of the
-- question.
use mathlib.Core.Path.{◌≡◌, refl, ap, sym, subst}
use mathlib.Core.Logic.{inl, inr, ◌↔◌}
use mathlib.Core.Bool.{false}
use mathlib.Core.List.{List, [], ◌∷◌, Memᴰ}
use mathlib.Core.Option.{some}
use Prim.Native.Nat.{ℕ, suc, ◌/◌, ◌<◌, ◌≤◌}
use native.Mathlib.Omega.{arith}
use lib.Dec.{ltb}
use lib.ListN.{length, get_elem?}
use borrow.Author.Tests.{le-ltb, ltb-true, ltb-false}
use borrow.Table.Steps.{cases}
use Rattle.answers.specs.Table.{table_width}
use Rattle.tree.specs.Tree.{tree_of}
use Rattle.elements.specs.declared.Edition.{Edition}
use Rattle.elements.specs.Judge.{Element}
use Rattle.letters.specs.Letter.{letter, letter_in}
use Rattle.letters.specs.Apart.{Apart}
use Rattle.letters.proofs.Apart.{accepted-apart}
use Rattle.reading.specs.declared.Match.{Match}
use Rattle.reading.specs.declared.Side.{Side}
use Rattle.reading.specs.Match.{matches, IsMatch, Before, units, portions_on}
use Rattle.reading.proofs.Lists.{in-member, sorted-at}
use Rattle.reading.proofs.Matches.{matches-are, matches-all, matches-sorted}
use Rattle.reading.proofs.Single.{no-more-than-portions, no-more-than-units}
use Rattle.letters.proofs.Letters.{letter-found}
use Rattle.answers.specs.Answers.{onto, table_of, listed, listed_table, matches_in, listed_list}
use Rattle.promises.specs.Demands.{In, Demand3}

module _ {A : Type 0} where
  -- a member of a list stands somewhere in it
  pub member-in : (m : A) (ms : List A) → Memᴰ m ms → (i : ℕ) × (get_elem? ms i ≡ some m)
  member-in m [] i = elim i [ ]
  member-in m (x ∷ ms) (Memᴰ.head e) = (0, ap some (sym e))
  member-in m (x ∷ ms) (Memᴰ.tail i) = let (k, e) = member-in m ms i in (suc k, e)

never-itself : (m : Match) → Before m m → ⊥
never-itself m (inl l) = omega arith
never-itself m (inr (e, inl l)) = omega arith
never-itself m (inr (e, inr (f, l))) = omega arith

module _ (edition : Edition) (side : Side) (s : List ℕ) (headers : ℕ) (elements : List Element) (e : letter_in edition s ≡ letter headers elements) where
  abbrev ms : List Match
  ms = matches side elements

  the-list : matches_in edition side s ≡ ms
  the-list = rw e

  exactly : (m : Match) → In m (matches_in edition side s) ↔ IsMatch side elements m
  exactly m =
      rw the-list
      (λ i. matches-are side elements m (in-member m ms i.0 i.1), λ is. member-in m ms (matches-all side elements m is))

  ordered : (i j : ℕ) (m n : Match) → i < j → get_elem? (matches_in edition side s) i ≡ some m → get_elem? (matches_in edition side s) j ≡ some n → Before m n
  ordered = rw the-list (sorted-at Before ms (matches-sorted side elements))

  once : (i j : ℕ) (m : Match) → get_elem? (matches_in edition side s) i ≡ some m → get_elem? (matches_in edition side s) j ≡ some m → i ≡ j
  once i j m p q =
      let not-below : i < j → ⊥ = λ l. never-itself m (ordered i j m m l p q) in
      let not-above : j < i → ⊥ = λ l. never-itself m (ordered j i m m l q p) in
      omega arith

  lists : (table : List ℕ) (list : List Match) → length elements ≤ length table / table_width → length (matches_in edition side s) ≤ length list
      → (listed edition side s table (length list) ≡ record { number = 0; place = 0; elements = length elements; matches = length (matches_in edition side s) })
      × (listed_table edition side s table (length list) ≡ table_of edition s table)
      × (listed_list edition side s table list ≡ onto (matches_in edition side s) list)
  unfolding listed listed_table listed_list
  lists table list rows room =
      let a : ltb (length table / table_width) (length elements) ≡ false = le-ltb (length table / table_width) (length elements) rows in
      let fits : length ms ≤ length list = subst (λ (l : List Match). length l ≤ length list) the-list room in
      let b : ltb (length list) (length ms) ≡ false = le-ltb (length list) (length ms) fits in
      (rw (e, a, b), rw (e, a, b), rw (e, a, b))

  lists_16 : (table : List ℕ) (room : ℕ) → ((listed edition side s table room).number ≡ 16) ↔ (length table / table_width < length elements)
  unfolding listed
  lists_16 table room =
      cases (ltb (length table / table_width) (length elements))
      (λ t. rw (e, t) (λ _. ltb-true (length table / table_width) (length elements) t, λ _. refl))
      (λ t.
      let l = ltb-false (length table / table_width) (length elements) t in
      cases (ltb room (length ms))
      (λ u. rw (e, t, u) (λ p. absurd (omega arith), λ k. absurd (omega arith)))
      (λ u. rw (e, t, u) (λ p. absurd (omega arith), λ k. absurd (omega arith))))

  lists_19 : (table : List ℕ) (room : ℕ) → ((listed edition side s table room).number ≡ 19) ↔ ((length elements ≤ length table / table_width)
      × (room < length (matches_in edition side s)))
  unfolding listed
  lists_19 table room =
      cases (ltb (length table / table_width) (length elements))
      (λ t. let l = ltb-true (length table / table_width) (length elements) t in rw (e, t) (λ p. absurd (omega arith), λ k. absurd (omega arith)))
      (λ t.
      let l = ltb-false (length table / table_width) (length elements) t in
      cases (ltb room (length ms))
      (λ u. let m = ltb-true room (length ms) u in rw (e, t, u) (λ _. (l, m), λ _. refl))
      (λ u. let m = ltb-false room (length ms) u in rw (e, t, u) (λ p. absurd (omega arith), λ k. absurd (omega arith))))

  lists_else : (table : List ℕ) (room : ℕ) → ((listed edition side s table room).number ≡ 16 → ⊥) → ((listed edition side s table room).number ≡ 19 → ⊥)
      → (listed edition side s table room).number ≡ 0
  unfolding listed
  lists_else table room =
      cases (ltb (length table / table_width) (length elements))
      (λ t. rw (e, t) (λ n m. absurd (n refl)))
      (λ t.
      cases (ltb room (length ms))
      (λ u. rw (e, t, u) (λ n m. absurd (m refl)))
      (λ u. rw (e, t, u) (λ n m. refl)))

  -- how many there are at most
  elements-apart : Apart elements
  elements-apart = accepted-apart edition (tree_of s) elements (letter-found edition s headers elements e).judged

  at_most_units : length (matches_in edition side s) ≤ units elements
  at_most_units = rw the-list (no-more-than-units elements elements-apart side)

  at_most_portions : length (matches_in edition side s) ≤ portions_on side elements
  at_most_portions = rw the-list (no-more-than-portions elements elements-apart side)

  units_enough : (table : List ℕ) (room : ℕ) → units elements ≤ room → (listed edition side s table room).number ≡ 19 → ⊥
  units_enough table room enough z = let (rows, short) = (lists_19 table room).0 z in omega (arith, at_most_units)

pub demand3 : (edition : Edition) → Demand3 edition
demand3 edition = record {
  of_letter = λ side s headers elements e. record {
    exactly = exactly edition side s headers elements e;
    once = once edition side s headers elements e;
    ordered = ordered edition side s headers elements e;
    lists = lists edition side s headers elements e;
    lists_16 = lists_16 edition side s headers elements e;
    lists_19 = lists_19 edition side s headers elements e;
    lists_else = lists_else edition side s headers elements e;
    at_most_units = at_most_units edition side s headers elements e;
    at_most_portions = at_most_portions edition side s headers elements e;
    units_enough = units_enough edition side s headers elements e;
  };
}
