-- Each promise by whether the scratch is too small: then 32 is given, and else the short normal form's answer, whose promises are those of crate
-- promises.
use mathlib.Core.Path.{◌≡◌, refl, ap, sym, ◌∙◌}
use mathlib.Core.Logic.{◌⊎◌, inl, inr, ◌↔◌}
use mathlib.Core.Bool.{Bool, true, false, false≢true}
use mathlib.Core.List.{List, [], ◌∷◌}
use Prim.Native.Nat.{ℕ, suc, ◌<◌, ◌≤◌}
use native.Mathlib.Omega.{arith}
use lib.Dec.{eqb, ltb}
use lib.ListN.{length}
use borrow.Author.Tests.{lt-ltb, le-ltb, ltb-true, ltb-false, eqb-true}
use borrow.Table.Steps.{cases}
use Rattle.std.specs.Prelude.{Ok, Err}
use Rattle.laws.proofs.Tests.{cond-holds}
use Rattle.headers.specs.Head.{is_in}
use Rattle.octets.specs.Told.{Outcome, refused}
use Rattle.octets.specs.Walk.{Items, no_items, item, walk_of}
use Rattle.runs.specs.Runs.{tops}
use Rattle.normal.specs.Short.{short_limit}
use Rattle.elements.specs.declared.Edition.{Edition}
use Rattle.elements.specs.Judge.{Element, most_elements}
use Rattle.elements.specs.ElementRows.{rows_of}
use Rattle.letters.specs.Letter.{letter, letter_in, items_of_stream}
use Rattle.letters.specs.Lent.{rows_needed}
use Rattle.answers.specs.declared.Written.{Written}
use Rattle.letters.proofs.Letters.{refused-walk}
use Rattle.lent.specs.Lent.{rows_for, index_for, too_few, once_walked, is_lacking, written_lent, written_lent_output}
use Rattle.promises.specs.Demands.{Answered}
use Rattle.promises.proofs.Demand1.{told-own}
use Rattle.promises.proofs.Demand2.{demand2}
use Rattle.promises.proofs.Mailroom.{mailroom}
use Rattle.promises.proofs.Editions.{editions}
use Rattle.promises_lent.specs.Promises.{Walked, Lacking, AsShort, Lent, Promises}
use Rattle.lent.proofs.Cleared.{size-for}
use Rattle.promises_lent.proofs.Sizes.{size-tight, rows_grow, index-grows}

-- a number more that may be given
wider : {s : List ℕ} {number place : ℕ} → Answered s (18 ∷ []) number place → Answered s (18 ∷ 32 ∷ []) number place
wider {number = number} a = record { one_of = more a.one_of; inside = a.inside; at_start = a.at_start }
  where
    more : (number ≤ 15) ⊎ (is_in number (18 ∷ []) ≡ true) → (number ≤ 15) ⊎ (is_in number (18 ∷ 32 ∷ []) ≡ true)
    more (inl l) = inl l
    more (inr i) = inr (cases (eqb number 18) (λ t. rw t refl) (λ t. absurd (false≢true (rw t at i))))

-- no other question of the mailroom gives 32
not-32 : {s : List ℕ} {number place : ℕ} → Answered s (18 ∷ []) number place → number ≡ 32 → ⊥
not-32 {number = number} a e = none a.one_of
  where
    none : (number ≤ 15) ⊎ (is_in number (18 ∷ []) ≡ true) → ⊥
    none (inl l) = omega (arith, l, e)
    none (inr i) = cases (eqb number 18) (λ t. omega (arith, eqb-true number 18 t, e)) (λ t. false≢true (rw t at i))

-- there is a row for each item of the stream
rows-tops : (edition : Edition) (s : List ℕ) (items : Items) → length (rows_of edition s items) ≡ tops items
unfolding rows_of
rows-tops edition s no_items = refl
rows-tops edition s (item at code first past inside after) = ap suc (rows-tops edition s after)

module _ (s : List ℕ) (rows index : ℕ) where
  few-is : too_few s rows index ≡ true → (rows < rows_for (rows_needed s)) ⊎ (index < index_for (rows_needed s))
  few-is e =
      cases (ltb rows (rows_for (rows_needed s)))
      (λ t. inl (ltb-true _ _ t))
      (λ t. inr (ltb-true index (index_for (rows_needed s)) (rw t at e)))

  is-few : (rows < rows_for (rows_needed s)) ⊎ (index < index_for (rows_needed s)) → too_few s rows index ≡ true
  is-few (inl l) = rw (lt-ltb _ _ l)
  is-few (inr l) = cases (ltb rows (rows_for (rows_needed s))) (λ t. rw t) (λ t. rw t (lt-ltb _ _ l))

  enough-is : rows_for (rows_needed s) ≤ rows → index_for (rows_needed s) ≤ index → too_few s rows index ≡ false
  enough-is r i = rw (le-ltb rows (rows_for (rows_needed s)) r, le-ltb index (index_for (rows_needed s)) i)

  never-lacks : (o : Outcome) → too_few s rows index ≡ false → once_walked o (too_few s rows index) ≡ false
  never-lacks (Ok o) e = e
  never-lacks (Err fault) e = refl

  not-lacking : too_few s rows index ≡ false → is_lacking s rows index ≡ false
  not-lacking e = cond-holds (λ (b : Bool). b ≡ false) (ltb short_limit (length s)) (λ _. refl) (λ _. never-lacks (walk_of s) e)

  walked_by : (o : Outcome) → walk_of s ≡ o → once_walked o (too_few s rows index) ≡ true → Walked s × (too_few s rows index ≡ true)
  walked_by (Ok o) w e = (record { at = o.at; headers = o.count; ended = w }, e)
  walked_by (Err fault) w e = absurd (false≢true e)

  is-lacking : is_lacking s rows index ≡ true → Lacking s rows index
  is-lacking e =
      cases (ltb short_limit (length s))
      (λ t. absurd (false≢true (rw t at e)))
      (λ t.
      let by = walked_by (walk_of s) refl (rw t at e) in
      record { short = ltb-false short_limit (length s) t; walked = by.0; few = few-is by.1 })

  lacking-is : Lacking s rows index → is_lacking s rows index ≡ true
  lacking-is l = rw (le-ltb short_limit (length s) l.short, l.walked.ended) (is-few l.few)

  module _ (edition : Edition) (out : List ℕ) where
    as_short : is_lacking s rows index ≡ false → AsShort edition s out rows index
    unfolding written_lent written_lent_output
    as_short e = record { answer = rw e; output = rw e }

    told : Answered s (18 ∷ 32 ∷ []) (written_lent edition s out rows index).number (written_lent edition s out rows index).place
    unfolding written_lent
    told = cond-holds (λ (a : Written). Answered s (18 ∷ 32 ∷ []) a.number a.place) (is_lacking s rows index)
        (λ _. told-own s (18 ∷ 32 ∷ []) 32 refl) (λ _. wider ((mailroom edition).told s out))

    counts : ((written_lent edition s out rows index).number ≡ 0 → ⊥) → (written_lent edition s out rows index).length ≡ 0
    unfolding written_lent
    counts = cond-holds (λ (a : Written). (a.number ≡ 0 → ⊥) → a.length ≡ 0) (is_lacking s rows index) (λ _ n. refl)
        (λ _. (mailroom edition).counts s out)

    untouched : ((written_lent edition s out rows index).number ≡ 0 → ⊥) → written_lent_output edition s out rows index ≡ out
    unfolding written_lent written_lent_output
    untouched n = cases (is_lacking s rows index) (λ t. rw t) (λ t. rw t ((mailroom edition).untouched s out (rw t at n)))

    gives-32 : ((written_lent edition s out rows index).number ≡ 32) ↔ Lacking s rows index
    unfolding written_lent
    gives-32 = (
      λ e. cases (is_lacking s rows index) is-lacking (λ t. absurd (not-32 ((mailroom edition).told s out) (rw t at e))),
      λ l. rw (lacking-is l),
    )

    otherwise : ((written_lent edition s out rows index).number ≡ 32 → ⊥) → AsShort edition s out rows index
    otherwise n = cases (is_lacking s rows index) (λ t. absurd (n (gives-32.1 (is-lacking t)))) as_short

    -- a letter needs a row for each element
    letter-needs : (headers : ℕ) (elements : List Element) → letter_in edition s ≡ letter headers elements → rows_needed s ≤ length elements
    letter-needs headers elements e =
        omega (arith, rows-tops edition s (items_of_stream s), ((demand2 edition).of_letter s headers elements e).rows_counted)

    enough : (n : ℕ) → rows_needed s ≤ n → rows_for n ≤ rows → index_for n ≤ index → AsShort edition s out rows index
    enough n l r i =
        let more = rows_grow (rows_needed s) n l in
        let longer = index-grows (rows_needed s) n l in
        as_short (not-lacking (enough-is (omega (arith, more, r)) (omega (arith, longer, i))))

    by-walk : (number place headers : ℕ) → length s ≤ short_limit → walk_of s ≡ refused number place headers
        → written_lent edition s out rows index ≡ record { number = number; place = place; length = 0 }
    by-walk number place headers l w =
        let few : is_lacking s rows index ≡ false = rw (le-ltb short_limit (length s) l, w) in
        (as_short few).answer ∙ (mailroom edition).refused_alike s out number place headers l (refused-walk edition s number place headers w)

    lent : Lent edition s out rows index
    lent = record {
      told = told;
      counts = counts;
      untouched = untouched;
      lacking = gives-32;
      otherwise = otherwise;
      enough = λ headers elements e. enough (length elements) (letter-needs headers elements e);
      enough_for_any = enough most_elements (omega arith);
      refused_by_walk = by-walk;
      refused_alike = λ number place headers l e r i.
          (as_short (not-lacking (enough-is r i))).answer ∙ (mailroom edition).refused_alike s out number place headers l e;
    }

pub promises : Promises
unfolding written_lent written_lent_output
promises = record {
  each = λ edition s out rows index. lent s rows index edition out;
  fits = λ n l. (size-for n l).enough;
  tight = size-tight;
  grows = λ m n l. (rows_grow m n l, index-grows m n l);
  determined = λ x y. (x.answered ∙ sym y.answered, x.put ∙ sym y.put);
  alike = λ s out rows index e.
      let same = editions.alike s e in
      (rw (same.short out), rw (same.short_output out));
}
