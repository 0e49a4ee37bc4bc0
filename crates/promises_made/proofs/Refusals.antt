-- The refusals of entries: which they are and where, and that 9 is given at entry 2,047.
use mathlib.Core.Path.{◌≡◌, refl, ap, sym, ◌∙◌}
use mathlib.Core.Bool.{Bool, true, false, not}
use mathlib.Core.Option.{some}
use mathlib.Core.List.{List, [], ◌∷◌, ◌++◌, map}
use Prim.Native.Nat.{ℕ, suc, ◌+◌, ◌<◌, ◌≤◌}
use native.Mathlib.Omega.{arith}
use lib.Dec.{eqb, ltb}
use lib.ListN.{length, take, get_elem?, length-map}
use borrow.Author.Tests.{ltb-true, lt-ltb, eqb-true, eqb-false}
use borrow.Table.Steps.{cases}
use Rattle.headers.specs.Head.{is_in}
use Rattle.elements.specs.Judge.{most_elements, first_of, ◌when◌}
use Rattle.making.specs.declared.Entry.{Entry}
use Rattle.making.specs.Entries.{Said, said_by, parts_inside, all_spelt, used, elements_for, entry_refusal, fit, refused_entry, judge_entries_from, judge_entries}
use Rattle.promises_made.specs.Promises.{EntryRefusedBy, FirstRefused, Refuses}
use Rattle.making.proofs.Ruling.{refuses-27, refuses-14, refuses-15, refuses-9, refuses-none}
use Rattle.making.proofs.Fitting.{one_more, fits_one, fitting-from, judged-on, fit-few, says, count-said}

-- the number of one entry: one of four, or none; and 9 only by its own test
four : (a b c d : Bool) (n : ℕ) → first_of ((27 when not a) ∷ (14 when not b) ∷ (15 when c) ∷ (9 when d) ∷ []) ≡ n → (n ≡ 0 → ⊥)
    → is_in n (27 ∷ 14 ∷ 15 ∷ 9 ∷ []) ≡ true
four true true false false n e z = absurd (z (sym e))
four true true false true n e z = rw (sym e)
four true true true d n e z = rw (sym e)
four true false c d n e z = rw (sym e)
four false b c d n e z = rw (sym e)

only-nine : (a b c d : Bool) → first_of ((27 when not a) ∷ (14 when not b) ∷ (15 when c) ∷ (9 when d) ∷ []) ≡ 9 → d ≡ true
only-nine true true false false e = absurd (omega arith)
only-nine true true false true e = refl
only-nine true true true d e = absurd (omega arith)
only-nine true false c d e = absurd (omega arith)
only-nine false b c d e = absurd (omega arith)

module _ (buffer : List ℕ) where
  told-from : (done : List Said) (entries : List Entry) (number entry : ℕ) → judge_entries_from buffer done entries ≡ refused_entry number entry
      → (is_in number (27 ∷ 14 ∷ 15 ∷ 9 ∷ []) ≡ true) × (entry < length done + length entries)
  unfolding judge_entries_from entry_refusal
  told-from done [] number entry e = let z : ◌≡◌ {A = ℕ} 0 1 = cc in absurd (omega arith)
  told-from done (x ∷ entries) number entry e =
      cases (eqb (entry_refusal buffer done x) 0)
      (λ t.
      let r = told-from (done ++ (said_by buffer x ∷ [])) entries number entry (rw t at e) in
      let n = one_more done (said_by buffer x) in
      (r.0, omega (arith, r.1)))
      (λ t.
      let q = rw t at e in
      let m : entry_refusal buffer done x ≡ number = cc in
      let p : length done ≡ entry = cc in (
        four (parts_inside buffer x) (all_spelt (said_by buffer x)) (used done (said_by buffer x)) (ltb most_elements (elements_for (suc (length done)))) number m
            (λ z. eqb-false (entry_refusal buffer done x) 0 t (m ∙ z)),
        omega arith,
      ))

  -- each number by its own test, if those before it pass
  order : (done : List Said) (entry : Entry) → EntryRefusedBy buffer done entry
  order done entry = record {
    outside = refuses-27 buffer done entry;
    misspelt = refuses-14 buffer done entry;
    again = refuses-15 buffer done entry;
    many = refuses-9 buffer done entry;
    fits = refuses-none buffer done entry;
  }

  -- 9 at an entry, after some that are within the elements
  nine-from : (done : List Said) (entries : List Entry) (entry : ℕ) → length done ≤ 2047 → judge_entries_from buffer done entries ≡ refused_entry 9 entry → entry ≡ 2047
  unfolding judge_entries_from entry_refusal
  nine-from done [] entry l e = let z : ◌≡◌ {A = ℕ} 0 1 = cc in absurd (omega arith)
  nine-from done (x ∷ entries) entry l e =
      cases (eqb (entry_refusal buffer done x) 0)
      (λ t.
      let few = (fits_one buffer done x (eqb-true (entry_refusal buffer done x) 0 t)).few in
      let n = one_more done (said_by buffer x) in
      nine-from (done ++ (said_by buffer x ∷ [])) entries entry (omega arith) (rw t at e))
      (λ t.
      let q = rw t at e in
      let m : entry_refusal buffer done x ≡ 9 = cc in
      let p : length done ≡ entry = cc in
      let o = only-nine (parts_inside buffer x) (all_spelt (said_by buffer x)) (used done (said_by buffer x))
      (ltb most_elements (elements_for (suc (length done)))) m in
      omega (arith, ltb-true most_elements (elements_for (suc (length done))) o))

  nine-one : (said : List Said) (entry : Entry) (more : List Entry) → length said ≡ 2047 → parts_inside buffer entry ≡ true
      → all_spelt (said_by buffer entry) ≡ true → used said (said_by buffer entry) ≡ false → judge_entries_from buffer said (entry ∷ more) ≡ refused_entry 9 2047
  unfolding judge_entries_from entry_refusal
  nine-one said entry more n i w u =
      let l : most_elements < elements_for (suc (length said)) = omega arith in
      rw (i, w, u, lt-ltb most_elements (elements_for (suc (length said))) l, n)

  -- the first that is refused, after some that are done
  record FirstAfter (done : List Said) (entries : List Entry) (number k : ℕ) : Type 0 where
    place : ℕ
    at_place : k ≡ length done + place
    before : List Said
    fit_before : judge_entries_from buffer done (take place entries) ≡ fit before
    entry : Entry
    there : get_elem? entries place ≡ some entry
    by : entry_refusal buffer before entry ≡ number

  first-from : (done : List Said) (entries : List Entry) (number k : ℕ) → judge_entries_from buffer done entries ≡ refused_entry number k → FirstAfter done entries number k
  unfolding judge_entries_from
  first-from done [] number k e = let z : ◌≡◌ {A = ℕ} 0 1 = cc in absurd (omega arith)
  first-from done (x ∷ entries) number k e =
      cases (eqb (entry_refusal buffer done x) 0)
      (λ t.
      let f = first-from (done ++ (said_by buffer x ∷ [])) entries number k (rw t at e) in
      let n = one_more done (said_by buffer x) in
      record {
        place = suc f.place;
        at_place = f.at_place ∙ omega arith;
        before = f.before;
        fit_before = rw t f.fit_before;
        entry = f.entry;
        there = f.there;
        by = f.by;
      })
      (λ t.
      let q = rw t at e in
      let m : entry_refusal buffer done x ≡ number = cc in
      let p : length done ≡ k = cc in
      record { place = 0; at_place = sym p ∙ omega arith; before = done; fit_before = refl; entry = x; there = refl; by = m })

  first : (entries : List Entry) (number k : ℕ) → judge_entries buffer entries ≡ refused_entry number k → FirstRefused buffer entries number k
  first entries number k e =
      let f = first-from [] entries number k e in
      let p : k ≡ f.place = f.at_place ∙ omega arith in
      record {
        before = f.before;
        fit_before = ap (λ (n : ℕ). judge_entries buffer (take n entries)) p ∙ f.fit_before;
        entry = f.entry;
        there = ap (get_elem? entries) p ∙ f.there;
        by = f.by;
      }

  -- The refusals of entries are as promised.
  pub refuses : Refuses buffer
  refuses = record {
    order = order;
    first = first;
    told = λ entries number entry e. let r = told-from [] entries number entry e in (r.0, omega (arith, r.1));
    says = says buffer;
    nine = λ entries entry e. nine-from [] entries entry (omega arith) e;
    nine_given = λ entries said e n entry more i w u.
        judged-on buffer [] entries (entry ∷ more) said e ∙ nine-one said entry more (count-said buffer entries said e ∙ n) i w u;
    at_most = λ entries said e.
        let f = fitting-from buffer [] entries said e in
        let l = fit-few [] (map (said_by buffer) entries) (omega arith) f.all_fit in
        let n = length-map entries (said_by buffer) in
        omega arith;
  }
