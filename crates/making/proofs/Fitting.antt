-- What it is that no entry is refused: each is well spelt, has an identifier that no entry before it has, and is within the elements. The
-- judge of entries, taken apart.
use mathlib.Core.Path.{◌≡◌, refl, ap, sym, ◌∙◌}
use mathlib.Core.Bool.{Bool, true, false, not}
use mathlib.Core.List.{List, [], ◌∷◌, ◌++◌, map, append-nil}
use Prim.Native.Nat.{ℕ, suc, ◌+◌, ◌≤◌}
use native.Mathlib.Omega.{arith}
use lib.Dec.{eqb, ltb}
use lib.ListN.{length, length-append, length-map}
use lib.Seq.{append_snoc}
use borrow.Author.Tests.{ltb-false, eqb-true}
use borrow.Table.Steps.{cases}
use Rattle.elements.specs.Judge.{most_elements, first_of, ◌when◌}
use Rattle.making.specs.declared.Entry.{Entry}
use Rattle.making.specs.Entries.{Said, said_by, parts_inside, all_spelt, used, elements_for, entry_refusal, fit, judge_entries_from, judge_entries, Spelt}
use Rattle.making.proofs.Spelling.{spelt}

-- an entry fits after those that are done
pub record Fits (done : List Said) (said : Said) : Type 0 where
  pub well : Spelt said
  pub fresh : used done said ≡ false
  pub few : elements_for (suc (length done)) ≤ most_elements

-- entries fit one after another
abbrev pub AllFit : (done : List Said) → List Said → Type 0
AllFit done [] = Unit {0}
AllFit done (said ∷ more) = Fits done said × AllFit (done ++ (said ∷ [])) more

-- one entry more
pub one_more : (done : List Said) (said : Said) → length (done ++ (said ∷ [])) ≡ suc (length done)
one_more done said = length-append done (said ∷ []) ∙ omega arith

-- no more than 2,047 of them
pub fit-few : (done said : List Said) → length done ≤ 2047 → AllFit done said → length done + length said ≤ 2047
fit-few done [] l f = omega arith
fit-few done (x ∷ said) l (f, more) =
    let n = one_more done x in
    let few = f.few in
    let r = fit-few (done ++ (x ∷ [])) said (omega arith) more in
    omega arith

-- the tests of one entry, of which none refuses
record Passed (a b c d : Bool) : Type 0 where
  first : a ≡ true
  second : b ≡ true
  third : c ≡ false
  fourth : d ≡ false

passed : (a b c d : Bool) → first_of ((27 when not a) ∷ (14 when not b) ∷ (15 when c) ∷ (9 when d) ∷ []) ≡ 0 → Passed a b c d
passed true true false false e = record { first = refl; second = refl; third = refl; fourth = refl }
passed true true false true e = absurd (omega arith)
passed true true true d e = absurd (omega arith)
passed true false c d e = absurd (omega arith)
passed false b c d e = absurd (omega arith)

module _ (buffer : List ℕ) where
  -- it passes 27 and 14
  pub passed-tests : (done : List Said) (entry : Entry) → entry_refusal buffer done entry ≡ 0
      → (parts_inside buffer entry ≡ true) × (all_spelt (said_by buffer entry) ≡ true)
  unfolding entry_refusal
  passed-tests done entry e =
      let p = passed (parts_inside buffer entry) (all_spelt (said_by buffer entry)) (used done (said_by buffer entry))
      (ltb most_elements (elements_for (suc (length done)))) e in
      (p.first, p.second)

  pub fits_one : (done : List Said) (entry : Entry) → entry_refusal buffer done entry ≡ 0 → Fits done (said_by buffer entry)
  unfolding entry_refusal
  fits_one done entry e =
      let p = passed (parts_inside buffer entry) (all_spelt (said_by buffer entry)) (used done (said_by buffer entry))
      (ltb most_elements (elements_for (suc (length done)))) e in
      record {
        well = spelt (said_by buffer entry) p.second;
        fresh = p.third;
        few = ltb-false most_elements (elements_for (suc (length done))) p.fourth;
      }

  -- no entry is refused: they fit, and what they say is what their parts hold
  pub record Fitting (done : List Said) (entries : List Entry) (said : List Said) : Type 0 where
    pub says : said ≡ done ++ map (said_by buffer) entries
    pub all_fit : AllFit done (map (said_by buffer) entries)

  pub fitting-from : (done : List Said) (entries : List Entry) (said : List Said) → judge_entries_from buffer done entries ≡ fit said → Fitting done entries said
  unfolding judge_entries_from
  fitting-from done [] said e =
      let p : done ≡ said = cc in
      record { says = sym p ∙ sym (append-nil done); all_fit = tt }
  fitting-from done (entry ∷ entries) said e =
      cases (eqb (entry_refusal buffer done entry) 0)
      (λ t.
      let f = fitting-from (done ++ (said_by buffer entry ∷ [])) entries said (rw t at e) in
      record {
        says = f.says ∙ append_snoc done (said_by buffer entry) (map (said_by buffer) entries);
        all_fit = (fits_one done entry (eqb-true (entry_refusal buffer done entry) 0 t), f.all_fit);
      })
      (λ t. let q = rw t at e in let z : ◌≡◌ {A = ℕ} 0 1 = cc in absurd (omega arith))

  -- entries after some that fit
  pub judged-on : (done : List Said) (entries rest : List Entry) (said : List Said) → judge_entries_from buffer done entries ≡ fit said
      → judge_entries_from buffer done (entries ++ rest) ≡ judge_entries_from buffer said rest
  unfolding judge_entries_from
  judged-on done [] rest said e = let p : done ≡ said = cc in ap (λ (d : List Said). judge_entries_from buffer d rest) p
  judged-on done (x ∷ entries) rest said e =
      cases (eqb (entry_refusal buffer done x) 0)
      (λ t. rw t (judged-on (done ++ (said_by buffer x ∷ [])) entries rest said (rw t at e)))
      (λ t. let q = rw t at e in let z : ◌≡◌ {A = ℕ} 0 1 = cc in absurd (omega arith))

  pub says : (entries : List Entry) (said : List Said) → judge_entries buffer entries ≡ fit said → said ≡ map (said_by buffer) entries
  says entries said e = (fitting-from [] entries said e).says

  pub count-said : (entries : List Entry) (said : List Said) → judge_entries buffer entries ≡ fit said → length said ≡ length entries
  count-said entries said e = ap length (says entries said e) ∙ length-map entries (said_by buffer)
