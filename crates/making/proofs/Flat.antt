-- The judge over entries as numbers: what the loop of code keeps. Up to entry k all fit; entry k fits too, or is what the answer is, whatever
-- follows it.
use mathlib.Core.Path.{◌≡◌, refl, ap, sym, ◌∙◌}
use mathlib.Core.List.{List, [], ◌∷◌, ◌++◌}
use Prim.Native.Nat.{ℕ, zero, suc, ◌<◌}
use native.Mathlib.Omega.{arith}
use lib.Dec.{eqb}
use lib.ListN.{length, length-append}
use borrow.Author.Tests.{eqb-true, eqb-false}
use borrow.Table.Steps.{cases}
use Rattle.making.specs.declared.Entry.{Entry}
use Rattle.making.specs.Entries.{Said, said_by, entry_refusal, fit, refused_entry, judge_entries_from, judge_entries}
use Rattle.making.specs.Flat.{entry_at, entries_in}
use Rattle.making.proofs.Fitting.{judged-on, count-said}
use Rattle.making.proofs.Steps.{judge-more, judge-stops}

pub count-in : (numbers : List ℕ) (k : ℕ) → length (entries_in numbers k) ≡ k
unfolding entries_in
count-in numbers zero = refl
count-in numbers (suc k) = let e = count-in numbers k in length-append (entries_in numbers k) (entry_at numbers k ∷ []) ∙ omega arith

-- what follows a refusal is not looked at
refused-on : (buffer : List ℕ) (done : List Said) (entries rest : List Entry) (number k : ℕ) → judge_entries_from buffer done entries ≡ refused_entry number k
    → judge_entries_from buffer done (entries ++ rest) ≡ refused_entry number k
unfolding judge_entries_from
refused-on buffer done [] rest number k e = let z : ◌≡◌ {A = ℕ} 0 1 = cc in absurd (omega arith)
refused-on buffer done (x ∷ entries) rest number k e =
    cases (eqb (entry_refusal buffer done x) 0)
    (λ t. rw t (refused-on buffer (done ++ (said_by buffer x ∷ [])) entries rest number k (rw t at e)))
    (λ t. rw t (rw t at e))

module _ (buffer numbers : List ℕ) (k : ℕ) (done : List Said) (so_far : judge_entries buffer (entries_in numbers k) ≡ fit done) where
  pub one_each : length done ≡ k
  one_each = count-said buffer (entries_in numbers k) done so_far ∙ count-in numbers k

  -- entry k fits: so do all up to it
  pub fits_on : entry_refusal buffer done (entry_at numbers k) ≡ 0 → judge_entries buffer (entries_in numbers (suc k)) ≡ fit
      (done ++ (said_by buffer (entry_at numbers k) ∷ []))
  unfolding entries_in judge_entries_from
  fits_on e = judged-on buffer [] (entries_in numbers k) (entry_at numbers k ∷ []) done so_far ∙ judge-more buffer done (entry_at numbers k) [] e

  -- entry k is refused: that is the answer of any entries beyond it
  pub refused-at : (entry_refusal buffer done (entry_at numbers k) ≡ 0 → ⊥) → (m : ℕ) → k < m
      → judge_entries buffer (entries_in numbers m) ≡ refused_entry (entry_refusal buffer done (entry_at numbers k)) k
  unfolding entries_in
  refused-at n zero l = absurd (omega arith)
  refused-at n (suc m) l =
      cases (eqb k m)
      (λ t.
      let e = eqb-true k m t in
      let number = entry_refusal buffer done (entry_at numbers k) in
      ap (λ (j : ℕ). judge_entries buffer (entries_in numbers j ++ (entry_at numbers j ∷ []))) (sym e)
      ∙ judged-on buffer [] (entries_in numbers k) (entry_at numbers k ∷ []) done so_far ∙ judge-stops buffer done (entry_at numbers k) [] n
      ∙ ap (refused_entry number) one_each)
      (λ t.
      let below : k < m = omega (arith, eqb-false k m t) in
      refused-on buffer [] (entries_in numbers m) (entry_at numbers m ∷ []) (entry_refusal buffer done (entry_at numbers k)) k (refused-at n m below))
