-- The judge of entries between two of them: those before have passed, and scratch keeps them.
use mathlib.Core.Path.{◌≡◌, refl, ap, sym, ◌∙◌}
use mathlib.Core.Logic.{◌⊎◌, inl, inr}
use mathlib.Core.List.{List, [], ◌∷◌, ◌++◌, map}
use Prim.Native.Nat.{ℕ, ◌+◌, ◌-◌, ◌*◌, ◌/◌, ◌<◌, ◌≤◌}
use native.Mathlib.Numerals.{add-one}
use native.Mathlib.Omega.{arith}
use lib.ListN.{length, replicate, length-replicate}
use Rattle.std.specs.Prelude.{Ok, Err}
use Rattle.names.specs.Hash.{hashes}
use Rattle.rows.specs.Rows.{scratch_width}
use Rattle.rows.specs.Index.{links_begin}
use Rattle.answers.proofs.Zeros.{zeros-unused}
use Rattle.making.specs.Entries.{Said, said_by, entry_refusal, fit, refused_entry, judge_entries_from, judge_entries}
use Rattle.making.specs.Answers.{reason_of}
use Rattle.making.specs.Flat.{entry_width, entry_at, entries_in}
use Rattle.making.specs.Keeps.{Keeps, Roomy}
use Rattle.making.proofs.Fitting.{fit-few, fitting-from, count-said}
use Rattle.making.proofs.Flat.{count-in, fits_on, refused-at}
use Rattle.making.proofs.Keeping.{keeps-none}

-- an entry that is kept is one of so many
below : (count most : ℕ) → (count ≤ most) ⊎ (2047 ≤ most) → (k : ℕ) → k < count → k < 2047 → k < most
below count most (inl e) k l m = omega arith
below count most (inr e) k l m = omega arith

-- arrays of zeros are what is lent
pub zeros-roomy : (numbers : List ℕ) (rows index most : ℕ) → (length numbers / entry_width ≤ most) ⊎ (2047 ≤ most) → most * scratch_width ≤ rows
    → most < index - links_begin index → 0 < links_begin index → links_begin index ≤ hashes → Roomy numbers (replicate rows 0) (replicate index 0)
zeros-roomy numbers rows index most enough room links some few =
    let z = zeros-unused index some few in record {
      unused = z.unused;
      some_links = omega (arith, z.links);
      rows_fit = λ k l m. omega (arith, below (length numbers / entry_width) most enough k l m, length-replicate {A = ℕ} rows 0);
      links_fit = λ k l m. omega (arith, below (length numbers / entry_width) most enough k l m, z.links);
    }

-- where the links begin in the arrays of either size
pub few-links : links_begin 385 ≡ 256
unfolding links_begin
few-links = refl

pub many-links : links_begin 6145 ≡ 4096
unfolding links_begin
many-links = refl

pub record Judging (buffer numbers rows index : List ℕ) (k : ℕ) : Type 0 where
  pub done : List Said
  pub so_far : judge_entries buffer (entries_in numbers k) ≡ fit done
  pub keeps : Keeps buffer rows index k done

pub judging-none : (buffer numbers rows index : List ℕ) → Roomy numbers rows index → Judging buffer numbers rows index 0
unfolding entries_in judge_entries_from
judging-none buffer numbers rows index roomy =
    record {
      done = [];
      so_far = refl;
      keeps = keeps-none buffer rows index roomy.unused roomy.some_links;
    }

module _ {buffer numbers rows index : List ℕ} {k : ℕ} (j : Judging buffer numbers rows index k) where
  -- no more than fit
  pub few-done : k ≤ 2047
  few-done =
      let f = fitting-from buffer [] (entries_in numbers k) j.done j.so_far in
      let n = count-said buffer (entries_in numbers k) j.done j.so_far in
      let l = fit-few [] (map (said_by buffer) (entries_in numbers k)) (omega arith) f.all_fit in
      omega (arith, l, ap length f.says, n, count-in numbers k)

  -- entry k is refused: that is the answer
  pub stopped-at : (number m : ℕ) → k < m → number ≡ entry_refusal buffer j.done (entry_at numbers k) → (number ≡ 0 → ⊥)
      → Err (record { number = number; place = k }) ≡ reason_of (judge_entries buffer (entries_in numbers m))
  stopped-at number m l e n =
      ap (λ (x : ℕ). reason_of (refused_entry x k)) e
      ∙ sym (ap reason_of (refused-at buffer numbers k j.done j.so_far (λ z. n (e ∙ z)) m l))

  -- entry k passes
  pub judging-more : {rows' index' : List ℕ} → 0 ≡ entry_refusal buffer j.done (entry_at numbers k)
      → Keeps buffer rows' index' (k + 1) (j.done ++ (said_by buffer (entry_at numbers k) ∷ [])) → Judging buffer numbers rows' index' (k + 1)
  judging-more e keeps = record {
    done = j.done ++ (said_by buffer (entry_at numbers k) ∷ []);
    so_far = ap (λ (n : ℕ). judge_entries buffer (entries_in numbers n)) (add-one k) ∙ fits_on buffer numbers k j.done j.so_far (sym e);
    keeps = keeps;
  }

  -- no entry is left
  pub none_left : Ok tt ≡ reason_of (judge_entries buffer (entries_in numbers k))
  none_left = sym (ap reason_of j.so_far)
