-- Demand 1 of the desk: the check's answer decides, and how many pages there are.
use mathlib.Core.Path.{◌≡◌, refl}
use mathlib.Core.Logic.{◌⊎◌, inl, inr}
use mathlib.Core.Bool.{true, false, false≢true}
use mathlib.Core.List.{List, [], ◌∷◌}
use Prim.Native.Nat.{ℕ, ◌≤◌}
use native.Mathlib.Omega.{arith}
use lib.Dec.{eqb, ltb}
use lib.ListN.{length}
use borrow.Author.Tests.{ne_eqb}
use borrow.Table.Steps.{cases}
use Rattle.laws.proofs.Tests.{cond-holds}
use Rattle.headers.specs.Head.{is_in}
use Rattle.elements.specs.declared.Edition.{Edition}
use Rattle.letters.specs.Letter.{refusal, letter_in}
use Rattle.answers.specs.declared.Checked.{Checked}
use Rattle.answers.specs.Answers.{table_of, checked}
use Rattle.answers.proofs.Small.{refusal-small}
use Rattle.promises.specs.Demands.{Answered}
use Rattle.promises.proofs.Demand1.{demand1, told-own, told-zero}
use Rattle.pm1.specs.declared.Paged.{Paged}
use Rattle.pm1.specs.Pages.{pages_in}
use Rattle.pm1.specs.Answers.{list_too_short, pages_lent, paged_after, paged, paged_table, paged_list}

-- a number that the check may give
of-check : (n : ℕ) → (n ≤ 15) ⊎ (is_in n (16 ∷ []) ≡ true) → (n ≤ 15) ⊎ (is_in n (16 ∷ list_too_short ∷ []) ≡ true)
of-check n (inl l) = inl l
of-check n (inr e) = inr (cases (eqb n 16) (λ t. rw t) (λ t. let f : false ≡ true = rw t at e in absurd (false≢true f)))

module _ (s : List ℕ) where
  abbrev Given : Paged → Type 0
  Given a = Answered s (16 ∷ list_too_short ∷ []) a.number a.place

  told-after : (c : Checked) → Answered s (16 ∷ []) c.number c.place → (pages room : ℕ) → Given (paged_after c pages room)
  told-after c t pages room =
      cond-holds Given (eqb c.number 0)
      (λ _. cond-holds Given (ltb room pages) (λ _. told-own s (16 ∷ list_too_short ∷ []) 30 refl) (λ _. told-zero s (16 ∷ list_too_short ∷ [])))
      (λ _. record { one_of = of-check c.number t.one_of; inside = t.inside; at_start = t.at_start })

-- a refusal has no counts, but for the elements of 30
abbrev Counts : Paged → Type 0
Counts a = (a.number ≡ 0 → ⊥) → (a.pages ≡ 0) × ((a.number ≡ list_too_short → ⊥) → a.elements ≡ 0)

counts-after : (c : Checked) (pages room : ℕ) → Counts (paged_after c pages room)
counts-after c pages room =
    cond-holds Counts (eqb c.number 0)
    (λ _. cond-holds Counts (ltb room pages) (λ _ n. (refl, λ m. absurd (m refl))) (λ _ n. absurd (n refl)))
    (λ _ n. (refl, λ m. refl))

module _ (edition : Edition) where
  pub told : (s table : List ℕ) (room : ℕ) → Answered s (16 ∷ list_too_short ∷ []) (paged edition s table room).number (paged edition s table room).place
  unfolding paged
  told s table room = told-after s (checked edition s table) ((demand1 edition).check_told s table) (length (pages_in edition s)) room

  pub refused_alike : (s : List ℕ) (number place headers : ℕ) → letter_in edition s ≡ refusal number place headers → (table : List ℕ) (room : ℕ)
      → paged edition s table room ≡ record { number = number; place = place; elements = 0; pages = 0 }
  unfolding paged checked
  refused_alike s number place headers e table room =
      let other : eqb number 0 ≡ false = ne_eqb number 0 (λ z. omega (arith, (refusal-small edition s number place headers e).low)) in
      rw (e, other)

  pub counts : (s table : List ℕ) (room : ℕ) → Counts (paged edition s table room)
  unfolding paged
  counts s table room = counts-after (checked edition s table) (length (pages_in edition s)) room

  pub untouched : (s table list : List ℕ) → ((paged edition s table (pages_lent list)).number ≡ 0 → ⊥) → paged_list edition s table list ≡ list
  unfolding paged_list
  untouched s table list n = rw (ne_eqb (paged edition s table (pages_lent list)).number 0 n)

  pub table_untouched : (s table : List ℕ) (room : ℕ) → ((paged edition s table room).number ≡ 0 → ⊥)
      → ((paged edition s table room).number ≡ list_too_short → ⊥) → paged_table edition s table room ≡ table
  unfolding paged_table
  table_untouched s table room n m =
      rw (ne_eqb (paged edition s table room).number 0 n, ne_eqb (paged edition s table room).number list_too_short m)

  pub table_finished : (s table : List ℕ) (room : ℕ) → (paged edition s table room).number ≡ list_too_short → paged_table edition s table room ≡ table_of edition s table
  unfolding paged_table
  table_finished s table room e = rw e
