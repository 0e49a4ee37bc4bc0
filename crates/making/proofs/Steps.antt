-- The steps of code that makes a letter: one entry more that is judged, looked up, measured or written.
use Rattle.std.specs.Prelude.{Option, Some, None}
use mathlib.Core.Path.{◌≡◌, refl, ap, sym, ◌∙◌}
use mathlib.Core.Bool.{true, false≢true}
use mathlib.Core.List.{List, [], ◌∷◌, ◌++◌, append_assoc}
use mathlib.Core.Option.{some}
use Prim.Native.Nat.{ℕ, ◌+◌, ◌<◌}
use native.Mathlib.Omega.{arith}
use lib.ListN.{length, get_elem?}
use lib.Seq.{length-slice}
use borrow.Author.Tests.{ne_eqb}
use borrow.Table.Steps.{cases}
use Rattle.names.specs.Names.{grouped, is_identifier, same}
use Rattle.names.proofs.Same.{same-eq, same_refl}
use Rattle.rows.specs.Columns.{identifier_column, first_at, past_at}
use Rattle.rows.specs.Rows.{name_space_of}
use Rattle.rows.specs.Chains.{Has, FindsRow}
use Rattle.judging.proofs.Lists.{below_length, at-below, any-true, any_false}
use Rattle.making.specs.declared.Entry.{Entry}
use Rattle.making.specs.Entries.{Said, said_by, used, entry_refusal, refused_entry, judge_entries_from, Spelt}
use Rattle.making.specs.Octets.{entry_size, entry_octets, block_octets, unit_octets, entries_octets, entries_size}
use Rattle.making.specs.Keeps.{block_space, Keeps, is_found}

-- one entry judged: the judge goes on with the next, or ends
module _ (buffer : List ℕ) (done : List Said) (entry : Entry) (entries : List Entry) where
  pub judge-more : entry_refusal buffer done entry ≡ 0
      → judge_entries_from buffer done (entry ∷ entries) ≡ judge_entries_from buffer (done ++ (said_by buffer entry ∷ [])) entries
  unfolding judge_entries_from
  judge-more e = rw e

  pub judge-stops : (entry_refusal buffer done entry ≡ 0 → ⊥)
      → judge_entries_from buffer done (entry ∷ entries) ≡ refused_entry (entry_refusal buffer done entry) (length done)
  unfolding judge_entries_from
  judge-stops n = rw (ne_eqb (entry_refusal buffer done entry) 0 n)

-- 15 by the index: a row with the identifier is found exactly when it was used before
module _ {buffer rows index : List ℕ} {n : ℕ} {done : List Said} (keeps : Keeps buffer rows index n done) (said : Said) (spelt : Spelt said) where
  -- no identifier is empty
  some-octets : (xs : List ℕ) → is_identifier xs ≡ true → 0 < length xs
  unfolding is_identifier grouped
  some-octets [] e = absurd (false≢true e)
  some-octets (x ∷ xs) e = omega arith

  has : (j : ℕ) (x : Said) → get_elem? done j ≡ some x → same x.identifier said.identifier ≡ true
      → Has buffer rows identifier_column n block_space said.identifier j
  unfolding name_space_of
  has j x e t =
      let l : j < n = omega (arith, below_length done j x e, keeps.counted) in
      let v = keeps.values j x e ∙ same-eq x.identifier said.identifier t in
      let size = length-slice (first_at rows identifier_column j) (past_at rows identifier_column j) buffer (keeps.bounded.inside j l) in
      let s = some-octets said.identifier spelt.identifier in
      record { below = l; present = omega (arith, ap length v); of_space = ap name_space_of (keeps.kinds j l); of_bytes = v }

  pub used-found : (found : Option ℕ) → FindsRow buffer rows identifier_column n block_space said.identifier found → used done said ≡ is_found found
  unfolding used
  used-found (Some j) (h, last) =
      let (x, e) = at-below done j (omega (arith, h.below, keeps.counted)) in
      let v : x.identifier ≡ said.identifier = sym (keeps.values j x e) ∙ h.of_bytes in
      any-true (λ d. same d.identifier said.identifier) done j x e (rw v (same_refl said.identifier))
  used-found None none =
      any_false (λ d. same d.identifier said.identifier) done
      (λ j x e. cases (same x.identifier said.identifier) (λ t. absurd (none j (has j x e t))) (λ t. t))

-- the octets of an entry go before what follows,
pub entry-then : (said : Said) (after : List ℕ) → block_octets said (unit_octets said after) ≡ entry_octets said ++ after
unfolding block_octets unit_octets
entry-then said after = simp append_assoc

-- so an entry more is written after those that are done, and adds its size
pub written-more : (done : List Said) (said : Said) → entries_octets (done ++ (said ∷ [])) ≡ entries_octets done ++ entry_octets said
unfolding entries_octets
written-more [] said = refl
written-more (x ∷ done) said =
    ap (λ (l : List ℕ). block_octets x (unit_octets x l)) (written-more done said)
    ∙ entry-then x (entries_octets done ++ entry_octets said)
    ∙ sym (append_assoc (entry_octets x) (entries_octets done) (entry_octets said))
    ∙ ap (λ (l : List ℕ). l ++ entry_octets said) (sym (entry-then x (entries_octets done)))

pub measured-more : (done : List Said) (said : Said) → entries_size (done ++ (said ∷ [])) ≡ entries_size done + entry_size said
unfolding entries_size
measured-more [] said = omega arith
measured-more (x ∷ done) said = let e = measured-more done said in omega arith
