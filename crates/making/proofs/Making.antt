-- What the question answers, case by case: a refusal of an entry, 17, 18, or the letter written.
use mathlib.Core.Path.{◌≡◌, refl, ap, sym, ◌∙◌, subst}
use mathlib.Core.List.{List, [], ◌∷◌, ◌++◌}
use Prim.Native.Nat.{ℕ, zero, suc, ◌/◌, ◌<◌, ◌≤◌}
use native.Mathlib.Nat.{zero-add}
use native.Mathlib.Omega.{arith}
use lib.Dec.{eqb}
use lib.ListN.{length, drop}
use lib.Seq.{sets, sets-eq}
use borrow.Author.Tests.{lt-ltb, le-ltb, eqb-true, eqb-false, ne_eqb}
use borrow.Table.Steps.{cases}
use Rattle.std.specs.Prelude.{Result, Err}
use Rattle.octets.specs.Walk.{stream_limit}
use Rattle.normal.specs.Passes.{PutsOctets}
use Rattle.answers.specs.declared.Reason.{Reason}
use Rattle.making.specs.declared.Entry.{Entry}
use Rattle.making.specs.Entries.{Said, said_by, JudgedEntries, entry_refusal, fit, refused_entry, judge_entries_from, judge_entries}
use Rattle.making.specs.Stream.{stream_of}
use Rattle.making.specs.Answers.{not_made, reason_of, made_of, made_output, MakeOutcome}
use Rattle.making.specs.Flat.{entry_width, entry_at, entries_in, entries_of, said_in}
use Rattle.making.specs.Octets.{stream_octets, capped}
use Rattle.making.specs.Lent.{EntryLies, AllLie, size_for}
use Rattle.making.proofs.Fitting.{passed-tests, says}
use Rattle.making.proofs.Octets.{octets-are}
use Rattle.making.proofs.Ruling.{entry-lies}
use Rattle.making.proofs.Sizes.{capped-cases}
use Rattle.making.proofs.Lent.{LieUpTo, all_short, octets-up-to}

module _ (buffer : List ℕ) where
  -- entries that fit, in two parts
  record Parted (done : List Said) (front back : List Entry) (said : List Said) : Type 0 where
    mid : List Said
    front_fits : judge_entries_from buffer done front ≡ fit mid
    back_fits : judge_entries_from buffer mid back ≡ fit said

  parted : (done : List Said) (front back : List Entry) (said : List Said) → judge_entries_from buffer done
      (front ++ back) ≡ fit said → Parted done front back said
  unfolding judge_entries_from
  parted done [] back said e = record { mid = done; front_fits = refl; back_fits = e }
  parted done (x ∷ front) back said e =
      cases (eqb (entry_refusal buffer done x) 0)
      (λ t.
      let p = parted (done ++ (said_by buffer x ∷ [])) front back said (rw t at e) in
      record { mid = p.mid; front_fits = rw t p.front_fits; back_fits = p.back_fits })
      (λ t. let q = rw t at e in let z : ◌≡◌ {A = ℕ} 0 1 = cc in absurd (omega arith))

  one-fits : (done : List Said) (entry : Entry) (said : List Said) → judge_entries_from buffer done (entry ∷ []) ≡ fit said → EntryLies buffer entry
  unfolding judge_entries_from
  one-fits done entry said e =
      cases (eqb (entry_refusal buffer done entry) 0)
      (λ t.
      let p = passed-tests buffer done entry (eqb-true (entry_refusal buffer done entry) 0 t) in
      entry-lies buffer entry p.0 p.1)
      (λ t. let q = rw t at e in let z : ◌≡◌ {A = ℕ} 0 1 = cc in absurd (omega arith))

  -- entries that fit lie in the buffer
  fit-lie : (numbers : List ℕ) (m : ℕ) (said : List Said) → judge_entries buffer (entries_in numbers m) ≡ fit said → LieUpTo buffer numbers m
  unfolding entries_in
  fit-lie numbers zero said e k l = absurd (omega arith)
  fit-lie numbers (suc m) said e k l =
      let p = parted [] (entries_in numbers m) (entry_at numbers m ∷ []) said e in
      cases (eqb k m)
      (λ t. subst (λ (i : ℕ). EntryLies buffer (entry_at numbers i)) (sym (eqb-true k m t)) (one-fits p.mid (entry_at numbers m) said p.back_fits))
      (λ t. fit-lie numbers m p.mid p.front_fits k (omega (arith, eqb-false k m t)))

  -- a refusal has a number
  refused-some : (done : List Said) (entries : List Entry) (number k : ℕ) → judge_entries_from buffer done entries ≡ refused_entry number k → number ≡ 0 → ⊥
  unfolding judge_entries_from
  refused-some done [] number k e z = let y : ◌≡◌ {A = ℕ} 0 1 = cc in omega arith
  refused-some done (x ∷ entries) number k e z =
      cases (eqb (entry_refusal buffer done x) 0)
      (λ t. refused-some (done ++ (said_by buffer x ∷ [])) entries number k (rw t at e) z)
      (λ t.
      let q = rw t at e in
      let m : entry_refusal buffer done x ≡ number = cc in
      eqb-false (entry_refusal buffer done x) 0 t (m ∙ z))

module _ (buffer numbers out : List ℕ) where
  abbrev entries : List Entry
  entries = entries_of numbers

  -- an entry is refused
  refused-by : (j : JudgedEntries) → judge_entries buffer entries ≡ j → (reason : Reason) → Err reason ≡ reason_of j
      → MakeOutcome buffer entries out (not_made reason.number reason.place) out
  unfolding made_of made_output
  refused-by (refused_entry number k) e reason n =
      let same : reason ≡ record { number = number; place = k } = cc in
      let some : (number ≡ 0 → ⊥) = λ z. refused-some buffer [] entries number k e z in
      rw same (record { answered = rw e; put = rw (e, ne_eqb number 0 some) })
  refused-by (fit said) e reason n = absurd cc

  pub make-refused : (reason : Reason) → Err reason ≡ reason_of (judge_entries buffer entries)
      → MakeOutcome buffer entries out (not_made reason.number reason.place) out
  make-refused reason e = refused-by (judge_entries buffer entries) refl reason e

  -- no entry is refused
  fits_by : (j : JudgedEntries) → judge_entries buffer entries ≡ j → ((reason : Reason) → reason_of j ≡ Err reason → ⊥)
      → judge_entries buffer entries ≡ fit (said_in buffer numbers)
  fits_by (refused_entry number k) e none = absurd (none (record { number = number; place = k }) refl)
  fits_by (fit said) e none = e ∙ ap fit (says buffer entries said e)

  pub make-fits : (judged : Result (Unit {0}) Reason) → judged ≡ reason_of (judge_entries buffer entries) → ((reason : Reason) → judged ≡ Err reason → ⊥)
      → judge_entries buffer entries ≡ fit (said_in buffer numbers)
  make-fits judged e none = fits_by (judge_entries buffer entries) refl (λ reason z. none reason (e ∙ z))

  module _ (fits : judge_entries buffer entries ≡ fit (said_in buffer numbers)) where
    pub make-lie : AllLie buffer numbers
    make-lie = fit-lie buffer numbers (length numbers / entry_width) (said_in buffer numbers) fits

    abbrev stream : List ℕ
    stream = stream_of (said_in buffer numbers)

    stream-is : stream ≡ stream_octets (said_in buffer numbers)
    stream-is = octets-are (said_in buffer numbers) (all_short buffer numbers (length numbers / entry_width) make-lie)

    size_is : length stream ≡ size_for numbers
    size_is =
        let e : length (stream_octets (said_in buffer numbers)) ≡ size_for numbers = omega (
          arith,
          octets-up-to buffer numbers (length numbers / entry_width) make-lie,
        ) in
        ap length stream-is ∙ e

    -- 17
    pub make-long : (size : ℕ) → size ≡ capped (size_for numbers) → stream_limit < size → MakeOutcome buffer entries out (not_made 17 0) out
    unfolding made_of made_output
    make-long size e l =
        let over : stream_limit < length stream
        = capped-cases (size_for numbers) (λ n. n ≡ size → stream_limit < length stream) (λ m f. omega (arith, size_is))
        (λ m f. omega (arith, size_is)) (sym e) in
        let t = lt-ltb stream_limit (length stream) over in
        record { answered = rw (fits, t); put = rw (fits, t) }

    pub make-within : (size : ℕ) → size ≡ capped (size_for numbers) → size ≤ stream_limit → size ≡ size_for numbers
    make-within size e l =
        capped-cases (size_for numbers) (λ n. n ≡ size → size ≡ size_for numbers) (λ m f. sym f) (λ m f. absurd (omega arith)) (sym e)

    module _ (within : size_for numbers ≤ stream_limit) where
      -- 18
      pub make-short : length out < size_for numbers → MakeOutcome buffer entries out (not_made 18 0) out
      unfolding made_of made_output
      make-short l =
          let t = le-ltb stream_limit (length stream) (omega (arith, size_is)) in
          let u = lt-ltb (length out) (length stream) (omega (arith, size_is)) in
          record { answered = rw (fits, t, u); put = rw (fits, t, u) }

      pub make-length : (past : ℕ) (after : List ℕ) → PutsOctets out 0 (stream_octets (said_in buffer numbers)) past after → past ≡ size_for numbers
      make-length past after puts = omega (arith, puts.to, ap length stream-is, size_is)

      -- the letter is written
      pub make-written : size_for numbers ≤ length out → (past : ℕ) (after : List ℕ) → PutsOctets out 0 (stream_octets (said_in buffer numbers)) past after
          → MakeOutcome buffer entries out (record { number = 0; place = 0; length = past }) after
      unfolding made_of made_output
      make-written l past after puts =
          let t = le-ltb stream_limit (length stream) (omega (arith, size_is)) in
          let u = le-ltb (length out) (length stream) (omega (arith, size_is)) in
          let whole : past ≡ length stream = omega (arith, puts.to, ap length stream-is) in
          let put = puts.written ∙ ap (sets out 0) (sym stream-is) ∙ sets-eq stream out 0 (omega (arith, size_is))
          ∙ ap (λ (k : ℕ). stream ++ drop k out) (zero-add (length stream)) in
          record { answered = rw (fits, t, u, whole); put = rw (fits, t, u) put }
