-- What is put by the rows of a letter is its reading list.
use mathlib.Core.Path.{◌≡◌, ap, sym, ◌∙◌}
use mathlib.Core.List.{List, ◌++◌}
use Prim.Native.Nat.{ℕ, ◌*◌, ◌≤◌}
use native.Mathlib.Omega.{arith}
use lib.ListN.{length, drop}
use Rattle.rows.specs.Columns.{Bounded}
use Rattle.elements.specs.declared.Edition.{Edition}
use Rattle.elements.specs.Judge.{Element}
use Rattle.letters.specs.Scratch.{LetterRows}
use Rattle.letters.proofs.Table.{letter-apart}
use Rattle.letters.proofs.Telling.{rows_tell}
use Rattle.reading.specs.declared.Side.{Side}
use Rattle.reading.specs.declared.Side.TheVariants.{Layout, Logical}
use Rattle.reading.specs.Match.{matches}
use Rattle.reading.specs.Records.{numbers_of, records, ListsMatches}
use Rattle.reading.specs.Ready.{column_of, PutsAll}
use Rattle.reading.proofs.Putting.{puts-length, puts-count, puts-all, records-back}
use Rattle.reading.proofs.Single.{no-more-than-elements}

module _ {edition : Edition} {s rows : List ℕ} {n : ℕ} (letter : LetterRows edition s rows n) where
  -- the identifiers of either side lie in the stream
  pub bounded-on : (side : Side) → Bounded s rows (column_of side) n
  bounded-on Layout = letter.holds.identifiers
  bounded-on Logical = letter.holds.logicals

  -- all matches of a side are put: that is its list
  pub puts-list : (side given : Side) → side ≡ given → (before after : List ℕ) (count : ℕ) → 3 * n ≤ length before → PutsAll given s rows n before after count
      → ListsMatches side letter.elements before after count
  puts-list side given same-side before after count enough puts =
      let put = puts letter.elements (rows_tell letter) in
      let ms = matches given letter.elements in
      let few = no-more-than-elements letter.elements (letter-apart letter) given in
      let room : 3 * length ms ≤ length before = omega (arith, letter.holds.counted) in
      let counted = puts-count ms put room in
      rw same-side (record {
        counted = counted;
        fits = omega (arith, puts-length put);
        stored = puts-all ms put room ∙ ap (λ (k : ℕ). numbers_of ms ++ drop (3 * k) before) (sym counted);
      })

-- the records of the list are the matches
pub lists-records : {side : Side} {elements : List Element} {before after : List ℕ} {count : ℕ} → ListsMatches side elements before after count
    → records after count ≡ matches side elements
lists-records {side} {elements} {before} {after} {count} lists =
    let ms = matches side elements in
    ap (λ (l : List ℕ). records l count) lists.stored ∙ ap (records (numbers_of ms ++ drop (3 * count) before)) lists.counted
    ∙ records-back ms (drop (3 * count) before)
