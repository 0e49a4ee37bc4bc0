-- One run of stores after another is one run, so what a line is joined from is stored piece by piece.
use Prim.Native.Nat.{ℕ, suc, ◌+◌, ◌≤◌, ◌<◌}
use native.Mathlib.Nat.{add-zero, zero-add, add-suc, suc-add}
use native.Mathlib.Numerals.{add-one}
use native.Mathlib.Omega.{arith}
use mathlib.Core.Path.{◌≡◌, sym, ◌∙◌}
use mathlib.Core.List.{List, [], ◌∷◌, ◌++◌, append_assoc}
use lib.ListN.{length, drop, get_or, set, length-append, drop_of_length-le}
use lib.Seq.{sets, sets-eq, length-sets, length-take-le, drop-cons}
use Rattle.lister_text.specs.Ascii.{space_byte, newline}
use Rattle.lister_text.specs.Decimal.{decimal}
use Rattle.lister_text.specs.Lines.{spaced, rest, line, WritesLine}

pub sets-join : (l : List ℕ) (i : ℕ) (xs ys : List ℕ) → sets (sets l i xs) (i + length xs) ys ≡ sets l i (xs ++ ys)
sets-join l i [] ys = rw add-zero
sets-join l i (x ∷ xs) ys = rw (add-suc, ← suc-add) (sets-join (set l i x) (suc i) xs ys)

-- the rest of a line, from a number on: the space, the number, and what follows
module _ (numbers : List ℕ) (i : ℕ) (h : i < length numbers) where
  abbrev number : ℕ
  number = get_or numbers i 0

  rest-next : rest (drop i numbers) ≡ space_byte ∷ (decimal number ++ rest (drop (i + 1) numbers))
  unfolding spaced
  rest-next = rw (add-one, drop-cons numbers i 0, append_assoc)

  pub rest-length : (here : ℕ) → here + 1 + length (decimal number) + length (rest (drop (i + 1) numbers)) ≡ here + length (rest (drop i numbers))
  rest-length here = rw rest-next (simp length-append (omega arith))

  pub rest-stores :
      (l : List ℕ) (here : ℕ) →
      sets (sets (set l here space_byte) (here + 1) (decimal number)) (here + 1 + length (decimal number)) (rest (drop (i + 1) numbers)) ≡ sets l here
      (rest (drop i numbers))
  rest-stores l here = rw (rest-next, add-one here, sets-join)

pub rest_end : (numbers : List ℕ) (i : ℕ) → length numbers ≤ i → rest (drop i numbers) ≡ newline ∷ []
unfolding spaced
rest_end numbers i h = rw (drop_of_length-le numbers h)

-- a list that is stored at the front
pub front : (xs l : List ℕ) → length xs ≤ length l → sets l 0 xs ≡ xs ++ drop (length xs) l
front xs l h =
    let room : 0 + length xs ≤ length l = omega arith in
    sets-eq xs l 0 room ∙ rw zero-add

-- a first word that is stored at the front, and the rest of a line that is stored past it, where there is room for both, are a line that is written
pub written :
    (first numbers lent with array : List ℕ) (at told : ℕ) →
    at ≡ length first →
    with ≡ sets lent 0 first →
    (told ≡ at + length (rest numbers)) × (told ≤ length with) →
    array ≡ sets with at (rest numbers) →
    WritesLine (line first numbers) lent told array
written first numbers lent with array at told past word count stores =
    let full : length with ≡ length lent = rw word (length-sets lent 0 first) in
    let whole : length (line first numbers) ≡ told = length-append first (rest numbers) ∙ omega (arith, count.0) in
    let join = sets-join lent 0 first (rest numbers) in
    let one : array ≡ sets lent 0 (line first numbers) = stores ∙ rw (word, past) (rw zero-add at join) in
    let same : length array ≡ length lent = rw one (length-sets lent 0 (line first numbers)) in
    let within : told ≤ length array = omega (arith, count.1) in
    record {
      count = sym whole;
      bytes = one ∙ front (line first numbers) lent (omega (arith, count.1));
      fits = omega arith;
      within = within;
      part = sym (length-take-le told array within);
    }
