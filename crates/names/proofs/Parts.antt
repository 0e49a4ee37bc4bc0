-- A part of a list begins with its first element, and is two parts wherever it is cut.
use mathlib.Core.Path.{◌≡◌, sym, ap, ◌∙◌}
use mathlib.Core.List.{List, ◌∷◌, ◌++◌}
use Prim.Native.Nat.{ℕ, ◌+◌, ◌-◌, ◌<◌, ◌≤◌}
use native.Mathlib.Numerals.{add-one}
use native.Mathlib.Omega.{arith}
use lib.ListN.{length, get_or, take, drop, take-append-drop}
use Rattle.std.proofs.lemmas.List.{drop_more, length-drop, take_all}
use lib.Seq.{slice, slice-cons, take-take, drop-append-le, length-take-le}

pub slice-more : (s : List ℕ) (first past : ℕ) → first < past → past ≤ length s → slice first past s ≡ get_or s first 0 ∷ slice (first + 1) past s
slice-more s first past some inside = rw add-one (slice-cons first past s 0 some inside)

-- cut at `at`, which is an element of the part
pub slice_cut : (s : List ℕ) (first at past : ℕ) → first ≤ at → at < past → past ≤ length s
    → slice first past s ≡ slice first at s ++ get_or s at 0 ∷ slice (at + 1) past s
slice_cut s first at past after before inside =
    let low : take at (take past s) ≡ take at s = take-take at past s (omega arith) in
    ap (drop first) (sym (take-append-drop at (take past s)) ∙ rw low)
    ∙ drop-append-le first (take at s) (slice at past s) (simp (length-take-le at s (omega arith)) after)
    ∙ ap (λ (l : List ℕ). slice first at s ++ l) (slice-more s at past before inside)

-- a whole list cut at one of its elements
pub cut_at : (at : ℕ) (xs : List ℕ) → at < length xs → xs ≡ take at xs ++ get_or xs at 0 ∷ drop (at + 1) xs
cut_at at xs l = sym (take-append-drop at xs) ∙ ap (λ (rest : List ℕ). take at xs ++ rest) (drop_more xs at 0 l)

-- what is left of a list from a place on, as the code has it
pub left_is : (at : ℕ) (xs : List ℕ) → take (length xs - at) (drop at xs) ≡ drop at xs
left_is at xs = let n : length (drop at xs) ≡ length xs - at = length-drop at xs in take_all _ _ (omega (arith, n))
