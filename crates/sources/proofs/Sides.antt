-- The sources of the lines of a side, one match after another: those of the next line, and of the lines after it.
use mathlib.Core.Path.{◌≡◌, refl, ap, ◌∙◌}
use mathlib.Core.List.{List, [], ◌∷◌, ◌++◌}
use Prim.Native.Nat.{ℕ, suc, ◌+◌, ◌-◌, ◌*◌, ◌<◌, ◌≤◌}
use native.Mathlib.Omega.{arith}
use native.Mathlib.Numerals.{add-one}
use lib.ListN.{length, get_or, drop, length-append, get_or-eq_default}
use Rattle.octets.specs.Walk.{Items, no_items, item}
use Rattle.contents.specs.declared.Span.{Span}
use Rattle.elements.specs.declared.Edition.{Edition}
use Rattle.elements.specs.ElementRows.{rows_of}
use Rattle.judging.proofs.Rows.{saying-length}
use Rattle.letters.specs.Letter.{items_of_stream}
use Rattle.letters.specs.Scratch.{LetterRows}
use Rattle.text_lines.specs.Flat.{records_from}
use Rattle.text_lines.proofs.Flat.{records-step, records-none}
use Rattle.sources.specs.Sources.{Source, line_sources, sources_from, source_numbers, place_numbers}
use Rattle.sources.specs.Units.{places_of_each, places_in}

-- an element that isn't there has no places
each-length : (edition : Edition) (s : List ℕ) (i : Items) → length (places_of_each edition s i) ≡ length (rows_of edition s i)
unfolding places_of_each rows_of
each-length edition s no_items = refl
each-length edition s (item at code first past inside after) = ap suc (each-length edition s after)

pub no-unit-places : {edition : Edition} {s rows : List ℕ} {count : ℕ} → LetterRows edition s rows count → (j : ℕ) → count ≤ j → places_in edition s j ≡ []
unfolding places_in
no-unit-places {edition} {s} letter j l =
    get_or-eq_default (places_of_each edition s (items_of_stream s)) []
    (omega (arith, each-length edition s (items_of_stream s), saying-length letter.holds.saying, letter.holds.counted))

-- one source a place, three numbers a source
pub line-length : (line : ℕ) (ps : List Span) → length (line_sources line ps) ≡ length ps
unfolding line_sources
line-length line [] = refl
line-length line (p ∷ ps) = ap suc (line-length line ps)

pub source-length : (xs : List Source) → length (source_numbers xs) ≡ 3 * length xs
unfolding source_numbers
source-length [] = refl
source-length (x ∷ xs) = let l = source-length xs in omega arith

pub no-numbers : source_numbers [] ≡ []
unfolding source_numbers
no-numbers = refl

source-append : (xs ys : List Source) → source_numbers (xs ++ ys) ≡ source_numbers xs ++ source_numbers ys
unfolding source_numbers
source-append [] ys = refl
source-append (x ∷ xs) ys = ap (λ (z : List ℕ). x.line ∷ x.place.first ∷ x.place.past ∷ z) (source-append xs ys)

module _ (places : ℕ → List Span) (numbers : List ℕ) (lines : ℕ) where
  -- the sources of the lines from number k on
  abbrev pub sources_left : (k : ℕ) → List Source
  sources_left k = sources_from places k (records_from numbers k (lines - k))

  abbrev pub numbers_left : (k : ℕ) → List ℕ
  numbers_left k = source_numbers (sources_left k)

  pub left-all : sources_left 0 ≡ sources_from places 0 (records_from numbers 0 lines)
  left-all = let z : lines - 0 ≡ lines = omega arith in ap (λ (n : ℕ). sources_from places 0 (records_from numbers 0 n)) z

  pub left-none : (k : ℕ) → lines ≤ k → sources_left k ≡ []
  unfolding sources_from
  left-none k l = ap (sources_from places k) (records-none numbers k lines l)

  module _ (k : ℕ) (l : k < lines) where
    abbrev own : List Span
    own = places (get_or numbers (3 * k + 2) 0)

    step : sources_left k ≡ line_sources k own ++ sources_left (k + 1)
    unfolding sources_from
    step = ap (sources_from places k) (records-step numbers k lines l) ∙ rw (add-one k)

    pub left-length : length (sources_left k) ≡ length own + length (sources_left (k + 1))
    left-length =
        ap length step ∙ length-append (line_sources k own) (sources_left (k + 1)) ∙ ap (λ (n : ℕ). n + length (sources_left (k + 1))) (line-length k own)

    pub left-numbers : numbers_left k ≡ place_numbers k own ++ numbers_left (k + 1)
    left-numbers = ap source_numbers step ∙ source-append (line_sources k own) (sources_left (k + 1))

-- all are put
pub all_there : (all list₀ list : List ℕ) (n : ℕ) → (n ≡ length all) × (list ≡ all ++ drop n list₀) → list ≡ all ++ drop (length all) list₀
all_there all list₀ list n p = p.1 ∙ ap (λ (k : ℕ). all ++ drop k list₀) p.0
