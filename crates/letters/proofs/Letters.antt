-- What a stream is, from what the walk and the judge found of it, and the other way round: one case of each.
use Rattle.std.specs.Prelude.{Ok, Err}
use mathlib.Core.Path.{◌≡◌, refl}
use mathlib.Core.List.{List}
use Prim.Native.Nat.{ℕ}
use native.Mathlib.Omega.{arith}
use Rattle.octets.specs.Told.{Outcome, ended, refused as walk_refused}
use Rattle.octets.specs.Walk.{walk_of}
use Rattle.tree.specs.Tree.{tree_of}
use Rattle.elements.specs.declared.Edition.{Edition}
use Rattle.elements.specs.Judge.{Element, Judged, accepted, refused, judge}
use Rattle.elements.specs.ElementRows.{place_of}
use Rattle.letters.specs.Letter.{letter, refusal, items_of_stream, after_walk, by_walk, letter_in}

module _ (edition : Edition) (s : List ℕ) where
  -- the walk refused it
  pub refused-walk : (number place headers : ℕ) → walk_of s ≡ walk_refused number place headers → letter_in edition s ≡ refusal number place headers
  unfolding letter_in
  refused-walk number place headers w = rw w

  -- the walk ended, and an element was refused
  pub refused-element : (at headers number element : ℕ) → walk_of s ≡ ended at headers → judge edition (tree_of s) ≡ refused number element
      → letter_in edition s ≡ refusal number (place_of element (items_of_stream s)) headers
  unfolding letter_in
  refused-element at headers number element w j = rw (w, j)

  -- the walk ended, and no element was refused
  pub accepted-letter : (at headers : ℕ) (elements : List Element) → walk_of s ≡ ended at headers → judge edition (tree_of s) ≡ accepted elements
      → letter_in edition s ≡ letter headers elements
  unfolding letter_in
  accepted-letter at headers elements w j = rw (w, j)

  -- what a letter was found to be
  pub record Found (headers : ℕ) (elements : List Element) : Type 0 where
    pub at : ℕ
    pub walked : walk_of s ≡ ended at headers
    pub judged : judge edition (tree_of s) ≡ accepted elements

  by-judge : (headers : ℕ) (elements : List Element) (at k : ℕ) → walk_of s ≡ ended at k → (j : Judged) → judge edition (tree_of s) ≡ j
      → after_walk (items_of_stream s) k j ≡ letter headers elements → Found headers elements
  by-judge headers elements at k w (accepted found) j e =
      let a : headers ≡ k = cc in
      let b : found ≡ elements = cc in
      record { at = at; walked = rw a w; judged = rw b at j }
  by-judge headers elements at k w (refused number element) j e = let z : ◌≡◌ {A = ℕ} 0 1 = cc in absurd (omega arith)

  by-walk : (headers : ℕ) (elements : List Element) (o : Outcome) → walk_of s ≡ o → by_walk edition s o ≡ letter headers elements → Found headers elements
  by-walk headers elements (Ok passed) w e = by-judge headers elements passed.at passed.count w (judge edition (tree_of s)) refl e
  by-walk headers elements (Err r) w e = let z : ◌≡◌ {A = ℕ} 0 1 = cc in absurd (omega arith)

  pub letter-found : (headers : ℕ) (elements : List Element) → letter_in edition s ≡ letter headers elements → Found headers elements
  unfolding letter_in
  letter-found headers elements e = by-walk headers elements (walk_of s) refl e
