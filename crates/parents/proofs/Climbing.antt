-- "Climbing from any row must end, in at most 32 moves": the identifier gets shorter by two bytes at least with each move, one byte is left of it, and
-- it has 64 at most. Of any accepted letter.
use mathlib.Core.Path.{◌≡◌, refl, ap, ◌∙◌}
use mathlib.Core.Bool.{false}
use mathlib.Core.List.{List, ◌∷◌, ◌++◌}
use mathlib.Core.Option.{Option, none, some}
use Prim.Native.Nat.{ℕ, zero, suc, ◌+◌, ◌*◌, ◌≤◌}
use native.Mathlib.Omega.{arith}
use lib.ListN.{length, get_elem?, length-append}
use Rattle.names.specs.Names.{space_byte, longest_identifier}
use Rattle.contents.specs.Search.{Value, absent, octets}
use Rattle.elements.specs.Judge.{bytes_of, Element}
use Rattle.letters.specs.Apart.{Apart}
use Rattle.parents.specs.Parent.{parent, up_from, climb, most_moves}
use Rattle.parents.proofs.Shorter.{not-empty}
use Rattle.parents.proofs.Parents.{named-groups, parent_is}

-- how long the identifier of a row is, 0 if there is none
abbrev size_of : Option Element → ℕ
size_of none = 0
size_of (some e) = length (bytes_of e.identifier)

module _ (elements : List Element) (apart : Apart elements) where
  abbrev size : ℕ → ℕ
  size row = size_of (get_elem? elements row)

  -- at most 64
  short-value : (row : ℕ) (e : Element) → get_elem? elements row ≡ some e → (v : Value) → e.identifier ≡ v → length (bytes_of v) ≤ longest_identifier
  short-value row e there absent named = omega arith
  short-value row e there (octets bytes) named = (named-groups e (apart.spelt row e there) bytes named).1

  short-element : (row : ℕ) (o : Option Element) → get_elem? elements row ≡ o → size_of o ≤ longest_identifier
  short-element row none there = omega arith
  short-element row (some e) there = short-value row e there e.identifier refl

  short : (row : ℕ) → size row ≤ longest_identifier
  short row = short-element row (get_elem? elements row) refl

  -- each move takes two bytes at least, and leaves one
  shrinks : (j p : ℕ) → parent elements j ≡ some p → (size p + 2 ≤ size j) × (1 ≤ size p)
  shrinks j p e =
      let i = parent_is elements apart j p e in
      let own : size j ≡ length (i.shorter ++ space_byte ∷ i.digits) = ap size_of i.child_there ∙ ap (λ (v : Value). length (bytes_of v)) i.child_named in
      let above : size p ≡ length i.shorter = ap size_of i.parent_there ∙ ap (λ (v : Value). length (bytes_of v)) i.parent_named in
      let sum = length-append i.shorter (space_byte ∷ i.digits) in
      let groups = (named-groups i.parent (apart.spelt p i.parent i.parent_there) i.shorter i.parent_named).0 in
      (omega (arith, i.some_digits), omega (arith, not-empty false i.shorter groups refl))

  -- one move more, from where the moves before led
  one_more : (row k p : ℕ) (o : Option ℕ) → ((i : ℕ) → o ≡ some i → size i + 2 * k ≤ size row) → up_from elements o ≡ some p
      → (size p + 2 * suc k ≤ size row) × (1 ≤ size p)
  one_more row k p none before f = let z : ◌≡◌ {A = ℕ} 0 1 = cc in absurd (omega arith)
  one_more row k p (some i) before f = let r = before i refl in let s = shrinks i p f in (omega arith, s.1)

  -- what is left after so many moves
  climb-size : (row k p : ℕ) → climb elements row k ≡ some p → size p + 2 * k ≤ size row
  unfolding climb
  climb-size row zero p e = let q : p ≡ row = cc in rw q (omega arith)
  climb-size row (suc k) p e = (one_more row k p (climb elements row k) (λ i q. climb-size row k i q) e).0

  climb-some : (row k p : ℕ) → climb elements row (suc k) ≡ some p → 1 ≤ size p
  unfolding climb
  climb-some row k p e = (one_more row k p (climb elements row k) (λ i q. climb-size row k i q) e).1

  nowhere : (o : Option ℕ) → ((p : ℕ) → o ≡ some p → ⊥) → o ≡ none
  nowhere none never = refl
  nowhere (some p) never = absurd (never p refl)

  -- climbing ends
  pub climb-ends : (row : ℕ) → climb elements row most_moves ≡ none
  climb-ends row =
      nowhere (climb elements row most_moves)
      (λ p e. let a = climb-size row most_moves p e in let b = climb-some row 31 p e in let d = short row in omega arith)

  -- no row is its own ancestor
  pub no_own_ancestor : (row k : ℕ) → climb elements row (suc k) ≡ some row → ⊥
  no_own_ancestor row k e = let a = climb-size row (suc k) row e in omega arith
