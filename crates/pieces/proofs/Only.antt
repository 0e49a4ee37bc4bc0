-- Whether a run is of pieces only, told by the item that is met: a piece, one that holds pieces, or another.
use mathlib.Core.Path.{◌≡◌, ap, ◌∙◌}
use mathlib.Core.Bool.{Bool, true, false, ◌&&◌, true≢false, false≢true}
use mathlib.Core.List.{List}
use Prim.Native.Nat.{ℕ}
use lib.Seq.{slice}
use borrow.Author.Tests.{eq-eqb, ne_eqb}
use Rattle.headers.specs.Head.{constructed, type_field}
use Rattle.octets.specs.Walk.{no_items}
use Rattle.tree.specs.Tree.{Tree, formed}
use Rattle.runs.specs.declared.Run.{Run}
use Rattle.runs.specs.Runs.{items_of, tree_in, Meeting}
use Rattle.runs.proofs.Laws.{tree-meets, tree-none}
use Rattle.contents.proofs.Firsts.{is_field}
use Rattle.pieces.specs.Pieces.{only_pieces}

module _ (piece pieces : ℕ) where
  pub only_none : (s : List ℕ) (r : Run) → items_of s r ≡ no_items → true ≡ only_pieces piece pieces (tree_in s r)
  unfolding only_pieces
  only_none s r e = rw (tree-none s r e)

  other-formed : (b : Bool) (code : ℕ) (value : List ℕ) (inside after : Tree) → (code ≡ piece → ⊥) → (code ≡ pieces → ⊥)
      → only_pieces piece pieces (formed b (type_field code) value inside after) ≡ false
  unfolding only_pieces
  other-formed true code value inside after p q = rw (is_field pieces code, ne_eqb code pieces q)
  other-formed false code value inside after p q = rw (is_field piece code, ne_eqb code piece p)

  piece-formed : (b : Bool) → b ≡ false → (code : ℕ) (value : List ℕ) (inside after : Tree) → code ≡ piece
      → only_pieces piece pieces (formed b (type_field code) value inside after) ≡ only_pieces piece pieces after
  unfolding only_pieces
  piece-formed true f code value inside after e = absurd (true≢false f)
  piece-formed false f code value inside after e = rw (is_field piece code, eq-eqb code piece e)

  pieces-formed : (b : Bool) → b ≡ true → (code : ℕ) (value : List ℕ) (inside after : Tree) → code ≡ pieces
      → only_pieces piece pieces (formed b (type_field code) value inside after) ≡ only_pieces piece pieces inside && only_pieces piece pieces after
  unfolding only_pieces
  pieces-formed true f code value inside after e = rw (is_field pieces code, eq-eqb code pieces e)
  pieces-formed false f code value inside after e = absurd (false≢true f)

  module _ {s : List ℕ} {r : Run} {code first past : ℕ} {inner rest : Run} (m : Meeting s r code first past inner rest) where
    abbrev value : List ℕ
    value = slice first past s

    pub only-piece : constructed piece ≡ false → code ≡ piece → only_pieces piece pieces (tree_in s r) ≡ only_pieces piece pieces (tree_in s rest)
    only-piece f e =
        ap (only_pieces piece pieces) (tree-meets m)
        ∙ piece-formed (constructed code) (ap constructed e ∙ f) code value (tree_in s inner) (tree_in s rest) e

    pub only-pieces : constructed pieces ≡ true → code ≡ pieces → (b : Bool) → only_pieces piece pieces (tree_in s inner) ≡ b
        → only_pieces piece pieces (tree_in s r) ≡ b && only_pieces piece pieces (tree_in s rest)
    only-pieces f e b i =
        ap (only_pieces piece pieces) (tree-meets m)
        ∙ pieces-formed (constructed code) (ap constructed e ∙ f) code value (tree_in s inner) (tree_in s rest) e
        ∙ ap (λ (x : Bool). x && only_pieces piece pieces (tree_in s rest)) i

    pub only-other : (code ≡ piece → ⊥) → (code ≡ pieces → ⊥) → only_pieces piece pieces (tree_in s r) ≡ false
    only-other p q =
        ap (only_pieces piece pieces) (tree-meets m) ∙ other-formed (constructed code) code value (tree_in s inner) (tree_in s rest) p q
