-- Two slots in order, by how many items a run has: the octets of its first two decide.
use mathlib.Core.Path.{◌≡◌, refl, sym, ap, ◌∙◌}
use mathlib.Core.Bool.{Bool, true, false, not, ◌&&◌, ◌||◌, and-true, and-false, or-false, false≢true}
use mathlib.Core.List.{List}
use Prim.Native.Nat.{ℕ, zero, suc, ◌<◌, ◌≤◌}
use native.Mathlib.Omega.{arith}
use lib.Dec.{eqb}
use Rattle.headers.specs.Head.{constructed, type_field}
use Rattle.octets.specs.Walk.{no_items}
use Rattle.tree.specs.Tree.{Tree, formed}
use Rattle.runs.specs.declared.Run.{Run}
use Rattle.runs.specs.Runs.{items_of, tree_in}
use Rattle.runs.proofs.Laws.{tree-meets, tree-none}
use Rattle.contents.specs.declared.Opening.{Opening}
use Rattle.contents.specs.declared.Part.{Part}
use Rattle.contents.specs.declared.Slot.{Slot}
use Rattle.contents.specs.Search.{is_empty, starts, slot, in_order}
use Rattle.contents.specs.Opening.{Begins, Opens, nothing, single, several, ends_here, goes_on}
use Rattle.contents.proofs.Firsts.{is_field}

module _ (type : ℕ) (value : List ℕ) (inside after : Tree) where
  ends-formed : (b : Bool) → is_empty (formed b (type_field type) value inside after) ≡ false
  ends-formed true = refl
  ends-formed false = refl

  starts-formed : (octet : ℕ) (rest : Tree → Bool) (b : Bool) →
      starts octet rest (formed b (type_field type) value inside after) ≡ (eqb type octet && rest after)
  starts-formed octet rest true = rw (is_field octet type)
  starts-formed octet rest false = rw (is_field octet type)

module _ (s : List ℕ) (r : Run) (e : items_of s r ≡ no_items) where
  ends-end : is_empty (tree_in s r) ≡ true
  ends-end = ap is_empty (tree-none s r e)

  slot-end : (x : Slot) (rest : Tree → Bool) → slot x rest (tree_in s r) ≡ (not x.needed && rest (tree_in s r))
  slot-end x rest = ap (λ t. starts x.octet rest t || not x.needed && rest (tree_in s r)) (tree-none s r e)

module _ (s : List ℕ) (r : Run) (p : Part) (rest : Run) (m : Begins s r p rest) where
  ends-item : is_empty (tree_in s r) ≡ false
  ends-item = ap is_empty (tree-meets m) ∙ ends-formed p.code _ (tree_in s p.inner) (tree_in s rest) (constructed p.code)

  starts-item : (octet : ℕ) (f : Tree → Bool) → starts octet f (tree_in s r) ≡ (eqb p.code octet && f (tree_in s rest))
  starts-item octet f =
      ap (starts octet f) (tree-meets m)
      ∙ starts-formed p.code _ (tree_in s p.inner) (tree_in s rest) octet f (constructed p.code)

  -- a last slot at an item that is followed by others, or by none
  slot-last : (x : Slot) → slot x is_empty (tree_in s r) ≡ (eqb p.code x.octet && is_empty (tree_in s rest))
  slot-last x = rw (starts-item x.octet is_empty, ends-item, and-false (not x.needed), or-false)

module _ (s : List ℕ) (one two : Slot) (r : Run) where
  pub in-order-none : items_of s r ≡ no_items → in_order one two (tree_in s r) ≡ (not one.needed && not two.needed)
  unfolding in_order
  in-order-none e = rw (slot-end s r e one (slot two is_empty), slot-end s r e two is_empty, ends-end s r e, and-true (not two.needed))

  module _ (p : Part) (rest : Run) (m : Begins s r p rest) where
    pub in-order-one : items_of s rest ≡ no_items → in_order one two (tree_in s r)
        ≡ (eqb p.code one.octet && not two.needed || not one.needed && eqb p.code two.octet)
    unfolding in_order
    in-order-one e =
        rw (
          starts-item s r p rest m one.octet (slot two is_empty),
          slot-last s r p rest m two,
          slot-end s rest e two is_empty,
          ends-end s rest e,
          and-true (not two.needed),
          and-true (eqb p.code two.octet),
        )

    module _ (q : Part) (last : Run) (n : Begins s rest q last) where
      at-two-items : in_order one two (tree_in s r)
          ≡ (eqb p.code one.octet && (eqb q.code two.octet && is_empty (tree_in s last)))
      unfolding in_order
      at-two-items =
          rw (
            starts-item s r p rest m one.octet (slot two is_empty),
            slot-last s r p rest m two,
            slot-last s rest q last n two,
            ends-item s rest q last n,
            and-false (eqb p.code two.octet),
            and-false (not one.needed),
            or-false,
          )

      pub in-order-two : items_of s last ≡ no_items → in_order one two (tree_in s r)
          ≡ (eqb p.code one.octet && eqb q.code two.octet)
      in-order-two e = at-two-items ∙ rw (ends-end s last e, and-true (eqb q.code two.octet))

      pub in-order-more : (third : Part) (beyond : Run) → Begins s last third beyond → in_order one two (tree_in s r) ≡ false
      in-order-more third beyond k =
          at-two-items ∙ rw (ends-item s last third beyond k, and-false (eqb q.code two.octet), and-false (eqb p.code one.octet))

-- what the octets of an opening decide, by its count
abbrev pub filled : (count : ℕ) → (p q : ℕ) → (one two : Slot) → Bool
filled zero p q one two = not one.needed && not two.needed
filled (suc zero) p q one two = eqb p one.octet && not two.needed || not one.needed && eqb p two.octet
filled (suc (suc zero)) p q one two = eqb p one.octet && eqb q two.octet
filled (suc (suc (suc n))) p q one two = false

pub filled_more : (n p q : ℕ) (one two : Slot) → 2 < n → false ≡ filled n p q one two
filled_more zero p q one two more = absurd (omega arith)
filled_more (suc zero) p q one two more = absurd (omega arith)
filled_more (suc (suc zero)) p q one two more = absurd (omega arith)
filled_more (suc (suc (suc n))) p q one two more = refl

module _ (s : List ℕ) (r : Run) (o : Opening) (x y : Slot) where
  abbrev by_count : ℕ → Bool
  by_count n = filled n o.one.code o.two.code x y

  pub filled-in_order : Opens s r o → filled o.count o.one.code o.two.code x y ≡ in_order x y (tree_in s r)
  filled-in_order (nothing z e) = ap by_count z ∙ sym (in-order-none s x y r e)
  filled-in_order (single rest z m e) = ap by_count z ∙ sym (in-order-one s x y r o.one rest m e)
  filled-in_order (several rest last m n (ends_here z e)) = ap by_count z ∙ sym (in-order-two s x y r o.one rest m o.two last n e)
  filled-in_order (several rest last m n (goes_on third beyond z k)) =
      ap by_count z ∙ sym (in-order-more s x y r o.one rest m o.two last n third beyond k)

  filled-few : (n p q : ℕ) → filled n p q x y ≡ true → n ≤ 2
  filled-few zero p q f = omega arith
  filled-few (suc zero) p q f = omega arith
  filled-few (suc (suc zero)) p q f = omega arith
  filled-few (suc (suc (suc n))) p q f = absurd (false≢true f)

  -- a run whose items fill two slots has no more than two
  pub in-order-few : Opens s r o → in_order x y (tree_in s r) ≡ true → o.count ≤ 2
  in-order-few k f = filled-few o.count _ _ (filled-in_order k ∙ f)
