-- What a search in a run learns of the item that it meets: it is the first with the octet, or the search goes on after it.
use mathlib.Core.Path.{◌≡◌, refl, ap, sym, ◌∙◌, subst}
use mathlib.Core.Bool.{Bool, true, false, cond, true≢false, false≢true}
use mathlib.Core.List.{List}
use Prim.Native.Nat.{ℕ, ◌+◌}
use native.Mathlib.Omega.{arith}
use lib.Dec.{eqb}
use borrow.Author.Tests.{eq-eqb, ne_eqb}
use Rattle.headers.specs.Head.{constructed, type_field}
use Rattle.headers.proofs.Fields.{code-field}
use Rattle.octets.specs.Walk.{no_items}
use Rattle.tree.specs.Tree.{Tree, formed}
use Rattle.runs.specs.declared.Run.{Run}
use Rattle.std.specs.Prelude.{Option}
use Rattle.runs.specs.declared.Met.{Met}
use Rattle.runs.specs.Runs.{items_of, tree_in, Meets}
use Rattle.runs.proofs.Laws.{tree-meets, tree-none}
use Rattle.contents.specs.declared.Part.{Part}
use Rattle.contents.specs.Search.{is, amount, octets, first_value, first_run, bounds_of, items_in}
use Rattle.contents.specs.First.{IsFirst, Lacks}
use Rattle.contents.specs.Opening.{Begins}

-- what `meet` gave, once its case is known
pub met : (s : List ℕ) (r : Run) {x y : Option Met} → Meets s r x → x ≡ y → Meets s r y
met s r m e = subst (Meets s r) e m

-- an item's type field is the sought one exactly if the codes are equal
pub is_field : (octet code : ℕ) → is octet (type_field code) ≡ eqb code octet
is_field octet code = ap (λ (k : ℕ). eqb k octet) (code-field code)

-- an item of either form
module _ (octet type : ℕ) (value : List ℕ) (inside after : Tree) where
  pub amount-formed : (b : Bool) →
      amount octet (formed b (type_field type) value inside after) ≡ cond (eqb type octet) 1 0 + amount octet after
  unfolding amount
  amount-formed true = rw (is_field octet type)
  amount-formed false = rw (is_field octet type)

  pub value-here : (b : Bool) → b ≡ false → type ≡ octet → first_value octet (formed b (type_field type) value inside after) ≡ octets value
  unfolding first_value
  value-here true f e = absurd (true≢false f)
  value-here false f e = rw (is_field octet type, eq-eqb type octet e)

  pub value_after : (b : Bool) → (type ≡ octet → ⊥) →
      first_value octet (formed b (type_field type) value inside after) ≡ first_value octet after
  unfolding first_value
  value_after true n = refl
  value_after false n = rw (is_field octet type, ne_eqb type octet n)

  pub run-here : (b : Bool) → b ≡ true → type ≡ octet → first_run octet (formed b (type_field type) value inside after) ≡ inside
  unfolding first_run
  run-here true f e = rw (is_field octet type, eq-eqb type octet e)
  run-here false f e = absurd (false≢true f)

  pub run-after : (b : Bool) → (type ≡ octet → ⊥) → first_run octet (formed b (type_field type) value inside after) ≡ first_run octet after
  unfolding first_run
  run-after true n = rw (is_field octet type, ne_eqb type octet n)
  run-after false n = refl

-- a search that starts at `from` is one that starts at `to`
pub record Alike (s : List ℕ) (octet : ℕ) (from to : Run) : Type 0 where
  pub amounts : amount octet (tree_in s from) ≡ amount octet (tree_in s to)
  pub bounds : bounds_of octet (items_of s from) ≡ bounds_of octet (items_of s to)
  pub items : items_in octet (items_of s from) ≡ items_in octet (items_of s to)
  pub value : first_value octet (tree_in s from) ≡ first_value octet (tree_in s to)
  pub tree : first_run octet (tree_in s from) ≡ first_run octet (tree_in s to)

module _ {s : List ℕ} {octet : ℕ} {from to : Run} (a : Alike s octet from to) where
  pub alike-on : {rest : Run} → Alike s octet to rest → Alike s octet from rest
  alike-on b =
      record {
        amounts = a.amounts ∙ b.amounts;
        bounds = a.bounds ∙ b.bounds;
        items = a.items ∙ b.items;
        value = a.value ∙ b.value;
        tree = a.tree ∙ b.tree;
      }

  pub holds-before : {p : Part} → IsFirst s to octet p → IsFirst s from octet p
  holds-before h =
      record {
        octet_is = h.octet_is;
        octet_not_zero = h.octet_not_zero;
        octet_small = h.octet_small;
        there = λ z. h.there (sym a.amounts ∙ z);
        starts = h.starts;
        order = h.order;
        inside = h.inside;
        inner_fine = h.inner_fine;
        bounds = a.bounds ∙ h.bounds;
        items = a.items ∙ h.items;
        value = λ f. a.value ∙ h.value f;
        tree = λ f. a.tree ∙ h.tree f;
      }

  pub lacks-before : Lacks s to octet → Lacks s from octet
  lacks-before l =
      record {
        amount_is = a.amounts ∙ l.amount_is;
        bounds = a.bounds ∙ l.bounds;
        items = a.items ∙ l.items;
        value = a.value ∙ l.value;
        tree = a.tree ∙ l.tree;
      }

-- at the end of a run
module _ (s : List ℕ) (octet : ℕ) (r : Run) (e : items_of s r ≡ no_items) where
  pub amount-at-end : amount octet (tree_in s r) ≡ 0
  unfolding amount
  amount-at-end = ap (amount octet) (tree-none s r e)

  pub lacks-at-end : Lacks s r octet
  unfolding bounds_of items_in first_value first_run
  lacks-at-end =
      record {
        amount_is = amount-at-end;
        bounds = ap (bounds_of octet) e;
        items = ap (items_in octet) e;
        value = ap (first_value octet) (tree-none s r e);
        tree = ap (first_run octet) (tree-none s r e);
      }

-- at an item
module _ (s : List ℕ) (r : Run) (p : Part) (rest : Run) (m : Begins s r p rest) (octet : ℕ) where
  pub amount-of-item : amount octet (tree_in s r) ≡ cond (eqb p.code octet) 1 0 + amount octet (tree_in s rest)
  amount-of-item =
      ap (amount octet) (tree-meets m)
      ∙ amount-formed octet p.code _ (tree_in s p.inner) (tree_in s rest) (constructed p.code)

  pub alike-after : (p.code ≡ octet → ⊥) → Alike s octet r rest
  unfolding bounds_of items_in
  alike-after n =
      record {
        amounts = amount-of-item ∙ rw (ne_eqb p.code octet n) (omega arith);
        bounds = ap (bounds_of octet) m.tree ∙ rw (ne_eqb p.code octet n);
        items = ap (items_in octet) m.tree ∙ rw (ne_eqb p.code octet n);
        value = ap (first_value octet) (tree-meets m)
            ∙ value_after octet p.code _ (tree_in s p.inner) (tree_in s rest) (constructed p.code) n;
        tree = ap (first_run octet) (tree-meets m)
            ∙ run-after octet p.code _ (tree_in s p.inner) (tree_in s rest) (constructed p.code) n;
      }

  pub holds-here : p.code ≡ octet → IsFirst s r octet p
  unfolding bounds_of items_in
  holds-here e =
      record {
        octet_is = e;
        octet_not_zero = λ z. m.code_not_zero (e ∙ z);
        octet_small = omega (arith, m.code_small);
        there = λ z. let one : 1 + amount octet (tree_in s rest) ≡ 0 = sym (amount-of-item ∙ rw (eq-eqb p.code octet e)) ∙ z in omega arith;
        starts = omega (arith, m.starts);
        order = m.value_order;
        inside = m.value_inside;
        inner_fine = m.inner_fine;
        bounds = ap (bounds_of octet) m.tree ∙ rw (eq-eqb p.code octet e);
        items = ap (items_in octet) m.tree ∙ rw (eq-eqb p.code octet e);
        value = λ f. ap (first_value octet) (tree-meets m)
            ∙ value-here octet p.code _ (tree_in s p.inner) (tree_in s rest) (constructed p.code) (ap constructed e ∙ f) e;
        tree = λ f. ap (first_run octet) (tree-meets m)
            ∙ run-here octet p.code _ (tree_in s p.inner) (tree_in s rest) (constructed p.code) (ap constructed e ∙ f) e;
      }
