-- No item has octet 0: where a 00 stands, the walk finds a closing mark or a fault. So an octet 0 is a shape's word for no item.
use mathlib.Core.Path.{◌≡◌, refl, ◌∙◌}
use mathlib.Core.Bool.{Bool, true, false}
use mathlib.Core.List.{List}
use Prim.Native.Nat.{ℕ}
use borrow.Author.Tests.{ne_eqb}
use borrow.Table.Steps.{cases}
use lib.Dec.{eqb}
use lib.Seq.{slice}
use Rattle.headers.specs.declared.Header.{Header}
use Rattle.headers.specs.declared.Head.TheVariants.{Item}
use Rattle.headers.specs.Head.{constructed, head_at, type_field}
use Rattle.octets.specs.Walk.{Items, no_items, item, End}
use Rattle.octets.specs.Rules.{Runs, at_limit, unclosed, closes, refuses, primitive, passes, breaks}
use Rattle.octets.proofs.RulesHold.{derives}
use Rattle.tree.specs.Tree.{Tree, formed, plain}
use Rattle.runs.specs.declared.Run.{Run}
use Rattle.runs.specs.Runs.{items_of, tree_in, Fine}
use Rattle.runs.proofs.Heads.{item-octet}
use Rattle.contents.specs.First.{Lacks}
use Rattle.contents.specs.Search.{amount, first_run, items_in}
use Rattle.contents.proofs.Firsts.{is_field, amount-formed}
use Rattle.elements.proofs.Bounding.{none-lacked}

-- no item of a run has octet 0, nor any inside one of its items
record Without (s : List ℕ) (i : Items) : Type 0 where
  amount_is : amount 0 (plain s i) ≡ 0
  in_run : (octet : ℕ) → amount 0 (first_run octet (plain s i)) ≡ 0
  in_items : (octet : ℕ) → amount 0 (plain s (items_in octet i)) ≡ 0

without-none : (s : List ℕ) → Without s no_items
unfolding amount first_run items_in
without-none s = record { amount_is = refl; in_run = λ octet. refl; in_items = λ octet. refl }

-- the run inside the first item with an octet is that of this item, or of one after it
run_of : (octet type : ℕ) (value : List ℕ) (inside after : Tree) (form : Bool) → amount 0 inside ≡ 0 → amount 0 (first_run octet after) ≡ 0
    → amount 0 (first_run octet (formed form (type_field type) value inside after)) ≡ 0
unfolding first_run
run_of octet type value inside after true here later =
    cases (eqb type octet) (λ t. rw (is_field octet type, t) here) (λ t. rw (is_field octet type, t) later)
run_of octet type value inside after false here later = later

-- no item has the octet 0
without-item : (s : List ℕ) (room at limit : ℕ) (marked : Bool) (h : Header) → head_at s at limit marked room ≡ Item h
    → {start past : ℕ} {inside after : Items} → Without s inside → Without s after → Without s (item at h.code start past inside after)
unfolding items_in
without-item s room at limit marked h e {start} {past} {inside} {after} v w =
    let o = item-octet s at limit marked room h e in
    let other = ne_eqb h.code 0 o.0 in
    let value = slice start past s in
    let counted = amount-formed 0 h.code value (plain s inside) (plain s after) (constructed h.code) in
    record {
      amount_is = counted ∙ rw (other, w.amount_is);
      in_run = λ octet. run_of octet h.code value (plain s inside) (plain s after) (constructed h.code) v.amount_is (w.in_run octet);
      in_items = λ octet. cases (eqb h.code octet) (λ t. rw t v.amount_is) (λ t. rw t (w.in_items octet));
    }

without : {s : List ℕ} {room at limit : ℕ} {marked : Bool} {i : Items} {e : End} → Runs s room at limit marked i e → Without s i
without {s} (at_limit p) = without-none s
without {s} (unclosed p) = without-none s
without {s} (closes l h) = without-none s
without {s} (refuses l h) = without-none s
without {s} (primitive {room} {at} {limit} {marked} {h} l p q r) = without-item s room at limit marked h p (without-none s) (without r)
without {s} (passes {room} {at} {limit} {marked} {h} l p q v r) = without-item s room at limit marked h p (without v) (without r)
without {s} (breaks {room} {at} {limit} {marked} {h} l p q v) = without-item s room at limit marked h p (without v) (without-none s)

pub none-zero : {s : List ℕ} {room at limit : ℕ} {marked : Bool} {i : Items} {e : End} → Runs s room at limit marked i e
    → (octet : ℕ) → octet ≡ 0 → amount octet (plain s i) ≡ 0
none-zero runs octet z = rw z (without runs).amount_is

-- what is sought by an octet 0 is lacked
pub zero-lacked : {s : List ℕ} {r : Run} (octet : ℕ) → octet ≡ 0 → Fine s r → Lacks s r octet
zero-lacked {s} {r} octet z fine = none-lacked (none-zero (derives r.room s r.at r.limit r.marked fine.order) octet z)

-- none of the items of a run, nor of those inside one of them
module _ {s : List ℕ} {r : Run} (fine : Fine s r) where
  abbrev zero_free : Without s (items_of s r)
  zero_free = without (derives r.room s r.at r.limit r.marked fine.order)

  pub no_zero : amount 0 (tree_in s r) ≡ 0
  no_zero = zero_free.amount_is

  pub no-zero-inside : (octet : ℕ) → amount 0 (first_run octet (tree_in s r)) ≡ 0
  no-zero-inside = zero_free.in_run

  pub no-zero-items : (octet : ℕ) → amount 0 (plain s (items_in octet (items_of s r))) ≡ 0
  no-zero-items = zero_free.in_items
