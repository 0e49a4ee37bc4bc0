-- What was found of an item, as a pair that bounds its value, or as the run inside it.
use mathlib.Core.Path.{◌≡◌, refl, sym, ap, ◌∙◌, subst}
use mathlib.Core.Bool.{Bool, true, false, cond}
use mathlib.Core.List.{List}
use Prim.Native.Nat.{ℕ, zero, suc, ◌+◌, ◌<◌}
use native.Mathlib.Omega.{arith}
use lib.Dec.{eqb}
use lib.Seq.{slice}
use borrow.Author.Tests.{eqb-false}
use Rattle.headers.specs.Head.{constructed}
use Rattle.octets.specs.Walk.{Items, no_items, item, Walked}
use Rattle.octets.specs.Rules.{at_limit}
use Rattle.octets.proofs.RulesHold.{derived}
use Rattle.tree.specs.Tree.{empty, plain}
use Rattle.tree.specs.Accepts.{Whole}
use Rattle.runs.specs.declared.Run.{Run}
use Rattle.runs.specs.Runs.{items_of, tree_in, definite_run, Fine}
use Rattle.contents.specs.declared.Part.{Part}
use Rattle.contents.specs.declared.Span.{Span}
use Rattle.contents.specs.Search.{absent, amount, first_value, first_run, bounds_of, items_in, no_span}
use Rattle.contents.specs.First.{span_of, IsFirst, Lacks}
use Rattle.contents.specs.Gather.{Counted}
use Rattle.contents.proofs.Firsts.{amount-formed, value_after, run-after}
use Rattle.elements.specs.Says.{Placed, Bounds}
use Rattle.elements.specs.Frames.{Bounding, Inner}

pub no-span-placed : (s : List ℕ) → Placed s no_span
no-span-placed s = record { order = omega arith; inside = omega arith }

module _ {s : List ℕ} {r : Run} {octet : ℕ} {p : Part} (h : IsFirst s r octet p) where
  pub held-placed : Placed s (span_of p)
  held-placed = record { order = h.order; inside = h.inside }

  pub held-there : 0 < p.past
  held-there = omega (arith, h.starts, h.order)

  pub held-bounding : Bounding s r octet (span_of p)
  held-bounding =
      record {
        pair = sym h.bounds;
        placed = held-placed;
        value = λ c. subst (Bounds s (span_of p)) (sym (h.value c)) (record { placed = held-placed; there = held-there; value = refl });
      }

  pub held_inner : constructed octet ≡ true → Inner s r octet p.inner
  held_inner c = record { fine = h.inner_fine; items = sym h.items; tree = sym (h.tree c) }

pub lacked-bounding : {s : List ℕ} {r : Run} {octet : ℕ} → Lacks s r octet → Bounding s r octet no_span
lacked-bounding {s} l =
    record { pair = sym l.bounds; placed = no-span-placed s; value = λ _. subst (Bounds s no_span) (sym l.value) refl }

not-here : (b : Bool) (n : ℕ) → cond {A = ℕ} b 1 0 + n ≡ 0 → (b ≡ false) × (n ≡ 0)
not-here true n e = absurd (omega arith)
not-here false n e = (refl, omega arith)

-- items of which none has the octet
record Without (s : List ℕ) (octet : ℕ) (i : Items) : Type 0 where
  bounds : bounds_of octet i ≡ no_span
  items : items_in octet i ≡ no_items
  value : first_value octet (plain s i) ≡ absent
  tree : first_run octet (plain s i) ≡ empty

without : (s : List ℕ) (octet : ℕ) (i : Items) → amount octet (plain s i) ≡ 0 → Without s octet i
unfolding bounds_of items_in first_value first_run
without s octet no_items e = record { bounds = refl; items = refl; value = refl; tree = refl }
without s octet (item at type start past inside after) e =
    let value = slice start past s in
    let form = constructed type in
    let k = not-here (eqb type octet) (amount octet (plain s after)) (sym (amount-formed octet type value (plain s inside) (plain s after) form) ∙ e) in
    let other = eqb-false type octet k.0 in
    let w = without s octet after k.1 in
    record {
      bounds = rw k.0 w.bounds;
      items = rw k.0 w.items;
      value = value_after octet type value (plain s inside) (plain s after) form other ∙ w.value;
      tree = run-after octet type value (plain s inside) (plain s after) form other ∙ w.tree;
    }

pub none-bounds : (s : List ℕ) (octet : ℕ) (i : Items) → amount octet (plain s i) ≡ 0 → bounds_of octet i ≡ no_span
none-bounds s octet i e = (without s octet i e).bounds

pub none-items : (s : List ℕ) (octet : ℕ) (i : Items) → amount octet (plain s i) ≡ 0 → items_in octet i ≡ no_items
none-items s octet i e = (without s octet i e).items

-- what is not counted is lacked
pub none-lacked : {s : List ℕ} {r : Run} {octet : ℕ} → amount octet (tree_in s r) ≡ 0 → Lacks s r octet
none-lacked {s} {r} {octet} e =
    let w = without s octet (items_of s r) e in
    record { amount_is = e; bounds = w.bounds; items = w.items; value = w.value; tree = w.tree }

module _ {s : List ℕ} {r : Run} {octet n : ℕ} {v : Span} (c : Counted s r octet n v) where
  lacked : n ≡ 0 → Lacks s r octet
  lacked z = none-lacked (sym c.amount_is ∙ z)

  -- what was not counted has nothing inside
  pub uncounted : n ≡ 0 → items_in octet (items_of s r) ≡ no_items
  uncounted z = (lacked z).items

  pub counted-placed : Placed s v
  counted-placed = record { order = c.order; inside = c.inside }

  counted-by : (m : ℕ) → n ≡ m → constructed octet ≡ false → Bounds s v (first_value octet (tree_in s r))
  counted-by zero z p = subst (Bounds s v) (sym (c.missing z)) (c.bounds ∙ (lacked z).bounds)
  counted-by (suc m) e p =
      let some : (n ≡ 0 → ⊥) = λ z. omega arith in
      subst (Bounds s v) (sym (c.value some p)) (record { placed = counted-placed; there = c.present some; value = refl })

  pub counted-bounds : constructed octet ≡ false → Bounds s v (first_value octet (tree_in s r))
  counted-bounds = counted-by n refl

-- a run that ends where it begins
pub empty-items : (s : List ℕ) (room : ℕ) → items_of s (definite_run 0 0 room) ≡ no_items
empty-items s room = sym (ap (λ (w : Walked). w.items) (derived {s = s} {room = room} (at_limit {limit = 0} refl)))

pub empty-fine : (s : List ℕ) (room : ℕ) → Fine s (definite_run 0 0 room)
empty-fine s room =
    let whole = subst (λ (w : Walked). Whole w.how) (derived {s = s} {room = room} (at_limit {limit = 0} refl)) tt in
    record { order = omega arith; inside = omega arith; whole = whole }

pub lacked-inner : {s : List ℕ} {r : Run} {octet : ℕ} → Lacks s r octet → Inner s r octet (definite_run 0 0 0)
lacked-inner {s} l =
    record { fine = empty-fine s 0; items = empty-items s 0 ∙ sym l.items; tree = ap (plain s) (empty-items s 0) ∙ sym l.tree }
