-- A pass that counts the items with an octet and keeps the first: what was seen, and what the run still has.
use mathlib.Core.Path.{◌≡◌, refl, sym, ◌∙◌, subst}
use mathlib.Core.Bool.{true, false}
use mathlib.Core.List.{List}
use mathlib.Core.Logic.{◌⊎◌, inl, inr}
use Prim.Native.Nat.{ℕ, zero, suc, ◌+◌, ◌-◌, ◌≤◌}
use native.Mathlib.Omega.{arith}
use lib.Dec.{eqb}
use lib.ListN.{length}
use borrow.Author.Tests.{eqb-true, eqb-false}
use Rattle.headers.specs.Head.{constructed}
use Rattle.octets.specs.Walk.{no_items, run, run_for}
use Rattle.laws.proofs.Tests.{cond-holds}
use Rattle.runs.specs.declared.Run.{Run}
use Rattle.runs.specs.Runs.{items_of, tree_in, Fine}
use Rattle.contents.specs.declared.Part.{Part}
use Rattle.contents.specs.declared.Tally.{Tally}
use Rattle.contents.specs.Search.{amount, first_run, bounds_of, items_in}
use Rattle.contents.specs.First.{span_of, IsFirst, Lacks}
use Rattle.contents.specs.Opening.{no_part, Begins}
use Rattle.contents.specs.Gather.{Counted, earlier, seen_with}
use Rattle.contents.proofs.Firsts.{Alike, alike-on, holds-before, lacks-before, lacks-at-end, amount-at-end, amount-of-item, alike-after}
use Rattle.contents.proofs.Firsts.{holds-here}

-- x is what was seen of the octet from the run `from` up to the run `to`, which is what is left of it
pub record Sees (s : List ℕ) (octet : ℕ) (from to : Run) (x : Tally) : Type 0 where
  pub bound : x.amount + (to.limit - to.at) ≤ length s
  pub total : x.amount + amount octet (tree_in s to) ≡ amount octet (tree_in s from)
  pub not_yet : x.amount ≡ 0 → (x.part ≡ no_part) × Alike s octet from to
  pub seen : (x.amount ≡ 0 → ⊥) → IsFirst s from octet x.part

module _ (s : List ℕ) (octet : ℕ) (from to : Run) (x : Tally) (p : Part) (rest : Run) (m : Begins s to p rest) (k : Sees s octet from to x) where
  sees-one : eqb p.code octet ≡ true
      → Sees s octet from rest (record { amount = x.amount + 1; part = earlier x p })
  sees-one e =
      let a : amount octet (tree_in s to) ≡ 1 + amount octet (tree_in s rest) = amount-of-item s to p rest m octet ∙ rw e in
      record {
        bound = omega (arith, m.less, k.bound);
        total = omega (arith, a, k.total);
        not_yet = λ z. absurd (omega arith);
        seen = λ n. cond-holds (IsFirst s from octet) (eqb x.amount 0)
            (λ z. holds-before (k.not_yet (eqb-true _ _ z)).1 (holds-here s to p rest m octet (eqb-true _ _ e)))
            (λ z. k.seen (eqb-false _ _ z));
      }

  sees-other : eqb p.code octet ≡ false → Sees s octet from rest x
  sees-other e =
      let a : amount octet (tree_in s to) ≡ 0 + amount octet (tree_in s rest) = amount-of-item s to p rest m octet ∙ rw e in
      record {
        bound = omega (arith, m.less, k.bound);
        total = omega (arith, a, k.total);
        not_yet = λ z. ((k.not_yet z).0, alike-on (k.not_yet z).1 (alike-after s to p rest m octet (eqb-false _ _ e)));
        seen = k.seen;
      }

  pub sees_more : Sees s octet from rest (seen_with octet x p)
  unfolding seen_with
  sees_more = cond-holds (Sees s octet from rest) (eqb p.code octet) sees-one sees-other

-- p has the bounds, the items and the run that a search for the octet finds, also where it finds none
pub record Kept (s : List ℕ) (octet : ℕ) (r : Run) (p : Part) : Type 0 where
  pub bounds : span_of p ≡ bounds_of octet (items_of s r)
  pub order : p.first ≤ p.past
  pub inside : p.past ≤ length s
  pub fine : Fine s p.inner
  pub items : items_of s p.inner ≡ items_in octet (items_of s r)
  pub tree : (octet ≡ 0) ⊎ (constructed octet ≡ true) → tree_in s p.inner ≡ first_run octet (tree_in s r)

module _ (s : List ℕ) (octet : ℕ) (r : Run) where
  found-tree : (p : Part) → IsFirst s r octet p → (octet ≡ 0) ⊎ (constructed octet ≡ true)
      → tree_in s p.inner ≡ first_run octet (tree_in s r)
  found-tree p h (inl z) = absurd (h.octet_not_zero z)
  found-tree p h (inr c) = sym (h.tree c)

  kept-found : (p : Part) → IsFirst s r octet p → Kept s octet r p
  kept-found p h =
      record {
        bounds = sym h.bounds;
        order = h.order;
        inside = h.inside;
        fine = h.inner_fine;
        items = sym h.items;
        tree = found-tree p h;
      }

  kept-missing : Lacks s r octet → Kept s octet r no_part
  unfolding run run_for
  kept-missing l =
      record {
        bounds = sym l.bounds;
        order = omega arith;
        inside = omega arith;
        fine = record { order = omega arith; inside = omega arith; whole = tt };
        items = sym l.items;
        tree = λ w. sym l.tree;
      }

  zero_or_not : (n : ℕ) → (n ≡ 0) ⊎ (n ≡ 0 → ⊥)
  zero_or_not zero = inl refl
  zero_or_not (suc n) = inr (λ e. omega arith)

  -- at the end of the run
  module _ (to : Run) (x : Tally) (e : items_of s to ≡ no_items) (k : Sees s octet r to x) where
    lacks : x.amount ≡ 0 → Lacks s r octet
    lacks z = lacks-before (k.not_yet z).1 (lacks-at-end s octet to e)

    kept_by : (x.amount ≡ 0) ⊎ (x.amount ≡ 0 → ⊥) → Kept s octet r x.part
    kept_by (inl z) = subst (Kept s octet r) (sym (k.not_yet z).0) (kept-missing (lacks z))
    kept_by (inr n) = kept-found x.part (k.seen n)

    pub kept : Kept s octet r x.part
    kept = kept_by (zero_or_not x.amount)

    pub counted : Counted s r octet x.amount (span_of x.part)
    counted =
        record {
          amount_is = omega (arith, k.total, amount-at-end s octet to e);
          bounds = kept.bounds;
          order = kept.order;
          inside = kept.inside;
          present = λ n. omega (arith, (k.seen n).starts, (k.seen n).order);
          value = λ n. (k.seen n).value;
          missing = λ z. (lacks z).value;
        }
