-- One pass for five octets: what was gathered so far, and what the run still has.
use mathlib.Core.Path.{◌≡◌}
use mathlib.Core.Bool.{Bool, true, false, cond}
use mathlib.Core.List.{List}
use Prim.Native.Nat.{ℕ, ◌+◌, ◌-◌, ◌≤◌}
use native.Mathlib.Omega.{arith}
use lib.Dec.{eqb}
use lib.ListN.{length}
use Rattle.octets.specs.Walk.{no_items}
use Rattle.runs.specs.declared.Run.{Run}
use Rattle.runs.specs.Runs.{items_of, tree_in, Fine}
use Rattle.contents.specs.declared.Part.{Part}
use Rattle.contents.specs.declared.Tally.{Tally}
use Rattle.contents.specs.declared.Sought.{Sought}
use Rattle.contents.specs.Search.{amount}
use Rattle.contents.specs.Opening.{Begins}
use Rattle.contents.specs.Gather.{Gathers, seen_with, gathered_from}
use Rattle.contents.proofs.Firsts.{amount-of-item, amount-at-end}
use Rattle.contents.proofs.Seeing.{Sees, sees_more, kept, counted}

-- what was seen from the run `from` up to the run `to`, which is what is left of it
pub record Gathering (s : List ℕ) (sought : Sought) (from to : Run) (identifier logical portions : Tally) (barred : ℕ) : Type 0 where
  pub fine : Fine s to
  pub identifier_seen : Sees s sought.identifier from to identifier
  pub logical_seen : Sees s sought.logical from to logical
  pub portions_seen : Sees s sought.portions from to portions
  pub bound : barred + (to.limit - to.at) ≤ length s
  pub total : barred + (amount sought.never (tree_in s to) + amount sought.neither (tree_in s to))
      ≡ amount sought.never (tree_in s from) + amount sought.neither (tree_in s from)

at_most_one : (b : Bool) → cond {A = ℕ} b 1 0 ≤ 1
at_most_one true = omega arith
at_most_one false = omega arith

module _ (s : List ℕ) (sought : Sought) (from to : Run) (identifier logical portions : Tally) (barred : ℕ)
    (g : Gathering s sought from to identifier logical portions barred) where
  pub gathering-more : (p : Part) (rest : Run) → Begins s to p rest
      → Gathering s sought from rest (seen_with sought.identifier identifier p) (seen_with sought.logical logical p)
      (seen_with sought.portions portions p)
      (barred + cond (eqb p.code sought.never) 1 0 + cond (eqb p.code sought.neither) 1 0)
  gathering-more p rest m =
      let f = m.rest_fine in
      record {
        fine = f;
        identifier_seen = sees_more s sought.identifier from to identifier p rest m g.identifier_seen;
        logical_seen = sees_more s sought.logical from to logical p rest m g.logical_seen;
        portions_seen = sees_more s sought.portions from to portions p rest m g.portions_seen;
        bound =
            omega (
              arith,
              at_most_one (eqb p.code sought.never),
              at_most_one (eqb p.code sought.neither),
              m.starts,
              m.value_order,
              m.value_before,
              m.rest_limit,
              f.order,
              g.bound,
            );
        total =
            omega (arith, amount-of-item s to p rest m sought.never, amount-of-item s to p rest m sought.neither, g.total);
      }

  pub gathering-end : items_of s to ≡ no_items → Gathers s from sought (gathered_from identifier logical portions barred)
  gathering-end e =
      let k = kept s sought.portions from to portions e g.portions_seen in
      record {
        identifier = counted s sought.identifier from to identifier e g.identifier_seen;
        logical = counted s sought.logical from to logical e g.logical_seen;
        portions = counted s sought.portions from to portions e g.portions_seen;
        list_fine = k.fine;
        list_items = k.items;
        list_tree = k.tree;
        barred = omega (arith, g.total, amount-at-end s sought.never to e, amount-at-end s sought.neither to e);
      }
