-- The first item of a stream: what `meet` tells of it (`first-met`), and how it is refused (`first_stops`, `first-none`).
use mathlib.Core.Path.{◌≡◌, ap, sym, ◌∙◌, subst}
use mathlib.Core.List.{List}
use mathlib.Core.Bool.{false}
use Prim.Native.Nat.{ℕ, ◌<◌, ◌≤◌}
use native.Mathlib.Omega.{arith}
use lib.ListN.{length}
use borrow.Author.Tests.{le-leb}
use Rattle.octets.specs.Walk.{item, ends, stops, ended, deepest}
use Rattle.octets.specs.Further.{one_of}
use Rattle.octets.proofs.Numbers.{Stops, run-stops}
use Rattle.runs.specs.declared.Run.{Run}
use Rattle.runs.specs.Runs.{items_of, definite_run, Meeting}
use Rattle.fronts.specs.First.{walk_first}
use Rattle.fronts.specs.FirstItem.{FirstItem}
use Rattle.fronts.proofs.Alone.{alone-items, one_only, one-within, alone-stops}

-- the item that is met in the run of the first item alone
pub first-met : (s : List ℕ) (next : ℕ) → 0 < length s → (walk_first s).how ≡ ends next → {code first past : ℕ} {inner rest : Run}
    → Meeting s (definite_run 0 next deepest) code first past inner rest → FirstItem s code inner
first-met s next l e {code} {first} {past} {inner} {rest} m =
    let i = sym (alone-items deepest s 0 (length s) next l e) ∙ m.tree in
    let z = one_only deepest s 0 (length s) next l e code first past (items_of s inner) (items_of s rest) i in
    record {
      next = next;
      first = first;
      past = past;
      within = (one-within deepest s 0 (length s) next l e (omega arith)).1;
      ended = e;
      is = i ∙ ap (item 0 code first past (items_of s inner)) z;
      fine = m.inner_fine;
    }

-- a refusal of the first item alone: one of 2 to 8, in the stream
pub first_stops : (s : List ℕ) (number place : ℕ) → 0 < length s → (walk_first s).how ≡ stops number place
    → (2 ≤ number) × (number ≤ 8) × (place ≤ length s)
first_stops s number place l e =
    subst (Stops (length s)) (alone-stops deepest s 0 (length s) number place l e) (run-stops deepest s 0 (length s) false (omega arith))

-- no octets, no item
pub first-none : (s : List ℕ) → length s ≡ 0 → walk_first s ≡ ended (length s)
unfolding one_of
first-none s e = let l : length s ≤ 0 = omega arith in rw (le-leb (length s) 0 l)
