-- A finding is one of 1 to 8 if the one that it began with is: no octet makes another (`one-to-eight`).
use mathlib.Core.Bool.{Bool, true, false}
use mathlib.Core.List.{List, [], ◌∷◌, ◌++◌}
use Prim.Native.Nat.{ℕ, suc, ◌+◌, ◌-◌, ◌≤◌}
use native.Mathlib.Omega.{arith}
use lib.Dec.{leb, eqb}
use lib.ListN.{drop}
use Rattle.headers.specs.declared.Head.{Head}
use Rattle.headers.specs.declared.Head.TheVariants.{Item, ClosingMark, Refusal}
use Rattle.headers.specs.Head.{constructed, head_at}
use Rattle.laws.proofs.Tests.{cond-holds}
use Rattle.blocks.specs.Engine.{Open, Standing, reading, found, State, limit_of, marked_of, room_of, whole, moved, settle, arrive, enter, decide, in_header}
use Rattle.blocks.specs.Engine.{onward, step, feed}
use Rattle.engine.specs.Skimming.{Numbered}
use Rattle.engine.proofs.Stores.{numbered}

-- if there is a finding, its number is at most 8
abbrev pub OneToEight : Standing → Type 0
OneToEight (reading headers opens at begun) = Unit {0}
OneToEight (found number place headers) = number ≤ 8

settled : (k : ℕ) (opens : List Open) (at : ℕ) → OneToEight (settle k opens at)
settled k [] at = tt
settled k (o ∷ outer) at =
    cond-holds OneToEight (leb o.bound at) (λ _. cond-holds OneToEight o.marked (λ _. omega arith) (λ _. settled k outer at)) (λ _. tt)

arrived : (taken k : ℕ) (opens : List Open) (at : ℕ) → OneToEight (arrive taken k opens at)
arrived taken k opens at = cond-holds OneToEight (eqb at taken) (λ _. settled k opens at) (λ _. tt)

decided : (taken k : ℕ) (opens : List Open) (at : ℕ) (head : Head) → Numbered head → OneToEight (decide taken k opens at (moved at head))
decided taken k opens at (Item h) n = go (constructed h.code)
  where
    go : (b : Bool)
        → OneToEight (enter b taken (suc k) opens (record {
          code = h.code;
          number = h.number;
          start = at + h.start;
          bound = at + h.bound;
          marked = h.marked;
        }))
    go true = arrived taken (suc k) (record { bound = at + h.bound; marked = h.marked } ∷ opens) (at + h.start)
    go false = arrived taken (suc k) opens (at + h.bound)
decided taken k opens at ClosingMark n = arrived taken k (drop 1 opens) (at + 2)
decided taken k opens at (Refusal number place) n = n.1

onward-found : (total taken x : ℕ) (w : Standing) → OneToEight w → OneToEight (onward total taken x w)
unfolding in_header
onward-found total taken x (found number place k) h = h
onward-found total taken x (reading k opens at begun) h =
    let left = limit_of total opens - at in
    let b = begun ++ (x ∷ []) in
    cond-holds OneToEight (leb taken at) (λ _. arrived taken k opens at)
    (λ _. cond-holds OneToEight (whole b left)
    (λ _. decided taken k opens at (head_at b 0 left (marked_of opens) (room_of opens)) (numbered b left (marked_of opens) (room_of opens)))
    (λ _. tt))

pub one-to-eight : (s : State) (xs : List ℕ) → OneToEight s.standing → OneToEight (feed s xs).standing
unfolding step
one-to-eight s [] h = h
one-to-eight s (x ∷ xs) h = one-to-eight (step s x) xs (onward-found s.total (suc s.taken) x s.standing h)
