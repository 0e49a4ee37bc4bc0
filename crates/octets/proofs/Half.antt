-- The header count is at most half the stream's bytes.
use mathlib.Core.Bool.{false}
use mathlib.Core.List.{List}
use Prim.Native.Nat.{ℕ, ◌+◌, ◌≤◌}
use native.Mathlib.Omega.{arith}
use lib.Dec.{leb}
use lib.ListN.{length}
use Rattle.octets.specs.Told.{Outcome}
use Rattle.octets.specs.Walk.{count, End, ends, stops, run, outcome_of, walk_of}
use Rattle.octets.specs.Told.{told}
use Rattle.laws.proofs.Tests.{cond-holds}
use Rattle.octets.proofs.Walks.{EndOk, run_ok}

abbrev Half : ℕ → Outcome → Type 0
Half n o = (told o).headers + (told o).headers ≤ n

half_of : (limit n : ℕ) (e : End) → EndOk 0 limit n e → Half limit (outcome_of n e)
half_of limit n (ends next) o = omega arith
half_of limit n (stops number place) o = omega arith

pub half : (s : List ℕ) → Half (length s) (walk_of s)
unfolding walk_of
half s =
    cond-holds (Half (length s)) (leb (length s) 1048576)
    (λ _. half_of (length s) (count (run 16 s 0 (length s) false).items) (run 16 s 0 (length s) false).how (run_ok 16 s 0 (length s) false (omega arith)))
    (λ _. omega arith)
