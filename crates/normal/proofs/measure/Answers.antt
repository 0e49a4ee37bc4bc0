-- `normal::measure` meets its contract: the whole stream is a run that ended.
use mathlib.Core.Bool.{false}
use native.Mathlib.Omega.{arith}
use lib.ListN.{length}
use Rattle.octets.specs.Walk.{deepest}
use Rattle.normal.specs.Passes.{RunEnds}
use Rattle.normal.proofs.measure.Goals as goal
use Rattle.normal.proofs.measure.Goals.{Start}

ends : (c : Start) → let s = c.args.s.now in RunEnds deepest s 0 (length s) false
ends c = record { order = omega arith; within = omega arith; small = c.requires.0; whole = c.requires.1 }

pub measure_run-requires : goal.measure_run-requires
measure_run-requires c = ends (goal.at.measure_run-requires c).Start

pub returns : goal.returns
returns c = (ends (goal.at.returns c).Start, c.measure_run.ensures)
