-- `making::judge` meets its contract: the arrays of either size are what the judge asks for.
use mathlib.Core.Logic.{inl, inr}
use native.Mathlib.Omega.{arith}
use Rattle.making.proofs.Judging.{zeros-roomy, few-links, many-links}
use Rattle.making.proofs.judge.Goals as goal

pub judge_in-requires : goal.judge_in-requires
judge_in-requires c = record {
  room = zeros-roomy c.args.numbers.now 1536 385 128 (inl (omega arith)) (omega arith) (omega (arith, few-links))
      (omega (arith, few-links)) (omega (arith, few-links));
  small = (omega arith, omega arith);
}

pub judge_in-requires-2 : goal.judge_in-requires-2
judge_in-requires-2 c = record {
  room = zeros-roomy c.args.numbers.now 24564 6145 2047 (inr (omega arith)) (omega arith) (omega (arith, many-links))
      (omega (arith, many-links)) (omega (arith, many-links));
  small = (omega arith, omega arith);
}
