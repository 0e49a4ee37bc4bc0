-- `making::rules::judge_entries` meets its contract: at each turn the judge stands between two entries.
use mathlib.Core.Path.{◌≡◌}
use lib.ListN.{length}
use Rattle.making.proofs.Judging.{Judging}
use Rattle.making.proofs.rules.judge_entries.Given as goal

abbrev pub invariant-loop-k : goal.invariant-loop-k
invariant-loop-k l = record {
  judging : Judging l.buffer l.numbers l.rows l.index l.k;
  rows_stay : length l.rows ≡ length l.initial.rows;
  links_stay : length l.index ≡ length l.initial.index;
}
