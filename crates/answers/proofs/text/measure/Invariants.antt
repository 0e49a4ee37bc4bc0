-- `answers::text::measure` meets its contract: what is counted, and what is left, is all.
use mathlib.Core.Path.{◌≡◌}
use Prim.Native.Nat.{◌+◌, ◌-◌, ◌≤◌}
use lib.ListN.{length}
use Rattle.text_lines.specs.Text.{texts_of}
use Rattle.text_lines.specs.Flat.{records_from}
use Rattle.answers.specs.Text.{text_in}
use Rattle.answers.proofs.text.measure.Given as goal

abbrev pub invariant-loop-k : goal.invariant-loop-k
invariant-loop-k l = (l.k ≤ l.lines) × (l.total + length (texts_of (text_in l.edition l.stream) (records_from l.numbers l.k (l.lines - l.k))) ≡ length
    (texts_of (text_in l.edition l.stream) (records_from l.numbers 0 l.lines)))
