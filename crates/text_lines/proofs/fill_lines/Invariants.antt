-- `text_lines::fill_lines` meets its contract. The loop's invariant: the lines that are put, and then those that are left, are all.
use mathlib.Core.Path.{◌≡◌}
use Prim.Native.Nat.{◌-◌, ◌*◌}
use lib.ListN.{length}
use lib.Seq.{sets}
use Rattle.text_lines.specs.Flat.{lines_left}
use Rattle.text_lines.proofs.fill_lines.Given as goal

abbrev pub invariant-loop-k : goal.invariant-loop-k
invariant-loop-k l = (length l.lines ≡ length l.initial.lines)
    × (sets l.lines (5 * l.k) (lines_left l.numbers l.count l.k (l.count - l.k) l.first) ≡ sets l.initial.lines 0 (lines_left l.numbers l.count 0 l.count 0))
