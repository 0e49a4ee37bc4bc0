-- `lister_text::put_rest` meets its contract. The loop's invariant: storing what is left of the line from here is storing the whole rest of it from
-- the start, and there is room for it.
use Prim.Native.Nat.{◌+◌, ◌*◌, ◌-◌, ◌<◌}
use mathlib.Core.Path.{◌≡◌}
use lib.ListN.{length, drop}
use lib.Seq.{sets}
use Rattle.lister_text.specs.Lines.{rest}
use Rattle.lister_text.proofs.put_rest.Given as goal

abbrev pub invariant-loop-n : goal.invariant-loop-n
invariant-loop-n l = record {
  room : l.here + 21 * (length l.numbers - l.n-index) < length l.initial.out;
  whole : length l.out ≡ length l.initial.out;
  told : l.here + length (rest (drop l.n-index l.numbers)) ≡ l.at + length (rest l.numbers);
  stores : sets l.out l.here (rest (drop l.n-index l.numbers)) ≡ sets l.initial.out l.at (rest l.numbers);
}
