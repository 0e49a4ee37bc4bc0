-- `open_item`: the end is stored last, so it is the innermost.
use mathlib.Core.Path.{◌≡◌, ◌∙◌}
use Prim.Native.Nat.{◌<◌}
use native.Mathlib.Omega.{arith}
use lib.ListN.{length, length-map}
use Rattle.engine.proofs.Stores.{pushed}
use Rattle.engine.proofs.header.open_item.Goals as goal

pub returns : goal.returns
returns c =
    let a = c.args in
    let b = a.b in
    let n : length b.ends ≡ 16 = omega (arith, c.well_formed, length-map b.ends (λ v. v)) in
    let l : b.level < length b.ends = omega arith in
    let w = c.arrived.ensures in
    record {
      state = w.state ∙ rw (pushed b.level b.ends c.end_of.result (record { bound = a.bound; marked = a.marked }) l
          c.end_of.ensures);
      depth = w.depth;
      kept = w.kept;
      headers = w.headers;
    }
