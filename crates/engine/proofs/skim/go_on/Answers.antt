-- `go_on`: the run inside so many open items.
use mathlib.Core.Path.{refl, sym, subst}
use Rattle.engine.specs.Skimming.{GoesOn}
use Rattle.engine.proofs.skim.go_on.Goals as goal

pub returns : goal.returns
returns c =
    let a = c.args in
    let stop = c.stop_at-stop.ensures in
    subst (GoesOn a.seat a.ends.now a.level a.i a.headers) (sym c.going.ensures)
    (record {
      inside = refl;
      at = refl;
      passed = refl;
      number = refl;
      run = record { stop = stop.0; marked = c.marked_at-marked.ensures; limit = stop.1 };
    })
