-- `sources::side::put_sources` meets its contract. The loop's invariant: the numbers that are put, and those of the lines that are left, are all
-- (`Filling`).
use Rattle.sources.specs.Units.{places_in}
use Rattle.sources.proofs.Filling.{Filling}
use Rattle.sources.proofs.Sides.{numbers_left}
use Rattle.sources.proofs.side.put_sources.Given as goal

abbrev pub invariant-loop-k : goal.invariant-loop-k
invariant-loop-k l = let left = numbers_left (places_in l.edition l.s) l.numbers l.lines in
    Filling (left 0) l.initial.list (left l.k) l.done l.list
