-- `order_b::pass` meets its contract. The loop's invariant: the answer from the second element is the answer from here.
use mathlib.Core.Path.{◌≡◌}
use mathlib.Core.List.{List}
use Rattle.elements.specs.Judge.{Element}
use Rattle.letters.specs.Telling.{RowsTell}
use Rattle.order.specs.Represents.{LimitsAside}
use Rattle.order_b.specs.Steps.{state_of}
use Rattle.order_b.proofs.Passing.{pass_from}
use Rattle.order_b.proofs.pass.Given as goal

abbrev pub invariant-loop-j : goal.invariant-loop-j
invariant-loop-j l = (elements : List Element) → RowsTell l.s l.rows l.n elements → LimitsAside elements
    → pass_from elements (state_of l.initial.state) 1 ≡ pass_from elements (state_of l.state) l.j
