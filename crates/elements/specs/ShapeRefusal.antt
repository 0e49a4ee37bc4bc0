-- The first of rules 12 to 14 that refuses an element, or 0: what the code asks of a shape.
use Rattle.std.specs.Prelude.{ℕ}
use Rattle.tree.specs.Tree.{Tree}
use Rattle.elements.specs.Shape.{Shape}
use Rattle.elements.specs.Judge.{first_of, shape_rules}

unfoldable pub shape_refusal : Shape → Tree → ℕ
shape_refusal shape run = first_of (shape_rules shape run)
