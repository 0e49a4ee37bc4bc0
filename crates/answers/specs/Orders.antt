-- 26 by the rows: what the code gives where a pass finds a fault. W-207.
use Rattle.std.specs.Prelude.{ℕ, cond, List, ltb, length}
use Rattle.rows.specs.Columns.{whole_column, first_at}
use Rattle.order.specs.declared.Ordered.{Ordered}
use Rattle.order.specs.Question.{verdict, out_of_order_number}

-- 26 at a row; past the last row at the stream's length
abbrev pub fault_place : (s rows : List ℕ) → (count element : ℕ) → Ordered
fault_place s rows count element = verdict out_of_order_number (cond (ltb element count) (first_at rows whole_column element) (length s))
