-- A page's dimensions. W-210: "find the dimensions, A4 in the descriptor body holding two items 80 .., and read horizontal and vertical as X.209
-- integers". Over the tree of an element: places and length octets are no part of it.
use Rattle.std.specs.Prelude.{ℕ, cond, ◌&&◌, eqb}
use Rattle.tree.specs.Tree.{Tree, empty, leaf, branch}
use Rattle.contents.specs.Search.{is, amount, first_run}
use Rattle.measures.specs.Integers.{integer_of}
use Rattle.measures.specs.Verdicts.{none, not_fixed, verdict_of_two}

-- The verdict on what an A4 holds: two items 80 and nothing else, horizontal and vertical.
unfoldable pub verdict_of_items : Tree → ℕ
verdict_of_items empty = not_fixed
verdict_of_items (branch type inside after) = not_fixed
verdict_of_items (leaf one horizontal empty) = not_fixed
verdict_of_items (leaf one horizontal (branch type inside after)) = not_fixed
verdict_of_items (leaf one horizontal (leaf two vertical empty)) =
    cond (is 0x80 one && is 0x80 two) (verdict_of_two (integer_of horizontal) (integer_of vertical)) not_fixed
verdict_of_items (leaf one horizontal (leaf two vertical (leaf type value after))) = not_fixed
verdict_of_items (leaf one horizontal (leaf two vertical (branch type inside after))) = not_fixed

-- The verdict on a descriptor body: "A page without dimensions is 'none'"; "a second A4, is 'not fixed'".
unfoldable pub verdict_of_body : Tree → ℕ
verdict_of_body body =
    cond (eqb (amount 0xA4 body) 0) none
    (cond (eqb (amount 0xA4 body) 1) (verdict_of_items (first_run 0xA4 body))
    not_fixed)

-- The verdict on an element: its descriptor body is its 31, of which it has one at most.
abbrev pub verdict_of : Tree → ℕ
verdict_of element = verdict_of_body (first_run 0x31 element)
