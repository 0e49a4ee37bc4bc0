-- `letters::content::element_at` meets its contract: the element is what is met where its row begins.
use mathlib.Core.Path.{◌≡◌, refl, ap, sym, ◌∙◌, subst}
use Rattle.runs.specs.declared.Run.{Run}
use Rattle.runs.specs.Runs.{items_of, Fine, Meeting}
use Rattle.rows.specs.Columns.{whole_column, first_at}
use Rattle.letters.proofs.Fetching.{row_at}
use Rattle.letters.proofs.Standing.{rest_from, rest_fine, rest_some, element-at}
use Rattle.letters.proofs.content.element_at.Goals as goal
use Rattle.letters.proofs.content.element_at.Goals.{After-whole_stream-whole, In-Some}

-- the run that is met is the rest of the stream from where the row begins
from_row : (c : After-whole_stream-whole) → let whole = c.whole_stream-whole.result in
    record { at = first_at c.args.rows.now whole_column c.args.j; limit = whole.limit; marked = whole.marked; room = whole.room }
    ≡ rest_from c.args.edition c.requires.fine c.args.j (row_at c.requires.by_index.1 c.args.j c.requires.by_index.2).row (row_at c.requires.by_index.1 c.args.j c.requires.by_index.2).stands
from_row c =
    rw ((row_at c.requires.by_index.1 c.args.j c.requires.by_index.2).first, c.whole_stream-whole.ensures)

-- an item is met there
meeting : (c : In-Some) → Meeting c.args.s.now (rest_from c.args.edition c.requires.fine c.args.j (row_at c.requires.by_index.1 c.args.j c.requires.by_index.2).row (row_at c.requires.by_index.1 c.args.j c.requires.by_index.2).stands)
    c.in-Some.item.code c.in-Some.item.first c.in-Some.item.past c.in-Some.item.inner c.in-Some.item.rest
meeting c =
    let s = c.args.s.now in
    subst (λ (r : Run). Meeting s r c.in-Some.item.code c.in-Some.item.first c.in-Some.item.past c.in-Some.item.inner c.in-Some.item.rest) (from_row (goal.at.In-Some c).After-whole_stream-whole)
    c.in-Some.ensures

pub meet-requires : goal.meet-requires
meet-requires c =
    subst (Fine c.args.s.now) (sym (from_row (goal.at.meet-requires c).After-whole_stream-whole)) (rest_fine c.args.edition c.requires.fine c.args.j (row_at c.requires.by_index.1 c.args.j c.requires.by_index.2).row
    (row_at c.requires.by_index.1 c.args.j c.requires.by_index.2).stands)

pub returns-in-None : goal.returns-in-None
returns-in-None c =
    let s = c.args.s.now in
    absurd (rest_some c.args.edition c.requires.fine c.args.j (row_at c.requires.by_index.1 c.args.j c.requires.by_index.2).row (row_at c.requires.by_index.1 c.args.j c.requires.by_index.2).stands
    (ap (items_of s) (sym (from_row (goal.at.returns-in-None c).After-whole_stream-whole)) ∙ c.in-None.ensures))

pub returns-in-Some : goal.returns-in-Some
returns-in-Some c =
    element-at c.args.edition c.requires.fine c.args.j (row_at c.requires.by_index.1 c.args.j c.requires.by_index.2).row (row_at c.requires.by_index.1 c.args.j c.requires.by_index.2).stands _ (meeting (goal.at.returns-in-Some c).In-Some)
    ((row_at c.requires.by_index.1 c.args.j c.requires.by_index.2).first) refl
