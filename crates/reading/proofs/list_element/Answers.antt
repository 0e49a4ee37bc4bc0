-- `reading::list_element` meets its contract: an element that is not listed has no match.
use mathlib.Core.Path.{sym, ◌∙◌, subst}
use mathlib.Core.List.{List}
use native.Mathlib.Omega.{arith}
use Rattle.reading.specs.declared.Match.{Match}
use Rattle.reading.specs.Records.{PutsRecords}
use Rattle.reading.proofs.Putting.{puts_none}
use Rattle.reading.proofs.Listing.{unlisted}
use Rattle.reading.proofs.list_element.Goals as goal

pub is_listed-requires : goal.is_listed-requires
is_listed-requires c =
    omega (arith, c.requires.element_lt_n, c.requires.letter_rows.1.holds.identifiers.in_table)

pub returns-else-is_listed : goal.returns-else-is_listed
returns-else-is_listed c elements ready =
    let a = c.args in
    let none = unlisted a.side a.s.now a.rows.now a.n a.element c.requires.element_lt_n elements ready
    (sym c.is_listed.ensures ∙ c.if-is_listed.false) in
    subst (λ (ms : List Match). PutsRecords a.flat.now a.count ms a.flat.now a.count) (sym none) (puts_none a.flat.now a.count)

pub list_portions-requires : goal.list_portions-requires
list_portions-requires c =
    record {
      letter_rows = c.requires.letter_rows;
      filed = c.requires.filed;
      element_lt_n = (c.requires.element_lt_n, sym c.is_listed.ensures ∙ c.if-is_listed.true);
      room = c.requires.room;
    }
