-- `answers::work` meets its contract: what each question's own work says.
use mathlib.Core.Path.{sym, subst}
use mathlib.Core.List.{List}
use Prim.Native.Nat.{ℕ}
use lib.ListN.{length}
use Rattle.rows.specs.Columns.{identifier_column}
use Rattle.rows.specs.Index.{Filed}
use Rattle.answers.specs.declared.Question.{Question}
use Rattle.answers.specs.Questions.{Roomy}
use Rattle.answers.proofs.Judging.{accepts-walked, accepted-judged}
use Rattle.answers.proofs.Working.{as-asked, ruled-letter, leaves-rules, leaves-check, leaves-content, leaves-joined, leaves-list, leaves-children}
use Rattle.answers.proofs.Working.{leaves-order, leaves-text, leaves-sources}
use Rattle.answers.proofs.work.Goals as goal
use Rattle.answers.proofs.work.Goals.{After-identifiers-names}

-- the rows are filed in the index of the identifiers
names-filed : (c : After-identifiers-names) →
    let a = c.args in
    Filed a.s.now a.rows.now identifier_column c.identifiers-names.result.now a.count
names-filed c =
    let a = c.args in
    subst (λ (index : List ℕ). Filed a.s.now a.rows.now identifier_column index a.count) (sym c.identifiers-names.ensures)
    c.requires.both_filed.identifiers

pub check_judged-r-requires : goal.check_judged-r-requires
check_judged-r-requires c = record {
  stream_value = c.requires.s_value;
  letter_rows = c.requires.letter_rows;
  filed = names-filed (goal.at.check_judged-r-requires c).After-identifiers-names;
}

pub list_judged-r-requires : goal.list_judged-r-requires
list_judged-r-requires c =
    let room = subst (λ (q : Question). Roomy q c.args.s.now (length c.args.flat.now))
    c.in-List.is c.requires.roomy in
    record { accepts = accepts-walked c.requires.s_value; letter_rows = c.requires.letter_rows; both_filed = c.requires.both_filed; stream_in_bounds = room }

pub children_judged-r-requires : goal.children_judged-r-requires
children_judged-r-requires c =
    let room = subst (λ (q : Question). Roomy q c.args.s.now (length c.args.flat.now))
    c.in-Children.is c.requires.roomy in
    record {
      accepts = accepts-walked c.requires.s_value;
      letter_rows = c.requires.letter_rows;
      filed = names-filed (goal.at.children_judged-r-requires c).After-identifiers-names;
      room_in_bounds = room;
    }

pub order_judged-r-requires : goal.order_judged-r-requires
order_judged-r-requires c =
    record {
      by_index = (c.args.headers, c.requires.s_value);
      letter_rows = c.requires.letter_rows;
      filed = names-filed (goal.at.order_judged-r-requires c).After-identifiers-names;
    }

pub text_judged-r-requires : goal.text_judged-r-requires
text_judged-r-requires c =
    let room = subst (λ (q : Question). Roomy q c.args.s.now (length c.args.flat.now))
    c.in-Text.is c.requires.roomy in
    record { accepts = accepts-walked c.requires.s_value; letter_rows = c.requires.letter_rows; both_filed = c.requires.both_filed; stream_in_bounds = room }

pub sources_judged-r-requires : goal.sources_judged-r-requires
sources_judged-r-requires c =
    let room = subst (λ (q : Question). Roomy q c.args.s.now (length c.args.flat.now))
    c.in-Sources.is c.requires.roomy in
    record { accepts = accepts-walked c.requires.s_value; letter_rows = c.requires.letter_rows; both_filed = c.requires.both_filed; stream_in_bounds = room }

pub returns-in-Rules : goal.returns-in-Rules
returns-in-Rules c =
    let s = c.args.s.now in
    let l = accepted-judged c.requires.s_value c.requires.letter_rows in
    as-asked c.in-Rules.is c.tell.ensures
    (leaves-rules c.args.edition s c.args.table.now c.args.flat.now c.args.out.now (sym (ruled-letter c.args.edition s l.judged)))

pub returns-in-Check : goal.returns-in-Check
returns-in-Check c =
    as-asked c.in-Check.is c.tell_checked.ensures
    (leaves-check c.args.edition c.args.s.now c.args.table.now c.args.flat.now c.args.out.now
    c.check_judged-r.ensures)

pub returns-in-Content : goal.returns-in-Content
returns-in-Content c =
    as-asked c.in-Content.is c.tell_located.ensures
    (leaves-content c.args.edition c.args.s.now c.args.table.now c.args.flat.now c.args.out.now
    c.locate_judged-r.ensures)

pub returns-in-Joined : goal.returns-in-Joined
returns-in-Joined c =
    as-asked c.in-Joined.is c.tell-in-Joined.ensures
    (leaves-joined c.args.edition c.args.s.now c.args.table.now c.args.flat.now c.args.out.now
    c.join_judged-r.ensures)

pub returns-in-List : goal.returns-in-List
returns-in-List c =
    as-asked c.in-List.is c.tell-in-List.ensures
    (leaves-list c.args.edition c.args.s.now c.args.table.now c.args.flat.now c.args.out.now
    c.list_judged-r.ensures)

pub returns-in-Children : goal.returns-in-Children
returns-in-Children c =
    as-asked c.in-Children.is c.tell-in-Children.ensures
    (leaves-children c.args.edition c.args.s.now c.args.table.now c.args.flat.now c.args.out.now
    c.children_judged-r.ensures)

pub returns-in-Order : goal.returns-in-Order
returns-in-Order c =
    as-asked c.in-Order.is c.tell-in-Order.ensures
    (leaves-order c.args.edition c.args.s.now c.args.table.now c.args.flat.now c.args.out.now
    c.order_judged-r.ensures)

pub returns-in-Text : goal.returns-in-Text
returns-in-Text c =
    as-asked c.in-Text.is
    c.tell-in-Text.ensures (leaves-text c.args.edition c.args.s.now c.args.table.now c.args.flat.now c.args.out.now
    c.text_judged-r.ensures)

pub returns-in-Sources : goal.returns-in-Sources
returns-in-Sources c =
    as-asked c.in-Sources.is c.tell-in-Sources.ensures
    (leaves-sources c.args.edition c.args.s.now c.args.table.now c.args.flat.now c.args.out.now
    c.sources_judged-r.ensures)
