-- `answers::sourcing::sources_judged` meets its contract: the matches that are listed are those of the side, and so are their sources.
use native.Mathlib.Omega.{arith}
use Rattle.runs.proofs.Laws.{stream-fine}
use Rattle.answers.proofs.Judging.{accepted-judged}
use Rattle.answers.proofs.Sources.{few-lines, few-sources, all_listed, too_short, put_all}
use Rattle.answers.proofs.sourcing.sources_judged.Goals as goal

pub list_matches-lines-requires : goal.list_matches-lines-requires
list_matches-lines-requires c =
    let l = accepted-judged c.requires.accepts.ended c.requires.letter_rows in
    record {
      letter_rows = (c.args.edition, c.requires.letter_rows);
      both_filed = c.requires.both_filed;
      n_in_bounds = omega (arith, c.requires.stream_in_bounds, l.needed);
    }

pub count_sources-total-requires : goal.count_sources-total-requires
count_sources-total-requires c =
    let l = accepted-judged c.requires.accepts.ended c.requires.letter_rows in
    let lists = c.list_matches-lines.ensures c.args.edition l.held in
    record {
      fine = (stream-fine c.args.stream.now c.requires.accepts.at c.requires.accepts.headers c.requires.accepts.ended, l.held);
      lines_listed = all_listed l c.args.side lists;
    }

pub returns-then-list-total : goal.returns-then-list-total
returns-then-list-total c =
    let l = accepted-judged c.requires.accepts.ended c.requires.letter_rows in
    let lists = c.list_matches-lines.ensures c.args.edition l.held in
    too_short l c.args.side lists c.args.list.now (omega (arith, c.if-list-total.true, c.count_sources-total.ensures))

pub put_sources-requires : goal.put_sources-requires
put_sources-requires c =
    let l = accepted-judged c.requires.accepts.ended c.requires.letter_rows in
    let lists = c.list_matches-lines.ensures c.args.edition l.held in
    let fine = stream-fine c.args.stream.now c.requires.accepts.at c.requires.accepts.headers c.requires.accepts.ended in
    let room = c.if-list-total.false in
    record {
      fine = (fine, l.held, l.within_limit);
      lines_listed = all_listed l c.args.side lists;
      lines_in_bounds = omega (arith, room, c.count_sources-total.ensures);
    }

pub overflow_cast-result : goal.overflow_cast-result
overflow_cast-result c =
    let l = accepted-judged c.requires.accepts.ended c.requires.letter_rows in
    let lists = c.list_matches-lines.ensures c.args.edition l.held in
    omega (arith, few-lines l c.args.side lists)

pub overflow_cast-result-2 : goal.overflow_cast-result-2
overflow_cast-result-2 c =
    let l = accepted-judged c.requires.accepts.ended c.requires.letter_rows in
    let lists = c.list_matches-lines.ensures c.args.edition l.held in
    omega (arith, few-sources l c.args.side lists, c.count_sources-total.ensures)

pub returns : goal.returns
returns c =
    let l = accepted-judged c.requires.accepts.ended c.requires.letter_rows in
    let lists = c.list_matches-lines.ensures c.args.edition l.held in
    let room = c.if-list-total.false in
    put_all l c.args.side lists c.args.list.now _ _ c.count_sources-total.ensures (omega (arith, room))
    c.put_sources.ensures
