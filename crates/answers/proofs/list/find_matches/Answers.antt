-- `answers::list::find_matches` meets its contract: what the judge left says what the letter is, and the rest is the list of that.
use native.Mathlib.Omega.{arith}
use Rattle.reading.proofs.Single.{no-more-than-elements}
use Rattle.letters.proofs.Table.{letter-apart}
use Rattle.answers.proofs.Judging.{accepted-judged}
use Rattle.answers.proofs.Listing.{finds-16, finds-19, finds-letter}
use Rattle.answers.proofs.list.find_matches.Goals as goal

pub returns-then-lent-elements : goal.returns-then-lent-elements
returns-then-lent-elements c =
    let l = accepted-judged c.requires.accepts.ended c.requires.letter_rows in
    finds-16 c.args.edition c.args.side c.args.stream.now c.args.flat.now c.args.lent c.args.room _ l.held.elements
    l.judged (omega (arith, l.held.holds.counted))

pub list_matches-matches-requires : goal.list_matches-matches-requires
list_matches-matches-requires c =
    let l = accepted-judged c.requires.accepts.ended c.requires.letter_rows in
    record {
      letter_rows = (c.args.edition, c.requires.letter_rows);
      both_filed = c.requires.both_filed;
      n_in_bounds = omega (arith, c.requires.stream_in_bounds, l.held.holds.counted, l.needed);
    }

pub overflow_cast-result : goal.overflow_cast-result
overflow_cast-result c =
    let l = accepted-judged c.requires.accepts.ended c.requires.letter_rows in
    omega (arith, l.few)

pub returns-then-room-matches : goal.returns-then-room-matches
returns-then-room-matches c =
    let l = accepted-judged c.requires.accepts.ended c.requires.letter_rows in
    let lists = c.list_matches-matches.ensures c.args.edition l.held in
    finds-19 c.args.edition c.args.side c.args.stream.now _ c.args.lent c.args.room _ l.held.elements l.judged _
    l.held.holds.counted (omega arith) _ _ lists (omega arith)

pub overflow_cast-result-2 : goal.overflow_cast-result-2
overflow_cast-result-2 c =
    let l = accepted-judged c.requires.accepts.ended c.requires.letter_rows in
    omega (arith, l.few)

pub overflow_cast-result-3 : goal.overflow_cast-result-3
overflow_cast-result-3 c =
    let l = accepted-judged c.requires.accepts.ended c.requires.letter_rows in
    let lists = c.list_matches-matches.ensures c.args.edition l.held in
    let few = no-more-than-elements l.held.elements (letter-apart l.held) c.args.side in
    omega (arith, lists.counted, l.held.holds.counted, l.few)

pub returns : goal.returns
returns c =
    let l = accepted-judged c.requires.accepts.ended c.requires.letter_rows in
    let lists = c.list_matches-matches.ensures c.args.edition l.held in
    finds-letter c.args.edition c.args.side c.args.stream.now _ c.args.lent c.args.room _ l.held.elements l.judged _
    l.held.holds.counted (omega arith) _ _ lists (omega arith)
