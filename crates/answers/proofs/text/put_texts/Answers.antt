-- `answers::text::put_texts` meets its contract. The loop's invariant is `PutSoFar`.
use Prim.Native.Nat.{◌≤◌}
use native.Mathlib.Omega.{arith}
use lib.ListN.{length}
use Rattle.pieces.proofs.Putting.{part_length}
use Rattle.text_lines.proofs.Putting.{none-put, all-put, room-left, end-within, more-put}
use Rattle.answers.specs.Text.{text_in}
use Rattle.answers.proofs.text.put_texts.Goals as goal

pub loop-k-init : goal.loop-k-init
loop-k-init c = let a = c.args in none-put (text_in a.edition a.stream.now) a.numbers.now a.lines a.out.now

pub bounds-numbers-k : goal.bounds-numbers-k
bounds-numbers-k c =
    let a = c.args in
    let l = c.loop-k in
    let below = c.loop-k-test.true in
    omega (arith, below, l.invariant.long, c.requires.listing.room)

pub slice_bounds-put_text-count : goal.slice_bounds-put_text-count
slice_bounds-put_text-count c =
    let a = c.args in
    let l = c.loop-k in
    let below = c.loop-k-test.true in
    omega (arith, l.invariant.all, l.invariant.wide, c.requires.lines_in_bounds)

pub slice_bounds-put_text-start : goal.slice_bounds-put_text-start
slice_bounds-put_text-start c =
    let a = c.args in
    let l = c.loop-k in
    let below = c.loop-k-test.true in
    let h : l.done ≤ length l.out = omega (arith, l.invariant.all, l.invariant.wide, c.requires.lines_in_bounds) in
    h

pub put_text-done-requires : goal.put_text-done-requires
put_text-done-requires c =
    let a = c.args in
    let l = c.loop-k in
    let below = c.loop-k-test.true in
    record {
      accepts = c.requires.accepts;
      letter_rows = c.requires.letter_rows;
      unit_in_bounds = omega (
        arith,
        room-left (text_in a.edition a.stream.now) a.numbers.now a.lines a.out.now l.invariant below c.requires.lines_in_bounds,
        part_length l.out l.done,
      );
    }

pub overflow_add-done : goal.overflow_add-done
overflow_add-done c =
    let a = c.args in
    let l = c.loop-k in
    let below = c.loop-k-test.true in
    let own = c.put_text-done.ensures.value in
    omega (
      arith,
      own,
      end-within (text_in a.edition a.stream.now) a.numbers.now a.lines a.out.now l.invariant below,
      c.requires.listing.short,
    )

pub overflow_cast-numbers : goal.overflow_cast-numbers
overflow_cast-numbers c =
    let a = c.args in
    let l = c.loop-k in
    let below = c.loop-k-test.true in
    let own = c.put_text-done.ensures.value in
    omega (
      arith,
      own,
      end-within (text_in a.edition a.stream.now) a.numbers.now a.lines a.out.now l.invariant below,
      c.requires.listing.short,
    )

pub overflow_mul-numbers : goal.overflow_mul-numbers
overflow_mul-numbers c =
    let a = c.args in
    let l = c.loop-k in
    let below = c.loop-k-test.true in
    omega (arith, below, c.requires.listing.few)

pub overflow_add-numbers : goal.overflow_add-numbers
overflow_add-numbers c =
    let a = c.args in
    let l = c.loop-k in
    let below = c.loop-k-test.true in
    omega (arith, below, c.requires.listing.few)

pub offset_bounds-numbers-lines : goal.offset_bounds-numbers-lines
offset_bounds-numbers-lines c =
    let a = c.args in
    let l = c.loop-k in
    let below = c.loop-k-test.true in
    omega (arith, below, c.requires.listing.few)

pub bounds-numbers-lines : goal.bounds-numbers-lines
bounds-numbers-lines c =
    let a = c.args in
    let l = c.loop-k in
    let below = c.loop-k-test.true in
    omega (arith, below, l.invariant.long, c.requires.listing.room)

pub loop-k-preserved : goal.loop-k-preserved
loop-k-preserved c =
    let a = c.args in
    more-put (text_in a.edition a.stream.now) a.numbers.now a.lines a.out.now c.loop-k.invariant c.loop-k-test.true c.requires.lines_in_bounds
    c.put_text-done.result _ c.put_text-done.ensures.value c.put_text-done.ensures.out_after

pub shape_of-numbers : goal.shape_of-numbers
shape_of-numbers c = c.loop-k.invariant.long

pub shape_of-out : goal.shape_of-out
shape_of-out c = c.loop-k.invariant.wide

pub returns : goal.returns
returns c =
    let a = c.args in
    let l = c.loop-k in
    all-put (text_in a.edition a.stream.now) a.numbers.now a.lines a.out.now l.invariant c.loop-k-test.false
