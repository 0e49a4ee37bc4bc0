-- `making::rules::judge_entries` meets its contract: at each turn the judge stands between two entries.
use mathlib.Core.Path.{◌≡◌, refl, ap, sym, ◌∙◌, subst}
use Prim.Native.Nat.{ℕ, ◌/◌, ◌<◌}
use native.Mathlib.Omega.{arith}
use lib.ListN.{length}
use Rattle.names.specs.Hash.{hash}
use Rattle.elements.specs.ElementRows.{bytes_in}
use Rattle.making.specs.declared.Entry.{Entry}
use Rattle.making.specs.Entries.{entry_refusal, judge_entries}
use Rattle.making.specs.Answers.{reason_of}
use Rattle.making.specs.Flat.{entry_width, entry_at, entries_in}
use Rattle.making.specs.Lent.{EntryLies}
use Rattle.making.specs.Keeps.{ruled_by}
use Rattle.rows.proofs.Parts.{links-alike}
use Rattle.making.proofs.Lent.{entry-there}
use Rattle.making.proofs.Judging.{judging-none, few-done, stopped-at, judging-more, none_left}
use Rattle.making.proofs.rules.judge_entries.Goals as goal

pub loop-k-init : goal.loop-k-init
loop-k-init c = record {
  judging = judging-none c.args.buffer.now c.args.numbers.now c.args.rows.now c.args.index.now c.requires;
  rows_stay = refl;
  links_stay = refl;
}

pub entry_at-requires : goal.entry_at-requires
entry_at-requires c = entry-there (length c.args.numbers.now) c.loop-k.k (omega arith)

pub rule-requires : goal.rule-requires
rule-requires c =
    let k = c.loop-k.invariant.judging.keeps in
    (k.bounded, k.filed)

pub overflow_cast-result : goal.overflow_cast-result
overflow_cast-result c = omega (arith, few-done c.loop-k.invariant.judging)

pub shape_of-rows-in-Err : goal.shape_of-rows-in-Err
shape_of-rows-in-Err c = c.loop-k.invariant.rows_stay

pub shape_of-index-in-Err : goal.shape_of-index-in-Err
shape_of-index-in-Err c = c.loop-k.invariant.links_stay

pub returns-in-Err : goal.returns-in-Err
returns-in-Err c =
    let rule = c.rule in
    let buffer = c.args.buffer.now in
    let numbers = c.args.numbers.now in
    let l = c.loop-k in
    let j = l.invariant.judging in
    let r = rule.ensures in
    let ruled = subst (λ (x : Entry). ruled_by rule.result ≡ entry_refusal buffer j.done x) c.entry_at.ensures (r.number_is j.done j.keeps) in
    let number = sym (ap ruled_by c.in-Err.is) ∙ ruled in
    stopped-at j c.in-Err.number (length numbers / entry_width) (omega arith) number (r.refuses c.in-Err.number c.in-Err.is)

pub overflow_mul-at : goal.overflow_mul-at
overflow_mul-at c = omega (arith, few-done c.loop-k.invariant.judging)

pub offset_bounds-numbers-at : goal.offset_bounds-numbers-at
offset_bounds-numbers-at c = omega (arith, few-done c.loop-k.invariant.judging)

pub bounds-numbers-at : goal.bounds-numbers-at
bounds-numbers-at c = omega (arith, entry-there (length c.args.numbers.now) c.loop-k.k (omega arith))

pub overflow_add-at : goal.overflow_add-at
overflow_add-at c = omega (arith, few-done c.loop-k.invariant.judging)

pub keep-requires : goal.keep-requires
keep-requires c =
    let buffer = c.args.buffer.now in
    let numbers = c.args.numbers.now in
    let l = c.loop-k in
    let j = l.invariant.judging in
    let p = c.rule.ensures.passes c.in-Ok.hashed c.in-Ok.is in
    let lies = subst (EntryLies buffer) c.entry_at.ensures p.lies in
    let hashed = p.hash_is ∙ ap (λ (x : Entry). hash (bytes_in buffer x.identifier))
    c.entry_at.ensures in
    let below : l.k < length numbers / entry_width = omega arith in record {
      bounded = (j.keeps.bounded, j.keeps.filed);
      scratch_width_in_bounds = (
        omega (arith, c.requires.rows_fit l.k below p.few, l.invariant.rows_stay),
        omega (arith, c.requires.links_fit l.k below p.few, links-alike c.args.index.now l.index l.invariant.links_stay),
        p.few,
      );
      first_le_past = (lies.identifier.order, lies.identifier.inside, hashed);
    }

pub loop-k-preserved : goal.loop-k-preserved
loop-k-preserved c =
    let buffer = c.args.buffer.now in
    let numbers = c.args.numbers.now in
    let l = c.loop-k in
    let j = l.invariant.judging in
    let ruled = subst (λ (x : Entry). ruled_by c.rule.result ≡ entry_refusal buffer j.done x) c.entry_at.ensures (c.rule.ensures.number_is j.done j.keeps) in
    let number = sym (ap ruled_by c.in-Ok.is) ∙ ruled in record {
      judging = judging-more j number (c.keep.ensures j.done (entry_at numbers l.k) j.keeps refl refl);
      rows_stay = c.keep.auto.rows ∙ l.invariant.rows_stay;
      links_stay = c.keep.auto.index ∙ l.invariant.links_stay;
    }

pub shape_of-rows : goal.shape_of-rows
shape_of-rows c = c.loop-k.invariant.rows_stay

pub shape_of-index : goal.shape_of-index
shape_of-index c = c.loop-k.invariant.links_stay

pub returns : goal.returns
returns c =
    let buffer = c.args.buffer.now in
    let numbers = c.args.numbers.now in
    let l = c.loop-k in
    let all : l.k ≡ length numbers / entry_width = omega arith in
    none_left l.invariant.judging ∙ ap (λ (n : ℕ). reason_of (judge_entries buffer (entries_in numbers n))) all
