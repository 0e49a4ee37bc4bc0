-- `portions::has_repeats` meets its contract. The loop's invariant: the values from k on have no repeat, and their tags are marked.
use mathlib.Core.Path.{◌≡◌, refl, sym, ap, subst, ◌∙◌}
use mathlib.Core.Bool.{true, false}
use mathlib.Core.List.{List}
use Prim.Native.Nat.{ℕ, ◌+◌, ◌*◌, ◌-◌, ◌<◌, ◌≤◌}
use native.Mathlib.Omega.{arith}
use lib.ListN.{length, get_or, set, length-set, replicate}
use lib.Seq.{slice}
use Rattle.portions.specs.Portions.{repeats}
use Rattle.portions.specs.Bounds.{bounded_at, bounded, Inside}
use Rattle.portions.specs.Tags.{tag}
use Rattle.portions.proofs.Pairs.{inside-more, repeats-more, repeats-none}
use Rattle.portions.proofs.Tags.{Marked, none-marked, unmarked-apart, inside-from, repeats-before, marked_more}
use Rattle.portions.proofs.has_repeats.Goals as goal
use Rattle.portions.proofs.has_repeats.Goals.{In-loop-k, After-tag_of-tag}

-- what is known of the value that is looked at, the last that is not done
abbrev stream : (c : In-loop-k) → List ℕ
stream c = c.args.s.now

abbrev numbers : (c : In-loop-k) → List ℕ
numbers c = c.args.bounds.now

abbrev count : (c : In-loop-k) → ℕ
count c = c.args.count

abbrev own : (c : In-loop-k) → ℕ
own c = c.loop-k.k - 1

below : (c : In-loop-k) → (own c) < (count c)
below c = omega arith

enough : (c : In-loop-k) → 2 * (count c) ≤ length (numbers c)
enough c = c.requires.0

inside : (c : In-loop-k) → Inside (stream c) (slice (2 * (own c)) (2 * (count c)) (numbers c))
inside c = inside-from (stream c) (numbers c) (count c) (enough c) c.requires.1 (own c) (omega (arith, (below c)))

done-is : (c : In-loop-k) → c.loop-k.k ≡ (own c) + 1
done-is c = omega arith

done-marked : (c : In-loop-k) → Marked (stream c) (numbers c) (count c) ((own c) + 1) c.loop-k.marks
done-marked c = subst (λ (k : ℕ). Marked (stream c) (numbers c) (count c) k c.loop-k.marks) (done-is c) c.loop-k.invariant.2

done-apart : (c : In-loop-k) → repeats (bounded (stream c) (slice (2 * ((own c) + 1)) (2 * (count c)) (numbers c))) ≡ false
done-apart c = ap (λ (k : ℕ). repeats (bounded (stream c) (slice (2 * k) (2 * (count c)) (numbers c)))) (sym (done-is c)) ∙ c.loop-k.invariant.1

-- the tag that was computed
tag_is : (c : After-tag_of-tag) → let here = (goal.at.After-tag_of-tag c).In-loop-k in
    c.tag_of-tag.result ≡ tag (bounded_at (stream here) (numbers here) (own here))
tag_is c = c.tag_of-tag.ensures.0 ∙ rw c.bounds_of.ensures

pub loop-k-init : goal.loop-k-init
loop-k-init c =
    let a = c.args in
    (refl, repeats-none a.s.now a.bounds.now a.count, none-marked a.s.now a.bounds.now a.count (replicate 64 false))

pub tag_of-tag-requires : goal.tag_of-tag-requires
tag_of-tag-requires c =
    let here = (goal.at.tag_of-tag-requires c).In-loop-k in
    let known = inside-more (stream here) (numbers here) (own here) (count here) (below here) (enough here) (inside here) in
    rw c.bounds_of.ensures (known.0, known.1)

pub is_again-requires : goal.is_again-requires
is_again-requires c =
    let here = (goal.at.is_again-requires c).In-loop-k in
    record {
      k_lt_count = (below here, enough here, inside here);
      bounds_value = λ z. unmarked-apart (stream here) (numbers here) (count here) (own here + 1) c.loop-k.marks (done-marked here)
          (bounded_at (stream here) (numbers here) (own here))
          (ap (λ (t : ℕ). get_or c.loop-k.marks t false) (sym (tag_is (goal.at.is_again-requires c).After-tag_of-tag)) ∙ z);
    }

pub returns-then-is_again : goal.returns-then-is_again
returns-then-is_again c =
    let here = (goal.at.returns-then-is_again c).In-loop-k in
    let again = sym c.is_again.ensures ∙ c.if-is_again.true in
    sym (repeats-before (stream here) (numbers here) (count here) (enough here) (own here) (omega (arith, below here))
    (repeats-more (stream here) (numbers here) (own here) (count here) (below here) (enough here) ∙ rw again))

pub loop-k-preserved : goal.loop-k-preserved
loop-k-preserved c =
    let here = (goal.at.loop-k-preserved c).In-loop-k in
    let marks = c.loop-k.marks in
    let apart = sym c.is_again.ensures ∙ c.if-is_again.false in
    let same_length : length marks ≡ 64 = c.loop-k.invariant.0 in
    let t = tag_is (goal.at.loop-k-preserved c).After-tag_of-tag in
    let small : tag (bounded_at (stream here) (numbers here) (own here)) < length marks = omega (arith, c.tag_of-tag.ensures.1, t, same_length) in (
      length-set marks c.tag_of-tag.result true ∙ same_length,
      repeats-more (stream here) (numbers here) (own here) (count here) (below here) (enough here) ∙ rw (apart, done-apart here),
      subst (λ (n : ℕ). Marked (stream here) (numbers here) (count here) (own here) (set marks n true)) (sym t)
          (marked_more (stream here) (numbers here) (count here) (enough here) (own here) (below here) marks (done-marked here) small),
    )

pub returns : goal.returns
returns c =
    let a = c.args in
    let l = c.loop-k in
    let e : l.k ≡ 0 = omega arith in
    sym (ap (λ (k : ℕ). repeats (bounded a.s.now (slice (2 * k) (2 * a.count) a.bounds.now))) (sym e) ∙ l.invariant.1)
