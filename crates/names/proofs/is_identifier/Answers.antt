-- `names::is_identifier` meets its contract. The loop's invariant: the whole is an identifier exactly if what is left goes on well grouped.
use mathlib.Core.Path.{◌≡◌, sym, ◌∙◌}
use mathlib.Core.Bool.{true, false, cond, ◌&&◌}
use Prim.Native.Nat.{◌+◌}
use borrow.Author.Tests.{eq-eqb}
use lib.Dec.{eqb}
use lib.ListN.{get_or, drop, drop_of_length-le}
use Rattle.names.specs.Names.{space_byte, is_digit, grouped, is_identifier}
use Rattle.names.proofs.Spelling.{identifier-long, identifier-short, grouped-more, no_end}
use Rattle.names.proofs.is_identifier.Goals as goal
use Rattle.names.proofs.is_identifier.Goals.{In-loop-byte, then-is_digit, else-is_digit+else-byte-ne-SPACE+else-not-in_group}

-- what the next byte decides
turn : (c : In-loop-byte) →
    let name = c.args.name.now in
    let l = c.loop-byte in
    let byte = get_or name l.byte-index 0 in
    let rest = drop (l.byte-index + 1) name in
    is_identifier name ≡ cond (is_digit byte) (grouped true rest) (eqb byte space_byte && l.in_group && grouped false rest)
turn c = c.loop-byte.invariant ∙ grouped-more c.args.name.now c.loop-byte.byte-index c.loop-byte-test.true c.loop-byte.in_group

pub returns-then-name-gt-LONGEST_IDENTIFIER : goal.returns-then-name-gt-LONGEST_IDENTIFIER
returns-then-name-gt-LONGEST_IDENTIFIER c = sym (identifier-long c.args.name.now c.if-name-gt-LONGEST_IDENTIFIER.true)

pub loop-byte-init : goal.loop-byte-init
loop-byte-init c = identifier-short c.args.name.now c.if-name-gt-LONGEST_IDENTIFIER.false

pub returns-then-byte-ne-SPACE : goal.returns-then-byte-ne-SPACE
returns-then-byte-ne-SPACE c =
    sym (turn (goal.at.returns-then-byte-ne-SPACE c).In-loop-byte ∙ rw (
      sym c.is_digit.ensures ∙ c.if-is_digit.false,
      no_end _ c.loop-byte.in_group (grouped false _) c.then-byte-ne-SPACE.either,
    ))

pub loop-byte-preserved : goal.loop-byte-preserved
loop-byte-preserved c =
    let t = turn (goal.at.loop-byte-preserved c).In-loop-byte in
    elim c.if-is_digit.branch [
      | then-is_digit w ↦ t ∙ rw (w.in_group-is, sym c.is_digit.ensures ∙ w.if-is_digit.true)
      | else-is_digit+else-byte-ne-SPACE+else-not-in_group w ↦ t ∙ rw (
        w.in_group-is,
        sym c.is_digit.ensures ∙ w.if-is_digit.false,
        eq-eqb _ _ w.if-byte-ne-SPACE.false,
        w.if-not-in_group.false,
      )
    ]

pub returns : goal.returns
unfolding grouped
returns c = sym (c.loop-byte.invariant ∙ rw (drop_of_length-le c.args.name.now c.loop-byte-test.false))
