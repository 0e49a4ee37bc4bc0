-- `characters::signs::first_of` meets its contract: the tests are those of the definition, in its order.
use mathlib.Core.Path.{sym, ◌∙◌}
use Rattle.characters.specs.Signs.{first_sign, sign, alone}
use Rattle.characters.specs.Sets.{number_of}
use Rattle.characters.proofs.Known.{pair-some, pair-none}
use Rattle.characters.proofs.signs.first_of.Goals as goal

pub returns-then-is_line_end : goal.returns-then-is_line_end
unfolding first_sign
returns-then-is_line_end c = rw (← c.is_line_end.ensures, c.if-is_line_end.true)

pub returns-in-Some : goal.returns-in-Some
unfolding first_sign
returns-in-Some c =
    let a = c.args in
    rw (← c.is_line_end.ensures, c.if-is_line_end.false)
    (pair-some _ a.a a.b c.in-Some.points (sign (alone (number_of a.set) a.a) 1) (sym c.pair_of.ensures ∙ c.in-Some.is))

pub returns-in-None : goal.returns-in-None
unfolding first_sign
returns-in-None c =
    let a = c.args in
    rw (← c.is_line_end.ensures, c.if-is_line_end.false, c.alone_of.ensures)
    (pair-none _ a.a a.b (sign (alone (number_of a.set) a.a) 1) (sym c.pair_of.ensures ∙ c.in-None.is))
