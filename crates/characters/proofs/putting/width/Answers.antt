-- `characters::putting::width` meets its contract: by the kind of the sign.
use mathlib.Core.Path.{sym, ap, ◌∙◌}
use lib.ListN.{length, length-append}
use Rattle.characters.specs.Utf8.{utf8}
use Rattle.characters.proofs.Utf8.{is-point, is-two, is_number}
use Rattle.characters.proofs.putting.width.Goals as goal

pub returns-in-One : goal.returns-in-One
returns-in-One c = c.point_width.ensures.0 ∙ sym (ap length (is-point _ _ c.in-One.is))

pub returns-in-Two : goal.returns-in-Two
returns-in-Two c =
    let p = c.point_width-in-Two.ensures.0 in
    let q = c.point_width-in-Two-2.ensures.0 in
    let two = ap length (is-two _ _ _ c.in-Two.is) in
    rw (p, q) (sym (two ∙ length-append (utf8 c.in-Two.p) (utf8 c.in-Two.q)))

pub returns-in-Number : goal.returns-in-Number
returns-in-Number c = c.number_width.ensures ∙ sym (ap length (is_number _ _ c.in-Number.is))
