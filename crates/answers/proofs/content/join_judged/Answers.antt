-- `answers::content::join_judged` meets its contract: a part or the pieces that were fetched are copied, and what is no text unit is refused.
use native.Mathlib.Omega.{arith}
use Rattle.answers.proofs.Copying.{joins-unit, joins-none}
use Rattle.answers.proofs.content.join_judged.Goals as goal

pub copy_part-requires : goal.copy_part-requires
copy_part-requires c =
    let f = (rw c.in-Some-Part.field-0-is at c.in-Some-Part.ensures) in
    (f.fetches.stands.order, f.fetches.stands.inside, f.near_past)

pub copy_pieces-requires : goal.copy_pieces-requires
copy_pieces-requires c =
    let f = (rw c.in-Some-Pieces.field-0-is at c.in-Some-Pieces.ensures) in
    (f.known, f.short)

pub returns-in-Some-Part : goal.returns-in-Some-Part
returns-in-Some-Part c =
    let a = c.args in
    let f = (rw c.in-Some-Part.field-0-is at c.in-Some-Part.ensures) in
    joins-unit a.edition a.stream.now a.element a.out.now f.joins c.copy_part.ensures

pub returns-in-Some-Pieces : goal.returns-in-Some-Pieces
returns-in-Some-Pieces c =
    let a = c.args in
    let f = (rw c.in-Some-Pieces.field-0-is at c.in-Some-Pieces.ensures) in
    joins-unit a.edition a.stream.now a.element a.out.now f.joins c.copy_pieces.ensures

pub returns-in-None : goal.returns-in-None
returns-in-None c =
    let a = c.args in
    let f = c.in-None.ensures in
    joins-none a.edition a.stream.now a.element a.out.now 20 0 (λ z. omega arith) f.joins
