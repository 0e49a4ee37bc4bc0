-- `answers::content::locate_judged` meets its contract: each case of a fetch has the numbers that document 01 gives it, and they fit.
use native.Mathlib.Omega.{arith}
use Rattle.answers.proofs.content.locate_judged.Goals as goal

pub overflow_cast-result : goal.overflow_cast-result
overflow_cast-result c =
    let f = (rw c.in-Some-Part.field-0-is at c.in-Some-Part.ensures) in
    omega arith

pub overflow_cast-result-in-Some-Part : goal.overflow_cast-result-in-Some-Part
overflow_cast-result-in-Some-Part c =
    let f = (rw c.in-Some-Part.field-0-is at c.in-Some-Part.ensures) in
    omega arith

pub returns-in-Some-Part : goal.returns-in-Some-Part
returns-in-Some-Part c = let f = (rw c.in-Some-Part.field-0-is at c.in-Some-Part.ensures) in f.fetches

pub returns-in-None : goal.returns-in-None
returns-in-None c = let f = c.in-None.ensures in f.fetches

pub returns-in-Some-Pieces : goal.returns-in-Some-Pieces
returns-in-Some-Pieces c = let f = (rw c.in-Some-Pieces.field-0-is at c.in-Some-Pieces.ensures) in f.fetches
