-- `characters::show` meets its contract: what was measured decides.
use native.Mathlib.Omega.{arith}
use mathlib.Core.Path.{refl, ap, ◌∙◌}
use lib.ListN.{length}
use lib.Seq.{sets}
use Rattle.characters.specs.Sets.{number_of}
use Rattle.characters.specs.Pairs.{composed}
use Rattle.characters.specs.Signs.{signs, utf8_of, numbers_in}
use Rattle.characters.proofs.Rules.{right_pair, pair-table}
use Rattle.characters.proofs.Going.{few-all}
use Rattle.characters.proofs.Answers.{fits-means, not-fits, room_most, fitting, refusing}
use Rattle.characters.proofs.show.Goals as goal

pub measure-requires : goal.measure-requires
unfolding right_pair composed
measure-requires c = pair-table _ refl tt

pub write-requires : goal.write-requires
unfolding right_pair composed
write-requires c =
    let a = c.args in
    let room = c.room_of in
    let m = c.measure in
    let f = fits-means (signs (number_of c.from-s.result) a.octets.now) room.result m.result m.ensures c.in-Some.size c.in-Some.is in
    (pair-table _ refl tt, omega (arith, f.0, room.ensures, (room_most (length a.out.now)).0))

-- both numbers of the answer fit in 32 bits
pub overflow_cast-result : goal.overflow_cast-result
overflow_cast-result c =
    let a = c.args in
    let room = c.room_of in
    let m = c.measure in
    let f = fits-means (signs (number_of c.from-s.result) a.octets.now) room.result m.result m.ensures c.in-Some.size c.in-Some.is in
    omega (arith, f.0, f.1, room.ensures, (room_most (length a.out.now)).1)

pub overflow_cast-result-2 : goal.overflow_cast-result-2
overflow_cast-result-2 c =
    let a = c.args in
    let room = c.room_of in
    let m = c.measure in
    let xs = signs (number_of c.from-s.result) a.octets.now in
    let f = fits-means xs room.result m.result m.ensures c.in-Some.size c.in-Some.is in
    omega (arith, f.0, f.2, few-all xs, room.ensures, (room_most (length a.out.now)).1)

pub returns : goal.returns
returns c =
    let a = c.args in
    let xs = a.octets.now in
    let set = c.from-s.ensures in
    let room = c.room_of in
    let m = c.measure in
    let size = c.in-Some.size in
    let f = fits-means (signs (number_of c.from-s.result) xs) room.result m.result m.ensures size c.in-Some.is in
    let long = ap (λ z. length (utf8_of (signs z xs))) set in
    fitting a.set xs a.out.now size.length size.numbers _
    (omega (arith, f.0, room.ensures, long)) (f.1 ∙ long) (f.2 ∙ ap (λ z. numbers_in (signs z xs)) set)
    (c.write.ensures ∙ ap (λ z. sets a.out.now 0 (utf8_of (signs z xs))) set)

pub returns-in_default : goal.returns-in_default
returns-in_default c =
    let a = c.args in
    let xs = a.octets.now in
    let room = c.room_of in
    let m = c.measure in
    let no = not-fits (signs (number_of c.from-s.result) xs) room.result m.result m.ensures c.in_default.is in
    refusing a.set xs a.out.now (omega (arith, no, room.ensures, ap (λ z. length (utf8_of (signs z xs))) c.from-s.ensures))
