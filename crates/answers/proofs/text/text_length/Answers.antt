-- `answers::text::text_length` meets its contract: each case of a fetch has the octets of the text.
use mathlib.Core.Path.{ap, sym, ◌∙◌}
use lib.ListN.{length}
use lib.Seq.{length-slice}
use Rattle.answers.specs.Answers.{Fetched}
use Rattle.answers.proofs.text.text_length.Goals as goal

pub overflow_sub-result : goal.overflow_sub-result
overflow_sub-result c = let f = (rw c.in-Some-Part.field-0-is at c.in-Some-Part.ensures) in f.fetches.stands.order

pub joined_length-requires : goal.joined_length-requires
joined_length-requires c = let f = (rw c.in-Some-Pieces.field-0-is at c.in-Some-Pieces.ensures) in f.known

pub returns-in-Some-Part : goal.returns-in-Some-Part
returns-in-Some-Part c =
    let a = c.args in
    let f = (rw c.in-Some-Part.field-0-is at c.in-Some-Part.ensures) in
    sym (ap (λ (x : Fetched). length x.part) f.joins ∙ length-slice _ _ a.stream.now f.fetches.stands.inside)

pub returns-in-Some-Pieces : goal.returns-in-Some-Pieces
returns-in-Some-Pieces c =
    let f = (rw c.in-Some-Pieces.field-0-is at c.in-Some-Pieces.ensures) in
    c.joined_length.ensures ∙ sym (ap (λ (x : Fetched). length x.part) f.joins)

pub returns-in-None : goal.returns-in-None
returns-in-None c =
    let f = c.in-None.ensures in
    sym (ap (λ (x : Fetched). length x.part) f.joins)
