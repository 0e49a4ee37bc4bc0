-- `answers::text::put_text` meets its contract: a part or the pieces that were fetched are the text, and are copied.
use mathlib.Core.Path.{refl, ap}
use mathlib.Core.List.{[]}
use native.Mathlib.Omega.{arith}
use lib.ListN.{length}
use Rattle.pieces.proofs.Putting.{part_slice, copied}
use Rattle.answers.specs.Answers.{Fetched}
use Rattle.answers.proofs.TextSteps.{as-text}
use Rattle.answers.proofs.text.put_text.Goals as goal

pub slice_bounds-copy-count : goal.slice_bounds-copy-count
slice_bounds-copy-count c = let f = (rw c.in-Some-Part.field-0-is at c.in-Some-Part.ensures) in f.fetches.stands.order

pub slice_bounds-copy-start : goal.slice_bounds-copy-start
slice_bounds-copy-start c = let f = (rw c.in-Some-Part.field-0-is at c.in-Some-Part.ensures) in f.fetches.stands.order

pub slice_bounds-copy-end : goal.slice_bounds-copy-end
slice_bounds-copy-end c = let f = (rw c.in-Some-Part.field-0-is at c.in-Some-Part.ensures) in f.fetches.stands.inside

pub copy-requires : goal.copy-requires
copy-requires c =
    let a = c.args in
    let f = (rw c.in-Some-Part.field-0-is at c.in-Some-Part.ensures) in
    let part = part_slice _ _ a.stream.now f.fetches.stands.order in
    omega (arith, ap length part, ap (λ (x : Fetched). length x.part) f.joins, c.requires.unit_in_bounds)

pub put_joined-requires : goal.put_joined-requires
put_joined-requires c =
    let f = (rw c.in-Some-Pieces.field-0-is at c.in-Some-Pieces.ensures) in
    (f.known, omega (arith, ap (λ (x : Fetched). length x.part) f.joins, c.requires.unit_in_bounds))

pub returns-in-Some-Part : goal.returns-in-Some-Part
returns-in-Some-Part c =
    let a = c.args in
    let f = (rw c.in-Some-Part.field-0-is at c.in-Some-Part.ensures) in
    let part = part_slice _ _ a.stream.now f.fetches.stands.order in
    let copy = copied _ _ a.out.now _ c.copy.result part c.copy.ensures.count c.copy.ensures.out_after in
    let told = as-text _ _ a.out.now _ c.copy.result (ap (λ (x : Fetched). x.part) f.joins) copy.0 copy.1 in
    record { value = told.0; out_after = told.1 }

pub returns-in-Some-Pieces : goal.returns-in-Some-Pieces
returns-in-Some-Pieces c =
    let a = c.args in
    let f = (rw c.in-Some-Pieces.field-0-is at c.in-Some-Pieces.ensures) in
    let told = as-text _ _ a.out.now _ c.put_joined.result (ap (λ (x : Fetched). x.part) f.joins) c.put_joined.ensures.value c.put_joined.ensures.out_after in
    record { value = told.0; out_after = told.1 }

pub returns-in-None : goal.returns-in-None
returns-in-None c =
    let a = c.args in
    let f = c.in-None.ensures in
    let told = as-text _ [] a.out.now a.out.now 0 (ap (λ (x : Fetched). x.part) f.joins) refl refl in
    record { value = told.0; out_after = told.1 }
