-- `making::writing::size_by` meets its contract: a text over the limit is enough, and of any other the sizes are small.
use mathlib.Core.Path.{ap, sym, ◌∙◌}
use Prim.Native.Nat.{ℕ, ◌+◌}
use native.Mathlib.Omega.{arith}
use Rattle.normal.proofs.Lengths.{further-le}
use Rattle.normal.specs.Normal.{further_octets}
use Rattle.making.specs.Octets.{capped}
use Rattle.making.proofs.Sizes.{text-over}
use Rattle.making.proofs.writing.size_by.Goals as goal

pub returns-then-text-gt-STREAM_LIMIT : goal.returns-then-text-gt-STREAM_LIMIT
returns-then-text-gt-STREAM_LIMIT c = sym (text-over c.args.names c.args.text (omega arith))

pub overflow_cast-unit : goal.overflow_cast-unit
overflow_cast-unit c =
    let t = c.args.text in
    let u = c.unit_size-unit.ensures in
    let few = further-le t in
    omega arith

pub overflow_add-further_octets : goal.overflow_add-further_octets
overflow_add-further_octets c =
    let t = c.args.text in
    let u = c.unit_size-unit.ensures in
    let few = further-le t in
    let v = c.further_octets.ensures in
    let most = further-le c.unit_size-unit.result in
    omega arith

pub overflow_add-further_octets-2 : goal.overflow_add-further_octets-2
overflow_add-further_octets-2 c =
    let t = c.args.text in
    let u = c.unit_size-unit.ensures in
    let few = further-le t in
    let v = c.further_octets.ensures in
    let most = further-le c.unit_size-unit.result in
    omega arith

pub overflow_add-names-2 : goal.overflow_add-names-2
overflow_add-names-2 c =
    let t = c.args.text in
    let u = c.unit_size-unit.ensures in
    let few = further-le t in
    let v = c.further_octets.ensures in
    let most = further-le c.unit_size-unit.result in
    omega arith

pub returns : goal.returns
returns c =
    let unit_size = c.unit_size-unit in
    let n = c.args.names in
    c.cap.ensures ∙ ap (λ (f : ℕ). capped (n + 13 + (2 + f + unit_size.result))) c.further_octets.ensures
    ∙ ap (λ (u : ℕ). capped (n + 13 + (2 + further_octets u + u))) unit_size.ensures
