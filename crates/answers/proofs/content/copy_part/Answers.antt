-- `answers::content::copy_part` meets its contract: the part fits and is copied, or nothing is.
use mathlib.Core.Path.{ap}
use native.Mathlib.Omega.{arith}
use lib.ListN.{length}
use lib.Seq.{length-slice}
use Rattle.pieces.proofs.Putting.{part_slice, copied}
use Rattle.answers.proofs.Copying.{copies-none, copies-all}
use Rattle.answers.proofs.content.copy_part.Goals as goal

pub returns-then-out-past : goal.returns-then-out-past
returns-then-out-past c =
    copies-none _ c.args.out.now (omega (arith, length-slice c.args.first c.args.past c.args.stream.now c.requires.1))

pub copy-length-requires : goal.copy-length-requires
copy-length-requires c =
    let part = part_slice c.args.first c.args.past c.args.stream.now c.requires.0 in
    omega (arith, ap length part, length-slice c.args.first c.args.past c.args.stream.now c.requires.1)

pub returns : goal.returns
returns c =
    let part = part_slice c.args.first c.args.past c.args.stream.now c.requires.0 in
    let copy = copied _ _ c.args.out.now _ c.copy-length.result part c.copy-length.ensures.count c.copy-length.ensures.out_after in
    copies-all _ c.args.out.now (omega (arith, length-slice c.args.first c.args.past c.args.stream.now c.requires.1)) copy.0 copy.1
