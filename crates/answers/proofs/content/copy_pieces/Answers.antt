-- `answers::content::copy_pieces` meets its contract: the pieces joined fit and are put, or nothing is.
use native.Mathlib.Omega.{arith}
use Rattle.answers.proofs.Copying.{copies-none, copies-all}
use Rattle.answers.proofs.content.copy_pieces.Goals as goal

pub returns-then-out-joined_length : goal.returns-then-out-joined_length
returns-then-out-joined_length c =
    copies-none _ c.args.out.now (omega (arith, c.joined_length.ensures))

pub returns : goal.returns
returns c =
    let out = c.args.out.now in
    copies-all _ out (omega (arith, c.put_joined-length.ensures.value)) c.put_joined-length.ensures.value c.put_joined-length.ensures.out_after
