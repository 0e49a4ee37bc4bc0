-- `scratch::frames::ask_walked` meets its contract: what the walk refused is refused, and what it passed is put in a frame that is large enough.
use mathlib.Core.Path.{refl, ◌∙◌, subst}
use Prim.Native.Nat.{◌≤◌}
use native.Mathlib.Omega.{arith}
use lib.ListN.{length}
use Rattle.octets.specs.Told.{Outcome}
use Rattle.answers.specs.Asking.{rows_after, RoomyAfter}
use Rattle.answers.proofs.Small.{walk-small, headers-small}
use Rattle.letters.proofs.Letters.{refused-walk}
use Rattle.answers.proofs.Working.{as-asked, leaves-refused}
use Rattle.scratch.proofs.Arrays.{lent, few-links, many-links, walked_whole}
use Rattle.scratch.proofs.frames.ask_walked.Goals as goal

pub overflow_cast-headers : goal.overflow_cast-headers
overflow_cast-headers c = let h = headers-small _ _ _ (c.requires.outcome ∙ c.in-Ok.is) in omega arith

pub ask_in-requires : goal.ask_in-requires
ask_in-requires c =
    let s = c.args.stream.now in
    let few = subst (λ (o : Outcome). rows_after o s ≤ 512) c.in-Ok.is (c.requires.enough c.if-few.true) in
    record {
      stream_value = walked_whole _ _ _ (c.requires.outcome ∙ c.in-Ok.is);
      sizes = (omega arith, omega arith);
      lent = lent s 6144 3074 1537 _ refl (omega arith) (omega (arith, few, few-links)) (omega (arith, few)) (omega (arith, few-links))
          (omega (arith, few-links));
      roomy = subst (λ (o : Outcome). RoomyAfter o c.args.question s (length c.args.flat.now)) c.in-Ok.is c.requires.roomy;
    }

pub ask_in-requires-in-Ok : goal.ask_in-requires-in-Ok
ask_in-requires-in-Ok c =
    let s = c.args.stream.now in
    record {
      stream_value = walked_whole _ _ _ (c.requires.outcome ∙ c.in-Ok.is);
      sizes = (omega arith, omega arith);
      lent = lent s 49152 24578 12289 _ refl (omega arith) (omega (arith, many-links)) (omega arith) (omega (arith, many-links)) (omega (arith, many-links));
      roomy = subst (λ (o : Outcome). RoomyAfter o c.args.question s (length c.args.flat.now)) c.in-Ok.is c.requires.roomy;
    }

pub overflow_cast-fault : goal.overflow_cast-fault
overflow_cast-fault c = let r = walk-small _ _ _ _ (c.requires.outcome ∙ c.in-Err.is) in omega arith

pub overflow_cast-fault-in-Err : goal.overflow_cast-fault-in-Err
overflow_cast-fault-in-Err c = let r = walk-small _ _ _ _ (c.requires.outcome ∙ c.in-Err.is) in omega arith

pub overflow_cast-fault-in-Err-2 : goal.overflow_cast-fault-in-Err-2
overflow_cast-fault-in-Err-2 c = let r = walk-small _ _ _ _ (c.requires.outcome ∙ c.in-Err.is) in omega arith

pub returns-in-Err : goal.returns-in-Err
returns-in-Err c =
    let a = c.args in
    let e = refused-walk a.edition _ _ _ _ (c.requires.outcome ∙ c.in-Err.is) in
    as-asked refl c.tell_refused.ensures (leaves-refused a.edition a.stream.now a.table.now a.flat.now a.out.now
    a.question _ _ _ e)
