-- `normal::write_measured` meets its contract: its test is that of `answer_short`, and what is written is the normal form, copied if it is the stream's
-- own octets.
use mathlib.Core.Path.{◌≡◌}
use mathlib.Core.Bool.{true}
use Prim.Native.Nat.{◌≤◌}
use borrow.Author.Rules.{rules}
use native.Mathlib.Omega.{arith}
use lib.ListN.{length}
use lib.Seq.{slice}
use Rattle.normal.specs.Normal.{normal_form}
use Rattle.normal.proofs.Answers.{form_is, stream-measured, gives-18, gives-form}
use Rattle.normal.proofs.write_measured.Goals as goal
use Rattle.normal.proofs.write_measured.Goals.{Start}

-- what was measured
measured : (c : Start) →
    let s = c.args.s.now in
    let m = c.args.m in
    (m.size ≡ length (normal_form s)) × (m.shortest ≡ true → (m.size ≤ length s) × (normal_form s ≡ slice 0 m.size s))
measured c = stream-measured c.args.s.now c.args.m c.requires

pub returns-then-out-length : goal.returns-then-out-length
returns-then-out-length c =
    let a = c.args in
    gives-18 (normal_form a.s.now) a.out.now (omega (arith, (measured (goal.at.returns-then-out-length c).Start).0))

pub put_value-requires : goal.put_value-requires
put_value-requires c =
    let (e, own) = measured (goal.at.put_value-requires c).Start in
    let l = (own c.if-m.true).0 in
    (omega arith, l, omega arith)

pub put_run-requires : goal.put_run-requires
put_run-requires c = (c.requires.0, search rules)

pub returns-then-m : goal.returns-then-m
returns-then-m c =
    let a = c.args in
    let (e, own) = measured (goal.at.returns-then-m c).Start in
    let form = (own c.if-m.true).1 in
    gives-form (normal_form a.s.now) a.out.now (omega arith) _ e _ form _ _ c.put_value.ensures

pub returns-else-m : goal.returns-else-m
returns-else-m c =
    let a = c.args in
    let e = (measured (goal.at.returns-else-m c).Start).0 in
    gives-form (normal_form a.s.now) a.out.now (omega arith) _ e _ (form_is a.s.now) _ _ c.put_run.ensures
