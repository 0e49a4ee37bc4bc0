-- `order_b::pass` meets its contract. The loop's invariant: the answer from the second element is the answer from here.
use Rattle.std.specs.Prelude.{None, Some}
use mathlib.Core.Path.{◌≡◌, refl, ap, sym, ◌∙◌}
use mathlib.Core.Bool.{Bool, cond}
use Prim.Native.Nat.{◌<◌}
use native.Mathlib.Omega.{arith}
use borrow.Author.Tests.{eq-eqb, ne_eqb}
use lib.ListN.{length}
use Rattle.order_b.specs.Steps.{state_of}
use Rattle.order_b.proofs.Passing.{pass-stops, pass-goes, pass-ends}
use Rattle.order_b.proofs.pass.Goals as goal

pub loop-j-init : goal.loop-j-init
loop-j-init c elements ready aside = refl

pub step_b-requires : goal.step_b-requires
step_b-requires c = record { letter_rows = c.requires.letter_rows; filed = c.requires.filed; j_lt_n = c.loop-j-test.true }

pub returns-in-None : goal.returns-in-None
returns-in-None c elements ready aside =
    let l = c.loop-j in
    let below : l.j < length elements = omega (arith, c.loop-j-test.true, ready.counted) in
    sym (l.invariant elements ready aside ∙ pass-stops elements (state_of l.state) l.j below (c.in-None.ensures elements ready aside))

pub loop-j-preserved : goal.loop-j-preserved
loop-j-preserved c elements ready aside =
    let l = c.loop-j in
    let below : l.j < length elements = omega (arith, c.loop-j-test.true, ready.counted) in
    l.invariant elements ready aside
    ∙ pass-goes elements (state_of l.state) l.j (state_of c.in-Some.after) below (c.in-Some.ensures elements ready aside)

pub returns-then-state-eq0 : goal.returns-then-state-eq0
returns-then-state-eq0 c elements ready aside =
    let l = c.loop-j in
    let all : l.j ≡ length elements = omega (arith, c.requires.n_nonzero, ready.counted) in
    sym (l.invariant elements ready aside ∙ pass-ends elements (state_of l.state) l.j all
    ∙ ap (λ (b : Bool). cond b None (Some l.j)) (eq-eqb l.state.left 0 c.if-state-eq0.true))

pub returns-else-state-eq0 : goal.returns-else-state-eq0
returns-else-state-eq0 c elements ready aside =
    let l = c.loop-j in
    let all : l.j ≡ length elements = omega (arith, c.requires.n_nonzero, ready.counted) in
    sym (l.invariant elements ready aside ∙ pass-ends elements (state_of l.state) l.j all
    ∙ ap (λ (b : Bool). cond b None (Some l.j)) (ne_eqb l.state.left 0 c.if-state-eq0.false) ∙ ap Some (all ∙ ready.counted))
