-- `rows::lookup::is_short` meets its contract. The loop's invariant: what is left may have as many rows as there are turns left.
use mathlib.Core.Path.{◌≡◌, sym, subst}
use Prim.Native.Nat.{ℕ, suc, ◌+◌, ◌-◌}
use native.Mathlib.Omega.{arith}
use borrow.Author.Tests.{eqb-true}
use Rattle.rows.specs.Lookup.{AtMost, longest_chain}
use Rattle.rows.proofs.Links.{walks-first, walks_more, none-at-most, one_more}
use Rattle.rows.proofs.lookup.is_short.Goals as goal

pub loop-init : goal.loop-init
loop-init c = (walks-first c.requires.0 c.requires.1, λ a. a)

pub returns-then-link-eq0 : goal.returns-then-link-eq0
returns-then-link-eq0 c =
    let next = c.args.next.now in
    let left = longest_chain - c.loop.counter in
    λ t. c.loop.invariant.1 (subst (AtMost next left) (sym c.if-link-eq0.true) (none-at-most next left))

pub bounds-next-link : goal.bounds-next-link
bounds-next-link c = omega (arith, c.loop.invariant.0.within, c.loop.invariant.0.indexed.linked)

pub loop-preserved : goal.loop-preserved
loop-preserved c =
    let next = c.args.next.now in
    let l = c.loop in
    let e : longest_chain - l.counter ≡ suc (longest_chain - (l.counter + 1)) = omega (arith, c.loop-test.true) in (
      walks_more l.invariant.0 (omega (arith, c.if-link-eq0.false)),
      λ a. l.invariant.1 (one_more next (longest_chain - (l.counter + 1)) (longest_chain - l.counter) l.link e a),
    )

pub returns : goal.returns
unfolding AtMost
returns c =
    let l = c.loop in
    let e : 0 ≡ longest_chain - l.counter = omega (arith, c.loop-test.false) in
    λ t. l.invariant.1 (subst (λ (most : ℕ). AtMost c.args.next.now most l.link) e (eqb-true l.link 0 t))
