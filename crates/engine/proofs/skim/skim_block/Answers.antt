-- `skim_block`: each turn of the loop takes one header (`turned`), and what is left to take of the block is the same.
use mathlib.Core.Path.{◌≡◌}
use native.Mathlib.Omega.{arith}
use lib.ListN.{length, length-map}
use Rattle.engine.proofs.Skimming.{seat_of, none-turn, begins, comes, turned, goes, ends-turn}
use Rattle.engine.proofs.skim.skim_block.Goals as goal

pub returns-then-not-is_ready : goal.returns-then-not-is_ready
returns-then-not-is_ready c =
    none-turn c.args.b c.args.block.now c.args.from c.requires.0 c.requires.1 c.requires.2

pub go_on-s-requires : goal.go_on-s-requires
go_on-s-requires c =
    let is-ready = c.is_ready in
    let b = c.args.b in
    let block = c.args.block.now in
    let r = is-ready.ensures c.if-not-is_ready.false in
    let f = c.requires.0 r.0 in
    let small = f.small in
    (f.depth, small, omega arith)

pub returns-then-s-from : goal.returns-then-s-from
returns-then-s-from c =
    none-turn c.args.b c.args.block.now c.args.from c.requires.0 c.requires.1 c.requires.2

pub loop-s-init : goal.loop-s-init
loop-s-init c =
    let is-ready = c.is_ready in
    let b = c.args.b in
    let block = c.args.block.now in
    let r = is-ready.ensures c.if-not-is_ready.false in
    let g = c.go_on-s in
    let sixteen : length b.ends ≡ 16 = omega (arith, c.well_formed, length-map b.ends (λ v. v)) in
    begins b block c.args.from c.requires.0 r.0 r.1 r.2 c.requires.1 c.requires.2 c.requires.3 g.result sixteen g.ensures
    (omega (arith, c.if-s-from.false))

pub overflow_add-s : goal.overflow_add-s
overflow_add-s c =
    let is-ready = c.is_ready in
    let v = c.loop-s.invariant in
    let near = v.near in
    let l = c.requires.1 in
    let r = is-ready.ensures c.if-not-is_ready.false in
    let small = (c.requires.0 r.0).small in
    let short = c.requires.3 in
    omega (arith, near, l, small, short)

pub overflow_sub-s : goal.overflow_sub-s
overflow_sub-s c =
    omega (arith, c.loop-s.invariant.depth)

pub head_at-head-requires : goal.head_at-head-requires
head_at-head-requires c =
    let eight = (c.loop-s.invariant.reads c.loop-s-test.true).eight in
    (omega (arith, eight), omega (arith, eight))

pub skim_one-k-requires : goal.skim_one-k-requires
skim_one-k-requires c =
    (c.loop-s.invariant.reads c.loop-s-test.true, c.head_at-head.ensures)

pub settled-s-requires : goal.settled-s-requires
settled-s-requires c =
    let b = c.args.b in
    let block = c.args.block.now in
    let l = c.loop-s in
    let seat = seat_of b block c.args.from in
    let p = l.invariant.reads c.loop-s-test.true in
    comes seat l.s l.ends block p c.skim_one-k.result c.skim_one-k.new.ends c.skim_one-k.ensures

pub loop-s-smaller : goal.loop-s-smaller
loop-s-smaller c =
    let b = c.args.b in
    let block = c.args.block.now in
    let l = c.loop-s in
    let seat = seat_of b block c.args.from in
    let p = l.invariant.reads c.loop-s-test.true in
    let t = turned seat l.s l.ends block p c.skim_one-k.result c.skim_one-k.new.ends c.skim_one-k.ensures c.settled-s.result c.settled-s.ensures in
    omega (arith, t.further, p.eight)

pub loop-s-preserved : goal.loop-s-preserved
loop-s-preserved c =
    let b = c.args.b in
    let block = c.args.block.now in
    let l = c.loop-s in
    let seat = seat_of b block c.args.from in
    let p = l.invariant.reads c.loop-s-test.true in
    let t = turned seat l.s l.ends block p c.skim_one-k.result c.skim_one-k.new.ends c.skim_one-k.ensures c.settled-s.result c.settled-s.ensures in
    goes b block c.args.from seat l.ends l.s l.invariant p c.skim_one-k.new.ends c.settled-s.result t

pub left-requires : goal.left-requires
left-requires c =
    let is-ready = c.is_ready in
    let v = c.loop-s.invariant in
    let near = v.near in
    let l = c.requires.1 in
    let r = is-ready.ensures c.if-not-is_ready.false in
    let small = (c.requires.0 r.0).small in
    let same = r.2 in
    let fits = c.requires.2 in
    (v.from, l, omega (arith, near, small, same, fits))

pub returns : goal.returns
returns c =
    let is-ready = c.is_ready in
    let b = c.args.b in
    let block = c.args.block.now in
    let r = is-ready.ensures c.if-not-is_ready.false in
    let l = c.loop-s in
    ends-turn b block c.args.from c.requires.0 r.0 r.1 r.2 c.requires.1 c.requires.2 c.requires.3 l.ends b.begun l.s l.invariant
    c.left.result.state c.left.result.to c.left.ensures.0 c.left.ensures.1
