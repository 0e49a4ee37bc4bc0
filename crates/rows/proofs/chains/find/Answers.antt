-- `rows::chains::find` meets its contract. The loop's invariant: the row at hand is of the bucket, and no row from there on has what is asked.
-- The measure is the link, which falls with each turn.
use mathlib.Core.Path.{ap, ◌∙◌}
use Prim.Native.Nat.{◌-◌, ◌<◌}
use native.Mathlib.Omega.{arith}
use lib.ListN.{length}
use Rattle.names.specs.Asked.{spelling}
use Rattle.names.specs.Hash.{hashes, hash, bucket}
use Rattle.names.proofs.Hashing.{hash-below}
use Rattle.rows.proofs.ChainSearch.{passed_first, passed-more, link-falls, named-true, named-false, found}
use Rattle.rows.proofs.chains.find.Goals as goal

pub bucket_of-requires : goal.bucket_of-requires
bucket_of-requires c =
    let bytes = spelling c.args.asked in
    let low : hash bytes < hashes = hash-below 0 bytes (omega arith) in
    (c.requires.indexed.some_buckets, c.requires.indexed.few_buckets, omega (arith, c.requires.hashed_value))

pub bounds-head-bucket_of : goal.bounds-head-bucket_of
bounds-head-bucket_of c = omega (arith, c.bucket_of.ensures.1)

pub loop-link-init : goal.loop-link-init
loop-link-init c =
    let b = c.bucket_of.ensures in
    (passed_first c.requires.indexed (b.0 ∙ ap (bucket (length c.args.head.now)) c.requires.hashed_value) b.1)

pub has-requires : goal.has-requires
has-requires c =
    let b = c.requires.bounded in
    let j = c.loop-link.link - 1 in
    let l : j < c.args.n = omega (arith, c.loop-link.invariant.within) in
    record { column_bound = b.in-row; scratch_width_in_bounds = omega (arith, b.in_table); j_bound = b.ordered j l; j_in_bounds = b.inside j l }

pub returns-then-has : goal.returns-then-has
returns-then-has c =
    let w = c.loop-link.invariant in
    let some = c.loop-link-test.true in
    found some w (named-true (omega (arith, w.within)) (w.present some) c.has.ensures c.if-has.true)

pub bounds-next-j : goal.bounds-next-j
bounds-next-j c =
    omega (arith, c.loop-link.invariant.within, c.requires.indexed.linked)

pub loop-link-smaller : goal.loop-link-smaller
loop-link-smaller c =
    omega (arith, link-falls c.requires.indexed c.loop-link-test.true c.loop-link.invariant)

pub loop-link-preserved : goal.loop-link-preserved
loop-link-preserved c =
    (passed-more c.requires.indexed c.loop-link-test.true c.loop-link.invariant
    (named-false c.has.ensures c.if-has.false))

pub returns : goal.returns
returns c = λ k. c.loop-link.invariant.none k (omega arith)
