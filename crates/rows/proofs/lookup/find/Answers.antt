-- `rows::lookup::find` meets its contract: where no row is in order and the bucket is empty there is none, and `find_any` has the rest.
use mathlib.Core.Path.{sym, ap, ◌∙◌}
use native.Mathlib.Omega.{arith}
use lib.ListN.{length}
use Prim.Native.Nat.{◌<◌}
use Rattle.names.specs.Asked.{spelling}
use Rattle.names.specs.Hash.{bucket}
use Rattle.rows.specs.Index.{heads_of, links_of}
use Rattle.rows.proofs.Filing.{none-filed}
use Rattle.rows.proofs.Parts.{some_links, heads-size, links-size, mark-last, head_at, bucket-asked, bucket-in}
use Rattle.rows.proofs.lookup.find.Goals as goal

pub overflow_sub-index : goal.overflow_sub-index
overflow_sub-index c = omega (arith, c.requires.filed.room, links-size c.args.index.now)

pub bounds-index-index : goal.bounds-index-index
bounds-index-index c = omega (arith, c.requires.filed.room, links-size c.args.index.now)

pub links_begin-requires : goal.links_begin-requires
links_begin-requires c = some_links c.args.index.now c.requires.filed.by_hash.some_buckets

pub bucket_of-requires : goal.bucket_of-requires
bucket_of-requires c =
    let a = c.args in
    bucket-asked a.index.now (spelling a.asked) c.links_begin.ensures.0 c.requires.filed.by_hash c.requires.hashed_value

pub returns-then-index-bucket_of-eq0 : goal.returns-then-index-bucket_of-eq0
returns-then-index-bucket_of-eq0 c =
    let a = c.args in
    let b = c.bucket_of.ensures in
    let is = c.links_begin.ensures.0 in
    let some : 0 < length (links_of a.index.now) = omega (arith, c.requires.filed.room) in
    none-filed c.requires.filed (mark-last a.index.now some) c.if-index-ne0.false
    (bucket-in a.index.now a.hashed is b.0 ∙ ap (bucket (length (heads_of a.index.now))) c.requires.hashed_value)
    (omega (arith, b.1, is, heads-size a.index.now)) (sym (head_at a.index.now is _ b.1) ∙ c.if-index-bucket_of-eq0.true)
