-- `rows::lookup::insert` meets its contract: a row with no value there is in no chain, the first row of a bucket is a chain of one, and
-- `insert_any` has the rest.
use mathlib.Core.Path.{◌≡◌, refl, sym, ◌∙◌, subst}
use native.Mathlib.Omega.{arith}
use lib.ListN.{length, get_or}
use Prim.Native.Nat.{◌<◌}
use Rattle.rows.specs.Columns.{value_at}
use Rattle.rows.specs.Lookup.{AtMost}
use Rattle.rows.specs.Index.{heads_of, links_of}
use Rattle.rows.proofs.Links.{none-at-most}
use Rattle.rows.proofs.Filing.{by-hash-all, filed-absent}
use Rattle.rows.proofs.Parts.{some_links, links-size, mark-last, head_at, bucket-asked, filed-grown}
use Rattle.rows.proofs.lookup.insert.Goals as goal

pub overflow_sub-last : goal.overflow_sub-last
overflow_sub-last c = omega (arith, c.requires.n_in_bounds, links-size c.args.index.now)

pub bounds-index-last : goal.bounds-index-last
bounds-index-last c = omega (arith, c.requires.n_in_bounds, links-size c.args.index.now)

pub returns-then-rows-at : goal.returns-then-rows-at
returns-then-rows-at c =
    let a = c.args in
    let some : 0 < length (links_of a.index.now) = omega (arith, c.requires.n_in_bounds) in
    record { filed_2 = filed-absent c.requires.filed (mark-last a.index.now some) c.requires.n_in_bounds c.if-index-last-ne0.false (λ l. absurd (omega (arith, l, c.if-rows-at.true))); index_len_unchanged = refl }

pub links_begin-requires : goal.links_begin-requires
links_begin-requires c = some_links c.args.index.now c.requires.filed.by_hash.some_buckets

pub bucket_of-requires : goal.bucket_of-requires
bucket_of-requires c =
    let a = c.args in
    bucket-asked a.index.now (value_at a.s.now a.rows.now a.column a.n) c.links_begin.ensures.0 c.requires.filed.by_hash c.requires.hashed_value

pub insert-requires : goal.insert-requires
insert-requires c =
    let a = c.args in
    let some : 0 < length (links_of a.index.now) = omega (arith, c.requires.n_in_bounds) in
    record { bounded = c.requires.bounded; indexed = by-hash-all c.requires.filed (mark-last a.index.now some) c.if-index-last-ne0.false; n_in_bounds = omega (arith, c.requires.n_in_bounds); n_bound = c.requires.n_bound; hashed_value = c.requires.hashed_value }

pub returns-then-index-bucket_of-eq0 : goal.returns-then-index-bucket_of-eq0
returns-then-index-bucket_of-eq0 c =
    let a = c.args in
    let b = c.bucket_of in
    let is = c.links_begin.ensures.0 in
    let some : 0 < length (links_of a.index.now) = omega (arith, c.requires.n_in_bounds) in
    let none : get_or (heads_of a.index.now) b.result 0 ≡ 0 = sym (head_at a.index.now is b.result b.ensures.1) ∙ c.if-index-bucket_of-eq0.true in
    let few : AtMost (links_of a.index.now) 7 (get_or (heads_of a.index.now) b.result 0) =
    subst (AtMost (links_of a.index.now) 7) (sym none) (none-at-most (links_of a.index.now) 7) in record {
      filed_2 = filed-grown a.index.now c.insert.new.index c.requires.filed a.hashed (mark-last a.index.now some) c.requires.n_in_bounds c.if-index-last-ne0.false
          c.insert.ensures.indexed_2 c.insert.ensures.index_len_unchanged c.insert.ensures.links is b.ensures.0 b.ensures.1 few;
      index_len_unchanged = c.insert.ensures.index_len_unchanged;
    }
