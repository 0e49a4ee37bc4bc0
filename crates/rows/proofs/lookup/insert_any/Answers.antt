-- `rows::lookup::insert_any` meets its contract: a row more in order, a row more in a chain, or the first row in order.
use mathlib.Core.Path.{◌≡◌, sym, subst}
use mathlib.Core.List.{List}
use Prim.Native.Nat.{ℕ, ◌-◌, ◌<◌}
use native.Mathlib.Omega.{arith}
use lib.ListN.{length, get_or, length-set}
use Rattle.rows.specs.Columns.{value_at}
use Rattle.rows.specs.Lookup.{Ordered, mark_of}
use Rattle.rows.specs.Index.{links_of}
use Rattle.rows.proofs.Filing.{by-hash-all, in-order-some}
use Rattle.rows.proofs.Parts.{some_links, links-size, links-part, mark-last, bucket-asked, filed-grown, filed-back, filed-marked}
use Rattle.rows.proofs.lookup.insert_any.Goals as goal
use Rattle.rows.proofs.lookup.insert_any.Goals.{After-links_begin-links}

-- what was read is the mark
marks : (c : After-links_begin-links) → get_or c.args.index.now (length c.args.index.now - 1) 0 ≡ mark_of (links_of c.args.index.now)
marks c =
    let index = c.args.index.now in
    let some : 0 < length (links_of index) = omega (arith, c.requires.n_in_bounds) in
    mark-last index some

pub overflow_sub-last : goal.overflow_sub-last
overflow_sub-last c = omega (arith, c.requires.n_in_bounds, links-size c.args.index.now)

pub links_begin-links-requires : goal.links_begin-links-requires
links_begin-links-requires c = some_links c.args.index.now c.requires.filed.by_hash.some_buckets

pub bounds-index-last : goal.bounds-index-last
bounds-index-last c = omega (arith, c.requires.n_in_bounds, links-size c.args.index.now)

pub put_in_order-requires : goal.put_in_order-requires
put_in_order-requires c =
    let a = c.args in
    let part = links-part a.index.now c.links_begin-links.ensures.0 in record {
      bounded = c.requires.bounded;
      ordered = subst (λ (l : List ℕ). Ordered a.s.now a.rows.now a.column l (get_or c.args.index.now (length c.args.index.now - 1) 0 - 1) a.n) (sym part)
          (in-order-some c.requires.filed (marks (goal.at.put_in_order-requires c).After-links_begin-links) c.if-mark-ne0.true);
      n_in_bounds = (subst (λ (l : List ℕ). a.n < length l) (sym part) (omega (arith, c.requires.n_in_bounds)), omega (arith, c.requires.n_bound));
    }

pub returns-then-mark-ne0 : goal.returns-then-mark-ne0
returns-then-mark-ne0 c =
    let a = c.args in
    let told = filed-back a.index.now c.requires.filed c.links_begin-links.ensures.0 (marks (goal.at.returns-then-mark-ne0 c).After-links_begin-links) c.requires.n_in_bounds c.if-mark-ne0.true
    c.put_in_order.new.next c.put_in_order.ensures.ordered_2 c.put_in_order.ensures.around in
    record { filed_2 = told.0; index_len_unchanged = told.1 }

pub bucket_of-requires : goal.bucket_of-requires
bucket_of-requires c =
    let a = c.args in
    bucket-asked a.index.now (value_at a.s.now a.rows.now a.column a.n) c.links_begin-links.ensures.0 c.requires.filed.by_hash
    c.requires.hashed_value

pub has_room-requires : goal.has_room-requires
has_room-requires c =
    let a = c.args in (
      record {
        s = a.s.now;
        rows = a.rows.now;
        column = a.column;
        indexed = by-hash-all c.requires.filed (marks (goal.at.has_room-requires c).After-links_begin-links) c.if-mark-ne0.false;
      },
      omega (arith, c.bucket_of.ensures.1, c.links_begin-links.ensures.0),
    )

pub insert-requires : goal.insert-requires
insert-requires c =
    record { bounded = c.requires.bounded; indexed = by-hash-all c.requires.filed (marks (goal.at.insert-requires c).After-links_begin-links) c.if-mark-ne0.false; n_in_bounds = omega (arith, c.requires.n_in_bounds); n_bound = c.requires.n_bound; hashed_value = c.requires.hashed_value }

pub returns-then-has_room : goal.returns-then-has_room
returns-then-has_room c =
    let a = c.args in
    let b = c.bucket_of.ensures in record {
      filed_2 = filed-grown a.index.now c.insert.new.index c.requires.filed a.hashed (marks (goal.at.returns-then-has_room c).After-links_begin-links) c.requires.n_in_bounds c.if-mark-ne0.false c.insert.ensures.indexed_2 c.insert.ensures.index_len_unchanged c.insert.ensures.links
          c.links_begin-links.ensures.0 b.0 b.1 (c.has_room.ensures c.if-has_room.true);
      index_len_unchanged = c.insert.ensures.index_len_unchanged;
    }

pub bounds-index-links : goal.bounds-index-links
bounds-index-links c =
    omega (arith, c.requires.n_in_bounds, c.links_begin-links.ensures.0, links-size c.args.index.now)

pub bounds-index-last-2 : goal.bounds-index-last-2
bounds-index-last-2 c =
    simp length-set (omega (arith, c.requires.n_in_bounds, links-size c.args.index.now))

pub returns : goal.returns
returns c =
    let a = c.args in
    let told = filed-marked a.index.now c.requires.filed c.links_begin-links.ensures.0 (marks (goal.at.returns c).After-links_begin-links) c.requires.n_in_bounds c.if-mark-ne0.false in
    record { filed_2 = told.0; index_len_unchanged = told.1 }
