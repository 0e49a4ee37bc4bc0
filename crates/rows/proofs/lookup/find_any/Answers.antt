-- `rows::lookup::find_any` meets its contract: rows in order are later than those in chains, so they are searched first.
use mathlib.Core.Path.{subst}
use mathlib.Core.List.{List}
use Prim.Native.Nat.{ℕ, ◌-◌}
use native.Mathlib.Omega.{arith}
use lib.ListN.{length, take, drop}
use Rattle.names.specs.Asked.{spelling}
use Rattle.rows.specs.Lookup.{FindsFrom, FiledIn}
use Rattle.rows.proofs.Finding.{finds-more}
use Rattle.rows.proofs.Filing.{bounded-front, by-hash-from, in-order-from}
use Rattle.rows.proofs.Parts.{some_links, heads-count, to-parts}
use Rattle.rows.proofs.lookup.find_any.Goals as goal
use Rattle.rows.proofs.lookup.find_any.Goals.{After-next-1}

-- the rows are filed in the parts
filed : (c : After-next-1) →
    let a = c.args in
    let at = c.links_begin-links.result in
    FiledIn a.s.now a.rows.now a.column (take at a.index.now) (take (length a.index.now - at) (drop at a.index.now)) a.n
filed c =
    let a = c.args in
    to-parts a.index.now c.links_begin-links.ensures.0 (λ (h l : List ℕ). FiledIn a.s.now a.rows.now a.column h l a.n)
    c.requires.filed

pub links_begin-links-requires : goal.links_begin-links-requires
links_begin-links-requires c = some_links c.args.index.now c.requires.filed.by_hash.some_buckets

pub slice_bounds-head-end : goal.slice_bounds-head-end
slice_bounds-head-end c = heads-count c.args.index.now c.links_begin-links.ensures.0

pub chained_of-from-requires : goal.chained_of-from-requires
chained_of-from-requires c = omega (arith, (filed (goal.at.chained_of-from-requires c).After-next-1).room)

pub find_later-requires : goal.find_later-requires
find_later-requires c =
    record { bounded = c.requires.bounded; ordered = in-order-from (filed (goal.at.find_later-requires c).After-next-1) c.chained_of-from.ensures }

pub find-requires : goal.find-requires
find-requires c =
    let here = (goal.at.find-requires c).After-next-1 in
    let chained-of = c.chained_of-from in
    let o = in-order-from (filed here) chained-of.ensures in
    record { bounded = bounded-front o.begins c.requires.bounded; indexed = by-hash-from (filed here) chained-of.ensures; hashed_value = c.requires.hashed_value }

pub returns-in-Some : goal.returns-in-Some
returns-in-Some c =
    let a = c.args in
    subst (FindsFrom a.s.now a.rows.now a.column c.chained_of-from.result a.n a.space (spelling a.asked))
    c.in-Some.is c.find_later.ensures

pub returns-in-None : goal.returns-in-None
returns-in-None c =
    let chained-of = c.chained_of-from in
    let a = c.args in
    let o = in-order-from (filed (goal.at.returns-in-None c).After-next-1) chained-of.ensures in
    finds-more o.begins
    (subst (FindsFrom a.s.now a.rows.now a.column chained-of.result a.n a.space (spelling a.asked))
    c.in-None.is c.find_later.ensures)
    c.find.result c.find.ensures
