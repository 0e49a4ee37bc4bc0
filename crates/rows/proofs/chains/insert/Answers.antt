-- `rows::chains::insert` meets its contract: its two stores are those by which an index takes a row more.
use mathlib.Core.Path.{refl}
use native.Mathlib.Omega.{arith}
use lib.ListN.{length-set}
use Rattle.rows.specs.Columns.{value_at}
use Rattle.rows.proofs.ChainGrow.{skipped, links-none}
use Rattle.rows.proofs.Parts.{some_links, links-size, bucket-asked, chain-grown}
use Rattle.rows.proofs.chains.insert.Goals as goal

pub links_begin-links-requires : goal.links_begin-links-requires
links_begin-links-requires c = some_links c.args.index.now c.requires.indexed.some_buckets

pub bucket_of-b-requires : goal.bucket_of-b-requires
bucket_of-b-requires c =
    let a = c.args in
    bucket-asked a.index.now (value_at a.s.now a.rows.now a.column a.n) c.links_begin-links.ensures.0 c.requires.indexed c.requires.hashed_value

pub bounds-index-links : goal.bounds-index-links
bounds-index-links c =
    omega (arith, c.links_begin-links.ensures.0, c.requires.n_in_bounds, links-size c.args.index.now)

pub bounds-index-b-then-rows-at : goal.bounds-index-b-then-rows-at
bounds-index-b-then-rows-at c =
    simp length-set (omega (arith, c.links_begin-links.ensures.1, c.bucket_of-b.ensures.1))

pub returns-then-rows-at : goal.returns-then-rows-at
returns-then-rows-at c =
    let a = c.args in
    let b = c.bucket_of-b.ensures in
    let told = chain-grown a.index.now c.links_begin-links.ensures.0 c.requires.indexed c.requires.n_in_bounds b.0 b.1 c.requires.hashed_value c.if-rows-at.true in
    record { indexed_2 = told.0; index_len_unchanged = told.1.0; links = told.1.1 }

pub returns-else-rows-at : goal.returns-else-rows-at
returns-else-rows-at c =
    record { indexed_2 = skipped c.requires.indexed c.requires.n_in_bounds (λ l. absurd (omega (arith, l, c.if-rows-at.false))); index_len_unchanged = refl; links = links-none _ _ _ _ }
