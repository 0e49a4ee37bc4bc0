-- A row more for an entry more: scratch keeps it, and the rows before it.
use mathlib.Core.Path.{◌≡◌, refl, ap, sym, ◌∙◌}
use mathlib.Core.List.{List, [], ◌∷◌, ◌++◌}
use Prim.Native.Nat.{ℕ, ◌+◌, ◌*◌, ◌<◌, ◌≤◌}
use native.Mathlib.Omega.{arith}
use lib.Dec.{eqb}
use lib.ListN.{length, set, length-append, length-set}
use lib.Seq.{slice, get_or-set_same, get_or-set_other}
use borrow.Author.Tests.{eqb-true, eqb-false}
use borrow.Table.Steps.{cases}
use Rattle.rows.specs.Rows.{scratch_width}
use Rattle.rows.specs.Columns.{identifier_column, kind_at, first_at, past_at, value_at, Bounded}
use Rattle.rows.specs.Index.{heads_of, links_of, Filed, Unused}
use Rattle.rows.proofs.RowsKept.{Kept, kind-kept, value-kept, bounded-kept, bounded-more, bounded-none}
use Rattle.rows.proofs.FiledKept.{filed-kept, filed-none}
use Rattle.judging.proofs.Lists.{Last, before, last, below_length, at_last}
use Rattle.making.specs.declared.Entry.{Entry}
use Rattle.making.specs.Entries.{Said, said_by}
use Rattle.making.specs.Keeps.{block_kind, Keeps}

-- nothing is done yet
pub keeps-none : (buffer rows index : List ℕ) → Unused index → 0 < length (links_of index) → Keeps buffer rows index 0 []
keeps-none buffer rows index unused links = record {
  counted = refl;
  bounded = bounded-none buffer rows identifier_column (omega arith);
  filed = filed-none buffer rows identifier_column index unused links;
  kinds = λ j l. absurd (omega arith);
  values = λ j x e. let z : ◌≡◌ {A = ℕ} 0 1 = cc in absurd (omega arith);
}

-- the rows with row n written: its kind, and the bounds of its identifier
module _ (rows : List ℕ) (n first past : ℕ) (long : n * scratch_width + scratch_width ≤ length rows) where
  abbrev pub row_put : List ℕ
  row_put = set (set (set rows (n * scratch_width) block_kind) (n * scratch_width + 4) first) (n * scratch_width + 4 + 1) past

  pub put-kept : Kept rows row_put n
  put-kept i l =
      get_or-set_other (set (set rows (n * scratch_width) block_kind) (n * scratch_width + 4) first) (n * scratch_width + 4 + 1) i past 0 (λ e. absurd (omega arith))
      ∙ get_or-set_other (set rows (n * scratch_width) block_kind) (n * scratch_width + 4) i first 0 (λ e. absurd (omega arith))
      ∙ get_or-set_other rows (n * scratch_width) i block_kind 0 (λ e. absurd (omega arith))

  pub put-length : length row_put ≡ length rows
  put-length = simp length-set refl

  pub put-kind : kind_at row_put n ≡ block_kind
  put-kind =
      get_or-set_other (set (set rows (n * scratch_width) block_kind) (n * scratch_width + 4) first) (n * scratch_width + 4 + 1) (n * scratch_width) past 0
      (λ e. absurd (omega arith))
      ∙ get_or-set_other (set rows (n * scratch_width) block_kind) (n * scratch_width + 4) (n * scratch_width) first 0 (λ e. absurd (omega arith))
      ∙ get_or-set_same rows (n * scratch_width) block_kind 0 (omega arith)

  pub put_first : first_at row_put identifier_column n ≡ first
  put_first =
      let size : length (set rows (n * scratch_width) block_kind) ≡ length rows = simp length-set refl in
      get_or-set_other (set (set rows (n * scratch_width) block_kind) (n * scratch_width + 4) first) (n * scratch_width + 4 + 1)
      (n * scratch_width + 4) past 0 (λ e. absurd (omega arith))
      ∙ get_or-set_same (set rows (n * scratch_width) block_kind) (n * scratch_width + 4) first 0 (omega arith)

  pub put-past : past_at row_put identifier_column n ≡ past
  put-past =
      let size : length (set (set rows (n * scratch_width) block_kind) (n * scratch_width + 4) first) ≡ length rows = simp length-set refl in
      get_or-set_same (set (set rows (n * scratch_width) block_kind) (n * scratch_width + 4) first) (n * scratch_width + 4 + 1) past 0 (omega arith)

  module _ (buffer : List ℕ) where
    pub put-value : value_at buffer row_put identifier_column n ≡ slice first past buffer
    put-value = rw (put_first, put-past)

    pub put-bounded : first ≤ past → past ≤ length buffer → Bounded buffer rows identifier_column n → Bounded buffer row_put identifier_column (n + 1)
    put-bounded order inside b =
        let size = put-length in
        bounded-more buffer row_put identifier_column n (bounded-kept buffer rows row_put identifier_column n (omega arith) put-kept (omega arith) b)
        (omega arith) (omega (arith, put_first, put-past)) (omega (arith, put-past))

    pub put-filed : (index : List ℕ) → Filed buffer rows identifier_column index n → Filed buffer row_put identifier_column index n
    put-filed index = filed-kept buffer rows row_put identifier_column n (omega arith) put-kept (heads_of index) (links_of index)

    module _ (index : List ℕ) (done : List Said) (keeps : Keeps buffer rows index n done) (entry : Entry)
        (same_first : entry.identifier.first ≡ first) (same-past : entry.identifier.past ≡ past) where
      abbrev said : Said
      said = said_by buffer entry

      value_there : value_at buffer row_put identifier_column n ≡ said.identifier
      value_there = put-value ∙ rw (same_first, same-past)

      value_of : (j : ℕ) (x : Said) → Last done said j x → value_at buffer row_put identifier_column j ≡ x.identifier
      value_of j x (before e) =
          value-kept buffer rows row_put identifier_column n (omega arith) put-kept j (omega (arith, below_length done j x e, keeps.counted))
          ∙ keeps.values j x e
      value_of j x (last p q) =
          ap (value_at buffer row_put identifier_column) (p ∙ keeps.counted) ∙ value_there ∙ ap (λ (y : Said). y.identifier) (sym q)

      pub keeps-more : (index' : List ℕ) → Bounded buffer row_put identifier_column (n + 1)
          → Filed buffer row_put identifier_column index' (n + 1) → Keeps buffer row_put index' (n + 1) (done ++ (said ∷ []))
      keeps-more index' bounded filed = record {
        counted = length-append done (said ∷ []) ∙ omega (arith, keeps.counted);
        bounded = bounded;
        filed = filed;
        kinds = λ j l.
            cases (eqb j n)
            (λ t. ap (kind_at row_put) (eqb-true j n t) ∙ put-kind)
            (λ t.
            let b : j < n = omega (arith, eqb-false j n t) in
            kind-kept buffer rows row_put identifier_column n (omega arith) put-kept j b ∙ keeps.kinds j b);
        values = λ j x e. value_of j x (at_last done said j x e);
      }
