-- Look-up sees only the rows below n, so what is written from row n on leaves it as it was; and the look-up of no rows.
use mathlib.Core.Path.{◌≡◌, sym, ◌∙◌, subst}
use mathlib.Core.List.{List}
use Prim.Native.Nat.{ℕ, ◌+◌, ◌*◌, ◌<◌, ◌≤◌}
use native.Mathlib.Omega.{arith}
use lib.ListN.{length, get_or}
use lib.Seq.{sets}
use Rattle.rows.specs.Rows.{scratch_width}
use Rattle.rows.specs.Chains.{Indexed}
use Rattle.rows.proofs.RowsKept.{Kept, kind-kept, value-kept, indexed-kept, row_kept, indexed-none}
use Rattle.rows.specs.Lookup.{key_at, Goes, Ordered, chained, longest_chain, AtMost, FiledIn}
use Rattle.rows.specs.Index.{heads_of, links_of, Filed, Unused}
use Rattle.rows.proofs.Links.{none-at-most}
use Rattle.rows.proofs.Filing.{chained-all, ordered-none}

module _ (s rows rows' : List ℕ) (column n : ℕ) (in_row : column + 1 < scratch_width) (kept : Kept rows rows' n) where
  key-kept : (j : ℕ) → j < n → key_at s rows' column j ≡ key_at s rows column j
  key-kept j l = rw (kind-kept s rows rows' column n in_row kept j l, value-kept s rows rows' column n in_row kept j l)

  goes_kept : (j k : ℕ) → j < n → k < n → Goes s rows column j k → Goes s rows' column j k
  goes_kept j k l m g = record {
    at_most = rw (key-kept j l, key-kept k m) g.at_most;
    settled = λ e. g.settled (sym (key-kept j l) ∙ e ∙ key-kept k m);
  }

  ordered-kept : (next : List ℕ) (from : ℕ) → Ordered s rows column next from n → Ordered s rows' column next from n
  ordered-kept next from o = record {
    begins = o.begins;
    fits = o.fits;
    later = o.later;
    below = o.below;
    sorted = λ i k a l h.
        goes_kept (get_or next i 0) (get_or next k 0) (o.below i a (omega arith)) (o.below k (omega arith) h) (o.sorted i k a l h);
    each = o.each;
  }

  pub filed-kept : (head next : List ℕ) → FiledIn s rows column head next n → FiledIn s rows' column head next n
  filed-kept head next x = record {
    room = x.room;
    by_hash = indexed-kept s rows rows' column (chained next n) in_row
        (λ i l. kept i (omega (arith, x.in_order.begins))) head next x.by_hash;
    in_order = ordered-kept next (chained next n) x.in_order;
    short = x.short;
  }

-- row n, written whole
pub row-filed : (s rows : List ℕ) (n : ℕ) (cells : List ℕ) → length cells ≡ scratch_width → n * scratch_width + scratch_width ≤ length rows → (column : ℕ)
    → column + 1 < scratch_width
    → (index : List ℕ) → Filed s rows column index n → Filed s (sets rows (n * scratch_width) cells) column index n
row-filed s rows n cells whole long column in_row index x =
    filed-kept s rows (sets rows (n * scratch_width) cells) column n in_row (row_kept s rows n cells whole long) (heads_of index) (links_of index) x

pub filed-none : (s rows : List ℕ) (column : ℕ) (index : List ℕ) → Unused index → 0 < length (links_of index) → Filed s rows column index 0
filed-none s rows column index unused room =
    let c : chained (links_of index) 0 ≡ 0 = chained-all (links_of index) 0 unused.unmarked in record {
      room = room;
      by_hash = subst (Indexed s rows column (heads_of index) (links_of index)) (sym c)
          (indexed-none s rows column (heads_of index) (links_of index) unused.some_heads unused.few_heads unused.empty_heads);
      in_order = subst (λ (k : ℕ). Ordered s rows column (links_of index) k 0) (sym c) (ordered-none s rows column (links_of index) 0 (omega arith));
      short = λ b l. subst (AtMost (links_of index) longest_chain) (sym (unused.empty_heads b l)) (none-at-most (links_of index) longest_chain);
    }
