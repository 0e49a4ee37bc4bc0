-- An index sees only the rows below n, so what is written from row n on leaves it as it was; and an index of no rows.
use mathlib.Core.Path.{◌≡◌, refl, sym, ap, ◌∙◌}
use mathlib.Core.List.{List, [], ◌∷◌, ◌++◌}
use Prim.Native.Nat.{ℕ, suc, ◌+◌, ◌-◌, ◌*◌, ◌<◌, ◌≤◌}
use native.Mathlib.Omega.{arith}
use borrow.Author.Tests.{eqb-true, eqb-false}
use borrow.Table.Steps.{cases}
use lib.Dec.{eqb}
use lib.ListN.{length, get_or, set, take, drop, length-append, get_or-append}
use lib.Seq.{slice, sets, sets-eq, length-sets, length-take-le, get_or-set_other, get_or-append-add}
use Rattle.names.specs.Hash.{hashes, hash, bucket}
use Rattle.rows.specs.Rows.{scratch_width}
use Rattle.rows.specs.Columns.{kind_at, first_at, past_at, value_at, Present, Bounded}
use Rattle.rows.specs.Chains.{bucket_at, Newest, Indexed, Empty}

-- the first n rows of one table are those of the other
abbrev pub Kept : (rows rows' : List ℕ) (n : ℕ) → Type 0
Kept rows rows' n = (i : ℕ) → i < n * scratch_width → get_or rows' i 0 ≡ get_or rows i 0

module _ (s rows rows' : List ℕ) (column n : ℕ) (in-row : column + 1 < scratch_width) (kept : Kept rows rows' n) where
  pub kind-kept : (j : ℕ) → j < n → kind_at rows' j ≡ kind_at rows j
  kind-kept j l = kept (j * scratch_width) (omega arith)

  pub first-kept : (j : ℕ) → j < n → first_at rows' column j ≡ first_at rows column j
  first-kept j l = kept (j * scratch_width + column) (omega arith)

  pub past-kept : (j : ℕ) → j < n → past_at rows' column j ≡ past_at rows column j
  past-kept j l = kept (j * scratch_width + column + 1) (omega arith)

  pub value-kept : (j : ℕ) → j < n → value_at s rows' column j ≡ value_at s rows column j
  value-kept j l = rw (first-kept j l, past-kept j l)

  present-kept : (j : ℕ) → j < n → Present rows column j → Present rows' column j
  present-kept j l p = omega (arith, first-kept j l, past-kept j l)

  present-back : (j : ℕ) → j < n → Present rows' column j → Present rows column j
  present-back j l p = omega (arith, first-kept j l, past-kept j l)

  bucket-kept : (buckets j : ℕ) → j < n → bucket_at s rows' column buckets j ≡ bucket_at s rows column buckets j
  bucket-kept buckets j l = ap (λ (bytes : List ℕ). bucket buckets (hash bytes)) (value-kept j l)

  newest-kept : (buckets b i v : ℕ) → i ≤ n → Newest s rows column buckets b i v → Newest s rows' column buckets b i v
  newest-kept buckets b i v l w = record {
    within = w.within;
    present = λ p. present-kept (v - 1) (omega (arith, w.within)) (w.present p);
    bucketed = λ p. bucket-kept buckets (v - 1) (omega (arith, w.within)) ∙ w.bucketed p;
    none_later = λ j a q p e.
        w.none_later j a q (present-back j (omega arith) p) (sym (bucket-kept buckets j (omega arith)) ∙ e);
  }

  pub bounded-kept : n * scratch_width ≤ length rows' → Bounded s rows column n → Bounded s rows' column n
  bounded-kept long b = record {
    in-row = in-row;
    in_table = long;
    ordered = λ j l. omega (arith, first-kept j l, past-kept j l, b.ordered j l);
    inside = λ j l. omega (arith, past-kept j l, b.inside j l);
  }

  pub indexed-kept : (head next : List ℕ) → Indexed s rows column head next n → Indexed s rows' column head next n
  indexed-kept head next x = record {
    some_buckets = x.some_buckets;
    few_buckets = x.few_buckets;
    linked = x.linked;
    heads = λ b l. newest-kept (length head) b n (get_or head b 0) (omega arith) (x.heads b l);
    nexts = λ j l p.
        rw (bucket-kept (length head) j l)
        (newest-kept (length head) (bucket_at s rows column (length head) j) j (get_or next j 0) (omega arith) (x.nexts j l (present-back j l p)));
  }

-- one row more in bounds
pub bounded-more : (s rows : List ℕ) (column n : ℕ) → Bounded s rows column n → n * scratch_width + scratch_width ≤ length rows
    → first_at rows column n ≤ past_at rows column n → past_at rows column n ≤ length s → Bounded s rows column (n + 1)
bounded-more s rows column n b long o i = record {
  in-row = b.in-row;
  in_table = omega arith;
  ordered = λ j l. cases (eqb j n) (λ t. rw (eqb-true j n t) o) (λ t. b.ordered j (omega (arith, eqb-false j n t)));
  inside = λ j l. cases (eqb j n) (λ t. rw (eqb-true j n t) i) (λ t. b.inside j (omega (arith, eqb-false j n t)));
}

-- stores from `at` on change nothing before it
sets-before : (vs l : List ℕ) (at i : ℕ) → i < at → get_or (sets l at vs) i 0 ≡ get_or l i 0
sets-before [] l at i b = refl
sets-before (v ∷ vs) l at i b =
    sets-before vs (set l at v) (suc at) i (omega arith) ∙ get_or-set_other l at i v 0 (λ e. absurd (omega arith))

-- row n, written whole
module _ (s rows : List ℕ) (n : ℕ) (cells : List ℕ) (whole : length cells ≡ scratch_width) (long : n * scratch_width + scratch_width ≤ length rows) where
  abbrev written : List ℕ
  written = sets rows (n * scratch_width) cells

  pub row_kept : Kept rows written n
  row_kept i l = sets-before cells rows (n * scratch_width) i l

  pub row-cell : (c : ℕ) → c < scratch_width → get_or written (n * scratch_width + c) 0 ≡ get_or cells c 0
  row-cell c l =
      let front : length (take (n * scratch_width) rows) ≡ n * scratch_width = length-take-le (n * scratch_width) rows (omega arith) in
      let both : length (take (n * scratch_width) rows ++ cells) ≡ n * scratch_width + scratch_width = length-append (take (n * scratch_width) rows) cells
      ∙ rw (front, whole) in
      ap (λ (t : List ℕ). get_or t (n * scratch_width + c) 0) (sets-eq cells rows (n * scratch_width) (omega arith))
      ∙ get_or-append (take (n * scratch_width) rows ++ cells) (drop (n * scratch_width + length cells) rows) 0 (n * scratch_width + c) (omega arith)
      ∙ ap (λ (i : ℕ). get_or (take (n * scratch_width) rows ++ cells) (i + c) 0) (sym front)
      ∙ get_or-append-add (take (n * scratch_width) rows) cells c 0

  module _ (column : ℕ) (in-row : column + 1 < scratch_width) where
    row_first : first_at written column n ≡ get_or cells column 0
    row_first = row-cell column (omega arith)

    row-past : past_at written column n ≡ get_or cells (column + 1) 0
    row-past =
        let e : n * scratch_width + column + 1 ≡ n * scratch_width + (column + 1) = omega arith in
        ap (λ (i : ℕ). get_or written i 0) e ∙ row-cell (column + 1) in-row

    pub row-value : value_at s written column n ≡ slice (get_or cells column 0) (get_or cells (column + 1) 0) s
    row-value = rw (row_first, row-past)

    pub row-bounded : Bounded s rows column n → get_or cells column 0 ≤ get_or cells (column + 1) 0 → get_or cells (column + 1) 0 ≤ length s
        → Bounded s written column (n + 1)
    row-bounded b o i =
        let size : length written ≡ length rows = length-sets rows (n * scratch_width) cells in
        bounded-more s written column n
        (bounded-kept s rows written column n in-row row_kept (omega arith) b)
        (omega arith) (omega (arith, row_first, row-past)) (omega (arith, row-past))

pub bounded-none : (s rows : List ℕ) (column : ℕ) → column + 1 < scratch_width → Bounded s rows column 0
bounded-none s rows column m = record {
  in-row = m;
  in_table = omega arith;
  ordered = λ j l. absurd (omega arith);
  inside = λ j l. absurd (omega arith);
}

pub indexed-none : (s rows : List ℕ) (column : ℕ) (head next : List ℕ) → 0 < length head → length head ≤ hashes → Empty head
    → Indexed s rows column head next 0
indexed-none s rows column head next some few empty = record {
  some_buckets = some;
  few_buckets = few;
  linked = omega arith;
  heads = λ b l. let e : get_or head b 0 ≡ 0 = empty b l in record {
    within = omega arith;
    present = λ p. absurd (omega arith);
    bucketed = λ p. absurd (omega arith);
    none_later = λ j a q. absurd (omega arith);
  };
  nexts = λ j l. absurd (omega arith);
}
