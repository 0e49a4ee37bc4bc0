-- A row more in either way: the links of the rows in chains stay, and so does the mark, except where a chain would grow long.
use Rattle.std.specs.Prelude.{None}
use mathlib.Core.Path.{◌≡◌, refl, sym, ap, ◌∙◌, subst}
use mathlib.Core.List.{List}
use mathlib.Core.Logic.{◌⊎◌, inl, inr}
use Prim.Native.Nat.{ℕ, ◌+◌, ◌-◌, ◌<◌, ◌≤◌}
use native.Mathlib.Omega.{arith}
use borrow.Author.Tests.{eq-eqb, ne_eqb, eqb-true, eqb-false}
use borrow.Table.Steps.{cases}
use lib.Dec.{eqb}
use lib.ListN.{length, get_or, set, length-set}
use lib.Seq.{get_or-set_same, get_or-set_other}
use Rattle.rows.specs.Columns.{Present, Bounded}
use Rattle.names.specs.Hash.{hash, bucket}
use Rattle.rows.specs.Chains.{Indexed, Links, FindsRow}
use Rattle.rows.proofs.ChainGrow.{skipped}
use Rattle.rows.proofs.ChainSearch.{passed_first}
use Rattle.rows.specs.Lookup.{Ordered, mark_of, chained, longest_chain, AtMost, FiledIn, Around}
use Rattle.rows.proofs.Links.{one_more, short-kept}

pub chained-all : (next : List ℕ) (n : ℕ) → mark_of next ≡ 0 → chained next n ≡ n
chained-all next n e = rw (eq-eqb (mark_of next) 0 e)

pub chained-some : (next : List ℕ) (n : ℕ) → (mark_of next ≡ 0 → ⊥) → chained next n ≡ mark_of next - 1
chained-some next n ne = rw (ne_eqb (mark_of next) 0 ne)

-- an index sees only the links of its rows
indexed-links : {s rows : List ℕ} {column : ℕ} {head next next' : List ℕ} {n : ℕ} → Indexed s rows column head next n → n ≤ length next'
    → ((j : ℕ) → j < n → get_or next' j 0 ≡ get_or next j 0) → Indexed s rows column head next' n
indexed-links x long kept = record {
  some_buckets = x.some_buckets;
  few_buckets = x.few_buckets;
  linked = long;
  heads = x.heads;
  nexts = λ j l p. rw (kept j l) (x.nexts j l p);
}

pub ordered-none : (s rows : List ℕ) (column : ℕ) (next : List ℕ) (n : ℕ) → n ≤ length next → Ordered s rows column next n n
ordered-none s rows column next n long = record {
  begins = omega arith;
  fits = long;
  later = λ i a l. absurd (omega arith);
  below = λ i a l. absurd (omega arith);
  sorted = λ i k a l h. absurd (omega arith);
  each = λ j a l. absurd (omega arith);
}

ordered-one : (s rows : List ℕ) (column : ℕ) (next : List ℕ) (n : ℕ) → n < length next → get_or next n 0 ≡ n → Ordered s rows column next n (n + 1)
ordered-one s rows column next n long e = record {
  begins = omega arith;
  fits = omega arith;
  later = λ i a l. let z : i ≡ n = omega arith in rw (z, e) (omega arith);
  below = λ i a l. let z : i ≡ n = omega arith in rw (z, e) (omega arith);
  sorted = λ i k a l h. absurd (omega arith);
  each = λ j a l. record { place = n; after = omega arith; before = omega arith; row = e ∙ omega arith };
}

pub bounded-front : {s rows : List ℕ} {column from n : ℕ} → from ≤ n → Bounded s rows column n → Bounded s rows column from
bounded-front front b = record {
  in-row = b.in-row;
  in_table = omega (arith, b.in_table);
  ordered = λ j l. b.ordered j (omega arith);
  inside = λ j l. b.inside j (omega arith);
}

module _ {s rows : List ℕ} {column : ℕ} {head next : List ℕ} {n : ℕ} (x : FiledIn s rows column head next n) {from : ℕ} (is : from ≡ chained next n) where
  pub by-hash-from : Indexed s rows column head next from
  by-hash-from = subst (Indexed s rows column head next) (sym is) x.by_hash

  pub in-order-from : Ordered s rows column next from n
  in-order-from = subst (λ (c : ℕ). Ordered s rows column next c n) (sym is) x.in_order

module _ {s rows : List ℕ} {column : ℕ} {head next : List ℕ} {n : ℕ} (x : FiledIn s rows column head next n) {mark : ℕ} (is : mark ≡ mark_of next) where
  module _ (marked : (mark ≡ 0 → ⊥)) where
    some : chained next n ≡ mark - 1
    some = chained-some next n (λ e. marked (is ∙ e)) ∙ ap (λ (m : ℕ). m - 1) (sym is)

    pub by-hash-some : Indexed s rows column head next (mark - 1)
    by-hash-some = subst (Indexed s rows column head next) some x.by_hash

    pub in-order-some : Ordered s rows column next (mark - 1) n
    in-order-some = subst (λ (c : ℕ). Ordered s rows column next c n) some x.in_order

  pub by-hash-all : mark ≡ 0 → Indexed s rows column head next n
  by-hash-all unmarked = subst (Indexed s rows column head next) (chained-all next n (sym is ∙ unmarked)) x.by_hash

  -- an empty bucket, and no row in order: no row has the bytes
  pub none-filed : {name_space : ℕ} {bytes : List ℕ} {b : ℕ} → mark ≡ 0 → b ≡ bucket (length head) (hash bytes) → b < length head
      → get_or head b 0 ≡ 0 → FindsRow s rows column n name_space bytes None
  none-filed unmarked e low empty k h =
      (passed_first (by-hash-all unmarked) e low).none k (omega (arith, empty)) h

  module _ (room : n + 1 < length next) where
    -- the mark stays where it is
    mark-kept : (next' : List ℕ) → length next' ≡ length next → ((i : ℕ) → n < i → get_or next' i 0 ≡ get_or next i 0) → mark_of next' ≡ mark
    mark-kept next' size kept = ap (λ (l : ℕ). get_or next' (l - 1) 0) size ∙ kept (length next - 1) (omega arith) ∙ sym is

    pub filed-in-order : (mark ≡ 0 → ⊥) → {next' : List ℕ} → Ordered s rows column next' (mark - 1) (n + 1) → Around next next' (mark - 1) n
        → FiledIn s rows column head next' (n + 1)
    filed-in-order marked {next'} o a =
        let kept : mark_of next' ≡ mark = mark-kept next' a.size a.beyond in
        let c : chained next' (n + 1) ≡ mark - 1 = chained-some next' (n + 1) (λ e. marked (sym kept ∙ e)) ∙ ap (λ (m : ℕ). m - 1) kept in record {
          room = omega (arith, a.size);
          by_hash = subst (Indexed s rows column head next') (sym c)
              (indexed-links (by-hash-some marked) (omega (arith, a.size, (by-hash-some marked).linked)) a.before);
          in_order = subst (λ (k : ℕ). Ordered s rows column next' k (n + 1)) (sym c) o;
          short = λ b low. short-kept (by-hash-some marked) next' a.before longest_chain b low (x.short b low);
        }

    module _ (unmarked : mark ≡ 0) where
      module _ {head' next' : List ℕ} {own : ℕ} (links : Links head next head' next' own n) (low : own < length head)
          (few : AtMost next 7 (get_or head own 0)) where
        kept : (j : ℕ) → j < n → get_or next' j 0 ≡ get_or next j 0
        kept j l = links.other_links j (λ e. absurd (omega arith))

        -- the chain of the row's bucket has it in front, or stays
        own-short : (get_or head' own 0 ≡ get_or head own 0)
            ⊎ ((get_or head' own 0 ≡ n + 1) × (get_or next' n 0 ≡ get_or head own 0)) → AtMost next' longest_chain (get_or head' own 0)
        own-short (inl e) = subst (AtMost next' longest_chain) (sym e) (short-kept (by-hash-all unmarked) next' kept longest_chain own low (x.short own low))
        own-short (inr e) =
            let r : get_or head' own 0 - 1 ≡ n = omega (arith, e.0) in
            one_more next' 7 longest_chain (get_or head' own 0) refl
            (subst (λ (j : ℕ). AtMost next' 7 (get_or next' j 0)) (sym r)
            (subst (AtMost next' 7) (sym e.1) (short-kept (by-hash-all unmarked) next' kept 7 own low few)))

        short-more : (b : ℕ) → b < length head → AtMost next' longest_chain (get_or head' b 0)
        short-more b l =
            cases (eqb b own)
            (λ t. subst (λ (a : ℕ). AtMost next' longest_chain (get_or head' a 0)) (sym (eqb-true b own t)) (own-short links.own))
            (λ t. subst (AtMost next' longest_chain) (sym (links.other_heads b (eqb-false b own t)))
            (short-kept (by-hash-all unmarked) next' kept longest_chain b l (x.short b l)))

      pub filed-by-hash : {head' next' : List ℕ} {b own : ℕ} → Indexed s rows column head' next'
          (n + 1) → length head' ≡ length head → length next' ≡ length next
          → Links head next head' next' own n → b ≡ own → b < length head → AtMost next 7 (get_or head b 0) → FiledIn s rows column head' next' (n + 1)
      filed-by-hash {head'} {next'} {b} {own} y heads size links e low few =
          let few' : AtMost next 7 (get_or head own 0) = subst (λ (a : ℕ). AtMost next 7 (get_or head a 0)) e few in
          let same : mark_of next' ≡ mark = mark-kept next' size (λ i l. links.other_links i (λ e. absurd (omega arith))) in
          let c : chained next' (n + 1) ≡ n + 1 = chained-all next' (n + 1) (same ∙ unmarked) in record {
            room = omega arith;
            by_hash = subst (Indexed s rows column head' next') (sym c) y;
            in_order = subst (λ (k : ℕ). Ordered s rows column next' k (n + 1)) (sym c) (ordered-none s rows column next' (n + 1) (omega arith));
            short = λ a l. short-more links (omega arith) few' a (omega arith);
          }

      -- a row with no value there is in no chain
      pub filed-absent : (Present rows column n → ⊥) → FiledIn s rows column head next (n + 1)
      filed-absent absent =
          let c : chained next (n + 1) ≡ n + 1 = chained-all next (n + 1) (sym is ∙ unmarked) in record {
            room = omega arith;
            by_hash = subst (Indexed s rows column head next) (sym c) (skipped (by-hash-all unmarked) (omega arith) absent);
            in_order = subst (λ (k : ℕ). Ordered s rows column next k (n + 1)) (sym c) (ordered-none s rows column next (n + 1) (omega arith));
            short = x.short;
          }

      -- row n, the first in order, and the mark that says so
      abbrev first : List ℕ
      first = set (set next n n) (length next - 1) (n + 1)

      first-size : length first ≡ length next
      first-size = length-set (set next n n) (length next - 1) (n + 1) ∙ length-set next n n

      first-mark : mark_of first ≡ n + 1
      first-mark =
          ap (λ (l : ℕ). get_or first (l - 1) 0) first-size
          ∙ get_or-set_same (set next n n) (length next - 1) (n + 1) 0 (omega (arith, length-set next n n))

      first-other : (j : ℕ) → (j ≡ length next - 1 → ⊥) → get_or first j 0 ≡ get_or (set next n n) j 0
      first-other j ne = get_or-set_other (set next n n) (length next - 1) j (n + 1) 0 ne

      pub filed-first : FiledIn s rows column head first (n + 1)
      filed-first =
          let c : chained first (n + 1) ≡ n = chained-some first (n + 1) (λ e. absurd (omega (arith, first-mark))) ∙ omega (arith, first-mark) in
          let kept : (j : ℕ) → j < n → get_or first j 0 ≡ get_or next j 0 =
          λ j l. first-other j (λ e. absurd (omega arith)) ∙ get_or-set_other next n j n 0 (λ e. absurd (omega arith)) in
          let here : get_or first n 0 ≡ n = first-other n (λ e. absurd (omega arith)) ∙ get_or-set_same next n n 0 (omega arith) in record {
            room = omega (arith, first-size);
            by_hash = subst (Indexed s rows column head first) (sym c) (indexed-links (by-hash-all unmarked) (omega (arith, first-size)) kept);
            in_order = subst (λ (k : ℕ). Ordered s rows column first k (n + 1)) (sym c)
                (ordered-one s rows column first n (omega (arith, first-size)) here);
            short = λ b low. short-kept (by-hash-all unmarked) first kept longest_chain b low (x.short b low);
          }
