-- A row more: without a value there it changes nothing; with one it goes before the others of its bucket.
use mathlib.Core.Path.{◌≡◌, refl, sym, ◌∙◌, subst}
use mathlib.Core.List.{List}
use mathlib.Core.Logic.{inl, inr}
use Prim.Native.Nat.{ℕ, ◌+◌, ◌-◌, ◌<◌, ◌≤◌}
use native.Mathlib.Omega.{arith}
use borrow.Author.Tests.{eqb-true, eqb-false}
use borrow.Table.Steps.{cases}
use lib.Dec.{eqb}
use lib.ListN.{length, get_or, set, length-set}
use lib.Seq.{get_or-set_same, get_or-set_other}
use Rattle.rows.specs.Columns.{Present}
use Rattle.rows.specs.Chains.{bucket_at, Newest, Indexed, Links}

module _ {s rows : List ℕ} {column : ℕ} {head next : List ℕ} {n : ℕ} (x : Indexed s rows column head next n) (room : n < length next) where
  -- what holds of each row below n, and of n, holds of each below n + 1
  row_more : (P : ℕ → Type 0) → ((j : ℕ) → j < n → P j) → P n → (j : ℕ) → j < n + 1 → P j
  row_more P old new j l =
      cases (eqb j n) (λ t. subst P (sym (eqb-true j n t)) new) (λ t. old j (omega (arith, eqb-false j n t)))

  -- the newest of a bucket, if row n is not in it
  newest-same : (b v : ℕ) → (Present rows column n → bucket_at s rows column (length head) n ≡ b → ⊥)
      → Newest s rows column (length head) b n v → Newest s rows column (length head) b (n + 1) v
  newest-same b v other w = record {
    within = omega (arith, w.within);
    present = w.present;
    bucketed = w.bucketed;
    none_later = λ j a l.
        row_more (λ (i : ℕ). v ≤ i → Present rows column i → bucket_at s rows column (length head) i ≡ b → ⊥)
        (λ i q r. w.none_later i r q) (λ r. other) j l a;
  }

  pub skipped : (Present rows column n → ⊥) → Indexed s rows column head next (n + 1)
  skipped absent = record {
    some_buckets = x.some_buckets;
    few_buckets = x.few_buckets;
    linked = omega arith;
    heads = λ b l. newest-same b (get_or head b 0) (λ p. absurd (absent p)) (x.heads b l);
    nexts =
        row_more
        (λ (j : ℕ). Present rows column j → Newest s rows column (length head) (bucket_at s rows column (length head) j) j (get_or next j 0))
        x.nexts (λ p. absurd (absent p));
  }

  module _ {b : ℕ} (own : b ≡ bucket_at s rows column (length head) n) (low : b < length head) (present : Present rows column n) where
    abbrev head' : List ℕ
    head' = set head b (n + 1)

    abbrev next' : List ℕ
    next' = set next n (get_or head b 0)

    newest-new : (v : ℕ) → v ≡ n + 1 → Newest s rows column (length head) b (n + 1) v
    newest-new v e =
        let r : v - 1 ≡ n = omega arith in record {
          within = omega arith;
          present = λ p. rw r present;
          bucketed = λ p. rw r (sym own);
          none_later = λ j a l. absurd (omega arith);
        }

    heads' : (a : ℕ) → a < length head → Newest s rows column (length head) a (n + 1) (get_or head' a 0)
    heads' a l =
        cases (eqb a b)
        (λ t. rw (eqb-true a b t) (newest-new (get_or head' b 0) (get_or-set_same head b (n + 1) 0 low)))
        (λ t. rw (get_or-set_other head b a (n + 1) 0 (eqb-false a b t))
        (newest-same a (get_or head a 0) (λ p e. eqb-false a b t (sym (own ∙ e))) (x.heads a l)))

    nexts' : (j : ℕ) → j < n + 1 → Present rows column j
        → Newest s rows column (length head) (bucket_at s rows column (length head) j) j (get_or next' j 0)
    nexts' =
        row_more
        (λ (j : ℕ). Present rows column j → Newest s rows column (length head) (bucket_at s rows column (length head) j) j (get_or next' j 0))
        (λ j l p. rw (get_or-set_other next n j (get_or head b 0) 0 (λ e. absurd (omega arith))) (x.nexts j l p))
        (λ p. rw (get_or-set_same next n (get_or head b 0) 0 room, ← own) (x.heads b low))

    pub added : Indexed s rows column head' next' (n + 1)
    added =
        let e : length head' ≡ length head = length-set head b (n + 1) in record {
          some_buckets = omega (arith, x.some_buckets);
          few_buckets = omega (arith, x.few_buckets);
          linked = simp length-set (omega arith);
          heads = rw e heads';
          nexts = rw e nexts';
        }

-- what the two stores change, and what no store does
pub links-added : (head next : List ℕ) {b own n : ℕ} → b ≡ own → b < length head → n < length next
    → Links head next (set head b (n + 1)) (set next n (get_or head b 0)) own n
links-added head next {b} {own} {n} e low room = record {
  other_heads = λ a ne. get_or-set_other head b a (n + 1) 0 (λ f. ne (f ∙ e));
  other_links = λ i ne. get_or-set_other next n i (get_or head b 0) 0 ne;
  own =
      inr (rw (← e) (get_or-set_same head b (n + 1) 0 low), rw (← e) (get_or-set_same next n (get_or head b 0) 0 room));
}

pub links-none : (head next : List ℕ) (b n : ℕ) → Links head next head next b n
links-none head next b n = record { other_heads = λ a ne. refl; other_links = λ i ne. refl; own = inl refl }
