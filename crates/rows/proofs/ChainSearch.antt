-- A turn along a chain leaves no row behind that has the bytes, since each next row is the newest of its bucket before.
use Rattle.std.specs.Prelude.{Some}
use mathlib.Core.Path.{◌≡◌, sym, ap, ◌∙◌, subst}
use mathlib.Core.Bool.{Bool, true, false, false≢true, true≢false}
use mathlib.Core.List.{List}
use Prim.Native.Nat.{ℕ, ◌-◌, ◌<◌, ◌≤◌}
use native.Mathlib.Omega.{arith}
use borrow.Author.Tests.{eq-eqb, eqb-true, eqb-false, ltb-true, ltb-false}
use borrow.Table.Steps.{cases}
use lib.Dec.{eqb, ltb}
use lib.ListN.{length, get_or}
use Rattle.names.specs.Hash.{hash, bucket}
use Rattle.names.proofs.Same.{same-eq, same_refl}
use Rattle.rows.specs.Columns.{kind_at, value_at, Present}
use Rattle.rows.specs.Rows.{name_space_of}
use Rattle.rows.specs.Chains.{bucket_at, Newest, Indexed, Has, named, FindsRow}

-- a search that stands at v: no row from v on has the bytes, and row v - 1, if there is one, is of their bucket
pub record Passed (s rows : List ℕ) (column buckets n name_space : ℕ) (bytes : List ℕ) (v : ℕ) : Type 0 where
  pub within : v ≤ n
  pub present : 0 < v → Present rows column (v - 1)
  pub bucketed : 0 < v → bucket_at s rows column buckets (v - 1) ≡ bucket buckets (hash bytes)
  pub none : (j : ℕ) → v ≤ j → Has s rows column n name_space bytes j → ⊥

module _ {s rows : List ℕ} {column n name_space : ℕ} {bytes : List ℕ} where
  module _ {j : ℕ} where
    pub named-true : {r : Bool} → j < n → Present rows column j → r ≡ named s rows column name_space bytes j → r ≡ true
        → Has s rows column n name_space bytes j
    named-true b p e t =
        let u : named s rows column name_space bytes j ≡ true = sym e ∙ t in
        cases (eqb (name_space_of (kind_at rows j)) name_space)
        (λ v. record {
          below = b;
          present = p;
          of_space = eqb-true _ _ v;
          of_bytes = sym (same-eq bytes (value_at s rows column j) (rw v at u));
        })
        (λ v. absurd (false≢true (rw v at u)))

    pub named-false : {r : Bool} → r ≡ named s rows column name_space bytes j → r ≡ false → Has s rows column n name_space bytes j → ⊥
    named-false e t h =
        let u : named s rows column name_space bytes j ≡ false = sym e ∙ t in
        true≢false (sym (same_refl bytes) ∙ (rw (eq-eqb _ _ h.of_space, h.of_bytes) at u))

    of-bucket : (buckets : ℕ) → Has s rows column n name_space bytes j → bucket_at s rows column buckets j ≡ bucket buckets (hash bytes)
    of-bucket buckets h = ap (λ (l : List ℕ). bucket buckets (hash l)) h.of_bytes

  module _ {head next : List ℕ} (x : Indexed s rows column head next n) where
    pub passed_first : {b : ℕ} → b ≡ bucket (length head) (hash bytes) → b < length head
        → Passed s rows column (length head) n name_space bytes (get_or head b 0)
    passed_first {b} e l =
        let w = x.heads b l in record {
          within = w.within;
          present = w.present;
          bucketed = λ p. w.bucketed p ∙ e;
          none = λ j a h. w.none_later j a h.below h.present (of-bucket (length head) h ∙ sym e);
        }

    module _ {v : ℕ} (some : 0 < v) (w : Passed s rows column (length head) n name_space bytes v) where
      -- the link of row v - 1 is the newest of its bucket before it
      link : Newest s rows column (length head) (bucket_at s rows column (length head) (v - 1)) (v - 1) (get_or next (v - 1) 0)
      link = x.nexts (v - 1) (omega (arith, w.within)) (w.present some)

      pub link-falls : get_or next (v - 1) 0 < v
      link-falls = omega (arith, link.within)

      pub passed-more : (Has s rows column n name_space bytes (v - 1) → ⊥) → Passed s rows column (length head) n name_space bytes (get_or next (v - 1) 0)
      passed-more other = record {
        within = omega (arith, link.within, w.within);
        present = link.present;
        bucketed = λ p. link.bucketed p ∙ w.bucketed some;
        none = λ j a h.
            cases (ltb j (v - 1))
            (λ t. link.none_later j a (ltb-true _ _ t) h.present (of-bucket (length head) h ∙ sym (w.bucketed some)))
            (λ t. cases (eqb j (v - 1))
            (λ u. other (subst (Has s rows column n name_space bytes) (eqb-true _ _ u) h))
            (λ u. w.none j (omega (arith, ltb-false j (v - 1) t, eqb-false j (v - 1) u)) h));
      }

  pub found : {buckets v : ℕ} → 0 < v → Passed s rows column buckets n name_space bytes v → Has s rows column n name_space bytes (v - 1)
      → FindsRow s rows column n name_space bytes (Some (v - 1))
  found some w h = (h, λ k l. w.none k (omega arith))
