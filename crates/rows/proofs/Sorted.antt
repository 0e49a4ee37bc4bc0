-- A search among rows in order keeps half of them at each turn; a row more goes to the place of its key, the later ones one further.
use mathlib.Core.Path.{◌≡◌, sym, ◌∙◌, subst}
use mathlib.Core.Bool.{true, false, true≢false}
use mathlib.Core.List.{List}
use Prim.Native.Nat.{ℕ, ◌+◌, ◌-◌, ◌<◌, ◌≤◌}
use native.Mathlib.Omega.{arith}
use borrow.Author.Tests.{eqb-true, eqb-false, ltb-true, ltb-false}
use borrow.Table.Steps.{cases}
use lib.Dec.{eqb, ltb}
use lib.ListN.{length, get_or, set, length-set}
use lib.Seq.{get_or-set_same, get_or-set_other}
use Rattle.rows.specs.Order.{less}
use Rattle.rows.specs.Lookup.{key_at, Goes, Stands, Ordered, Between, Shifted, Around}
use Rattle.rows.proofs.Less.{less-self, less-through, less-chain, less-once}

-- the three ways that a number lies to another
lies : (P : ℕ → Type 0) (p i : ℕ) → (i < p → P i) → P p → (p < i → P i) → P i
lies P p i low here high =
    cases (ltb i p)
    (λ t. low (ltb-true i p t))
    (λ t. cases (eqb i p)
    (λ u. subst P (sym (eqb-true i p u)) here)
    (λ u. high (omega (arith, ltb-false i p t, eqb-false i p u))))

module _ {s rows : List ℕ} {column : ℕ} {next : List ℕ} {from n : ℕ} (o : Ordered s rows column next from n) {key : List ℕ} where
  pub between-all : Between s rows column next from n key from n
  between-all = record {
    starts = omega arith;
    narrows = o.begins;
    ends = omega arith;
    before = λ i a b. absurd (omega arith);
    after = λ i a b. absurd (omega arith);
  }

  module _ {low high middle : ℕ} (b : Between s rows column next from n key low high) (above : low ≤ middle) (below : middle < high) where
    pub lower-half : less key (key_at s rows column (get_or next middle 0)) ≡ true → Between s rows column next from n key low middle
    lower-half t = record {
      starts = b.starts;
      narrows = above;
      ends = omega (arith, b.ends);
      before = b.before;
      after = λ i l.
          lies (λ (k : ℕ). k < n → less key (key_at s rows column (get_or next k 0)) ≡ true) middle i
          (λ m. absurd (omega arith))
          (λ m. t)
          (λ m q. less-through key (key_at s rows column (get_or next middle 0)) (key_at s rows column (get_or next i 0)) t
          (o.sorted middle i (omega (arith, b.starts)) m q).at_most);
    }

    pub upper-half : less key (key_at s rows column (get_or next middle 0)) ≡ false → Between s rows column next from n key (middle + 1) high
    upper-half t = record {
      starts = omega (arith, b.starts);
      narrows = omega arith;
      ends = b.ends;
      before = λ i a l.
          lies (λ (k : ℕ). from ≤ k → less key (key_at s rows column (get_or next k 0)) ≡ false) middle i
          (λ m q. less-chain (key_at s rows column (get_or next i 0)) (key_at s rows column (get_or next middle 0)) key
          (o.sorted i middle q m (omega (arith, b.ends))).at_most t)
          (λ q. t)
          (λ m. absurd (omega arith))
          a;
      after = b.after;
    }

-- a search that has come to an end
pub between-met : {s rows : List ℕ} {column : ℕ} {next : List ℕ} {from n : ℕ} {key : List ℕ} {low high : ℕ} → Between s rows column next from n key low high
    → high ≤ low → Between s rows column next from n key low low
between-met b met = record {
  starts = b.starts;
  narrows = omega arith;
  ends = omega (arith, b.narrows, b.ends);
  before = b.before;
  after = λ i l. b.after i (omega arith);
}

-- row n is put at p, once there is room
module _ {s rows : List ℕ} {column : ℕ} {next next1 : List ℕ} {from n p : ℕ} (o : Ordered s rows column next from n) (room : n < length next)
    (b : Between s rows column next from n (key_at s rows column n) p p) (m : Shifted next next1 p n) where
  abbrev next2 : List ℕ
  next2 = set next1 p n

  here : get_or next2 p 0 ≡ n
  here = get_or-set_same next1 p n 0 (omega (arith, m.size, b.ends))

  other : (i : ℕ) → (i ≡ p → ⊥) → get_or next2 i 0 ≡ get_or next1 i 0
  other i ne = get_or-set_other next1 p i n 0 ne

  put-before : (i : ℕ) → i < p → get_or next2 i 0 ≡ get_or next i 0
  put-before i l = other i (λ e. absurd (omega arith)) ∙ m.before i l

  put-beyond : (i : ℕ) → n < i → get_or next2 i 0 ≡ get_or next i 0
  put-beyond i l = other i (λ e. absurd (omega (arith, b.ends))) ∙ m.beyond i l

  moved : (i : ℕ) → p < i → i < n + 1 → get_or next2 i 0 ≡ get_or next (i - 1) 0
  moved i l h = other i (λ e. absurd (omega arith)) ∙ m.moved i l (omega arith)

  -- what holds of the rows that were there and of row n, holds of each
  each_row : (P : ℕ → Type 0) → ((i : ℕ) → from ≤ i → i < n → P (get_or next i 0)) → P n → (i : ℕ) → from ≤ i → i < n + 1 → P (get_or next2 i 0)
  each_row P old new i a l =
      lies (λ (k : ℕ). from ≤ k → k < n + 1 → P (get_or next2 k 0)) p i
      (λ q r t. rw (put-before i q) (old i r (omega (arith, b.ends))))
      (λ r t. rw here new)
      (λ q r t. rw (moved i q t) (old (i - 1) (omega (arith, b.starts)) (omega arith)))
      a l

  goes-new : (i : ℕ) → from ≤ i → i < p → Goes s rows column (get_or next i 0) n
  goes-new i a l = record {
    at_most = b.before i a l;
    settled = λ e. o.below i a (omega (arith, b.ends));
  }

  new-goes : (k : ℕ) → p ≤ k → k < n → Goes s rows column n (get_or next k 0)
  new-goes k a l = record {
    at_most = less-once (key_at s rows column n) (key_at s rows column (get_or next k 0)) (b.after k a l);
    settled = λ e.
        absurd (true≢false (sym (b.after k a l) ∙ (subst (λ (x : List ℕ). less (key_at s rows column n) x ≡ false) e (less-self (key_at s rows column n)))));
  }

  sorted_more : (i k : ℕ) → from ≤ i → i < k → k < n + 1 → Goes s rows column (get_or next2 i 0) (get_or next2 k 0)
  sorted_more i k a l h =
      lies (λ (x : ℕ). i < x → x < n + 1 → Goes s rows column (get_or next2 i 0) (get_or next2 x 0)) p k
      (λ q r t. let z : i < p = omega arith in rw (put-before i z, put-before k q) (o.sorted i k a r (omega (arith, b.ends))))
      (λ r t. rw (put-before i r, here) (goes-new i a r))
      (λ q r t. rw (moved k q t)
      (lies (λ (x : ℕ). from ≤ x → x < k → Goes s rows column (get_or next2 x 0) (get_or next (k - 1) 0)) p i
      (λ u v w. rw (put-before i u) (o.sorted i (k - 1) v (omega arith) (omega arith)))
      (λ v w. rw here (new-goes (k - 1) (omega arith) (omega arith)))
      (λ u v w. let z : i < n + 1 = omega arith in rw (moved i u z) (o.sorted (i - 1) (k - 1) (omega (arith, b.starts)) (omega arith) (omega arith)))
      a r))
      l h

  stands-more : (j : ℕ) → Stands next from n j → Stands next2 from (n + 1) j
  stands-more j w =
      cases (ltb w.place p)
      (λ t. record {
        place = w.place;
        after = w.after;
        before = omega (arith, w.before);
        row = put-before w.place (ltb-true w.place p t) ∙ w.row;
      })
      (λ t.
      let l : p ≤ w.place = ltb-false w.place p t in
      let e : w.place + 1 - 1 ≡ w.place = omega arith in record {
        place = w.place + 1;
        after = omega (arith, w.after);
        before = omega (arith, w.before);
        row = moved (w.place + 1) (omega arith) (omega (arith, w.before)) ∙ rw e w.row;
      })

  pub ordered-more : Ordered s rows column next2 from (n + 1)
  ordered-more = record {
    begins = omega (arith, o.begins);
    fits = omega (arith, length-set next1 p n, m.size);
    later = each_row (λ (x : ℕ). from ≤ x) o.later o.begins;
    below = each_row (λ (x : ℕ). x < n + 1) (λ i a l. omega (arith, o.below i a l)) (omega arith);
    sorted = sorted_more;
    each = λ j a l.
        cases (eqb j n)
        (λ t. record { place = p; after = b.starts; before = omega (arith, b.ends); row = here ∙ sym (eqb-true j n t) })
        (λ t. stands-more j (o.each j a (omega (arith, eqb-false j n t))));
  }

  pub put-around : Around next next2 from n
  put-around = record {
    size = length-set next1 p n ∙ m.size;
    before = λ i l. put-before i (omega (arith, b.starts));
    beyond = put-beyond;
  }
