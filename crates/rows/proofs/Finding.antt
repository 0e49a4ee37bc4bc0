-- Rows with one name stand next to each other, the last of them last; a search in order ends right after it.
use Rattle.std.specs.Prelude.{Option, Some, None}
use mathlib.Core.Path.{◌≡◌, refl, sym, ap, ◌∙◌, subst}
use mathlib.Core.Bool.{Bool, true, false, ◌&&◌, false≢true, true≢false}
use mathlib.Core.List.{List, ◌∷◌}
use Prim.Native.Nat.{ℕ, ◌-◌, ◌<◌, ◌≤◌}
use native.Mathlib.Omega.{arith}
use borrow.Author.Tests.{eqb-true, eqb-false, lt-ltb, ltb-true, ltb-false}
use borrow.Table.Steps.{cases}
use lib.Dec.{eqb, ltb}
use lib.ListN.{length, get_or}
use lib.Seq.{length-slice}
use Rattle.rows.specs.Rows.{name_space_of}
use Rattle.rows.specs.Columns.{kind_at, first_at, past_at, value_at, Bounded}
use Rattle.rows.specs.Chains.{Has, named, FindsRow}
use Rattle.rows.proofs.ChainSearch.{named-true, named-false}
use Rattle.rows.specs.Order.{less}
use Rattle.rows.specs.Lookup.{key_at, Stands, Ordered, Between, FindsFrom}
use Rattle.rows.proofs.Less.{less-self, less_equal}

module _ {s rows : List ℕ} {column n name_space : ℕ} {bytes : List ℕ} {j : ℕ} {r : Bool}
    (e : r ≡ (ltb (first_at rows column j) (past_at rows column j) && named s rows column name_space bytes j)) where
  pub held-true : j < n → r ≡ true → Has s rows column n name_space bytes j
  held-true l t =
      let u : (ltb (first_at rows column j) (past_at rows column j) && named s rows column name_space bytes j) ≡ true = sym e ∙ t in
      cases (ltb (first_at rows column j) (past_at rows column j))
      (λ v. named-true l (ltb-true (first_at rows column j) (past_at rows column j) v) refl (rw v at u))
      (λ v. absurd (false≢true (rw v at u)))

  pub held-false : r ≡ false → Has s rows column n name_space bytes j → ⊥
  held-false t h =
      let u : (ltb (first_at rows column j) (past_at rows column j) && named s rows column name_space bytes j) ≡ false = sym e ∙ t in
      let v : ltb (first_at rows column j) (past_at rows column j) ≡ true = lt-ltb (first_at rows column j) (past_at rows column j) h.present in
      named-false refl (rw v at u) h

module _ {s rows : List ℕ} {column : ℕ} {next : List ℕ} {from n : ℕ} (b : Bounded s rows column n) (o : Ordered s rows column next from n)
    {name_space : ℕ} {bytes : List ℕ} where
  has_key : (k : ℕ) → Has s rows column n name_space bytes k → key_at s rows column k ≡ name_space ∷ bytes
  has_key k h = rw (h.of_space, h.of_bytes)

  -- a row that is ordered as one with the bytes has them too
  key_has : (j k : ℕ) → j < n → Has s rows column n name_space bytes k → name_space ∷ bytes ≡ key_at s rows column j → Has s rows column n name_space bytes j
  key_has j k l h e =
      let of_space : name_space_of (kind_at rows j) ≡ name_space = cc in
      let of_bytes : value_at s rows column j ≡ bytes = cc in
      let size : length (value_at s rows column j) ≡ length (value_at s rows column k) = ap length (of_bytes ∙ sym h.of_bytes) in record {
        below = l;
        present = omega (
          arith,
          size,
          length-slice (first_at rows column j) (past_at rows column j) s (b.inside j l),
          length-slice (first_at rows column k) (past_at rows column k) s (b.inside k h.below),
          h.present,
        );
        of_space = of_space;
        of_bytes = of_bytes;
      }

  module _ {p : ℕ} (w : Between s rows column next from n (name_space ∷ bytes) p p) where
    -- a row with the bytes stands before p
    stands-before : (k : ℕ) → Has s rows column n name_space bytes k → (i : Stands next from n k) → i.place < p
    stands-before k h i =
        cases (ltb i.place p)
        (λ t. ltb-true i.place p t)
        (λ t.
        let u : less (name_space ∷ bytes) (key_at s rows column (get_or next i.place 0)) ≡ true = w.after i.place (ltb-false i.place p t) i.before in
        let e : key_at s rows column (get_or next i.place 0) ≡ name_space ∷ bytes = ap (key_at s rows column) i.row ∙ has_key k h in
        absurd (true≢false (sym (subst (λ (x : List ℕ). less (name_space ∷ bytes) x ≡ true) e u) ∙ less-self (name_space ∷ bytes))))

    pub none_before : p ≡ from → FindsFrom s rows column from n name_space bytes None
    none_before e k a h =
        let i = o.each k a h.below in absurd (omega (arith, stands-before k h i, i.after))

    module _ (some : (p ≡ from → ⊥)) where
      begins : from ≤ p - 1
      begins = omega (arith, w.starts, some)

      pub last-below : get_or next (p - 1) 0 < n
      last-below = o.below (p - 1) begins (omega (arith, w.ends, w.starts, some))

      -- a row with the bytes is the one right before p, or stands before it
      falls : (Q : Type 0) (k : ℕ) → from ≤ k → Has s rows column n name_space bytes k
          → (k ≡ get_or next (p - 1) 0 → Q)
          → ((i : Stands next from n k) → i.place < p - 1 → Q)
          → Q
      falls Q k a h here before =
          let i = o.each k a h.below in
          let l : i.place < p = stands-before k h i in
          cases (eqb i.place (p - 1))
          (λ t. here (sym i.row ∙ ap (λ (x : ℕ). get_or next x 0) (eqb-true i.place (p - 1) t)))
          (λ t. before i (omega (arith, eqb-false i.place (p - 1) t)))

      last-found-at : Has s rows column n name_space bytes (get_or next (p - 1) 0) → FindsFrom s rows column from n name_space bytes (Some (get_or next (p - 1) 0))
      last-found-at f = (
        f,
        λ k l h.
            let a : from ≤ k = omega (arith, o.later (p - 1) begins (omega (arith, w.ends, w.starts, some))) in
            falls ⊥ k a h (λ e. absurd (omega arith))
            (λ i q.
            let g = o.sorted i.place (p - 1) i.after q (omega (arith, w.ends)) in
            let e : key_at s rows column (get_or next i.place 0) ≡ key_at s rows column (get_or next (p - 1) 0) =
            ap (key_at s rows column) i.row ∙ has_key k h ∙ sym (has_key (get_or next (p - 1) 0) f) in
            absurd (omega (arith, g.settled e, i.row))),
      )

      none-found-at : (Has s rows column n name_space bytes (get_or next (p - 1) 0) → ⊥) → FindsFrom s rows column from n name_space bytes None
      none-found-at f k a h =
          falls ⊥ k a h (λ e. f (subst (Has s rows column n name_space bytes) e h))
          (λ i q.
          let g = o.sorted i.place (p - 1) i.after q (omega (arith, w.ends)) in
          let e : key_at s rows column (get_or next i.place 0) ≡ name_space ∷ bytes = ap (key_at s rows column) i.row ∙ has_key k h in
          let u : less (key_at s rows column (get_or next (p - 1) 0)) (name_space ∷ bytes) ≡ false =
          subst (λ (x : List ℕ). less (key_at s rows column (get_or next (p - 1) 0)) x ≡ false) e g.at_most in
          f (key_has (get_or next (p - 1) 0) k last-below h
          (less_equal (name_space ∷ bytes) (key_at s rows column (get_or next (p - 1) 0)) (w.before (p - 1) begins (omega (arith, w.starts, some))) u)))

      module _ {j : ℕ} (is : j ≡ get_or next (p - 1) 0) where
        pub last_found : Has s rows column n name_space bytes j → FindsFrom s rows column from n name_space bytes (Some j)
        last_found f =
            subst (λ (x : ℕ). FindsFrom s rows column from n name_space bytes (Some x)) (sym is)
            (last-found-at (subst (Has s rows column n name_space bytes) is f))

        pub none_found : (Has s rows column n name_space bytes j → ⊥) → FindsFrom s rows column from n name_space bytes None
        none_found f = none-found-at (λ h. f (subst (Has s rows column n name_space bytes) (sym is) h))

-- what is found among the first rows, if none of the later ones has the bytes
module _ {s rows : List ℕ} {column from n name_space : ℕ} {bytes : List ℕ} (begins : from ≤ n)
    (none : (k : ℕ) → from ≤ k → Has s rows column n name_space bytes k → ⊥) where
  has_more : {j : ℕ} → Has s rows column from name_space bytes j → Has s rows column n name_space bytes j
  has_more h = record {
    below = omega (arith, h.below);
    present = h.present;
    of_space = h.of_space;
    of_bytes = h.of_bytes;
  }

  has-less : {j : ℕ} → Has s rows column n name_space bytes j → Has s rows column from name_space bytes j
  has-less {j} h = record {
    below = cases (ltb j from) (λ t. ltb-true j from t) (λ t. absurd (none j (ltb-false j from t) h));
    present = h.present;
    of_space = h.of_space;
    of_bytes = h.of_bytes;
  }

  pub finds-more : (f : Option ℕ) → FindsRow s rows column from name_space bytes f → FindsRow s rows column n name_space bytes f
  finds-more (Some j) x = (has_more x.0, λ k l h. x.1 k l (has-less h))
  finds-more None x = λ k h. x k (has-less h)
