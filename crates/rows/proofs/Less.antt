-- The order of a dictionary is total, and is told from the front and in parts.
use mathlib.Core.Path.{◌≡◌, refl, sym, ap, ◌∙◌}
use mathlib.Core.Bool.{true, false, cond, false≢true, true≢false}
use mathlib.Core.Logic.{◌⊎◌, inl, inr}
use mathlib.Core.List.{List, [], ◌∷◌, ◌++◌}
use Prim.Native.Nat.{ℕ, ◌+◌, ◌<◌, ◌≤◌}
use native.Mathlib.Omega.{arith}
use borrow.Author.Tests.{eq-eqb, ne_eqb, eqb-true, eqb-false, lt-ltb, le-ltb, ltb-true, ltb-false}
use borrow.Table.Steps.{cases}
use lib.Dec.{eqb, ltb}
use lib.ListN.{length, get_or, take, drop}
use lib.Seq.{length-take-le}
use Rattle.names.specs.Names.{space_byte, same}
use Rattle.names.proofs.Parts.{cut_at}
use Rattle.rows.specs.Order.{less}

-- nothing comes before itself
pub less-self : (xs : List ℕ) → less xs xs ≡ false
unfolding less
less-self [] = refl
less-self (x ∷ xs) = rw (eq-eqb x x refl) (less-self xs)

-- the first numbers decide, if they differ
less-first : (x y : ℕ) (xs ys : List ℕ) → x < y → less (x ∷ xs) (y ∷ ys) ≡ true
unfolding less
less-first x y xs ys l = rw (ne_eqb x y (λ e. absurd (omega arith)), lt-ltb x y l)

-- of two that are neither before the other, the one is the other
pub less_equal : (xs ys : List ℕ) → less xs ys ≡ false → less ys xs ≡ false → xs ≡ ys
unfolding less
less_equal [] [] t u = refl
less_equal [] (y ∷ ys) t u = absurd (true≢false t)
less_equal (x ∷ xs) [] t u = absurd (true≢false u)
less_equal (x ∷ xs) (y ∷ ys) t u =
    cases (eqb x y)
    (λ v.
    let e : x ≡ y = eqb-true x y v in
    let w : eqb y x ≡ true = eq-eqb y x (sym e) in
    let f : xs ≡ ys = less_equal xs ys (rw v at t) (rw w at u) in rw (e, f))
    (λ v.
    let w : eqb y x ≡ false = ne_eqb y x (λ e. eqb-false x y v (sym e)) in
    absurd (eqb-false x y v (omega (arith, ltb-false x y (rw v at t), ltb-false y x (rw w at u)))))

-- what comes before one comes before whatever doesn't
pub less-through : (xs ys zs : List ℕ) → less xs ys ≡ true → less zs ys ≡ false → less xs zs ≡ true
unfolding less
less-through [] [] zs t u = absurd (false≢true t)
less-through [] (y ∷ ys) [] t u = absurd (true≢false u)
less-through [] (y ∷ ys) (z ∷ zs) t u = refl
less-through (x ∷ xs) [] zs t u = absurd (false≢true t)
less-through (x ∷ xs) (y ∷ ys) [] t u = absurd (true≢false u)
less-through (x ∷ xs) (y ∷ ys) (z ∷ zs) t u =
    cases (eqb x y)
    (λ v. cases (eqb z y)
    (λ w.
    let e : x ≡ z = eqb-true x y v ∙ sym (eqb-true z y w) in
    rw (eq-eqb x z e) (less-through xs ys zs (rw v at t) (rw w at u)))
    (λ w. less-first x z xs zs (omega (arith, eqb-true x y v, eqb-false z y w, ltb-false z y (rw w at u)))))
    (λ v. cases (eqb z y)
    (λ w. less-first x z xs zs (omega (arith, eqb-true z y w, ltb-true x y (rw v at t))))
    (λ w. less-first x z xs zs (omega (arith, ltb-true x y (rw v at t), ltb-false z y (rw w at u)))))

-- so not coming after goes from one to the next
pub less-chain : (xs ys zs : List ℕ) → less ys xs ≡ false → less zs ys ≡ false → less zs xs ≡ false
less-chain xs ys zs t u =
    cases (less zs xs) (λ v. absurd (true≢false (sym (less-through zs xs ys v t) ∙ u))) (λ v. v)

-- what is no longer than the first part is compared with that alone
pub less-short : (xs zs ys : List ℕ) → length ys ≤ length xs → less (xs ++ zs) ys ≡ less xs ys
unfolding less
less-short [] [] [] l = refl
less-short [] (z ∷ zs) [] l = refl
less-short [] zs (y ∷ ys) l = absurd (omega arith)
less-short (x ∷ xs) zs [] l = refl
less-short (x ∷ xs) zs (y ∷ ys) l =
    cases (eqb x y) (λ t. rw t (less-short xs zs ys (omega arith))) (λ t. rw t)

-- first parts of one length decide, unless they are the same
pub less-append : (xs us zs ws : List ℕ) → length xs ≡ length us
    → less (xs ++ zs) (us ++ ws) ≡ cond (same xs us) (less zs ws) (less xs us)
unfolding less same
less-append [] [] zs ws e = refl
less-append [] (u ∷ us) zs ws e = absurd (omega arith)
less-append (x ∷ xs) [] zs ws e = absurd (omega arith)
less-append (x ∷ xs) (u ∷ us) zs ws e =
    cases (eqb x u) (λ t. rw t (less-append xs us zs ws (omega arith))) (λ t. rw t)

-- of two, one of which is at its end, the shorter one comes first; so it does of the wholes, of which the same has been passed
pub less_ended : (xs ys : List ℕ) (a b : ℕ) → a + length ys ≡ b + length xs → (length xs ≡ 0) ⊎ (length ys ≡ 0) → less xs ys ≡ ltb a b
unfolding less
less_ended [] [] a b e n = sym (le-ltb a b (omega (arith, e)))
less_ended [] (y ∷ ys) a b e n = sym (lt-ltb a b (omega (arith, e)))
less_ended (x ∷ xs) [] a b e n = sym (le-ltb a b (omega (arith, e)))
less_ended (x ∷ xs) (y ∷ ys) a b e (inl n) = absurd (omega (arith, n))
less_ended (x ∷ xs) (y ∷ ys) a b e (inr n) = absurd (omega (arith, n))

-- of two, one at most comes before the other
pub less-once : (xs ys : List ℕ) → less xs ys ≡ true → less ys xs ≡ false
unfolding less
less-once [] [] t = refl
less-once [] (y ∷ ys) t = refl
less-once (x ∷ xs) [] t = absurd (false≢true t)
less-once (x ∷ xs) (y ∷ ys) t =
    cases (eqb x y)
    (λ v. rw (eq-eqb y x (sym (eqb-true x y v))) (less-once xs ys (rw v at t)))
    (λ v.
    let l : x < y = ltb-true x y (rw v at t) in
    rw (ne_eqb y x (λ e. eqb-false x y v (sym e)), le-ltb y x (omega arith)))

-- a name of two parts, compared with another
module _ (front back name : List ℕ) where
  abbrev at : ℕ
  at = length front

  pub joined-long : at < length name → less (front ++ space_byte ∷ back) name
      ≡ cond (same front (take at name))
      (cond (eqb space_byte (get_or name at 0)) (less back (drop (at + 1) name)) (ltb space_byte (get_or name at 0)))
      (less front (take at name))
  unfolding less
  joined-long l =
      ap (less (front ++ space_byte ∷ back)) (cut_at at name l)
      ∙ less-append front (take at name) (space_byte ∷ back) (get_or name at 0 ∷ drop (at + 1) name) (sym (length-take-le at name (omega (arith, l))))
