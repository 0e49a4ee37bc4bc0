-- Lists are the same exactly when they are equal; compared to the end, in two parts, or by their lengths alone.
use mathlib.Core.Path.{◌≡◌, refl, sym, ap, ◌∙◌}
use mathlib.Core.Bool.{true, false, ◌&&◌, false≢true}
use mathlib.Core.List.{List, [], ◌∷◌, ◌++◌}
use Prim.Native.Nat.{ℕ, ◌+◌}
use native.Mathlib.Omega.{arith}
use borrow.Author.Tests.{eq-eqb, eqb-true}
use borrow.Table.Steps.{cases}
use lib.Dec.{eqb}
use lib.ListN.{length, get_or, take, drop, length-append}
use lib.Seq.{length-take-le}
use Rattle.names.specs.Names.{space_byte, same}
use Rattle.names.proofs.Parts.{cut_at}

pub same-eq : (xs ys : List ℕ) → same xs ys ≡ true → xs ≡ ys
unfolding same
same-eq [] [] t = refl
same-eq [] (y ∷ ys) t = absurd (false≢true t)
same-eq (x ∷ xs) [] t = absurd (false≢true t)
same-eq (x ∷ xs) (y ∷ ys) t =
    cases (eqb x y)
    (λ u. let e : x ≡ y = eqb-true x y u in let f : xs ≡ ys = same-eq xs ys (rw u at t) in rw (e, f))
    (λ u. absurd (false≢true (rw u at t)))

pub same_refl : (xs : List ℕ) → same xs xs ≡ true
unfolding same
same_refl [] = refl
same_refl (x ∷ xs) = rw (eq-eqb x x refl) (same_refl xs)

-- "0 and 00 differ": so do any two of unequal lengths
pub same-lengths : (xs ys : List ℕ) → (length xs ≡ length ys → ⊥) → same xs ys ≡ false
same-lengths xs ys n = cases (same xs ys) (λ t. absurd (n (ap length (same-eq xs ys t)))) (λ t. t)

-- those of which nothing is left are
pub same_ended : (xs ys : List ℕ) → length xs ≡ length ys → length xs ≡ 0 → same xs ys ≡ true
unfolding same
same_ended [] [] e n = refl
same_ended [] (y ∷ ys) e n = absurd (omega arith)
same_ended (x ∷ xs) ys e n = absurd (omega arith)

pub same-append : (xs us : List ℕ) (y v : ℕ) (ys vs : List ℕ) → length xs ≡ length us
    → same (xs ++ y ∷ ys) (us ++ v ∷ vs) ≡ (same xs us && (eqb y v && same ys vs))
unfolding same
same-append [] [] y v ys vs e = refl
same-append [] (u ∷ us) y v ys vs e = absurd (omega arith)
same-append (x ∷ xs) [] y v ys vs e = absurd (omega arith)
same-append (x ∷ xs) (u ∷ us) y v ys vs e =
    cases (eqb x u) (λ t. rw t (same-append xs us y v ys vs (omega arith))) (λ t. rw t)

-- a name of two parts, compared with another by its parts
module _ (front back name : List ℕ) where
  abbrev at : ℕ
  at = length front

  pub joined-other : (length name ≡ at + 1 + length back → ⊥) → same (front ++ space_byte ∷ back) name ≡ false
  joined-other n = same-lengths (front ++ space_byte ∷ back) name (simp length-append (λ e. n (omega arith)))

  pub joined_same : length name ≡ at + 1 + length back → same (front ++ space_byte ∷ back) name
      ≡ (same front (take at name) && (eqb space_byte (get_or name at 0) && same back (drop (at + 1) name)))
  joined_same e =
      ap (same (front ++ space_byte ∷ back)) (cut_at at name (omega (arith, e)))
      ∙ same-append front (take at name) space_byte (get_or name at 0) back (drop (at + 1) name) (sym (length-take-le at name (omega (arith, e))))
