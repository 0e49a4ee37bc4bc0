-- A portion number has no space, so it is all after the last space of a joined name, and such a name tells both its parts.
use mathlib.Core.Path.{◌≡◌, refl, sym, ap, ◌∙◌}
use mathlib.Core.Bool.{true, ◌&&◌, false≢true, and-eq-true_iff}
use mathlib.Core.List.{List, [], ◌∷◌, ◌++◌}
use Prim.Native.Nat.{ℕ}
use lib.Dec.{leb}
use lib.ListN.{length}
use Rattle.names.specs.Names.{space_byte, longest_portion, is_digit, all_digits, is_portion}

portion-digits : (ys : List ℕ) → is_portion ys ≡ true → all_digits ys ≡ true
unfolding is_portion
portion-digits ys e = ((and-eq-true_iff (leb 1 (length ys) && leb (length ys) longest_portion) (all_digits ys)).0 e).1

-- bytes with a space among them are not digits
spaced : (xs ys : List ℕ) → all_digits (xs ++ space_byte ∷ ys) ≡ true → ⊥
unfolding all_digits is_digit
spaced [] ys e = false≢true e
spaced (x ∷ xs) ys e = spaced xs ys ((and-eq-true_iff (is_digit x) (all_digits (xs ++ space_byte ∷ ys))).0 e).1

parts : (xs us ys vs : List ℕ) → all_digits ys ≡ true → all_digits vs ≡ true → xs ++ space_byte ∷ ys ≡ us ++ space_byte ∷ vs
    → (xs ≡ us) × (ys ≡ vs)
parts [] [] ys vs p q e = (refl, cc)
parts [] (u ∷ us) ys vs p q e = let t : ys ≡ us ++ space_byte ∷ vs = cc in absurd (spaced us vs (ap all_digits (sym t) ∙ p))
parts (x ∷ xs) [] ys vs p q e = let t : vs ≡ xs ++ space_byte ∷ ys = cc in absurd (spaced xs ys (ap all_digits (sym t) ∙ q))
parts (x ∷ xs) (u ∷ us) ys vs p q e =
    let h : x ≡ u = cc in
    let t : xs ++ space_byte ∷ ys ≡ us ++ space_byte ∷ vs = cc in
    let r : (xs ≡ us) × (ys ≡ vs) = parts xs us ys vs p q t in
    let f : xs ≡ us = r.0 in
    (rw (h, f), r.1)

pub joined-parts : (xs us ys vs : List ℕ) → is_portion ys ≡ true → is_portion vs ≡ true → xs ++ space_byte ∷ ys ≡ us ++ space_byte ∷ vs
    → (xs ≡ us) × (ys ≡ vs)
joined-parts xs us ys vs p q e = parts xs us ys vs (portion-digits ys p) (portion-digits vs q) e
