-- Where a text may be cut, and when two octets are one sign.
use Prim.Native.Nat.{ℕ, ◌+◌, ◌-◌, ◌≤◌, ◌<◌}
use native.Mathlib.Omega.{arith}
use mathlib.Core.Path.{◌≡◌, refl, sym, ap, subst, ◌∙◌}
use mathlib.Core.Bool.{Bool, true, false, cond, ◌&&◌, true≢false, false≢true}
use mathlib.Core.Logic.{◌⊎◌, inl, inr}
use mathlib.Core.List.{List, [], ◌∷◌, ◌++◌, append_assoc}
use lib.Dec.{T, eqb, leb, eqb→eq}
use lib.ListN.{get_or}
use borrow.Author.Tests.{le-leb, eqb-true, eqb-false}
use Rattle.characters.specs.declared.Points.{Points}
use Rattle.characters.specs.declared.Points.TheVariants.{One, Two, Number}
use Rattle.characters.specs.declared.Sign.{Sign}
use Rattle.characters.specs.Sets.{supplement, right_point, left_point, point_of, latin1}
use Rattle.characters.specs.Pairs.{pair_of, composed}
use Rattle.characters.specs.Signs.{octets_of, is_number, alone, is_line_end, accented, sign, first_sign, signs, utf8_of, numbers_in}
use Rattle.characters.proofs.Next.{sign-wide}
use Rattle.characters.proofs.Table.{at}
use Rattle.characters.proofs.Rules.{accent-of}

-- one octet of two that are no sign together is alone
alone_of : (x y : Bool) (u w : Points) (p : Points) →
    (cond x (sign u 2) (cond y (sign p 1) (sign w 2))).wide ≡ 1 → cond x (sign u 2) (cond y (sign p 1) (sign w 2)) ≡ sign p 1
alone_of true y u w p e = absurd (omega arith)
alone_of false true u w p e = refl
alone_of false false u w p e = absurd (omega arith)

pub first_alone : (s a b : ℕ) → (first_sign s a b).wide ≡ 1 → first_sign s a b ≡ sign (alone s a) 1
unfolding first_sign
first_alone s a b e = alone_of (is_line_end a b) (eqb (pair_of s a b) 0) _ _ (alone s a) e

-- the signs of two parts
module _ (s a b : ℕ) (ys : List ℕ) (e : (first_sign s a b).wide ≡ 1) where
  cut-one : signs s (a ∷ b ∷ ys) ≡ signs s (a ∷ []) ++ signs s (b ∷ ys)
  unfolding signs
  cut-one = rw (first_alone s a b e)

  abbrev Cut : List ℕ → Type 0
  Cut xs = signs s (xs ++ (a ∷ b ∷ ys)) ≡ signs s (xs ++ (a ∷ [])) ++ signs s (b ∷ ys)

  one_more : (x : ℕ) → ((first_sign s x a).wide ≡ 1) ⊎ ((first_sign s x a).wide ≡ 2) → Cut (x ∷ [])
  unfolding signs first_sign
  one_more x (inl f) = rw f (ap (λ r. first_sign s x a ∷ r) cut-one)
  one_more x (inr f) = rw f

  two-more : (x y : ℕ) (rest : List ℕ) → ((first_sign s x y).wide ≡ 1) ⊎ ((first_sign s x y).wide ≡ 2) → Cut (y ∷ rest) → Cut rest → Cut (x ∷ y ∷ rest)
  unfolding signs first_sign
  two-more x y rest (inl f) g h = rw f (ap (λ r. first_sign s x y ∷ r) g)
  two-more x y rest (inr f) g h = rw f (ap (λ r. first_sign s x y ∷ r) h)

  pub cut-signs : (xs : List ℕ) → Cut xs
  cut-signs [] = cut-one
  cut-signs (x ∷ []) = one_more x (sign-wide s x a)
  cut-signs (x ∷ y ∷ rest) = two-more x y rest (sign-wide s x y) (cut-signs (y ∷ rest)) (cut-signs rest)

pub utf8_append : (xs ys : List Sign) → utf8_of (xs ++ ys) ≡ utf8_of xs ++ utf8_of ys
unfolding utf8_of
utf8_append [] ys = refl
utf8_append (x ∷ xs) ys = ap (λ r. octets_of x.points ++ r) (utf8_append xs ys) ∙ sym (append_assoc (octets_of x.points) (utf8_of xs) (utf8_of ys))

pub numbers-append : (xs ys : List Sign) → numbers_in (xs ++ ys) ≡ numbers_in xs + numbers_in ys
unfolding numbers_in
numbers-append [] ys = omega arith
numbers-append (x ∷ xs) ys = omega (arith, numbers-append xs ys)

-- an octet with no character is shown by its number
pub no-point : (s a : ℕ) → point_of s a ≡ 0 → alone s a ≡ Number a
unfolding alone
no-point s a e = rw e

-- accents, and a carriage return, have none
none-accent : ℕ → ℕ → Bool
none-accent k x = cond (leb 32 k && leb k 47) (eqb x 0) true

accent-none : (k : ℕ) → 32 ≤ k → k ≤ 47 → get_or supplement k 0 ≡ 0
unfolding supplement none-accent
accent-none k l h =
    let within : k < 96 = omega arith in
    let both : (leb 32 k && leb k 47) ≡ true = rw (le-leb 32 k l, le-leb k 47 h) in
    eqb→eq (get_or supplement k 0) 0 (subst (λ (b : Bool). T (cond b (eqb (get_or supplement k 0) 0) true)) both (at none-accent supplement tt k within))

accent-point : (s a : ℕ) → 0xC0 ≤ a → a ≤ 0xCF → eqb s latin1 ≡ false → point_of s a ≡ 0
unfolding point_of right_point
accent-point s a l h e =
    let high : 0xA0 ≤ a = omega arith in
    rw (le-leb 0xA0 a high, e) (accent-none (a - 0xA0) (omega arith) (omega arith))

pub and-false : (x : Bool) (p q : ℕ) → cond (x && false) p q ≡ q
and-false true p q = refl
and-false false p q = refl

return-point : (s a : ℕ) → a ≡ 0x0D → point_of s a ≡ 0
unfolding point_of left_point
return-point s a e = rw e (and-false (eqb s 1) 0xA4 0)

both : (p q : Bool) → (p && q) ≡ true → p ≡ true
both true q t = refl
both false q t = absurd (false≢true t)

has-accents : (s a b : ℕ) → eqb (pair_of s a b) 0 ≡ false → eqb s latin1 ≡ false
has-accents s a b e = go (eqb s latin1) e
  where
    go : (x : Bool) → eqb (cond x 0 (composed a b)) 0 ≡ false → x ≡ false
    go true f = absurd (true≢false f)
    go false f = refl

not-a-number : (x : Bool) (p q r : ℕ) → is_number (cond x (Two p q) (One r)) ≡ 0
not-a-number true p q r = refl
not-a-number false p q r = refl

module _ (s a b : ℕ) where
  -- the first of two octets that are one sign has no character alone, and the two are not shown by a number
  abbrev Pair : Sign → Type 0
  Pair x = x.wide ≡ 2 → (point_of s a ≡ 0) × (is_number x.points ≡ 0)

  pair-means : Pair (first_sign s a b)
  unfolding first_sign
  pair-means = go (is_line_end a b) (eqb (pair_of s a b) 0) refl refl
    where
      go : (x y : Bool) → is_line_end a b ≡ x → eqb (pair_of s a b) 0 ≡ y →
          Pair (cond x (sign (Two a b) 2) (cond y (sign (alone s a) 1) (sign (accented (pair_of s a b) a b) 2)))
      go true y e f w = (return-point s a (eqb-true a 0x0D (both (eqb a 0x0D) (eqb b 0x0A) e)), refl)
      go false true e f w = absurd (omega arith)
      go false false e f w =
          let some : (pair_of s a b ≡ 0 → ⊥) = eqb-false (pair_of s a b) 0 f in
          let lies = accent-of s a b some in
          (accent-point s a lies.0 lies.1 (has-accents s a b f), not-a-number (eqb (pair_of s a b) 1) b _ _)

  pub fewer-together : (first_sign s a b).wide ≡ 2 → numbers_in (signs s (a ∷ b ∷ [])) < numbers_in (signs s (a ∷ [])) + numbers_in (signs s (b ∷ []))
  unfolding signs numbers_in
  fewer-together w =
      let means = pair-means w in
      let one : is_number (alone s a) ≡ 1 = ap is_number (no-point s a means.0) in
      rw w (omega (arith, means.1, one))

  pub as-many-apart : (first_sign s a b).wide ≡ 1 → numbers_in (signs s (a ∷ b ∷ [])) ≡ numbers_in (signs s (a ∷ [])) + numbers_in (signs s (b ∷ []))
  as-many-apart w = ap numbers_in (cut-signs s a b [] w []) ∙ numbers-append (signs s (a ∷ [])) (signs s (b ∷ []))
