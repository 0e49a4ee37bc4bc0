-- The signs from a place on are the sign at it and the signs past it.
use Prim.Native.Nat.{ℕ, suc, ◌+◌, ◌≤◌, ◌<◌}
use native.Mathlib.Numerals.{add-one}
use native.Mathlib.Omega.{arith}
use mathlib.Core.Path.{◌≡◌, refl, sym, ap, subst, ◌∙◌}
use mathlib.Core.Bool.{Bool, true, false, cond}
use mathlib.Core.List.{List, [], ◌∷◌, ◌++◌}
use mathlib.Core.Logic.{◌⊎◌, inl, inr}
use lib.Dec.{ltb, eqb}
use lib.ListN.{length, drop, get_or, drop_of_length-le, length-append}
use lib.Seq.{drop-cons, drop-drop}
use borrow.Author.Tests.{ltb-true, ltb-false}
use Rattle.characters.specs.declared.Sign.{Sign}
use Rattle.characters.specs.declared.Points.{Points}
use Rattle.characters.specs.Pairs.{pair_of}
use Rattle.characters.specs.Signs.{octets_of, is_number, is_line_end, first_sign, sign, alone, sign_at, signs, utf8_of, numbers_in}

-- a sign has one octet or two
abbrev OneOrTwo : Sign → Type 0
OneOrTwo x = (x.wide ≡ 1) ⊎ (x.wide ≡ 2)

wide_of : (x y : Bool) (u v w : Points) → OneOrTwo (cond x (sign u 2) (cond y (sign v 1) (sign w 2)))
wide_of true y u v w = inr refl
wide_of false true u v w = inl refl
wide_of false false u v w = inr refl

pub sign-wide : (s a b : ℕ) → OneOrTwo (first_sign s a b)
unfolding first_sign
sign-wide s a b = wide_of (is_line_end a b) (eqb (pair_of s a b) 0) _ _ _

-- the signs of two octets and more
signs-more : (s a b : ℕ) (rest : List ℕ) → OneOrTwo (first_sign s a b) →
    signs s (a ∷ b ∷ rest) ≡ first_sign s a b ∷ signs s (drop (first_sign s a b).wide (a ∷ b ∷ rest))
unfolding signs
signs-more s a b rest (inl e) = rw e
signs-more s a b rest (inr e) = rw e

signs-one : (s a : ℕ) → signs s (a ∷ []) ≡ sign (alone s a) 1 ∷ signs s []
unfolding signs
signs-one s a = refl

module _ (s : ℕ) (xs : List ℕ) (at : ℕ) (h : at < length xs) where
  abbrev here : Sign
  here = sign_at s xs at

  -- and how far it reaches
  pub reaches : (1 ≤ here.wide) × (at + here.wide ≤ length xs)
  unfolding sign_at
  reaches = go (ltb (at + 1) (length xs)) refl
    where
      go : (b : Bool) → ltb (at + 1) (length xs) ≡ b → (1 ≤ (sign_at s xs at).wide) × (at + (sign_at s xs at).wide ≤ length xs)
      go true e =
          let more : at + 1 < length xs = ltb-true (at + 1) (length xs) e in
          rw e (two (sign-wide s (get_or xs at 0) (get_or xs (at + 1) 0)) more)
        where
          two : OneOrTwo (first_sign s (get_or xs at 0) (get_or xs (at + 1) 0)) → at + 1 < length xs →
              (1 ≤ (first_sign s (get_or xs at 0) (get_or xs (at + 1) 0)).wide) × (at + (first_sign s (get_or xs at 0) (get_or xs (at + 1) 0)).wide ≤ length xs)
          two (inl f) m = (omega arith, omega arith)
          two (inr f) m = (omega arith, omega arith)
      go false e = rw e (omega arith, omega arith)

  signs-next : signs s (drop at xs) ≡ here ∷ signs s (drop (at + here.wide) xs)
  unfolding sign_at
  signs-next = go (ltb (at + 1) (length xs)) refl
    where
      go : (b : Bool) → ltb (at + 1) (length xs) ≡ b → signs s (drop at xs) ≡ sign_at s xs at ∷ signs s (drop (at + (sign_at s xs at).wide) xs)
      go true e =
          let x : ℕ = get_or xs at 0 in
          let y : ℕ = get_or xs (at + 1) 0 in
          let more : at + 1 < length xs = ltb-true (at + 1) (length xs) e in
          let one : drop at xs ≡ x ∷ drop (at + 1) xs = rw (add-one at) (drop-cons xs at 0 h) in
          let two : drop (at + 1) xs ≡ y ∷ drop (suc (at + 1)) xs = drop-cons xs (at + 1) 0 more in
          let both : drop at xs ≡ x ∷ y ∷ drop (suc (at + 1)) xs = one ∙ ap (λ r. x ∷ r) two in
          rw e (
          ap (signs s) both
          ∙ (signs-more s x y (drop (suc (at + 1)) xs) (sign-wide s x y)
          ∙ (ap (λ r. first_sign s x y ∷ signs s (drop (first_sign s x y).wide r)) (sym both)
          ∙ ap (λ r. first_sign s x y ∷ signs s r) (drop-drop (first_sign s x y).wide at xs)))
          )
      go false e =
          let x : ℕ = get_or xs at 0 in
          let last : length xs ≤ at + 1 = ltb-false (at + 1) (length xs) e in
          let one : drop at xs ≡ x ∷ drop (at + 1) xs = rw (add-one at) (drop-cons xs at 0 h) in
          let none : drop (at + 1) xs ≡ [] = drop_of_length-le xs last in
          rw e (ap (signs s) (one ∙ ap (λ r. x ∷ r) none) ∙ (signs-one s x ∙ ap (λ r. sign (alone s x) 1 ∷ signs s r) (sym none)))

  module _ (p : Sign) (e : p ≡ sign_at s xs at) where
    pub reach : (1 ≤ p.wide) × (at + p.wide ≤ length xs)
    reach = subst (λ (q : Sign). (1 ≤ q.wide) × (at + q.wide ≤ length xs)) (sym e) reaches

    pub next : signs s (drop at xs) ≡ p ∷ signs s (drop (at + p.wide) xs)
    next = signs-next ∙ ap (λ (q : Sign). q ∷ signs s (drop (at + q.wide) xs)) (sym e)

    pub text-next : utf8_of (signs s (drop at xs)) ≡ octets_of p.points ++ utf8_of (signs s (drop (at + p.wide) xs))
    unfolding utf8_of
    text-next = ap utf8_of next

    pub size-next : length (utf8_of (signs s (drop at xs))) ≡ length (octets_of p.points) + length (utf8_of (signs s (drop (at + p.wide) xs)))
    size-next = ap length text-next ∙ length-append (octets_of p.points) (utf8_of (signs s (drop (at + p.wide) xs)))

    pub numbers-next : numbers_in (signs s (drop at xs)) ≡ is_number p.points + numbers_in (signs s (drop (at + p.wide) xs))
    unfolding numbers_in
    numbers-next = ap numbers_in next

-- at the end there is no sign
module _ (s : ℕ) (xs : List ℕ) (at : ℕ) (h : length xs ≤ at) where
  pub signs-end : signs s (drop at xs) ≡ []
  unfolding signs
  signs-end = ap (signs s) (drop_of_length-le xs h)

  pub text-end : utf8_of (signs s (drop at xs)) ≡ []
  unfolding utf8_of
  text-end = ap utf8_of signs-end

  pub numbers-end : numbers_in (signs s (drop at xs)) ≡ 0
  unfolding numbers_in
  numbers-end = ap numbers_in signs-end
