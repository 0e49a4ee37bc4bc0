-- The map of places: signs one after another stand one after another in the octets, and so does their UTF-8 in the text.
use Prim.Native.Nat.{ℕ, ◌+◌, ◌-◌, ◌≤◌, ◌<◌}
use native.Mathlib.Nat.{zero-add}
use native.Mathlib.Omega.{arith}
use mathlib.Core.Path.{◌≡◌, refl, sym, ap, ◌∙◌}
use mathlib.Core.Bool.{Bool, true, false}
use mathlib.Core.Logic.{◌⊎◌, inl, inr}
use mathlib.Core.List.{List, [], ◌∷◌, ◌++◌}
use lib.Dec.{ltb}
use lib.ListN.{length, drop}
use lib.Seq.{drop-drop, drop-append_seam}
use borrow.Author.Tests.{ltb-true, ltb-false}
use Rattle.characters.specs.declared.Sign.{Sign}
use Rattle.characters.specs.Signs.{first_sign, sign_at, signs, utf8_of}
use Rattle.characters.proofs.Next.{sign-wide, next}
use Rattle.promises_characters.specs.Promises.{widths, Placed, Holds}
use Rattle.promises_characters.proofs.Cutting.{utf8_append}

-- every octet is in one sign
step : (s a b : ℕ) (rest : List ℕ) → ((first_sign s a b).wide ≡ 1) ⊎ ((first_sign s a b).wide ≡ 2) → widths (signs s rest) ≡ length rest
    → widths (signs s (b ∷ rest)) ≡ length (b ∷ rest) → widths (signs s (a ∷ b ∷ rest)) ≡ length (a ∷ b ∷ rest)
unfolding widths signs
step s a b rest (inl e) h k = rw e (ap (λ n. 1 + n) k ∙ omega arith)
step s a b rest (inr e) h k = rw e (ap (λ n. 2 + n) h ∙ omega arith)

pub every_octet : (s : ℕ) (xs : List ℕ) → widths (signs s xs) ≡ length xs
unfolding widths signs
every_octet s [] = refl
every_octet s (a ∷ []) = refl
every_octet s (a ∷ b ∷ rest) = step s a b rest (sign-wide s a b) (every_octet s rest) (every_octet s (b ∷ rest))

widths-append : (xs ys : List Sign) → widths (xs ++ ys) ≡ widths xs + widths ys
unfolding widths
widths-append [] ys = omega arith
widths-append (x ∷ xs) ys = omega (arith, widths-append xs ys)

-- the first sign of octets, and those past it
head_is : {x y : Sign} {xs ys : List Sign} → x ∷ xs ≡ y ∷ ys → (x ≡ y) × (xs ≡ ys)
head_is e = (cc, cc)

first_of : (s : ℕ) (xs : List ℕ) (x : Sign) (after : List Sign) → signs s xs ≡ x ∷ after → signs s (drop x.wide xs) ≡ after
unfolding signs
first_of s [] x after e = absurd (no-signs e)
  where
    no-signs : ◌≡◌ {A = List Sign} [] (x ∷ after) → ⊥
    no-signs f =
        let z : ◌≡◌ {A = ℕ} 0 1 = cc in
        absurd (omega arith)
first_of s (a ∷ rest) x after e = past
  where
    past : signs s (drop x.wide (a ∷ rest)) ≡ after
    past =
        let one : signs s (a ∷ rest) ≡ sign_at s (a ∷ rest) 0 ∷ signs s (drop (0 + (sign_at s (a ∷ rest) 0).wide) (a ∷ rest)) =
        next s (a ∷ rest) 0 (omega arith) (sign_at s (a ∷ rest) 0) refl in
        let two = head_is (sym one ∙ e) in
        let from : 0 + (sign_at s (a ∷ rest) 0).wide ≡ x.wide = zero-add _ ∙ ap (λ (y : Sign). y.wide) two.0 in
        ap (λ n. signs s (drop n (a ∷ rest))) (sym from) ∙ two.1

there : (s : ℕ) (xs : List ℕ) (before : List Sign) (x : Sign) (after : List Sign) → signs s xs ≡ before ++ (x ∷ after) →
    signs s (drop (widths before) xs) ≡ x ∷ after
unfolding widths
there s xs [] x after e = e
there s xs (b ∷ before) x after e =
    ap (signs s) (sym (drop-drop (widths before) b.wide xs))
    ∙ there s (drop b.wide xs) before x after (first_of s xs b (before ++ (x ∷ after)) e)

pub placed : (s : ℕ) (xs : List ℕ) (before : List Sign) (x : Sign) (after : List Sign) → signs s xs ≡ before ++ (x ∷ after) → Placed s xs before x after
unfolding widths utf8_of
placed s xs before x after e = record {
  there = there s xs before x after e;
  inside = omega (arith, every_octet s xs, ap widths e, widths-append before (x ∷ after));
  shown = ap (λ r. drop (length (utf8_of before)) (utf8_of r)) e
      ∙ (ap (drop (length (utf8_of before))) (utf8_append before (x ∷ after))
      ∙ drop-append_seam (utf8_of before) (utf8_of (x ∷ after)));
}

-- the sign that has an octet
pub record Split (xs : List Sign) (at : ℕ) : Type 0 where
  pub before : List Sign
  pub sign : Sign
  pub after : List Sign
  pub all : xs ≡ before ++ (sign ∷ after)
  pub from : widths before ≤ at
  pub past : at < widths before + sign.wide

more : (x : Sign) (xs : List Sign) (at : ℕ) → x.wide ≤ at → Split xs (at - x.wide) → Split (x ∷ xs) at
unfolding widths
more x xs at h p = record {
  before = x ∷ p.before;
  sign = p.sign;
  after = p.after;
  all = ap (λ r. x ∷ r) p.all;
  from = omega (arith, p.from);
  past = omega (arith, p.past);
}

split : (xs : List Sign) (at : ℕ) → at < widths xs → Split xs at
unfolding widths
split [] at h = absurd (omega arith)
split (x ∷ xs) at h = go (ltb at x.wide) refl (λ l. split xs (at - x.wide) (omega arith))
  where
    go : (b : Bool) → ltb at x.wide ≡ b → (x.wide ≤ at → Split xs (at - x.wide)) → Split (x ∷ xs) at
    go true e rest = record { before = []; sign = x; after = xs; all = refl; from = omega arith; past = omega (arith, ltb-true at x.wide e) }
    go false e rest = more x xs at (ltb-false at x.wide e) (rest (ltb-false at x.wide e))

pub holds : (s : ℕ) (xs : List ℕ) (at : ℕ) → at < length xs → Holds s xs at
holds s xs at h =
    let p = split (signs s xs) at (omega (arith, every_octet s xs)) in
    record { before = p.before; sign = p.sign; after = p.after; all = p.all; from = p.from; past = p.past }
