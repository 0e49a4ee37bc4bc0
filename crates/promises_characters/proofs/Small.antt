-- Every code point of the tables is below the surrogates: by a test that is computed over each table.
use Prim.Native.Nat.{ℕ, ◌+◌, ◌-◌, ◌*◌, ◌/◌, ◌%◌, ◌≤◌, ◌<◌}
use native.Mathlib.Omega.{arith}
use mathlib.Core.Path.{◌≡◌, refl, sym, ap, ◌∙◌}
use mathlib.Core.Bool.{Bool, true, false, cond}
use lib.Dec.{ltb, leb, eqb, eqb→eq}
use lib.ListN.{get_or, replicate}
use borrow.Author.Tests.{ltb-true, ltb-false, leb-true, eqb-true, eqb-false, ne_eqb}
use Rattle.characters.specs.Sets.{supplement, is_own, is_currency, left_point, right_point, point_of, latin1}
use Rattle.characters.specs.Pairs.{composed, combining, pair_of, column}
use Rattle.characters.proofs.Table.{at}
use Rattle.characters.proofs.Rules.{no-accent-below, no-accent-above, no-letter-below, no-letter-above}

small : ℕ → ℕ → Bool
small k x = eqb (x / 0xD800) 0

supplement-small : (k : ℕ) → k < 96 → get_or supplement k 0 < 0xD800
unfolding supplement small
supplement-small k h =
    let z : get_or supplement k 0 / 0xD800 ≡ 0 = eqb→eq (get_or supplement k 0 / 0xD800) 0 (at small supplement tt k h) in
    omega (arith, z)

pub single-small : (s o : ℕ) → o < 256 → point_of s o < 0xD800
unfolding point_of right_point left_point
single-small s o h = go (leb 0xA0 o) refl
  where
    right : (b : Bool) → 0xA0 ≤ o → cond b o (get_or supplement (o - 0xA0) 0) < 0xD800
    right true l = omega arith
    right false l = supplement-small (o - 0xA0) (omega arith)

    left : (b c : Bool) → cond b 0xA4 (cond c o 0) < 0xD800
    left true c = omega arith
    left false true = omega arith
    left false false = omega arith

    by_right : 0xA0 ≤ o → right_point s o < 0xD800
    by_right l = right (eqb s latin1) l

    by_left : left_point s o < 0xD800
    by_left = left (is_currency s o) (is_own o)

    go : (b : Bool) → leb 0xA0 o ≡ b → cond b (right_point s o) (left_point s o) < 0xD800
    go true e = by_right (leb-true 0xA0 o e)
    go false e = by_left

-- the pairs, by their places in a table of them
abbrev entry : ℕ → ℕ
entry k = composed (0xC0 + k / 64) (column (k % 64))

small-pair : ℕ → ℕ → Bool
small-pair k x = eqb (entry k / 0xD800) 0

entry-small : (k : ℕ) → k < 1024 → entry k < 0xD800
unfolding small-pair composed
entry-small k h =
    let z : entry k / 0xD800 ≡ 0 = eqb→eq (entry k / 0xD800) 0 (at small-pair (replicate 1024 0) tt k h) in
    omega (arith, z)

by-entry : (k a b : ℕ) → k < 1024 → 0xC0 + k / 64 ≡ a → column (k % 64) ≡ b → composed a b < 0xD800
by-entry k a b h ea eb =
    let e : entry k ≡ composed a b = ap (λ x. composed x (column (k % 64))) ea ∙ ap (λ x. composed a x) eb in
    omega (arith, entry-small k h, e)

zero-small : (c : ℕ) → c ≡ 0 → c < 0xD800
zero-small c e = omega arith

composed-small : (a b : ℕ) → composed a b < 0xD800
composed-small a b = go (ltb a 0xC1) (ltb 0xCF a) (ltb 0x7F b) (ltb 0x40 b) (eqb b 0x20) refl refl refl refl refl
  where
    go : (v w x y z : Bool) → ltb a 0xC1 ≡ v → ltb 0xCF a ≡ w → ltb 0x7F b ≡ x → ltb 0x40 b ≡ y → eqb b 0x20 ≡ z → composed a b < 0xD800
    go true w x y z ev ew ex ey ez = zero-small (composed a b) (no-accent-below a b (ltb-true a 0xC1 ev))
    go false true x y z ev ew ex ey ez = zero-small (composed a b) (no-accent-above a b (ltb-true 0xCF a ew))
    go false false true y z ev ew ex ey ez = zero-small (composed a b) (no-letter-above a b (ltb-true 0x7F b ex))
    go false false false true z ev ew ex ey ez =
        let l : 0xC1 ≤ a = ltb-false a 0xC1 ev in
        let h : a ≤ 0xCF = ltb-false 0xCF a ew in
        let lb : 0x40 < b = ltb-true 0x40 b ey in
        let hb : b ≤ 0x7F = ltb-false 0x7F b ex in
        let kj : ((a - 0xC0) * 64 + (b - 0x40)) % 64 ≡ b - 0x40 = omega arith in
        let some : (b - 0x40 ≡ 0 → ⊥) = λ z. omega arith in
        let kb : column (((a - 0xC0) * 64 + (b - 0x40)) % 64) ≡ b = ap column kj ∙ rw (ne_eqb (b - 0x40) 0 some) (omega arith) in
        by-entry ((a - 0xC0) * 64 + (b - 0x40)) a b (omega arith) (omega arith) kb
    go false false false false true ev ew ex ey ez =
        let l : 0xC1 ≤ a = ltb-false a 0xC1 ev in
        let h : a ≤ 0xCF = ltb-false 0xCF a ew in
        let e : 0x20 ≡ b = sym (eqb-true b 0x20 ez) in
        let kz : (a - 0xC0) * 64 % 64 ≡ 0 = omega arith in
        by-entry ((a - 0xC0) * 64) a b (omega arith) (omega arith) (ap column kz ∙ e)
    go false false false false false ev ew ex ey ez =
        zero-small (composed a b) (no-letter-below a b (eqb-false b 0x20 ez) (ltb-false 0x40 b ey))

pub pair_small : (s a b : ℕ) → pair_of s a b < 0xD800
pair_small s a b = go (eqb s latin1)
  where
    go : (x : Bool) → cond x 0 (composed a b) < 0xD800
    go true = omega arith
    go false = composed-small a b

small-accent : ℕ → ℕ → Bool
small-accent k x = eqb (combining k / 0xD800) 0

pub combining-small : (a : ℕ) → a < 256 → combining a < 0xD800
unfolding small-accent combining
combining-small a h =
    let z : combining a / 0xD800 ≡ 0 = eqb→eq (combining a / 0xD800) 0 (at small-accent (replicate 256 0) tt a h) in
    omega (arith, z)
