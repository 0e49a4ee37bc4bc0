-- Each sign is shown by scalar values, and in eight octets at most.
use Prim.Native.Nat.{ℕ, ◌*◌, ◌/◌, ◌%◌, ◌≤◌, ◌<◌}
use native.Mathlib.Omega.{arith}
use mathlib.Core.Path.{◌≡◌, refl, sym, ap, ◌∙◌}
use mathlib.Core.Bool.{Bool, true, false, cond}
use mathlib.Core.List.{List, [], ◌∷◌, ◌++◌, append_assoc}
use mathlib.Core.Logic.{◌⊎◌, inl, inr}
use lib.Dec.{eqb}
use lib.ListN.{length, length-append}
use borrow.Author.Tests.{lt-ltb}
use Rattle.characters.specs.declared.Points.{Points}
use Rattle.characters.specs.declared.Points.TheVariants.{One, Two, Number}
use Rattle.characters.specs.declared.Sign.{Sign}
use Rattle.characters.specs.Utf8.{utf8, utf8s}
use Rattle.characters.specs.Sets.{set_of, point_of}
use Rattle.characters.specs.Pairs.{combining, pair_of}
use Rattle.characters.specs.Signs.{hex_digit, text_of, points_of, octets_of, alone, is_line_end, accented, first_sign, sign, signs, utf8_of}
use Rattle.characters.proofs.Utf8.{at-most-three, is-point, is-two, digit-small, number-long}
use Rattle.characters.proofs.Next.{sign-wide}
use Rattle.promises_characters.specs.Promises.{Octets, is_scalar, Scalars, ValidUtf8}
use Rattle.promises_characters.proofs.Small.{single-small, pair_small, combining-small}

-- no more signs than octets
fewer : (s a b : ℕ) (rest : List ℕ) → ((first_sign s a b).wide ≡ 1) ⊎ ((first_sign s a b).wide ≡ 2) → length (signs s rest) ≤ length rest →
    length (signs s (b ∷ rest)) ≤ length (b ∷ rest) → length (signs s (a ∷ b ∷ rest)) ≤ length (a ∷ b ∷ rest)
unfolding signs
fewer s a b rest (inl e) h k = rw e (omega (arith, k))
fewer s a b rest (inr e) h k = rw e (omega (arith, h))

signs-count : (s : ℕ) (xs : List ℕ) → length (signs s xs) ≤ length xs
unfolding signs
signs-count s [] = omega arith
signs-count s (a ∷ []) = omega arith
signs-count s (a ∷ b ∷ rest) = fewer s a b rest (sign-wide s a b) (signs-count s rest) (signs-count s (b ∷ rest))

-- what is shown: scalar values, and eight octets at most
abbrev Fine : Points → Type 0
Fine x = Scalars (points_of x) × (length (octets_of x) ≤ 8)

scalar : (p : ℕ) → p < 0xD800 → is_scalar p ≡ true
scalar p h = rw (lt-ltb p 0xD800 h)

fine-one : (p : ℕ) → p < 0xD800 → Fine (One p)
fine-one p h = ((scalar p h, tt), omega (arith, ap length (is-point (One p) p refl), at-most-three p (omega arith)))

fine-two : (p q : ℕ) → p < 0xD800 → q < 0xD800 → Fine (Two p q)
fine-two p q hp hq = (
  (scalar p hp, (scalar q hq, tt)),
  omega (arith, ap length (is-two (Two p q) p q refl) ∙ length-append (utf8 p) (utf8 q), at-most-three p (omega arith), at-most-three q (omega arith)),
)

fine-number : (o : ℕ) → o < 256 → Fine (Number o)
fine-number o h =
    let high = digit-small (o / 16) (omega arith) in
    let low = digit-small (o % 16) (omega arith) in
    ((refl, (scalar (hex_digit (o / 16)) (omega (arith, high)), (scalar (hex_digit (o % 16)) (omega (arith, low)), (refl, tt)))), omega (arith, number-long o h))

pick-fine : (b : Bool) (x y : Points) → Fine x → Fine y → Fine (cond b x y)
pick-fine true x y fx fy = fx
pick-fine false x y fx fy = fy

pick-sign : (b c : Bool) (x y z : Points) → Fine x → Fine y → Fine z → Fine (cond b (sign x 2) (cond c (sign y 1) (sign z 2))).points
pick-sign true c x y z fx fy fz = fx
pick-sign false true x y z fx fy fz = fy
pick-sign false false x y z fx fy fz = fz

single-fine : (s o : ℕ) → o < 256 → Fine (alone s o)
unfolding alone
single-fine s o ho = pick-fine (eqb (point_of s o) 0) (Number o) (One (point_of s o)) (fine-number o ho) (fine-one (point_of s o) (single-small s o ho))

first_fine : (s a b : ℕ) → a < 256 → b < 256 → Fine (first_sign s a b).points
unfolding first_sign
first_fine s a b ha hb =
    pick-sign (is_line_end a b) (eqb (pair_of s a b) 0) (Two a b) (alone s a) (accented (pair_of s a b) a b)
    (fine-two a b (omega arith) (omega arith))
    (single-fine s a ha)
    (pick-fine (eqb (pair_of s a b) 1) (Two b (combining a)) (One (pair_of s a b))
    (fine-two b (combining a) (omega arith) (combining-small a ha)) (fine-one (pair_of s a b) (pair_small s a b)))

abbrev FineAll : List Sign → Type 0
FineAll [] = Unit {0}
FineAll (p ∷ ps) = Fine p.points × FineAll ps

pick_all : (b : Bool) (ps qs : List Sign) → FineAll ps → FineAll qs → FineAll (cond b ps qs)
pick_all true ps qs f g = f
pick_all false ps qs f g = g

all-fine : (s : ℕ) → (xs : List ℕ) → Octets xs → FineAll (signs s xs)
unfolding signs
all-fine s [] os = tt
all-fine s (a ∷ []) os = (single-fine s a os.0, tt)
all-fine s (a ∷ b ∷ rest) os = (
  first_fine s a b os.0 os.1.0,
  pick_all (eqb (first_sign s a b).wide 2) (signs s rest) (signs s (b ∷ rest)) (all-fine s rest os.1.1) (all-fine s (b ∷ rest) os.1),
)

size-fine : (ps : List Sign) → FineAll ps → length (utf8_of ps) ≤ 8 * length ps
unfolding utf8_of
size-fine [] f = omega arith
size-fine (p ∷ ps) f =
    let rest : length (utf8_of ps) ≤ 8 * length ps = size-fine ps f.1 in
    rw (length-append (octets_of p.points) (utf8_of ps)) (omega (arith, f.0.1, rest))

pub bounded : (s : ℕ) (xs : List ℕ) → Octets xs → length (text_of s xs) ≤ 8 * length xs
bounded s xs os =
    omega (arith, size-fine (signs (set_of s) xs) (all-fine (set_of s) xs os), signs-count (set_of s) xs)

-- the code points of signs
abbrev points_in : List Sign → List ℕ
points_in [] = []
points_in (p ∷ ps) = points_of p.points ++ points_in ps

scalars-append : (xs ys : List ℕ) → Scalars xs → Scalars ys → Scalars (xs ++ ys)
scalars-append [] ys f g = g
scalars-append (x ∷ xs) ys f g = (f.0, scalars-append xs ys f.1 g)

utf8s-append : (xs ys : List ℕ) → utf8s (xs ++ ys) ≡ utf8s xs ++ utf8s ys
unfolding utf8s
utf8s-append [] ys = refl
utf8s-append (x ∷ xs) ys = ap (λ r. utf8 x ++ r) (utf8s-append xs ys) ∙ sym (append_assoc (utf8 x) (utf8s xs) (utf8s ys))

scalars-of : (ps : List Sign) → FineAll ps → Scalars (points_in ps)
scalars-of [] f = tt
scalars-of (p ∷ ps) f = scalars-append (points_of p.points) (points_in ps) f.0.0 (scalars-of ps f.1)

coded-of : (ps : List Sign) → utf8_of ps ≡ utf8s (points_in ps)
unfolding utf8_of utf8s
coded-of [] = refl
coded-of (p ∷ ps) = ap (λ r. octets_of p.points ++ r) (coded-of ps) ∙ sym (utf8s-append (points_of p.points) (points_in ps))

pub valid : (s : ℕ) (xs : List ℕ) → Octets xs → ValidUtf8 (text_of s xs)
valid s xs os = record {
  values = points_in (signs (set_of s) xs);
  scalars = scalars-of (signs (set_of s) xs) (all-fine (set_of s) xs os);
  coded = coded-of (signs (set_of s) xs);
}
