-- How long a normal form is beside a stream with the same tree: item by item it has no more octets, but for an indefinite item whose value
-- has more than 65,535.
use mathlib.Core.Path.{◌≡◌, refl}
use mathlib.Core.Bool.{Bool, true, false, cond, false≢true}
use mathlib.Core.List.{List, [], ◌∷◌, ◌++◌}
use Prim.Native.Nat.{ℕ, ◌≤◌}
use native.Mathlib.Omega.{arith}
use lib.Dec.{ltb}
use lib.ListN.{length, length-append}
use borrow.Author.Tests.{ltb-true, lt-ltb}
use Rattle.octets.specs.Walk.{deepest}
use Rattle.laws.proofs.Tests.{cond-holds}
use Rattle.tree.specs.Tree.{Tree, Codes, nothing, primitive, definite, indefinite}
use Rattle.normal.specs.Normal.{further_octets, Octets, normal_of}
use Rattle.normal.specs.Forms.{Definite}
use Rattle.normal.proofs.Lengths.{length-length}
use Rattle.normal.proofs.Own.{octets-first, octets-second}
use Rattle.normal.proofs.Fewest.{enough, fewest}

-- a number under a test takes no more octets than a greater one
by_both : (p q : Bool) (x y z : ℕ) → (q ≡ true → p ≡ true) → x ≤ z → y ≤ z → cond p x y ≤ cond q x z
by_both true true x y z i h k = omega arith
by_both true false x y z i h k = h
by_both false true x y z i h k = absurd (false≢true (i refl))
by_both false false x y z i h k = k

at_least : (q : Bool) (x z m : ℕ) → m ≤ x → m ≤ z → m ≤ cond q x z
at_least q x z m h k = cond-holds (λ (n : ℕ). m ≤ n) q (λ _. h) (λ _. k)

grows : (a b : ℕ) → a ≤ b → further_octets a ≤ further_octets b
grows a b h =
    let i : (m : ℕ) → ltb b m ≡ true → ltb a m ≡ true = λ m e. let l = ltb-true b m e in lt-ltb a m (omega arith) in
    by_both (ltb a 0x80) (ltb b 0x80) 0 _ _ (i 0x80) (omega arith)
    (by_both (ltb a 0x100) (ltb b 0x100) 1 _ _ (i 0x100)
    (at_least (ltb b 0x10000) 2 _ 1 (omega arith) (at_least (ltb b 0x1000000) 3 4 1 (omega arith) (omega arith)))
    (by_both (ltb a 0x10000) (ltb b 0x10000) 2 _ _ (i 0x10000) (at_least (ltb b 0x1000000) 3 4 2 (omega arith) (omega arith))
    (by_both (ltb a 0x1000000) (ltb b 0x1000000) 3 4 4 (i 0x1000000) (omega arith) (omega arith))))

-- no indefinite item has a value of more than 65,535 octets
abbrev Modest : {room : ℕ} {t : Tree} {xs : List ℕ} → Codes room t xs → Type 0
Modest nothing = Unit {0}
Modest (primitive g m l c) = Modest c
Modest (definite g l i c) = Modest i × Modest c
Modest (indefinite {value = value} g i c) = (length value ≤ 65535) × Modest i × Modest c

shorter : {room : ℕ} {t : Tree} {xs : List ℕ} (c : Codes room t xs) → Modest c → Octets xs → length (normal_of t) ≤ length xs
unfolding normal_of
shorter nothing d o = omega arith
shorter (primitive {type = type} {len} {value} {rest} {after} g m l c) d o =
    let p = octets-second type (len ++ (value ++ rest)) o in
    let f = fewest l (octets-first len (value ++ rest) p) in
    let h = shorter c d (octets-second value rest (octets-second len (value ++ rest) p)) in
    simp length-append (omega arith)
shorter (definite {type = type} {len} {value} {rest} {inside} {after} g l i c) (d, e) o =
    let p = octets-second type (len ++ (value ++ rest)) o in
    let q = octets-second len (value ++ rest) p in
    let f = fewest l (octets-first len (value ++ rest) p) in
    let k = shorter i d (octets-first value rest q) in
    let h = shorter c e (octets-second value rest q) in
    let m = grows (length (normal_of inside)) (length value) k in
    simp length-append (omega (arith, length-length (length (normal_of inside)), length-length (length value)))
shorter (indefinite {type = type} {value} {rest} {inside} {after} g i c) (w, d, e) o =
    let p = octets-second (0x80 ∷ []) (value ++ (0 ∷ 0 ∷ rest)) (octets-second type (0x80 ∷ (value ++ (0 ∷ 0 ∷ rest))) o) in
    let k = shorter i d (octets-first value (0 ∷ 0 ∷ rest) p) in
    let h = shorter c e (octets-second (0 ∷ 0 ∷ []) rest (octets-second value (0 ∷ 0 ∷ rest) p)) in
    let m = enough 2 (length (normal_of inside)) (omega arith) (omega arith) in
    simp length-append (omega (arith, length-length (length (normal_of inside))))

definite-modest : {room : ℕ} {t : Tree} {xs : List ℕ} (c : Codes room t xs) → Definite c → Modest c
definite-modest nothing d = tt
definite-modest (primitive g m l c) d = definite-modest c d
definite-modest (definite g l i c) (d, e) = (definite-modest i d, definite-modest c e)
definite-modest (indefinite g i c) d = absurd d

short-modest : {room : ℕ} {t : Tree} {xs : List ℕ} (c : Codes room t xs) → length xs ≤ 65535 → Modest c
short-modest nothing l = tt
short-modest (primitive g m k c) l = short-modest c (let h = simp length-append at l in omega arith)
short-modest (definite g k i c) l =
    let h = simp length-append at l in
    (short-modest i (omega arith), short-modest c (omega arith))
short-modest (indefinite g i c) l =
    let h = simp length-append at l in
    (omega arith, short-modest i (omega arith), short-modest c (omega arith))

-- No stream with the same tree, all of whose constructed lengths are definite, is shorter than the normal form.
pub none-shorter : (s : List ℕ) (t : Tree) (c : Codes deepest t s) → Definite c → Octets s → length (normal_of t) ≤ length s
none-shorter s t c d o = shorter c (definite-modest c d) o

-- Within 65,535 octets the normal form is never longer than the stream.
pub never_longer : (s : List ℕ) (t : Tree) → Codes deepest t s → length s ≤ 65535 → Octets s → length (normal_of t) ≤ length s
never_longer s t c l o = shorter c (short-modest c l) o
