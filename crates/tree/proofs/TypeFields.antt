-- One class, form and number has one type field, and it is the shortest: the octets are told by the three, case by case.
use mathlib.Core.Path.{◌≡◌, ap, sym, ◌∙◌, subst}
use mathlib.Core.Bool.{Bool, true, false}
use mathlib.Core.List.{List, [], ◌∷◌}
use Prim.Native.Nat.{ℕ, ◌+◌, ◌*◌, ◌/◌, ◌%◌, ◌<◌, ◌≤◌}
use native.Mathlib.Omega.{arith}
use lib.ListN.{length}
use borrow.Author.Tests.{eqb-true, eqb-false, eq-eqb, ne_eqb, lt-ltb, le-ltb}
use Rattle.headers.specs.Head.{number_bits, constructed, code_of, type_number}
use Rattle.headers.proofs.Fields.{above-thirty}
use Rattle.tree.specs.Tree.{TypeField, one_octet, two_octets, three_octets}
use Rattle.tree.specs.TypeFields.{class_of, sevens_from, Spells, in_one, in_more, TypeFields}

-- the form of an octet is its bit 6
same-form : (x y : ℕ) (form : Bool) → constructed x ≡ form → constructed y ≡ form → x / 32 % 2 ≡ y / 32 % 2
same-form x y true p q =
    let a = eqb-true (x / 32 % 2) 1 p in
    let b = eqb-true (y / 32 % 2) 1 q in
    omega arith
same-form x y false p q =
    let a = eqb-false (x / 32 % 2) 1 p in
    let b = eqb-false (y / 32 % 2) 1 q in
    let c : x / 32 % 2 ≡ 0 = omega arith in
    let d : y / 32 % 2 ≡ 0 = omega arith in
    omega arith

-- an octet is told by its class, its form and its number bits
parts : (x : ℕ) → x ≡ x / 64 * 64 + x / 32 % 2 * 32 + x % 32
parts x =
    let a : x / 64 ≡ x / 32 / 2 = omega arith in
    let b : x ≡ x / 32 * 32 + x % 32 = omega arith in
    let c : x / 32 ≡ x / 32 / 2 * 2 + x / 32 % 2 = halves (x / 32) in
    omega arith
  where
    halves : (k : ℕ) → k ≡ k / 2 * 2 + k % 2
    halves k = omega arith

same-octet : (x y : ℕ) (form : Bool) → constructed x ≡ form → constructed y ≡ form → x / 64 ≡ y / 64 → number_bits x ≡ number_bits y → x ≡ y
same-octet x y form p q c n =
    let f = same-form x y form p q in
    let e : x / 64 * 64 + x / 32 % 2 * 32 + x % 32 ≡ y / 64 * 64 + y / 32 % 2 * 32 + y % 32 = rw (c, f, n) in
    parts x ∙ e ∙ sym (parts y)

-- the number, of one octet, of two and of three
one-is : (octet : ℕ) → (number_bits octet ≡ 31 → ⊥) → type_number (code_of (octet ∷ [])) ≡ number_bits octet
one-is octet low =
    let code = code_of (octet ∷ []) in
    let e : number_bits code ≡ number_bits octet = omega arith in
    let n : number_bits code ≡ 31 → ⊥ = λ k. low (sym e ∙ k) in
    rw (ne_eqb (number_bits code) 31 n) e

two_is : (first second : ℕ) → first < 256 → number_bits first ≡ 31 → second < 0x80 → type_number (code_of (first ∷ second ∷ [])) ≡ second
two_is first second f n b =
    let code = code_of (first ∷ second ∷ []) in
    let bits : number_bits code ≡ 31 = omega arith in
    let rest : code / 256 ≡ second = omega arith in
    rw (eq-eqb (number_bits code) 31 bits, rest, lt-ltb second 0x80 b)

three-is : (first second third : ℕ) → first < 256 → number_bits first ≡ 31 → 0x80 < second → second < 0x100
    → type_number (code_of (first ∷ second ∷ third ∷ [])) ≡ second % 128 * 128 + third
three-is first second third f n a b =
    let code = code_of (first ∷ second ∷ third ∷ []) in
    let bits : number_bits code ≡ 31 = omega arith in
    let rest : code / 256 ≡ second + 256 * third = omega arith in
    let more : 0x80 ≤ second + 256 * third = omega arith in
    let low : (second + 256 * third) % 128 ≡ second % 128 = omega arith in
    let high : (second + 256 * third) / 256 ≡ third = omega arith in
    rw (eq-eqb (number_bits code) 31 bits, rest, le-ltb (second + 256 * third) 0x80 more, low, high)

-- how the number of a type field stands to 31 and 128, by its octets
bits-low : (octet : ℕ) → (number_bits octet ≡ 31 → ⊥) → number_bits octet < 31
bits-low octet n = let l : number_bits octet ≤ 31 = omega arith in ne-below (number_bits octet) l n
  where
    ne-below : (k : ℕ) → k ≤ 31 → (k ≡ 31 → ⊥) → k < 31
    ne-below k l n = omega arith

same : (type other : List ℕ) (form : Bool) → TypeField type form → TypeField other form → class_of type ≡ class_of other
    → type_number (code_of type) ≡ type_number (code_of other) → type ≡ other
same _ _ form (one_octet {octet = x} l t p) (one_octet {octet = y} m u q) c e =
    let n : number_bits x ≡ number_bits y = sym (one-is x l) ∙ e ∙ one-is y m in
    ap (λ (o : ℕ). o ∷ []) (same-octet x y form p q c n)
same _ _ form (one_octet {octet = x} l t p) (two_octets {first} {second} k q a b) c e =
    let (_, f, n) = above-thirty first k in
    let v : number_bits x ≡ second = sym (one-is x l) ∙ e ∙ two_is first second f n b in
    absurd (omega (arith, bits-low x l))
same _ _ form (one_octet {octet = x} l t p) (three_octets {first} {second} {third} k q a b d) c e =
    let (_, f, n) = above-thirty first k in
    let v : number_bits x ≡ second % 128 * 128 + third = sym (one-is x l) ∙ e ∙ three-is first second third f n a b in
    absurd (omega (arith, bits-low x l))
same _ _ form (two_octets {first} {second} k q a b) (one_octet {octet = x} l t p) c e =
    let (_, f, n) = above-thirty first k in
    let v : number_bits x ≡ second = sym (one-is x l) ∙ sym e ∙ two_is first second f n b in
    absurd (omega (arith, bits-low x l))
same _ _ form (two_octets {first} {second} k q a b) (two_octets {first = other} {second = next} m r u v) c e =
    let (_, f, n) = above-thirty first k in
    let (_, g, o) = above-thirty other m in
    let firsts : first ≡ other = same-octet first other form q r c (n ∙ sym o) in
    let seconds : second ≡ next = sym (two_is first second f n b) ∙ e ∙ two_is other next g o v in
    rw (firsts, seconds)
same _ _ form (two_octets {first} {second} k q a b) (three_octets {first = other} {second = next} {third} m r u v w) c e =
    let (_, f, n) = above-thirty first k in
    let (_, g, o) = above-thirty other m in
    let z : second ≡ next % 128 * 128 + third = sym (two_is first second f n b) ∙ e ∙ three-is other next third g o u v in
    absurd (omega arith)
same _ _ form (three_octets {first} {second} {third} k q a b d) (one_octet {octet = x} l t p) c e =
    let (_, f, n) = above-thirty first k in
    let v : number_bits x ≡ second % 128 * 128 + third = sym (one-is x l) ∙ sym e ∙ three-is first second third f n a b in
    absurd (omega (arith, bits-low x l))
same _ _ form (three_octets {first} {second} {third} k q a b d) (two_octets {first = other} {second = next} m r u v) c e =
    let (_, f, n) = above-thirty first k in
    let (_, g, o) = above-thirty other m in
    let z : next ≡ second % 128 * 128 + third = sym (two_is other next g o v) ∙ sym e ∙ three-is first second third f n a b in
    absurd (omega arith)
same _ _ form (three_octets {first} {second} {third} k q a b d) (three_octets {first = other} {second = next} {third = last} m r u v w) c e =
    let (_, f, n) = above-thirty first k in
    let (_, g, o) = above-thirty other m in
    let firsts : first ≡ other = same-octet first other form q r c (n ∙ sym o) in
    let z : second % 128 * 128 + third ≡ next % 128 * 128 + last = sym (three-is first second third f n a b) ∙ e ∙ three-is other next last g o u v in
    let seconds : second ≡ next = omega arith in
    let thirds : third ≡ last = omega arith in
    rw (firsts, seconds, thirds)

spells : (type : List ℕ) (form : Bool) → TypeField type form → Spells type (type_number (code_of type))
spells _ form (one_octet {octet} l t p) = subst (Spells (octet ∷ [])) (sym (one-is octet l)) (in_one l)
spells _ form (two_octets {first} {second} k q a b) =
    let (_, f, n) = above-thirty first k in
    let e : sevens_from 0 (second ∷ []) ≡ type_number (code_of (first ∷ second ∷ [])) = (let z : 0 * 128 + second % 128 ≡ second = omega arith in z)
    ∙ sym (two_is first second f n b) in
    subst (Spells (first ∷ second ∷ [])) e (in_more n)
spells _ form (three_octets {first} {second} {third} k q a b d) =
    let (_, f, n) = above-thirty first k in
    let z : (0 * 128 + second % 128) * 128 + third % 128 ≡ second % 128 * 128 + third = omega arith in
    subst (Spells (first ∷ second ∷ third ∷ [])) (z ∙ sym (three-is first second third f n a b)) (in_more n)

-- a number over 30 takes two octets, and one over 127 three
over-30 : {other : List ℕ} {n : ℕ} → Spells other n → 31 ≤ n → 2 ≤ length other
over-30 (in_one {octet} low) l = absurd (omega (arith, bits-low octet low))
over-30 (in_more n) l = omega arith

over-127 : {other : List ℕ} {n : ℕ} → Spells other n → 128 ≤ n → 3 ≤ length other
over-127 (in_one {octet} low) l = absurd (omega (arith, bits-low octet low))
over-127 (in_more {first = first} {second = second} {octets = octets} n) l = go octets l
  where
    go : (octets : List ℕ) → 128 ≤ sevens_from 0 (second ∷ octets) → 3 ≤ length (first ∷ second ∷ octets)
    go [] l = absurd (omega arith)
    go (x ∷ xs) l = omega arith

some_octet : {other : List ℕ} {n : ℕ} → Spells other n → 1 ≤ length other
some_octet (in_one low) = omega arith
some_octet (in_more n) = omega arith

fewest : (type : List ℕ) (form : Bool) → TypeField type form → (other : List ℕ) → Spells other (type_number (code_of type)) → length type ≤ length other
fewest _ form (one_octet {octet} l t p) other w = some_octet w
fewest _ form (two_octets {first} {second} k q a b) other w =
    let (_, f, n) = above-thirty first k in
    over-30 (subst (Spells other) (two_is first second f n b) w) a
fewest _ form (three_octets {first} {second} {third} k q a b d) other w =
    let (_, f, n) = above-thirty first k in
    let large : 128 ≤ second % 128 * 128 + third = omega arith in
    over-127 (subst (Spells other) (three-is first second third f n a b) w) large

pub type-fields : TypeFields
type-fields = record { same = same; spells = spells; fewest = fewest }
