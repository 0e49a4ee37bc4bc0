-- A type field and the code that an item holds of it: one tells the other. And a type field of several octets is no tabled octet.
use mathlib.Core.Path.{◌≡◌, ap, ◌∙◌, subst}
use mathlib.Core.Bool.{Bool}
use mathlib.Core.List.{List, [], ◌∷◌}
use Prim.Native.Nat.{ℕ, ◌+◌, ◌*◌, ◌/◌, ◌%◌, ◌<◌, ◌≤◌}
use native.Mathlib.Omega.{arith}
use lib.Dec.{eqb}
use lib.ListN.{length}
use borrow.Author.Tests.{eq-eqb, ne_eqb, lt-ltb, le-ltb}
use Rattle.headers.specs.Head.{number_bits, constructed, code_of, type_field, type_number}
use Rattle.headers.proofs.Fields.{above-thirty, field-one, field-two, field-three}
use Rattle.tree.specs.Tree.{TypeField, one_octet, two_octets, three_octets}

-- the type field of its code is the field itself
pub field_of : {type : List ℕ} {form : Bool} → TypeField type form → type_field (code_of type) ≡ type
field_of (one_octet {octet} low tabled q) = field-one octet low
field_of (two_octets {first} {second} k q a b) = let (_, f, n) = above-thirty first k in field-two first second f n b
field_of (three_octets {first} {second} {third} k q a b c) =
    let (_, f, n) = above-thirty first k in
    let l : 0x80 ≤ second = omega arith in
    field-three first second third f n l b

-- and the code has its form
pub form_of : {type : List ℕ} {form : Bool} → TypeField type form → constructed (code_of type) ≡ form
form_of (one_octet {octet} {form} low tabled q) =
    let e : octet ≡ octet + 256 * 0 = omega arith in subst (λ (x : ℕ). constructed x ≡ form) e q
form_of (two_octets {first} {second} k q a b) =
    let e : code_of (first ∷ second ∷ []) / 32 % 2 ≡ first / 32 % 2 = omega arith in ap (λ (n : ℕ). eqb n 1) e ∙ q
form_of (three_octets {first} {second} {third} k q a b c) =
    let e : code_of (first ∷ second ∷ third ∷ []) / 32 % 2 ≡ first / 32 % 2 = omega arith in ap (λ (n : ℕ). eqb n 1) e ∙ q

-- it is not empty
pub field-some : {type : List ℕ} {form : Bool} → TypeField type form → 0 < length type
field-some (one_octet low tabled q) = omega arith
field-some (two_octets k q a b) = omega arith
field-some (three_octets k q a b c) = omega arith

-- A type field of several octets is no octet, and so none of those that any table has: an item that has it is none of the sought ones.
pub no_octet : {type : List ℕ} {form : Bool} → TypeField type form → 1 < length type → (octet : ℕ) → octet < 256 → code_of type ≡ octet → ⊥
no_octet (one_octet low tabled q) l octet h e = omega arith
no_octet (two_octets k q a b) l octet h e = omega arith
no_octet (three_octets k q a b c) l octet h e = omega arith

-- "the number, up to 16,383"
pub number-most : {type : List ℕ} {form : Bool} → TypeField type form → type_number (code_of type) ≤ 16383
number-most (one_octet {octet} low tabled q) =
    let code = code_of (octet ∷ []) in
    let n : number_bits code ≡ 31 → ⊥ = λ e. low (omega arith) in
    rw (ne_eqb (number_bits code) 31 n) (omega arith)
number-most (two_octets {first} {second} k q a b) =
    let code = code_of (first ∷ second ∷ []) in
    let (_, f, n) = above-thirty first k in
    let bits : number_bits code ≡ 31 = omega arith in
    let rest : code / 256 ≡ second = omega arith in
    rw (eq-eqb (number_bits code) 31 bits, rest, lt-ltb second 0x80 b) (omega arith)
number-most (three_octets {first} {second} {third} k q a b c) =
    let code = code_of (first ∷ second ∷ third ∷ []) in
    let (_, f, n) = above-thirty first k in
    let bits : number_bits code ≡ 31 = omega arith in
    let rest : code / 256 ≡ second + 256 * third = omega arith in
    let long : 0x80 ≤ second + 256 * third = omega arith in
    rw (eq-eqb (number_bits code) 31 bits, rest, le-ltb (second + 256 * third) 0x80 long) (omega arith)
