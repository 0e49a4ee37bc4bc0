-- A code stands for one type field, and back; and what is known of a code by the octets of its field.
use mathlib.Core.Path.{◌≡◌}
use mathlib.Core.Bool.{Bool, true, false≢true}
use mathlib.Core.List.{List, [], ◌∷◌}
use Prim.Native.Nat.{ℕ, ◌+◌, ◌*◌, ◌/◌, ◌%◌, ◌<◌, ◌≤◌}
use native.Mathlib.Omega.{arith}
use lib.Dec.{eqb, ltb}
use lib.ListN.{length}
use borrow.Author.Tests.{eqb-true, eq-eqb, ne_eqb, lt-ltb, le-ltb}
use Rattle.headers.specs.Head.{number_bits, is_in, above_thirty, code_of, type_field}
use Rattle.laws.proofs.Tests.{cond-holds}

-- what an item holds is the code of its type field
pub code-field : (code : ℕ) → code_of (type_field code) ≡ code
code-field code =
    let P : List ℕ → Type 0 = λ type. code_of type ≡ code in
    cond-holds P (eqb (number_bits code) 31)
    (λ _. cond-holds P (ltb (code / 256) 0x80) (λ _. omega arith) (λ _. omega arith))
    (λ _. omega arith)

-- a type field has one to three octets
pub field-size : (code : ℕ) → (1 ≤ length (type_field code)) × (length (type_field code) ≤ 3)
field-size code =
    let P : List ℕ → Type 0 = λ type. (1 ≤ length type) × (length type ≤ 3) in
    cond-holds P (eqb (number_bits code) 31)
    (λ _. cond-holds P (ltb (code / 256) 0x80) (λ _. (omega arith, omega arith)) (λ _. (omega arith, omega arith)))
    (λ _. (omega arith, omega arith))

-- the first octet of a type field with more octets: it is no universal one, and its number bits are 11111
pub above-thirty : (octet : ℕ) → is_in octet above_thirty ≡ true → (64 ≤ octet) × (octet < 256) × (number_bits octet ≡ 31)
above-thirty octet =
    let P : Bool → Type 0 = λ b. b ≡ true → (64 ≤ octet) × (octet < 256) × (number_bits octet ≡ 31) in
    cond-holds P (eqb octet 0x5F) (λ e _. let q = eqb-true octet 0x5F e in (omega arith, omega arith, omega arith))
    (λ _. cond-holds P (eqb octet 0x7F) (λ e _. let q = eqb-true octet 0x7F e in (omega arith, omega arith, omega arith))
    (λ _. cond-holds P (eqb octet 0x9F) (λ e _. let q = eqb-true octet 0x9F e in (omega arith, omega arith, omega arith))
    (λ _. cond-holds P (eqb octet 0xBF) (λ e _. let q = eqb-true octet 0xBF e in (omega arith, omega arith, omega arith))
    (λ _. cond-holds P (eqb octet 0xDF) (λ e _. let q = eqb-true octet 0xDF e in (omega arith, omega arith, omega arith))
    (λ _. cond-holds P (eqb octet 0xFF) (λ e _. let q = eqb-true octet 0xFF e in (omega arith, omega arith, omega arith))
    (λ _ z. absurd (false≢true z)))))))

-- the type field of a code of one octet
pub field-one : (octet : ℕ) → (number_bits octet ≡ 31 → ⊥) → type_field (code_of (octet ∷ [])) ≡ octet ∷ []
field-one octet n =
    let e : code_of (octet ∷ []) ≡ octet = omega arith in
    rw (e, ne_eqb (number_bits octet) 31 n)

-- of two octets
pub field-two : (first second : ℕ) → first < 256 → number_bits first ≡ 31 → second < 0x80 → type_field (code_of (first ∷ second ∷ [])) ≡ first ∷ second ∷ []
field-two first second f n l =
    let code = code_of (first ∷ second ∷ []) in
    let bits : number_bits code ≡ 31 = omega arith in
    let a : code % 256 ≡ first = omega arith in
    let b : code / 256 ≡ second = omega arith in
    rw (eq-eqb (number_bits code) 31 bits, a, b, lt-ltb second 0x80 l)

-- and of three
pub field-three : (first second third : ℕ) → first < 256 → number_bits first ≡ 31 → 0x80 ≤ second → second < 256
    → type_field (code_of (first ∷ second ∷ third ∷ [])) ≡ first ∷ second ∷ third ∷ []
field-three first second third f n l h =
    let code = code_of (first ∷ second ∷ third ∷ []) in
    let bits : number_bits code ≡ 31 = omega arith in
    let a : code % 256 ≡ first = omega arith in
    let rest : code / 256 ≡ second + 256 * third = omega arith in
    let long : 0x80 ≤ second + 256 * third = omega arith in
    let b : (second + 256 * third) % 256 ≡ second = omega arith in
    let c : (second + 256 * third) / 256 ≡ third = omega arith in
    rw (eq-eqb (number_bits code) 31 bits, a, rest, le-ltb (second + 256 * third) 0x80 long, b, c)
