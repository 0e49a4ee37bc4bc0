-- A type field as it is written: its octets, each from the code.
use mathlib.Core.Path.{◌≡◌, ap, ◌∙◌, subst}
use mathlib.Core.List.{List, [], ◌∷◌}
use Prim.Native.Nat.{ℕ, ◌/◌, ◌%◌, ◌<◌, ◌≤◌}
use native.Mathlib.Omega.{arith}
use lib.Dec.{ltb}
use lib.ListN.{length}
use borrow.Author.Tests.{eq-eqb, ne_eqb, lt-ltb, le-ltb}
use Rattle.headers.specs.Head.{number_bits, type_field, octet_at}
use Rattle.laws.proofs.Tests.{cond-holds}
use Rattle.normal.specs.Normal.{Octets}

module _ (code : ℕ) (o : Octets (type_field code)) where
  pub one-octet : (number_bits code ≡ 31 → ⊥) → type_field code ≡ code % 256 ∷ []
  one-octet n =
      let e : type_field code ≡ code ∷ [] = rw (ne_eqb (number_bits code) 31 n) in
      let small : code < 256 = subst (λ (l : List ℕ). octet_at l 0 < 256) e (o 0) in
      let same : code ≡ code % 256 = omega arith in
      e ∙ ap (λ (x : ℕ). x ∷ []) same

  pub two-octets : number_bits code ≡ 31 → code / 256 < 0x80 → type_field code ≡ code % 256 ∷ code / 256 % 256 ∷ []
  two-octets n l =
      let e : type_field code ≡ code % 256 ∷ code / 256 ∷ [] = rw (eq-eqb (number_bits code) 31 n, lt-ltb (code / 256) 0x80 l) in
      let same : code / 256 ≡ code / 256 % 256 = omega arith in
      e ∙ ap (λ (x : ℕ). code % 256 ∷ x ∷ []) same

  pub three-octets : number_bits code ≡ 31 → 0x80 ≤ code / 256 → type_field code ≡ code % 256 ∷ code / 256 % 256 ∷ code / 256 / 256 % 256 ∷ []
  three-octets n l =
      let e : type_field code ≡ code % 256 ∷ code / 256 % 256 ∷ code / 256 / 256 ∷ [] = rw (eq-eqb (number_bits code) 31 n, le-ltb (code / 256) 0x80 l) in
      let small : code / 256 / 256 < 256 = subst (λ (l : List ℕ). octet_at l 2 < 256) e (o 2) in
      let same : code / 256 / 256 ≡ code / 256 / 256 % 256 = omega arith in
      e ∙ ap (λ (x : ℕ). code % 256 ∷ code / 256 % 256 ∷ x ∷ []) same

pub two-at-least : (code : ℕ) → number_bits code ≡ 31 → 2 ≤ length (type_field code)
two-at-least code n =
    rw (eq-eqb (number_bits code) 31 n) (cond-holds (λ (l : List ℕ). 2 ≤ length l) (ltb (code / 256) 0x80) (λ _. omega arith) (λ _. omega arith))
