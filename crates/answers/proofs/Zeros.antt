-- Numbers that are all 0: an index of them has no row, and so have both indexes of a letter.
use mathlib.Core.Path.{◌≡◌, sym, ap, ◌∙◌, subst}
use mathlib.Core.List.{List}
use Prim.Native.Nat.{ℕ, ◌+◌, ◌-◌, ◌<◌, ◌≤◌}
use native.Mathlib.Omega.{arith}
use borrow.Author.Tests.{ltb-true, ltb-false}
use borrow.Table.Steps.{cases}
use lib.Dec.{ltb}
use lib.ListN.{length, get_or, take, drop, replicate, length-replicate, get_or-replicate, length-take, length-drop, get_or-eq_default}
use lib.Seq.{length-take-le, get_or-take, get_or-drop}
use Rattle.names.specs.Hash.{hashes}
use Rattle.rows.specs.Index.{links_begin, links_of, half_of, identifier_index, logical_index, HasLinks, Unused}
use Rattle.rows.proofs.Parts.{heads-size, links-size}

abbrev Zeros : List ℕ → Type 0
Zeros xs = (i : ℕ) → get_or xs i 0 ≡ 0

zeros-all : (n : ℕ) → Zeros (replicate n 0)
zeros-all n i =
    cases (ltb i n) (λ t. get_or-replicate n i 0 0 (ltb-true i n t))
    (λ t. get_or-eq_default (replicate n 0) 0 (omega (arith, ltb-false i n t, length-replicate {A = ℕ} n 0)))

zeros-take : (n : ℕ) (xs : List ℕ) → Zeros xs → Zeros (take n xs)
zeros-take n xs z i =
    cases (ltb i n) (λ t. get_or-take n xs i 0 (ltb-true i n t) ∙ z i)
    (λ t. get_or-eq_default (take n xs) 0 (omega (arith, ltb-false i n t, length-take n xs)))

zeros-drop : (n : ℕ) (xs : List ℕ) → Zeros xs → Zeros (drop n xs)
zeros-drop n xs z i = get_or-drop n xs i 0 ∙ z (n + i)

-- an index of zeros has no row in it
unused : (index : List ℕ) → Zeros index → 0 < links_begin (length index) → links_begin (length index) ≤ hashes → Unused index
unused index z some few = record {
  some_heads = omega (arith, heads-size index);
  few_heads = omega (arith, heads-size index);
  empty_heads = λ b l. zeros-take (links_begin (length index)) index z b;
  unmarked = zeros-drop (links_begin (length index)) index z (length (links_of index) - 1);
}

-- as many zeros as an array has
pub record AllUnused (size : ℕ) : Type 0 where
  pub unused : Unused (replicate size 0)
  pub links : length (links_of (replicate size 0)) ≡ size - links_begin size

pub zeros-unused : (size : ℕ) → 0 < links_begin size → links_begin size ≤ hashes → AllUnused size
zeros-unused size some few =
    let long = length-replicate {A = ℕ} size 0 in record {
      unused = unused (replicate size 0) (zeros-all size) (subst (λ (l : ℕ). 0 < links_begin l) (sym long) some)
          (subst (λ (l : ℕ). links_begin l ≤ hashes) (sym long) few);
      links = links-size (replicate size 0) ∙ ap (λ (l : ℕ). l - links_begin l) long;
    }

-- twice as many: both indexes of a letter
pub record BothUnused (size half : ℕ) : Type 0 where
  pub identifiers : Unused (identifier_index (replicate size 0))
  pub logicals : Unused (logical_index (replicate size 0))
  pub links : (n : ℕ) → n < half - links_begin half → HasLinks (replicate size 0) n

pub zeros-both : (size half : ℕ) → size ≡ half + half → 0 < links_begin half → links_begin half ≤ hashes → BothUnused size half
zeros-both size half twice some few =
    let long = length-replicate {A = ℕ} size 0 in
    let first : length (identifier_index (replicate size 0)) ≡ half =
    length-take-le (half_of (length (replicate {A = ℕ} size 0))) (replicate size 0) (omega arith) ∙ omega (arith, long) in
    let second : length (logical_index (replicate size 0)) ≡ half =
    length-drop (half_of (length (replicate {A = ℕ} size 0))) (replicate size 0) ∙ omega (arith, long) in record {
      identifiers = unused (identifier_index (replicate size 0)) (zeros-take (half_of (length (replicate {A = ℕ} size 0))) (replicate size 0) (zeros-all size))
          (subst (λ (l : ℕ). 0 < links_begin l) (sym first) some) (subst (λ (l : ℕ). links_begin l ≤ hashes) (sym first) few);
      logicals = unused (logical_index (replicate size 0)) (zeros-drop (half_of (length (replicate {A = ℕ} size 0))) (replicate size 0) (zeros-all size))
          (subst (λ (l : ℕ). 0 < links_begin l) (sym second) some) (subst (λ (l : ℕ). links_begin l ≤ hashes) (sym second) few);
      links = λ n l. record {
        identifiers = subst (λ (k : ℕ). n < k) (sym (links-size (identifier_index (replicate size 0)) ∙ ap (λ (k : ℕ). k - links_begin k) first)) l;
        logicals = subst (λ (k : ℕ). n < k) (sym (links-size (logical_index (replicate size 0)) ∙ ap (λ (k : ℕ). k - links_begin k) second)) l;
      };
    }
