-- The two indexes of a letter in one slice: where they lie, and either lent and given back.
use mathlib.Core.Path.{◌≡◌, sym, ap, ◌∙◌}
use mathlib.Core.List.{List, ◌++◌, append-nil}
use Prim.Native.Nat.{ℕ, ◌-◌, ◌≤◌}
use native.Mathlib.Omega.{arith}
use lib.ListN.{length, take, drop, length-append, length-drop, drop_of_length-le}
use lib.Seq.{length-take-le, take_all, take_at, drop_at}
use Rattle.rows.specs.Index.{half_of, identifier_index, logical_index, HasLinks}
use Rattle.rows.proofs.Parts.{links-alike}

module _ (index : List ℕ) {at : ℕ} (is : at ≡ half_of (length index)) where
  pub first-size : at ≡ length (take at index)
  first-size = sym (length-take-le at index (omega arith))

  -- the halves as they are lent
  pub first-half : take at index ≡ identifier_index index
  first-half = ap (λ (k : ℕ). take k index) is

  pub second-half : take (length index - at) (drop at index) ≡ logical_index index
  second-half = take_all (length index - at) (drop at index) (omega (arith, length-drop at index)) ∙ ap (λ (k : ℕ). drop k index) is

  -- the first half given back as another
  module _ (other : List ℕ) (size : length other ≡ length (take at index)) where
    abbrev first_back : List ℕ
    first_back = other ++ drop at index

    pub first-back-size : length first_back ≡ length index
    first-back-size = length-append other (drop at index) ∙ omega (arith, size, first-size, length-drop at index)

    pub first-back-first : identifier_index first_back ≡ other
    first-back-first =
        ap (λ (l : ℕ). take (half_of l) first_back) first-back-size ∙ take_at other (drop at index) (half_of (length index)) (size ∙ sym first-size ∙ is)

    pub first-back-second : logical_index first_back ≡ logical_index index
    first-back-second =
        ap (λ (l : ℕ). drop (half_of l) first_back) first-back-size ∙ drop_at other (drop at index) (half_of (length index)) (size ∙ sym first-size ∙ is)
        ∙ ap (λ (k : ℕ). drop k index) is

  -- the second half given back as another
  module _ (other : List ℕ) (size : length other ≡ length (take (length index - at) (drop at index))) where
    abbrev second_back : List ℕ
    second_back = take at index ++ (other ++ drop (length index - at) (drop at index))

    second-long : length other ≡ length index - at
    second-long = size ∙ length-take-le (length index - at) (drop at index) (omega (arith, length-drop at index))

    pub second-back-size : length second_back ≡ length index
    second-back-size =
        length-append (take at index) (other ++ drop (length index - at) (drop at index))
        ∙ omega (
          arith,
          first-size,
          second-long,
          length-append other (drop (length index - at) (drop at index)),
          length-drop (length index - at) (drop at index),
          length-drop at index,
        )

    pub second-back-first : identifier_index second_back ≡ identifier_index index
    second-back-first =
        ap (λ (l : ℕ). take (half_of l) second_back) second-back-size
        ∙ take_at (take at index) (other ++ drop (length index - at) (drop at index)) (half_of (length index)) (sym first-size ∙ is) ∙ first-half

    pub second-back-second : logical_index second_back ≡ other
    second-back-second =
        ap (λ (l : ℕ). drop (half_of l) second_back) second-back-size
        ∙ drop_at (take at index) (other ++ drop (length index - at) (drop at index)) (half_of (length index)) (sym first-size ∙ is)
        ∙ ap (λ (rest : List ℕ). other ++ rest) (drop_of_length-le (drop at index) {i = length index - at} (omega (arith, length-drop at index)))
        ∙ append-nil other

-- slices as long as each other have as much room
pub links-enough : (index index' : List ℕ) {n : ℕ} → length index' ≡ length index → HasLinks index n → HasLinks index' n
links-enough index index' e room =
    let first : length (identifier_index index') ≡ length (identifier_index index) =
    length-take-le (half_of (length index')) index' (omega arith) ∙ ap half_of e ∙ sym (length-take-le (half_of (length index)) index (omega arith)) in
    let second : length (logical_index index') ≡ length (logical_index index) =
    length-drop (half_of (length index')) index' ∙ ap (λ (l : ℕ). l - half_of l) e ∙ sym (length-drop (half_of (length index)) index) in record {
      identifiers = omega (arith, room.identifiers, links-alike (identifier_index index) (identifier_index index') first);
      logicals = omega (arith, room.logicals, links-alike (logical_index index) (logical_index index') second);
    }

pub fewer-links : {index : List ℕ} {n m : ℕ} → m ≤ n → HasLinks index n → HasLinks index m
fewer-links l room = record { identifiers = omega (arith, room.identifiers); logicals = omega (arith, room.logicals) }
