-- A reading of portions keeps what was told of those read and what is still to be told of those left; at the end nothing is left.
use mathlib.Core.Path.{◌≡◌, refl, ap, sym, ◌∙◌}
use mathlib.Core.Bool.{Bool, true, false, not, ◌&&◌, ◌||◌, or-false}
use mathlib.Core.List.{List, [], ◌∷◌, ◌++◌, map, append_assoc, append-nil}
use Prim.Native.Nat.{ℕ, ◌+◌, ◌*◌, ◌-◌, ◌<◌, ◌≤◌}
use native.Mathlib.Omega.{arith}
use lib.ListN.{length, take}
use lib.Seq.{slice, length-take-le}
use Rattle.octets.specs.Walk.{no_items}
use Rattle.names.specs.Names.{is_portion}
use Rattle.runs.specs.declared.Run.{Run}
use Rattle.runs.specs.Runs.{items_of, tree_in, Fine, Meeting}
use Rattle.portions.specs.Portions.{most_portions, all_portions, values, all}
use Rattle.portions.specs.Bounds.{bounded, Inside}
use Rattle.portions.specs.Lists.{ListsPortions}
use Rattle.portions.proofs.Pairs.{bounded-append, inside-append}
use Rattle.portions.proofs.Meetings.{portions-met, others-met, values-met, portions-end, values-end}

-- of the run r so many portions were read, and `left` is the rest of it
pub record Reads (s : List ℕ) (r left : Run) (count : ℕ) (misspelt : Bool) (numbers : List ℕ) : Type 0 where
  pub fine : Fine s left
  pub short : count + (left.limit - left.at) ≤ r.limit - r.at
  pub portions : all_portions (tree_in s r) ≡ all_portions (tree_in s left)
  pub counts : length (values (tree_in s r)) ≡ count + length (values (tree_in s left))
  pub spells : not (all (map is_portion (values (tree_in s r)))) ≡ (misspelt || not (all (map is_portion (values (tree_in s left)))))
  pub inside : count ≤ most_portions → Inside s (take (2 * count) numbers)
  pub stored : count ≤ most_portions → values (tree_in s r) ≡ bounded s (take (2 * count) numbers) ++ values (tree_in s left)

pub starts : (s : List ℕ) (r : Run) (numbers : List ℕ) → Fine s r → Reads s r r 0 false numbers
unfolding bounded Inside
starts s r numbers f =
    record { fine = f; short = omega arith; portions = refl; counts = omega arith; spells = refl; inside = λ _. tt; stored = λ _. refl }

-- one misspelt before, or this one, or one after it
either-spells : (before this after : Bool) → (before || not (this && after)) ≡ (before || not this || not after)
either-spells true this after = refl
either-spells false true after = refl
either-spells false false after = refl

module _ {s : List ℕ} {r left : Run} {count : ℕ} {misspelt : Bool} {numbers : List ℕ} (so_far : Reads s r left count misspelt numbers) where
  pub all_read : items_of s left ≡ no_items → ListsPortions s r (record { count = count; misspelt = misspelt }) numbers
  all_read end =
      let no : values (tree_in s left) ≡ [] = values-end s left end in
      record {
        only = so_far.portions ∙ portions-end s left end;
        count = omega (arith, so_far.counts, ap length no);
        misspelt = sym (so_far.spells ∙ rw no (or-false misspelt));
        inside = so_far.inside;
        stored = λ few. sym (so_far.stored few ∙ rw no (append-nil (bounded s (take (2 * count) numbers))));
      }

  module _ {code first past : ℕ} {inner rest : Run} (met : Meeting s left code first past inner rest) where
    pub other-read : (code ≡ 0x12 → ⊥) → all_portions (tree_in s r) ≡ false
    other-read n = so_far.portions ∙ others-met met n

    module _ (e : code ≡ 0x12) (numbers' : List ℕ) (enough : 2 * most_portions ≤ length numbers)
        (kept : count < most_portions → take (2 * (count + 1)) numbers' ≡ take (2 * count) numbers ++ first ∷ past ∷ []) where
      value : values (tree_in s left) ≡ slice first past s ∷ values (tree_in s rest)
      value = values-met met e

      module _ (few : count + 1 ≤ most_portions) where
        before : length (take (2 * count) numbers) ≡ 2 * count
        before = length-take-le (2 * count) numbers (omega arith)

        inside_one : Inside s (take (2 * (count + 1)) numbers')
        inside_one =
            rw (kept (omega arith))
            (inside-append s first past (take (2 * count) numbers) count before (so_far.inside (omega arith)) met.value_order met.value_inside)

        stored_one : values (tree_in s r) ≡ bounded s (take (2 * (count + 1)) numbers') ++ values (tree_in s rest)
        stored_one =
            so_far.stored (omega arith)
            ∙ rw (value, kept (omega arith), bounded-append s first past (take (2 * count) numbers) count before)
            (sym (append_assoc (bounded s (take (2 * count) numbers)) (slice first past s ∷ []) (values (tree_in s rest))))

      pub one-read : Reads s r rest (count + 1) (misspelt || not (is_portion (slice first past s))) numbers'
      one-read =
          record {
            fine = met.rest_fine;
            short = omega (arith, met.less, so_far.short);
            portions = so_far.portions ∙ portions-met met e;
            counts = omega (arith, so_far.counts, ap length value);
            spells = so_far.spells ∙ rw value (either-spells misspelt (is_portion (slice first past s)) (all (map is_portion (values (tree_in s rest)))));
            inside = inside_one;
            stored = stored_one;
          }
