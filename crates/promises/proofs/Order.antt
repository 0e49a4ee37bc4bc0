-- The order of a letter is as promised, and the check accepts both orders and neither: streams of each, computed.
use Rattle.std.specs.Prelude.{Option, None, Some}
use mathlib.Core.Path.{◌≡◌, refl, ap, sym, subst}
use mathlib.Core.Logic.{◌⊎◌, inl, inr}
use mathlib.Core.List.{List, map}
use Prim.Native.Nat.{ℕ, ◌≤◌}
use native.Mathlib.Omega.{arith}
use lib.Dec.{ltb}
use lib.ListN.{length, get_or}
use borrow.Table.Steps.{cases}
use Rattle.elements.specs.declared.Edition.{Edition}
use Rattle.elements.specs.declared.Edition.TheVariants.{Of1988}
use Rattle.elements.specs.Judge.{Element}
use Rattle.letters.specs.Letter.{Letter, letter, refusal, letter_in}
use Rattle.order.specs.declared.Class.{Class}
use Rattle.order.specs.declared.Class.TheVariants.{A, B}
use Rattle.order.specs.declared.Ordered.{Ordered}
use Rattle.order.specs.Fault.{fault_of}
use Rattle.order.specs.Question.{verdict, out_of_order_number, element_start, OrderIs, by_rule}
use Rattle.order.specs.Computed.{by_found, by_letter, order_in}
use Rattle.order.specs.Streams.{Stream, asked, profile, streams}
use Rattle.order.proofs.Letters.{answered, computed-is, is-computed}
use Rattle.order.proofs.Streams.{by-class-a, by-class-b}
use Rattle.answers.proofs.Small.{refusal-small, place_inside}
use Rattle.promises.specs.Demands.{IsAccepted}
use Rattle.promises.specs.Order.{BesideRules, AnyOrder}

module _ (edition : Edition) (class : Class) (s : List ℕ) where
  -- what is known of a verdict
  record Known (r : Ordered) : Type 0 where
    told : (r.number ≤ 15) ⊎ (r.number ≡ out_of_order_number)
    inside : r.place ≤ length s
    at_start : r.number ≡ 0 → r.place ≡ 0
    accepted : (r.number ≡ 0) ⊎ (r.number ≡ out_of_order_number) → IsAccepted edition s

  octet-inside : (elements : List Element) (n : ℕ) → element_start s elements n ≤ length s
  octet-inside elements n = cases (ltb n (length elements)) (λ t. rw t (place_inside s n)) (λ t. rw t (omega arith))

  known-found : (headers : ℕ) (elements : List Element) → letter_in edition s ≡ letter headers elements → (f : Option ℕ)
      → Known (by_found s elements f)
  known-found headers elements e None =
      record {
        told = inl (omega arith);
        inside = omega arith;
        at_start = λ _. refl;
        accepted = λ z. record { headers = headers; elements = elements; judged = e };
      }
  known-found headers elements e (Some n) =
      record {
        told = inr refl;
        inside = octet-inside elements n;
        at_start = λ z. let k : ◌≡◌ {A = ℕ} 26 0 = z in absurd (omega arith);
        accepted = λ z. record { headers = headers; elements = elements; judged = e };
      }

  known : (l : Letter) → letter_in edition s ≡ l → Known (by_letter class s l)
  known (letter headers elements) e = known-found headers elements e (fault_of class elements)
  known (refusal number place headers) e =
      let small = refusal-small edition s number place headers e in
      record {
        told = inl small.high;
        inside = small.inside;
        at_start = λ z. absurd (omega (arith, small.low));
        accepted = λ z. absurd (none (small.low, small.high) z);
      }
    where
      none : (1 ≤ number) × (number ≤ 15) → (number ≡ 0) ⊎ (number ≡ out_of_order_number) → ⊥
      none (low, high) (inl z) = omega arith
      none (low, high) (inr z) = omega arith

  known_of : (r : Ordered) → OrderIs edition class s r → Known r
  unfolding order_in
  known_of r o = subst Known (sym (is-computed edition class s r o)) (known (letter_in edition s) refl)

  pub order-of : BesideRules edition class s
  order-of = record {
    answered = answered edition class s;
    told = λ r o. (known_of r o).told;
    inside = λ r o. (known_of r o).inside;
    at_start = λ place o. (known_of (verdict 0 place) o).at_start refl;
    refused_alike = λ number place headers e r o. (answered edition class s).one r (verdict number place) o (by_rule e);
    in_order = λ place o. (known_of (verdict 0 place) o).accepted (inl refl);
    out_of_order = λ place o. (known_of (verdict out_of_order_number place) o).accepted (inr refl);
  }

-- the stream of the table with a number
abbrev row_at : (k : ℕ) → Stream
row_at k = get_or streams k (asked (verdict 0 0) (verdict 0 0) profile)

by_a : (k : ℕ) → get_or (map (λ (x : Stream). order_in Of1988 A x.stream) streams) k (verdict 0 0) ≡ get_or (map (λ (x : Stream). x.a) streams) k (verdict 0 0)
by_a k = ap (λ (l : List Ordered). get_or l k (verdict 0 0)) by-class-a

by_b : (k : ℕ) → get_or (map (λ (x : Stream). order_in Of1988 B x.stream) streams) k (verdict 0 0) ≡ get_or (map (λ (x : Stream). x.b) streams) k (verdict 0 0)
by_b k = ap (λ (l : List Ordered). get_or l k (verdict 0 0)) by-class-b

-- what is computed of a stream is its answer
told-so : (class : Class) (s : List ℕ) (r : Ordered) → order_in Of1988 class s ≡ r → OrderIs Of1988 class s r
told-so class s r e = subst (OrderIs Of1988 class s) e (computed-is Of1988 class s)

pub any_order : AnyOrder
any_order = record {
  both = let a = told-so A (row_at 0).stream (verdict 0 0) (by_a 0) in
      record {
        stream = (row_at 0).stream;
        accepted = (order-of Of1988 A (row_at 0).stream).in_order 0 a;
        by_a = (0, a);
        by_b = (0, told-so B (row_at 0).stream (verdict 0 0) (by_b 0));
      };
  a_alone = let a = told-so A (row_at 2).stream (verdict 0 0) (by_a 2) in
      record {
        stream = (row_at 2).stream;
        accepted = (order-of Of1988 A (row_at 2).stream).in_order 0 a;
        by_a = (0, a);
        by_b = (19, told-so B (row_at 2).stream (verdict 26 19) (by_b 2));
      };
  b_alone = let b = told-so B (row_at 4).stream (verdict 0 0) (by_b 4) in
      record {
        stream = (row_at 4).stream;
        accepted = (order-of Of1988 B (row_at 4).stream).in_order 0 b;
        by_a = (33, told-so A (row_at 4).stream (verdict 26 33) (by_a 4));
        by_b = (0, b);
      };
  neither = let a = told-so A (row_at 5).stream (verdict 26 2) (by_a 5) in
      record {
        stream = (row_at 5).stream;
        accepted = (order-of Of1988 A (row_at 5).stream).out_of_order 2 a;
        by_a = (2, a);
        by_b = (2, told-so B (row_at 5).stream (verdict 26 2) (by_b 5));
      };
}
