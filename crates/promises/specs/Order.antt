-- What is promised of the order of a letter beside the rules (W-207): the answer comes after 15, and takes nothing from what the check accepts.
-- What it is to be in order is in crate order (specs/ClassA, ClassB, Begins), and what is answered there (specs/Question, `OrderIs`).
use Rattle.std.specs.Prelude.{ℕ, ◌≤◌, ◌≡◌, ◌⊎◌, List, length}
use Rattle.elements.specs.declared.Edition.{Edition}
use Rattle.elements.specs.declared.Edition.TheVariants.{Of1988}
use Rattle.letters.specs.Letter.{refusal, letter_in}
use Rattle.order.specs.declared.Class.{Class}
use Rattle.order.specs.declared.Class.TheVariants.{A, B}
use Rattle.order.specs.declared.Ordered.{Ordered}
use Rattle.order.specs.Question.{verdict, out_of_order_number, OrderIs, Answered}
use Rattle.promises.specs.Demands.{IsAccepted}

pub record BesideRules (edition : Edition) (class : Class) (s : List ℕ) : Type 0 where
  -- every stream has an answer, and one alone
  pub answered : Answered edition class s
  -- 0, one of 1 to 15, or 26; and a place in the stream, or its length
  pub told : (r : Ordered) → OrderIs edition class s r → (r.number ≤ 15) ⊎ (r.number ≡ out_of_order_number)
  pub inside : (r : Ordered) → OrderIs edition class s r → r.place ≤ length s
  pub at_start : (place : ℕ) → OrderIs edition class s (verdict 0 place) → place ≡ 0
  -- what rules 1 to 15 refuse is refused by that number at that place
  pub refused_alike : (number place headers : ℕ) → letter_in edition s ≡ refusal number place headers
      → (r : Ordered) → OrderIs edition class s r → r ≡ verdict number place
  -- 0 and 26 are answered of what the rules accept, and of nothing else
  pub in_order : (place : ℕ) → OrderIs edition class s (verdict 0 place) → IsAccepted edition s
  pub out_of_order : (place : ℕ) → OrderIs edition class s (verdict out_of_order_number place) → IsAccepted edition s

-- a stream that the rules accept and that is answered so by class A and by class B
pub record Answers (a b : ℕ) : Type 0 where
  pub stream : List ℕ
  pub accepted : IsAccepted Of1988 stream
  pub by_a : (place : ℕ) × OrderIs Of1988 A stream (verdict a place)
  pub by_b : (place : ℕ) × OrderIs Of1988 B stream (verdict b place)

-- "The base check still accepts both orders and neither"
pub record AnyOrder : Type 0 where
  pub both : Answers 0 0
  pub a_alone : Answers 0 26
  pub b_alone : Answers 26 0
  pub neither : Answers 26 26
