-- The question: what is answered of a stream by the order of a class. W-207: "Refusals: 26, after 15, at the first element such that the
-- elements through it begin no run in the asked order, limits aside; at the stream's length if only the end is missing." And what is promised
-- of the answer: a record, of which proofs/Letters has a value for every stream.
use Rattle.std.specs.Prelude.{ℕ, ◌<◌, ◌≡◌, cond, List, ltb, length}
use Rattle.elements.specs.declared.Edition.{Edition}
use Rattle.elements.specs.Judge.{Element}
use Rattle.elements.specs.ElementRows.{place_of}
use Rattle.letters.specs.Letter.{letter, refusal, letter_in, items_of_stream}
use Rattle.order.specs.declared.Class.{Class}
use Rattle.order.specs.declared.Ordered.{Ordered}
use Rattle.order.specs.Begins.{InOrder, FaultAt}

-- the number of a refusal and its place; 0 and 0 if the stream is in order
abbrev pub verdict : (number place : ℕ) → Ordered
verdict number place = record { number = number; place = place }

abbrev pub out_of_order_number : ℕ
out_of_order_number = 26

-- the first octet of element n; the stream's length if n is how many there are
abbrev pub element_start : (s : List ℕ) → List Element → (n : ℕ) → ℕ
element_start s elements n = cond (ltb n (length elements)) (place_of n (items_of_stream s)) (length s)

-- THE ORDER of a stream: what is answered of it, by `InOrder` and `FaultAt` alone
pub data OrderIs (edition : Edition) (class : Class) (s : List ℕ) : Ordered → Type 0 where
  -- "after 15": what rules 1 to 15 refuse is refused as they say
  by_rule : {number place headers : ℕ} → letter_in edition s ≡ refusal number place headers → OrderIs edition class s (verdict number place)
  in_order : {headers : ℕ} {elements : List Element} → letter_in edition s ≡ letter headers elements
      → InOrder class elements → OrderIs edition class s (verdict 0 0)
  out_of_order : {headers n : ℕ} {elements : List Element} → letter_in edition s ≡ letter headers elements
      → FaultAt class elements n → OrderIs edition class s (verdict out_of_order_number (element_start s elements n))

-- What is promised of the answer.
pub record Answered (edition : Edition) (class : Class) (s : List ℕ) : Type 0 where
  -- every stream has an answer, and one alone: a letter is in order or has a place of 26, and no third
  pub some : (r : Ordered) × OrderIs edition class s r
  pub one : (a b : Ordered) → OrderIs edition class s a → OrderIs edition class s b → a ≡ b
  -- "at the first element such that the elements through it begin no run": its first octet
  pub at_element : (headers n : ℕ) (elements : List Element) → letter_in edition s ≡ letter headers elements → n < length elements
      → FaultAt class elements n → OrderIs edition class s (verdict out_of_order_number (place_of n (items_of_stream s)))
  -- "at the stream's length if only the end is missing"
  pub at_length : (headers : ℕ) (elements : List Element) → letter_in edition s ≡ letter headers elements
      → FaultAt class elements (length elements) → OrderIs edition class s (verdict out_of_order_number (length s))
