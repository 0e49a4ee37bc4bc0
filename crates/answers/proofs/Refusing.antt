-- A stream that rules 1 to 15 refuse is answered so.
use mathlib.Core.Path.{◌≡◌, ap}
use mathlib.Core.List.{List}
use Prim.Native.Nat.{ℕ}
use Rattle.elements.specs.declared.Edition.{Edition}
use Rattle.letters.specs.Letter.{Letter, refusal, letter_in}
use Rattle.order.specs.declared.Class.{Class}
use Rattle.order.specs.Question.{verdict}
use Rattle.order.specs.Computed.{by_letter, order_in}

pub ordered-refused : (edition : Edition) (class : Class) (s : List ℕ) (number place headers : ℕ) → letter_in edition s ≡ refusal number place headers
    → order_in edition class s ≡ verdict number place
unfolding order_in
ordered-refused edition class s number place headers e = ap (λ (l : Letter). by_letter class s l) e
