-- `octets::permitted` meets its contract: the table's rule is a test at each entry, which antt computes.
use mathlib.Core.Path.{◌≡◌, refl}
use mathlib.Core.List.{List, [], ◌∷◌}
use mathlib.Core.Bool.{Bool, true, false}
use Prim.Native.Nat.{ℕ, ◌/◌, ◌%◌}
use lib.Dec.{T, eqb}
use lib.ListN.{get_or}
use borrow.Author.Rules.{rules}
use Rattle.headers.specs.Head.{permits}
use Rattle.headers.proofs.Table.{at, both, both_left, both_right}
use Rattle.headers.proofs.types.permitted.Goals as goal

forms : List ℕ
forms = 0 ∷ 1 ∷ 1 ∷ 3 ∷ 3 ∷ 1 ∷ 1 ∷ 3 ∷ 2 ∷ 1 ∷ 1 ∷ 3 ∷ 0 ∷ 0 ∷ 0 ∷ 0 ∷ 2 ∷ 2 ∷ 3 ∷ 3 ∷ 3 ∷ 3 ∷ 3 ∷ 3 ∷ 3 ∷ 3 ∷ 3 ∷ 3 ∷ 0 ∷ 0 ∷ 0 ∷ []

abbrev same : Bool → Bool → Bool
same true b = b
same false true = false
same false false = true

same→eq : (a b : Bool) → T (same a b) → a ≡ b
same→eq true true t = refl
same→eq true false t = absurd t
same→eq false true t = absurd t
same→eq false false t = refl

right : ℕ → ℕ → Bool
right k x = both (same (eqb (x / 2) 1) (permits k true)) (same (eqb (x % 2) 1) (permits k false))

pub returns-then-constructed : goal.returns-then-constructed
unfolding forms right permits
returns-then-constructed c =
    let n = c.args.number in
    rw c.if-constructed.true
    (same→eq (eqb (get_or forms n 0 / 2) 1) (permits n true)
    (both_left (same (eqb (get_or forms n 0 / 2) 1) (permits n true)) (same (eqb (get_or forms n 0 % 2) 1) (permits n false)) (at right forms tt n (search rules))))

pub returns-else-constructed : goal.returns-else-constructed
unfolding forms right permits
returns-else-constructed c =
    let n = c.args.number in
    rw c.if-constructed.false
    (same→eq (eqb (get_or forms n 0 % 2) 1) (permits n false)
    (both_right (same (eqb (get_or forms n 0 / 2) 1) (permits n true)) (same (eqb (get_or forms n 0 % 2) 1) (permits n false))
    (at right forms tt n (search rules))))
