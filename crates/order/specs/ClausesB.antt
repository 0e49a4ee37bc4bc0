-- Whether elements begin a run in the order of class B, computed in one pass. proofs/ shows that it is so.
use Rattle.std.specs.Prelude.{Bool, true, false, cond, not, ◌&&◌, ◌||◌, List, [], ◌∷◌, ◌++◌, eqb, leb, ltb}
use Rattle.elements.specs.Judge.{Element}
use Rattle.order.specs.Represents.{is_unit, named, is_associated, all_represented, profile_kind}
use Rattle.order.specs.ClassB.{rank_b, end_b}

-- what may stand next after a head and its units: no second profile, a kind with a place, no rank below
unfoldable pub next_b : (head next : Element) → Bool
next_b head next = not (eqb next.kind profile_kind) && (ltb (rank_b next) end_b && leb (rank_b head) (rank_b next))

-- the rest, after a head and units of its own; done says what is asked of them at the end
unfoldable pub scan_b : (done : List Element → Element → Bool) → (head : Element) → (units : List Element) → (rest : List Element) → Bool
scan_b done head units [] = done units head
scan_b done head units (x ∷ xs) =
    cond (is_unit x)
    (is_associated head x && scan_b done head (units ++ x ∷ []) xs)
    (all_represented units head && (next_b head x && scan_b done x [] xs))

-- nothing is missing, or it can still come
unfoldable pub may_go_on : List Element → Element → Bool
may_go_on units head = all_represented units head || named head

unfoldable pub begins_b : List Element → Bool
begins_b [] = true
begins_b (x ∷ xs) = eqb x.kind profile_kind && scan_b may_go_on x [] xs

unfoldable pub ordered_b : List Element → Bool
ordered_b [] = false
ordered_b (x ∷ xs) = eqb x.kind profile_kind && scan_b all_represented x [] xs
