-- Whether elements begin a run in the order of class A, computed. proofs/ shows that it is so.
use Rattle.std.specs.Prelude.{ℕ, Bool, true, false, cond, not, ◌&&◌, ◌||◌, List, [], ◌∷◌, map, eqb, leb, ltb}
use Rattle.headers.specs.Head.{is_in}
use Rattle.portions.specs.Portions.{all}
use Rattle.elements.specs.Judge.{Element}
use Rattle.order.specs.Represents.{named, all_represented, profile_kind}
use Rattle.order.specs.ClassA.{rank_a, end_a, class_kinds, generic_rank, specific_rank, ordered_by, listed_of, units_of, in_step}

unfoldable pub profile_first : List Element → Bool
profile_first [] = false
profile_first (x ∷ xs) = eqb x.kind profile_kind && all (map (λ y. not (eqb y.kind profile_kind)) xs)

unfoldable pub ascends : (Element → ℕ) → List Element → Bool
ascends rank [] = true
ascends rank (x ∷ xs) = all (map (λ y. leb (rank x) (rank y)) xs) && ascends rank xs

-- the rank of the units that represent an element's portions
unfoldable pub awaited : Element → ℕ
awaited e = cond (is_in e.kind class_kinds) generic_rank specific_rank

-- nothing that the element lists is missing, or it can still come: it has an identifier, and nothing stands after such units
unfoldable pub may_come : (elements : List Element) → Element → Bool
may_come elements e = all_represented elements e || (named e && all (map (λ x. leb (rank_a elements x) (awaited e)) elements))

-- what is asked of a front and of a whole
unfoldable pub placed_a : List Element → Bool
placed_a elements =
    all (profile_first elements
    ∷ all (map (λ e. ltb (rank_a elements e) end_a) elements)
    ∷ ascends (rank_a elements) elements
    ∷ in_step (listed_of (ordered_by elements) elements) (units_of (ordered_by elements) elements)
    ∷ [])

unfoldable pub begins_a : List Element → Bool
begins_a [] = true
begins_a (x ∷ xs) = placed_a (x ∷ xs) && all (map (may_come (x ∷ xs)) (x ∷ xs))

unfoldable pub ordered_a : List Element → Bool
ordered_a elements = placed_a elements && all (map (all_represented elements) elements)
