-- A unit identifier is an identifier: groups of all_digits, a name_space_of, and all_digits are groups of all_digits.
use mathlib.Core.Path.{◌≡◌, refl}
use mathlib.Core.Bool.{Bool, true, false, ◌&&◌, false≢true, and-eq-true_iff}
use mathlib.Core.List.{List, [], ◌∷◌, ◌++◌}
use Prim.Native.Nat.{ℕ}
use lib.Dec.{eqb, leb}
use lib.ListN.{length}
use borrow.Table.Steps.{cases}
use Rattle.names.specs.Names.{space_byte, longest_identifier, longest_portion, is_digit, grouped, is_identifier, all_digits, is_portion}
use Rattle.making.specs.Entries.{Said, unit_name, all_spelt, Spelt}

-- all_digits go on with a group
digits-group : (ys : List ℕ) → all_digits ys ≡ true → grouped true ys ≡ true
unfolding all_digits grouped
digits-group [] e = refl
digits-group (y ∷ ys) e = let p = (and-eq-true_iff (is_digit y) (all_digits ys)).0 e in rw p.0 (digits-group ys p.1)

-- a portion is a group
portion-grouped : (ys : List ℕ) → is_portion ys ≡ true → grouped false ys ≡ true
unfolding is_portion all_digits grouped
portion-grouped [] e = absurd (false≢true e)
portion-grouped (y ∷ ys) e =
    let p = (and-eq-true_iff (leb 1 (length (y ∷ ys)) && leb (length (y ∷ ys)) longest_portion) (all_digits (y ∷ ys))).0 e in
    let q = (and-eq-true_iff (is_digit y) (all_digits ys)).0 p.1 in
    rw q.0 (digits-group ys q.1)

-- groups, a name_space_of and groups
grouped-more : (in_group : Bool) (xs ys : List ℕ) → grouped in_group xs ≡ true → grouped false ys ≡ true → grouped in_group (xs ++ space_byte ∷ ys) ≡ true
unfolding grouped is_digit
grouped-more true [] ys e f = f
grouped-more false [] ys e f = absurd (false≢true e)
grouped-more in_group (x ∷ xs) ys e f =
    cases (is_digit x)
    (λ t. rw t (grouped-more true xs ys (rw t at e) f))
    (λ t.
    let p = (and-eq-true_iff (eqb x space_byte && in_group) (grouped false xs)).0 (rw t at e) in
    rw (t, p.0) (grouped-more false xs ys p.1 f))

-- what 14 leaves
pub spelt : (said : Said) → all_spelt said ≡ true → Spelt said
unfolding all_spelt is_identifier
spelt said e =
    let p = (and-eq-true_iff (is_identifier said.identifier) (is_portion said.portion && (leb (length (unit_name said)) longest_identifier && true))).0 e in
    let q = (and-eq-true_iff (is_portion said.portion) (leb (length (unit_name said)) longest_identifier && true)).0 p.1 in
    let r = (and-eq-true_iff (leb (length (unit_name said)) longest_identifier) true).0 q.1 in
    let g = (and-eq-true_iff (leb (length said.identifier) longest_identifier) (grouped false said.identifier)).0 p.0 in
    record {
      identifier = p.0;
      portion = q.0;
      unit = rw r.0 (grouped-more false said.identifier said.portion g.1 (portion-grouped said.portion q.0));
    }
