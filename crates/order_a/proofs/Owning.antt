-- What an owner tells of a unit is so: by the one record that a unit has on a side.
use mathlib.Core.Path.{◌≡◌, refl, ap, sym, ◌∙◌, subst}
use mathlib.Core.Logic.{◌⊎◌, inl, inr}
use mathlib.Core.Bool.{Bool, true, false, false≢true}
use mathlib.Core.List.{List, [], ◌∷◌}
use Prim.Native.Nat.{ℕ, ◌<◌, ◌≤◌}
use native.Mathlib.Omega.{arith}
use lib.Dec.{eqb, ltb}
use lib.ListN.{length, take}
use borrow.Author.Tests.{eqb-true, eqb-false, ne_eqb, ltb-true, ltb-false}
use borrow.Table.Steps.{cases}
use Rattle.headers.specs.Head.{is_in}
use Rattle.rows.specs.Columns.{kind_at}
use Rattle.elements.specs.Judge.{Element}
use Rattle.reading.specs.declared.Side.{Side}
use Rattle.reading.specs.declared.Side.TheVariants.{Layout, Logical}
use Rattle.reading.specs.Match.{kinds_of, matches}
use Rattle.letters.specs.Telling.{RowsTell, element_at}
use Rattle.order.specs.Represents.{◌∈◌}
use Rattle.order.specs.ClassA.{represents_some}
use Rattle.owners.specs.declared.Owner.{Owner}
use Rattle.std.specs.Prelude.{Option, None, Some}
use Rattle.owners.specs.Owner.{match_of, OwnerIs}
use Rattle.owners.proofs.Telling.{kind-told}
use Rattle.order_a.specs.Turns.{RowBelow, own_of, OwnIs}
use Rattle.order_a.proofs.Records.{row_below, other_row, some-of-record, some-told-record, one-record}

-- kind 0 is of no side
no_kind : (side : Side) → is_in 0 (kinds_of side) ≡ true → ⊥
no_kind Layout t = false≢true t
no_kind Logical t = false≢true t

no-kind-is : (side : Side) (kind : ℕ) → is_in kind (kinds_of side) ≡ true → eqb 0 kind ≡ false
no-kind-is side kind t = ne_eqb 0 kind (λ e. no_kind side (ap (λ (i : ℕ). is_in i (kinds_of side)) e ∙ t))

module _ {s rows : List ℕ} {n : ℕ} {es : List Element} (ready : RowsTell s rows n es) (side : Side) (u : ℕ) (below : u < n) where
  inside : u < length es
  inside = omega (arith, ready.counted)

  abbrev represents_kind : ℕ → Bool
  represents_kind kind = represents_some (kind ∷ []) (take u es) (element_at es u)

  -- no element before it that it is associated with
  none_before : ((row p : ℕ) → match_of row p u ∈ matches side es → row < u → ⊥) → (kind : ℕ) → is_in kind
      (kinds_of side) ≡ true → represents_kind kind ≡ eqb 0 kind
  none_before none kind k =
      cases (represents_kind kind)
      (λ t. let (row, p, l, m, e) = some-told-record es u inside side kind k t in absurd (none row p m l))
      (λ t. t ∙ sym (no-kind-is side kind k))

  module _ (row p : ℕ) (m : match_of row p u ∈ matches side es) where
    row_told : kind_at rows row ≡ (element_at es row).kind
    row_told = kind-told ready row (omega (arith, row_below es side row p u m, ready.counted))

    same_row : (r q : ℕ) → match_of r q u ∈ matches side es → r ≡ row
    same_row r q i = one-record es ready.apart side r q row p u i m

    kinds-before : row < u → (kind : ℕ) → is_in kind (kinds_of side) ≡ true → represents_kind kind ≡ eqb (kind_at rows row) kind
    kinds-before l kind k =
        cases (eqb (kind_at rows row) kind)
        (λ t. some-of-record es u inside side row p kind l m (sym row_told ∙ eqb-true (kind_at rows row) kind t) ∙ sym t)
        (λ t. cases (represents_kind kind)
        (λ v. let (r, q, h, i, e) = some-told-record es u inside side kind k v in
        absurd (eqb-false (kind_at rows row) kind t (row_told ∙ ap (λ (j : ℕ). (element_at es j).kind) (sym (same_row r q i)) ∙ e)))
        (λ v. v ∙ sym t))

    earlier : row < u → OwnIs side es n u (record { kind = kind_at rows row; row = row; portion = p; later = n })
    earlier l =
        record {
          kinds = kinds-before l;
          placed = λ t. (l, m, sym row_told);
          no_later = λ r q i. let e = same_row r q i in inl (omega arith);
          later_is = inl refl;
        }

    later : (row < u → ⊥) → OwnIs side es n u (record { kind = 0; row = 0; portion = 0; later = row })
    later d =
        record {
          kinds = none_before (λ r q i l. d (subst (λ (j : ℕ). j < u) (same_row r q i) l));
          placed = λ t. absurd (no_kind side t);
          no_later = λ r q i. let e = same_row r q i in inr (omega arith);
          later_is = inr (p, beyond, m);
        }
      where
        beyond : u < row
        beyond = cases (ltb u row) (λ t. ltb-true u row t) (λ t. let h = ltb-false u row t in absurd
            (which (cases (eqb row u) (λ e. inl (eqb-true row u e)) (λ e. inr (eqb-false row u e))) h))
          where
            which : (row ≡ u) ⊎ (row ≡ u → ⊥) → row ≤ u → ⊥
            which (inl e) h = other_row es side row p u m e
            which (inr e) h = d (cases (ltb row u) (λ t. ltb-true row u t) (λ t. let i = ltb-false row u t in absurd (e (omega arith))))

  pub own_is : (owner : Option Owner) → OwnerIs side es u owner → OwnIs side es n u (own_of rows n u owner)
  own_is None none =
      record {
        kinds = none_before (λ r q i l. none r q i);
        placed = λ t. absurd (no_kind side t);
        no_later = λ r q i. absurd (none r q i);
        later_is = inl refl;
      }
  own_is (Some o) m =
      cases (ltb o.row u)
      (λ t. subst (OwnIs side es n u) (sym (rw t)) (earlier o.row o.portion m (ltb-true o.row u t)))
      (λ t. let h = ltb-false o.row u t in subst (OwnIs side es n u) (sym (rw t)) (later o.row o.portion m (λ l. omega arith)))

  pub row_inside : (owner : Option Owner) → OwnerIs side es u owner → RowBelow n owner
  row_inside None none = tt
  row_inside (Some o) m = omega (arith, row_below es side o.row o.portion u m, ready.counted)

pub row_low : (rows : List ℕ) (n u : ℕ) (owner : Option Owner) → (own_of rows n u owner).row ≤ u
row_low rows n u None = omega arith
row_low rows n u (Some o) =
    cases (ltb o.row u) (λ t. let l = ltb-true o.row u t in rw t (omega arith)) (λ t. rw t (omega arith))
