-- Which of some portions has given octets: while they are met one by one, and what it tells when one is found, or none.
use mathlib.Core.Path.{◌≡◌, refl, ap, sym, ◌∙◌}
use mathlib.Core.Bool.{true, false, true≢false}
use mathlib.Core.Option.{some}
use mathlib.Core.List.{List, [], ◌∷◌}
use Prim.Native.Nat.{ℕ, zero, suc, ◌+◌}
use native.Mathlib.Omega.{arith}
use native.Mathlib.Numerals.{add-one}
use lib.ListN.{get_elem?}
use lib.Seq.{slice}
use borrow.Table.Steps.{cases}
use Rattle.octets.specs.Walk.{no_items}
use Rattle.names.specs.Names.{same}
use Rattle.names.proofs.Same.{same-eq, same_refl}
use Rattle.runs.specs.declared.Run.{Run}
use Rattle.runs.specs.Runs.{items_of, tree_in, Meeting}
use Rattle.portions.specs.Portions.{values}
use Rattle.portions.proofs.Meetings.{values-next, values-end}
use Rattle.owners.specs.declared.Owner.{Owner}
use Rattle.std.specs.Prelude.{Option, None}
use Rattle.owners.specs.Owner.{of, owner_among}
use Rattle.owners.proofs.Telling.{Left}

module _ {s rows : List ℕ} {row : ℕ} {left : Run} {k : ℕ} (l : Left s rows row left k) (bytes : List ℕ) where
  -- none is left
  pub among_none : items_of s left ≡ no_items → owner_among row k (values (tree_in s left)) bytes ≡ None
  unfolding owner_among
  among_none e = ap (λ (vs : List (List ℕ)). owner_among row k vs bytes) (values-end s left e)

  module _ {code first past : ℕ} {inner rest : Run} (met : Meeting s left code first past inner rest) where
    next : owner_among row k (values (tree_in s left)) bytes ≡ owner_among row k (slice first past s ∷ values (tree_in s rest)) bytes
    next = ap (λ (vs : List (List ℕ)). owner_among row k vs bytes) (values-next met l.only_portions)

    -- the one that is met has them, or it is among the rest
    pub among-met : same (slice first past s) bytes ≡ true → owner_among row k (values (tree_in s left)) bytes ≡ of row k
    unfolding owner_among
    among-met t = next ∙ rw t

    pub among-rest : same (slice first past s) bytes ≡ false → owner_among row k (values (tree_in s left)) bytes ≡ owner_among row (k + 1)
        (values (tree_in s rest)) bytes
    unfolding owner_among
    among-rest t = next ∙ rw (t, add-one k)

-- the place that is found
pub record Place (row n : ℕ) (portions : List (List ℕ)) (bytes : List ℕ) (owner : Option Owner) : Type 0 where
  pub place : ℕ
  pub there : get_elem? portions place ≡ some bytes
  pub is : owner ≡ of row (n + place)

-- what is found of portions
pub data Finding (row n : ℕ) (portions : List (List ℕ)) (bytes : List ℕ) (owner : Option Owner) : Type 0 where
  at : Place row n portions bytes owner → Finding row n portions bytes owner
  nowhere : owner ≡ None → ((k : ℕ) → get_elem? portions k ≡ some bytes → ⊥) → Finding row n portions bytes owner

pub among-tells : (row n : ℕ) (portions : List (List ℕ)) (bytes : List ℕ) → Finding row n portions bytes (owner_among row n portions bytes)
unfolding owner_among
among-tells row n [] bytes = nowhere refl (λ k e. let z : ◌≡◌ {A = ℕ} 0 1 = cc in omega arith)
among-tells row n (p ∷ ps) bytes =
    cases (same p bytes)
    (λ t.
    let q : p ≡ bytes = same-eq p bytes t in
    let z : n ≡ n + 0 = omega arith in
    rw t (at (record { place = 0; there = ap some q; is = ap (of row) z })))
    (λ t. rw t (later t (owner_among row (suc n) ps bytes) (among-tells row (suc n) ps bytes)))
  where
    later : same p bytes ≡ false → (owner : Option Owner) → Finding row (suc n) ps bytes owner → Finding row n (p ∷ ps) bytes owner
    later t owner (at f) = let z : suc n + f.place ≡ n + suc f.place = omega arith in at (record {
      place = suc f.place;
      there = f.there;
      is = f.is ∙ ap (of row) z;
    })
    later t owner (nowhere e never) = nowhere e (elsewhere t never)
      where
        elsewhere : same p bytes ≡ false → ((k : ℕ) → get_elem? ps k ≡ some bytes → ⊥) → (k : ℕ) → get_elem? (p ∷ ps) k ≡ some bytes → ⊥
        elsewhere u missing zero e = let q : p ≡ bytes = cc in true≢false (sym (ap (λ (x : List ℕ). same x bytes) q ∙ same_refl bytes) ∙ u)
        elsewhere u missing (suc k) e = missing k e
