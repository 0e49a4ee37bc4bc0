-- An identifier that is cut at its last space: what stands before it, the space, and what stands after it, in which there is none.
use mathlib.Core.Path.{◌≡◌, refl, ap, sym, ◌∙◌}
use mathlib.Core.List.{List, [], ◌∷◌, ◌++◌}
use Prim.Native.Nat.{ℕ, ◌+◌, ◌≤◌}
use native.Mathlib.Omega.{arith}
use lib.Dec.{eqb}
use lib.ListN.{length, get_or}
use lib.Seq.{slice}
use borrow.Author.Tests.{eqb-true}
use borrow.Table.Steps.{cases}
use Rattle.names.specs.Names.{space_byte}
use Rattle.names.proofs.Parts.{slice_cut}
use Rattle.contents.specs.Search.{Value, absent, octets}
use Rattle.parents.specs.Parent.{in_front, shorter}
use Rattle.parents.specs.Lookup.{CutAt}

pub record Cut (whole front : List ℕ) : Type 0 where
  pub after : List ℕ
  pub spelt : whole ≡ front ++ space_byte ∷ after

cut-front : (x : ℕ) (xs front : List ℕ) (v : Value) → shorter xs ≡ v → ((bytes : List ℕ) → v ≡ octets bytes → Cut xs bytes)
    → in_front x v ≡ octets front → Cut (x ∷ xs) front
cut-front x xs front absent p rest e =
    cases (eqb x space_byte)
    (λ t.
    let q : x ≡ space_byte = eqb-true x space_byte t in
    let f : octets [] ≡ octets front = rw t at e in
    let w : front ≡ [] = cc in
    rw w (record { after = xs; spelt = rw q }))
    (λ t. let f : absent ≡ octets front = rw t at e in let z : ◌≡◌ {A = ℕ} 0 1 = cc in absurd (omega arith))
cut-front x xs front (octets bytes) p rest e =
    let o = rest bytes refl in
    let w : front ≡ x ∷ bytes = cc in
    rw w (record { after = o.after; spelt = ap (λ (l : List ℕ). x ∷ l) o.spelt })

cut-told : (xs front : List ℕ) → shorter xs ≡ octets front → Cut xs front
unfolding shorter
cut-told [] front e = let z : ◌≡◌ {A = ℕ} 0 1 = cc in absurd (omega arith)
cut-told (x ∷ xs) front e = cut-front x xs front (shorter xs) refl (λ bytes p. cut-told xs bytes p) e

pub same_after : (xs ys zs : List ℕ) → xs ++ ys ≡ xs ++ zs → ys ≡ zs
same_after [] ys zs e = e
same_after (x ∷ xs) ys zs e = let f : xs ++ ys ≡ xs ++ zs = cc in same_after xs ys zs f

module _ {s : List ℕ} {first past at : ℕ} (last : CutAt s first past at) (inside : past ≤ length s) where
  pub front_is : shorter (slice first past s) ≡ octets (slice first at s)
  front_is = last.cuts

  pub parts_are : slice first past s ≡ slice first at s ++ space_byte ∷ slice (at + 1) past s
  parts_are =
      let c = cut-told (slice first past s) (slice first at s) front_is in
      let e : get_or s at 0 ∷ slice (at + 1) past s ≡ space_byte ∷ c.after =
      same_after (slice first at s) (get_or s at 0 ∷ slice (at + 1) past s) (space_byte ∷ c.after)
      (sym (slice_cut s first at past last.after last.before inside)
      ∙ c.spelt) in
      let f : c.after ≡ slice (at + 1) past s = cc in
      c.spelt ∙ ap (λ (l : List ℕ). slice first at s ++ space_byte ∷ l) f
