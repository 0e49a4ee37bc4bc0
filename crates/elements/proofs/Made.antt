-- The slots of every shape are well made, by a test that says so, and so are the items that may hold content.
use mathlib.Core.Path.{◌≡◌, refl}
use mathlib.Core.Bool.{Bool, true, false, not, ◌||◌, true≢false, false≢true}
use mathlib.Core.List.{List, [], ◌∷◌}
use mathlib.Core.Logic.{◌⊎◌, inl, inr}
use Prim.Native.Nat.{ℕ}
use lib.Dec.{eqb}
use borrow.Author.Tests.{eqb-true, not-true}
use Rattle.headers.specs.Head.{constructed}
use Rattle.portions.specs.Portions.{all}
use Rattle.elements.specs.declared.Slots.{Slots}
use Rattle.elements.specs.Shape.{Contents, profile, described, unit, style, protected, Shape}
use Rattle.elements.specs.Judge.{holders_of}
use Rattle.elements.specs.Slots.{slots_by, slots_of}
use Rattle.elements.specs.WellMade.{WellMade, Formed}

-- the fields of `WellMade` as tests
abbrev tests : Slots → List Bool
tests shape =
    (shape.free || (not shape.looked || constructed shape.within))
    ∷ (not shape.free || eqb shape.within 0)
    ∷ (not shape.free || eqb shape.object 0)
    ∷ (not shape.free || eqb shape.content 0)
    ∷ (not shape.free || eqb shape.pieces 0)
    ∷ (not shape.free || eqb shape.tiles.octet 0)
    ∷ not (constructed shape.identifier.octet)
    ∷ not (constructed shape.logical)
    ∷ not (constructed shape.object)
    ∷ not (constructed shape.content)
    ∷ (eqb shape.portions 0 || constructed shape.portions)
    ∷ (eqb shape.pieces 0 || constructed shape.pieces)
    ∷ (eqb shape.tiles.octet 0 || constructed shape.tiles.octet)
    ∷ (eqb shape.seal 0 || constructed shape.seal)
    ∷ []

-- all of some tests hold
abbrev Every : List Bool → Type 0
Every [] = Unit {0}
Every (t ∷ ts) = (t ≡ true) × Every ts

every : (ts : List Bool) → all ts ≡ true → Every ts
every [] e = tt
every (true ∷ ts) e = (refl, every ts e)
every (false ∷ ts) e = absurd (false≢true e)

unless : (a b : Bool) → a || b ≡ true → a ≡ false → b ≡ true
unless true b e f = absurd (true≢false f)
unless false b e f = e

where-true : (a b : Bool) → not a || b ≡ true → a ≡ true → b ≡ true
where-true true b e f = e
where-true false b e f = absurd (false≢true f)

either : (n : ℕ) (t b : Bool) → eqb n 0 ≡ t → t || b ≡ true → (n ≡ 0) ⊎ (b ≡ true)
either n true b z e = inl (eqb-true n 0 z)
either n false b z e = inr e

well-made : (shape : Slots) → all (tests shape) ≡ true → WellMade shape
well-made shape e =
    let k = every (tests shape) e in
    record {
      within = λ f l. where-true shape.looked (constructed shape.within)
          (unless shape.free (not shape.looked || constructed shape.within) k.0 f) l;
      itself = λ f. eqb-true shape.within 0 (where-true shape.free (eqb shape.within 0) k.1.0 f);
      no_object = λ f. eqb-true shape.object 0 (where-true shape.free (eqb shape.object 0) k.1.1.0 f);
      no_content = λ f. eqb-true shape.content 0 (where-true shape.free (eqb shape.content 0) k.1.1.1.0 f);
      no_pieces = λ f. eqb-true shape.pieces 0 (where-true shape.free (eqb shape.pieces 0) k.1.1.1.1.0 f);
      no_tiles = λ f. eqb-true shape.tiles.octet 0 (where-true shape.free (eqb shape.tiles.octet 0) k.1.1.1.1.1.0 f);
      identifier = not-true (constructed shape.identifier.octet) k.1.1.1.1.1.1.0;
      logical = not-true (constructed shape.logical) k.1.1.1.1.1.1.1.0;
      object = not-true (constructed shape.object) k.1.1.1.1.1.1.1.1.0;
      content = not-true (constructed shape.content) k.1.1.1.1.1.1.1.1.1.0;
      portions = either shape.portions (eqb shape.portions 0) (constructed shape.portions) refl k.1.1.1.1.1.1.1.1.1.1.0;
      pieces = either shape.pieces (eqb shape.pieces 0) (constructed shape.pieces) refl k.1.1.1.1.1.1.1.1.1.1.1.0;
      tiles = either shape.tiles.octet (eqb shape.tiles.octet 0) (constructed shape.tiles.octet) refl k.1.1.1.1.1.1.1.1.1.1.1.1.0;
      seal = either shape.seal (eqb shape.seal 0) (constructed shape.seal) refl k.1.1.1.1.1.1.1.1.1.1.1.1.1.0;
    }

made_by : (octet : ℕ) (contents : Contents) → WellMade (slots_by octet contents)
made_by octet profile = well-made (slots_by octet profile) refl
made_by octet (described needed types) = well-made (slots_by octet (described needed types)) refl
made_by octet (unit needed true) = well-made (slots_by octet (unit needed true)) refl
made_by octet (unit needed false) = well-made (slots_by octet (unit needed false)) refl
made_by octet style = well-made (slots_by octet style) refl
made_by octet (protected true) = well-made (slots_by octet (protected true)) refl
made_by octet (protected false) = well-made (slots_by octet (protected false)) refl

pub made : (shape : Shape) → WellMade (slots_of shape)
made shape = made_by shape.octet shape.contents

pub formed : (contents : Contents) → Formed (holders_of contents)
formed profile = tt
formed (described needed types) = tt
formed (unit needed true) = (refl, (refl, (refl, tt)))
formed (unit needed false) = (refl, (refl, tt))
formed style = tt
formed (protected true) = (refl, (refl, tt))
formed (protected false) = tt
