-- The look-up of a shape by its octet, where the code tries one octet after another as the list of an edition does. One law for an octet
-- that is tried, whichever it is, and one for all others.
use mathlib.Core.Path.{◌≡◌, refl, sym, ap, ◌∙◌}
use mathlib.Core.List.{[], ◌∷◌, ◌++◌}
use Prim.Native.Nat.{ℕ}
use borrow.Author.Tests.{ne_eqb}
use Rattle.headers.specs.Head.{type_field}
use Rattle.contents.proofs.Firsts.{is_field}
use Rattle.elements.specs.declared.Slots.{Slots}
use Rattle.elements.specs.Shape.{Shapes, shape_in}
use Rattle.elements.specs.Slots.{slots_of}

-- an octet that is tried
pub found : (shapes : Shapes) {slots : Slots} {tried code : ℕ} → slots ≡ slots_of (shape_in shapes (type_field tried)) → code ≡ tried
    → slots ≡ slots_of (shape_in shapes (type_field code))
found shapes made same = made ∙ sym (ap (λ (o : ℕ). slots_of (shape_in shapes (type_field o))) same)

-- an octet that no shape of a list has, told one shape after another
abbrev pub Untried : (before : Type 0) (octet : ℕ) → Shapes → Type 0
Untried before octet [] = before
Untried before octet (shape ∷ shapes) = Untried (before × (octet ≡ shape.octet → ⊥)) octet shapes

told-before : (before : Type 0) (octet : ℕ) (shapes : Shapes) → Untried before octet shapes → before
told-before before octet [] others = others
told-before before octet (shape ∷ shapes) others = (told-before (before × (octet ≡ shape.octet → ⊥)) octet shapes others).0

-- the list after them is then looked through
pub passed : (before : Type 0) (code : ℕ) (shapes others : Shapes) → Untried before code shapes
    → shape_in (shapes ++ others) (type_field code) ≡ shape_in others (type_field code)
passed before code [] others untried = refl
passed before code (shape ∷ shapes) others untried =
    let this = before × (code ≡ shape.octet → ⊥) in
    rw (is_field shape.octet code, ne_eqb code shape.octet (told-before this code shapes untried).1) (passed this code shapes others untried)
