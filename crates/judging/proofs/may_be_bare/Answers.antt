-- `judging::may_be_bare` meets its contract: the rules are computed for each of the octets that it lets through, in each edition.
use mathlib.Core.Path.{◌≡◌, refl, sym, subst}
use mathlib.Core.Logic.{◌⊎◌, inl, inr}
use Prim.Native.Nat.{ℕ}
use Rattle.contents.specs.Search.{amount, first_value, first_run, in_order}
use Rattle.portions.specs.Portions.{all_portions, values, well_spelt}
use Rattle.elements.specs.declared.Edition.{Edition}
use Rattle.elements.specs.declared.Edition.TheVariants.{Of1988, Of1993}
use Rattle.elements.specs.Shape.{shape_of}
use Rattle.elements.specs.Judge.{body_of, content_of, element_of, items_in_order, as_tabled, names_fit}
use Rattle.elements.specs.ShapeRefusal.{shape_refusal}
use Rattle.judging.specs.Judges.{MayBeBare}
use Rattle.judging.proofs.may_be_bare.Goals as goal

-- what is so of three octets is so of one that is among them
among : (edition : Edition) {a b c code : ℕ} → (code ≡ a) ⊎ ((code ≡ b) ⊎ (code ≡ c)) → MayBeBare edition a → MayBeBare edition b
    → MayBeBare edition c → MayBeBare edition code
among edition (inl e) one two three = subst (MayBeBare edition) (sym e) one
among edition (inr (inl e)) one two three = subst (MayBeBare edition) (sym e) two
among edition (inr (inr e)) one two three = subst (MayBeBare edition) (sym e) three

in-each : {code : ℕ} (edition : Edition) → (code ≡ 0xA0) ⊎ ((code ≡ 0xA2) ⊎ (code ≡ 0xA6)) → MayBeBare edition code
unfolding shape_of shape_refusal as_tabled items_in_order element_of content_of body_of names_fit amount first_value first_run in_order all_portions values well_spelt
in-each Of1988 key =
    among Of1988 key (record { known = refl; fits = refl }) (record { known = refl; fits = refl }) (record { known = refl; fits = refl })
in-each Of1993 key =
    among Of1993 key (record { known = refl; fits = refl }) (record { known = refl; fits = refl }) (record { known = refl; fits = refl })

pub returns-in-160 : goal.returns-in-160
returns-in-160 c = λ e edition. in-each edition c.in-160.is
