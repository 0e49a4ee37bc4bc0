-- `runs::inside_of` meets its contract: the form decides, and a primitive is not marked.
use mathlib.Core.Path.{◌≡◌, refl, sym, ◌∙◌}
use mathlib.Core.Bool.{Bool, true, false, false≢true}
use borrow.Author.Tests.{eq-eqb, ne_eqb}
use Rattle.runs.proofs.inside_of.Goals as goal

unmarked : (b : Bool) → (b ≡ true → ⊥) → b ≡ false
unmarked true n = absurd (n refl)
unmarked false n = refl

pub returns-then-code-eq1 : goal.returns-then-code-eq1
returns-then-code-eq1 c = rw (eq-eqb _ _ c.if-code-eq1.true)

pub returns-else-code-eq1 : goal.returns-else-code-eq1
returns-else-code-eq1 c =
    let a = c.args in
    let e = ne_eqb _ _ c.if-code-eq1.false in
    rw (e, unmarked a.h.marked (λ m. false≢true (sym e ∙ c.requires.1 m)))
