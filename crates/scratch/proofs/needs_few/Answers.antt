-- `scratch::needs_few` meets its contract: a stream that the walk passed needs a row for each element and never more than can be accepted,
-- and one that the walk refused needs none.
use mathlib.Core.Path.{◌≡◌, refl, ◌∙◌, sym, subst}
use mathlib.Core.Bool.{Bool, true, false, cond}
use mathlib.Core.List.{List}
use Prim.Native.Nat.{ℕ, ◌≤◌}
use native.Mathlib.Omega.{arith}
use Rattle.octets.specs.Told.{Outcome}
use Rattle.letters.specs.Lent.{rows_needed}
use Rattle.answers.specs.Asking.{Sized}
use Rattle.scratch.proofs.Arrays.{walked_whole}
use Rattle.scratch.proofs.needs_few.Goals as goal

-- few rows, or as many as can be accepted
enough : (s : List ℕ) (few : Bool) → (few ≡ true → rows_needed s ≤ 512) → rows_needed s ≤ cond few 512 4096
enough s true says = says refl
enough s false says = omega arith

pub is_few-requires : goal.is_few-requires
is_few-requires c = walked_whole _ _ _ (c.requires ∙ c.in-Ok.is)

pub returns-in-Ok : goal.returns-in-Ok
returns-in-Ok c =
    let s = c.args.stream.now in
    let few = c.is_few.result in
    subst (λ (o : Outcome). Sized s o (cond few 512 4096)) (sym c.in-Ok.is)
    (record { outcome = c.requires ∙ c.in-Ok.is; enough = enough s few c.is_few.ensures })

pub returns-in-Err : goal.returns-in-Err
returns-in-Err c =
    subst (λ (o : Outcome). Sized c.args.stream.now o 512) (sym c.in-Err.is) (record { outcome = c.requires ∙ c.in-Err.is; enough = omega arith })
