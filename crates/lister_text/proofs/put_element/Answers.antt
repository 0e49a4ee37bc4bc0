-- `lister_text::put_element` meets its contract: the number, of at most 10 digits, and the rest are stored one after the other.
use native.Mathlib.Omega.{arith}
use native.Mathlib.Nat.{zero-add}
use mathlib.Core.Path.{◌∙◌}
use mathlib.Core.List.{[], ◌∷◌}
use Rattle.lister_text.specs.Decimal.{decimal}
use Rattle.lister_text.proofs.Decimal.{decimal-short}
use Rattle.lister_text.proofs.Stores.{written}
use Rattle.lister_text.proofs.put_element.Goals as goal

pub put_rest-requires : goal.put_rest-requires
put_rest-requires c =
    let n = c.args.number in
    omega (arith, c.put_number-at.ensures.value, c.put_number-at.auto.out, decimal-short 9 n (omega arith))

pub returns : goal.returns
returns c =
    let a = c.args in
    written (decimal a.number) (a.first ∷ a.past ∷ a.kind ∷ []) a.out.now _ _ _ _ (c.put_number-at.ensures.value ∙ zero-add _) c.put_number-at.ensures.out_after c.put_rest.ensures.value c.put_rest.ensures.out_after
