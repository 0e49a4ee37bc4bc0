-- `lister_text::put_rest` meets its contract: each number that is stored is the next of the rest, of at most 20 digits.
use Prim.Native.Nat.{◌<◌}
use native.Mathlib.Omega.{arith}
use mathlib.Core.Path.{◌∙◌}
use lib.ListN.{length, length-set, get_or}
use Rattle.lister_text.proofs.Decimal.{decimal-short}
use Rattle.lister_text.proofs.Stores.{rest-length, rest-stores, rest_end}
use Rattle.lister_text.proofs.put_rest.Goals as goal

pub loop-n-preserved : goal.loop-n-preserved
loop-n-preserved c =
    let l = c.loop-n in
    let numbers = c.args.numbers.now in
    let within : l.n-index < length numbers = c.loop-n-test.true in
    let short = decimal-short 19 (get_or numbers l.n-index 0) (omega (arith, c.type_inv.numbers l.n-index)) in
    record {
      room = omega (arith, c.put_number-here.ensures.value, short);
      whole = c.put_number-here.auto.out ∙ simp length-set l.invariant.whole;
      told = rw c.put_number-here.ensures.value (rest-length numbers l.n-index within l.here ∙ l.invariant.told);
      stores = rw (c.put_number-here.ensures.out_after, c.put_number-here.ensures.value) (rest-stores numbers l.n-index within l.out l.here ∙ l.invariant.stores);
    }

pub returns : goal.returns
returns c =
    let l = c.loop-n in
    let end = rest_end c.args.numbers.now l.n-index c.loop-n-test.false in
    record { value = (rw end at l.invariant.told, omega arith); out_after = rw end at l.invariant.stores }
