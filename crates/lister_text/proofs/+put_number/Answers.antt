-- `lister_text::put_number` meets its contract: it follows the two equations of a decimal number. Its measure is the number, whose tenth is less.
use Prim.Native.Nat.{ℕ, ◌/◌, ◌%◌, ◌<◌}
use native.Mathlib.Omega.{arith}
use mathlib.Core.Path.{refl}
use mathlib.Core.List.{[], ◌∷◌}
use lib.ListN.{length, length-append, length-set}
use Rattle.lister_text.specs.Decimal.{decimal, digit}
use Rattle.lister_text.proofs.Decimal.{decimal-small, decimal-large, decimal-short}
use Rattle.lister_text.proofs.Stores.{sets-join}
use Rattle.lister_text.proofs.+put_number.Goals as goal
use Rattle.lister_text.proofs.+put_number.Goals.{After-slice_known-2-1}

pub shape_of-out-then-n-lt10 : goal.shape_of-out-then-n-lt10
shape_of-out-then-n-lt10 t c = simp length-set

pub returns-then-n-lt10 : goal.returns-then-n-lt10
returns-then-n-lt10 t c = rw (decimal-small c.args.n (omega arith)) (record { value = refl; out_after = refl })

pub put_number-last-requires : goal.put_number-last-requires
put_number-last-requires t c = (omega arith, omega arith)

-- there is room for the last digit
last_within : (t : ℕ) (c : After-slice_known-2-1 t) → c.put_number-last.result < length
    c.put_number-last.new.out
last_within t c =
    let n = c.args.n in
    omega (arith, c.put_number-last.ensures.value, c.put_number-last.auto.out, decimal-short 18 (n / 10) (omega arith))

pub bounds-out-last : goal.bounds-out-last
bounds-out-last t c = omega (arith, last_within t (goal.at.bounds-out-last t c).After-slice_known-2-1, c.put_number-last.auto.out)

pub overflow_add-result-2 : goal.overflow_add-result-2
overflow_add-result-2 t c = omega (arith, last_within t (goal.at.overflow_add-result-2 t c).After-slice_known-2-1, c.put_number-last.auto.out)

pub shape_of-out : goal.shape_of-out
shape_of-out t c = simp length-set c.put_number-last.auto.out

pub returns : goal.returns
returns t c =
    let a = c.args in
    rw (decimal-large a.n (omega arith)) (record { value = rw c.put_number-last.ensures.value (simp length-append (omega arith)); out_after = rw (c.put_number-last.ensures.out_after, c.put_number-last.ensures.value) (sets-join a.out.now a.at (decimal (a.n / 10)) (digit (a.n % 10) ∷ [])) })
