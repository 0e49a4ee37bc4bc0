-- `letters::writing::copy_numbers` meets its contract: what is copied is what the other slice then has from `at` on.
use mathlib.Core.Path.{◌≡◌, ap, sym, ◌∙◌}
use mathlib.Core.List.{List, ◌++◌}
use Prim.Native.Nat.{ℕ, ◌+◌}
use native.Mathlib.Omega.{arith}
use lib.ListN.{length, take, drop}
use lib.Seq.{length-take-le, take_all}
use Rattle.std.proofs.lemmas.Slice.{put_mid-paste}
use Rattle.letters.proofs.writing.copy_numbers.Goals as goal

pub returns : goal.returns
returns c =
    let a = c.args in
    let numbers = take a.count a.from.now in
    let long : length numbers ≡ a.count = length-take-le a.count a.from.now (omega arith) in
    put_mid-paste a.at _ a.to.now _ numbers a.count c.copy_from_slice.ensures.after (omega arith) (sym long)
    ∙ ap (λ (l : List ℕ). take a.at a.to.now ++ l ++ drop (a.at + a.count) a.to.now) (take_all a.count numbers (omega (arith, long)))
