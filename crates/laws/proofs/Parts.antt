-- A part of a list that is lent, and one that is overwritten.
use Prim.Native.Nat.{ℕ, ◌+◌, ◌-◌, ◌≤◌}
use native.Mathlib.Omega.{arith}
use mathlib.Core.Path.{◌≡◌, refl, ap, sym, ◌∙◌}
use mathlib.Core.List.{List, ◌++◌}
use borrow.Rule.Slice.PartMut.{put_mid}
use lib.ListN.{length, take, drop}
use lib.Seq.{sets, sets-eq, slice, take_all}
use Rattle.std.proofs.lemmas.List.{drop-take}
use Rattle.std.proofs.lemmas.Slice.{put_mid-paste}

-- a part of a list that was overwritten is a list that was set there
pub part-set : (at k : ℕ) (xs ys vs : List ℕ) → ys ≡ vs → k ≡ length vs → at + length vs ≤ length xs → put_mid at k xs ys ≡ sets xs at vs
part-set at k xs ys vs e l room =
    put_mid-paste at k xs ys vs (length vs) e (sym l) refl
    ∙ ap (λ (z : List ℕ). take at xs ++ z ++ drop (at + length vs) xs) (take_all (length vs) vs (omega arith))
    ∙ sym (sets-eq vs xs at room)

-- a part of a list that is lent is the slice from where it starts to where it ends
pub part-slice : (first past : ℕ) (s : List ℕ) → first ≤ past → take (past - first) (drop first s) ≡ slice first past s
part-slice first past s l =
    let e : first + (past - first) ≡ past = omega arith in
    sym (drop-take first (past - first) s) ∙ ap (λ (k : ℕ). slice first k s) e
