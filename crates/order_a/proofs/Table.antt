-- The code's table of ranks is the definition's: kind by kind, and past it no place.
use mathlib.Core.Path.{◌≡◌, refl}
use mathlib.Core.List.{List, [], ◌∷◌}
use Prim.Native.Nat.{ℕ, zero, suc, ◌<◌, ◌≤◌}
use native.Mathlib.Omega.{arith}
use lib.ListN.{get_or}
use borrow.Author.Tests.{ne_eqb}
use Rattle.order.specs.Ranks.{rank_in}
use Rattle.order.specs.ClassA.{rows_a, end_a}

abbrev pub table : List ℕ
table = 0 ∷ 1 ∷ 6 ∷ 3 ∷ 13 ∷ 2 ∷ 7 ∷ 4 ∷ 5 ∷ 9 ∷ 10 ∷ 11 ∷ 12 ∷ []

pub in_table : (k : ℕ) → k < 13 → get_or table k 0 ≡ rank_in rows_a k
unfolding rank_in
in_table zero l = refl
in_table (suc zero) l = refl
in_table (suc (suc zero)) l = refl
in_table (suc (suc (suc zero))) l = refl
in_table (suc (suc (suc (suc zero)))) l = refl
in_table (suc (suc (suc (suc (suc zero))))) l = refl
in_table (suc (suc (suc (suc (suc (suc zero)))))) l = refl
in_table (suc (suc (suc (suc (suc (suc (suc zero))))))) l = refl
in_table (suc (suc (suc (suc (suc (suc (suc (suc zero)))))))) l = refl
in_table (suc (suc (suc (suc (suc (suc (suc (suc (suc zero))))))))) l = refl
in_table (suc (suc (suc (suc (suc (suc (suc (suc (suc (suc zero)))))))))) l = refl
in_table (suc (suc (suc (suc (suc (suc (suc (suc (suc (suc (suc zero))))))))))) l = refl
in_table (suc (suc (suc (suc (suc (suc (suc (suc (suc (suc (suc (suc zero)))))))))))) l = refl
in_table (suc (suc (suc (suc (suc (suc (suc (suc (suc (suc (suc (suc (suc k))))))))))))) l = absurd (omega arith)

pub past-table : (k : ℕ) → 13 ≤ k → end_a ≡ rank_in rows_a k
unfolding rank_in
past-table k l =
    rw (
      ne_eqb k 0 (λ e. omega arith),
      ne_eqb k 1 (λ e. omega arith),
      ne_eqb k 5 (λ e. omega arith),
      ne_eqb k 3 (λ e. omega arith),
      ne_eqb k 7 (λ e. omega arith),
      ne_eqb k 8 (λ e. omega arith),
      ne_eqb k 2 (λ e. omega arith),
      ne_eqb k 6 (λ e. omega arith),
      ne_eqb k 9 (λ e. omega arith),
      ne_eqb k 10 (λ e. omega arith),
      ne_eqb k 11 (λ e. omega arith),
      ne_eqb k 12 (λ e. omega arith),
    )
