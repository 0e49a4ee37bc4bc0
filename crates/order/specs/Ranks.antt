-- The row of a kind in a table of kinds.
use Rattle.std.specs.Prelude.{ℕ, suc, cond, List, [], ◌∷◌, eqb}

-- the row of a table in which a kind stands, from 0; past the table, if it has none
unfoldable pub rank_in : (table : List ℕ) → (kind : ℕ) → ℕ
rank_in [] kind = 0
rank_in (k ∷ ks) kind = cond (eqb kind k) 0 (suc (rank_in ks kind))
