-- Values by their bounds: two numbers a value, first and past, one value after another. Document 01, "Table, list, part, normal form":
-- "All pairs but the element's bound a value."
use Rattle.std.specs.Prelude.{ℕ, ◌+◌, ◌*◌, ◌≤◌, List, [], ◌∷◌, length, get_or}
use Rattle.std.proofs.Math.Seq.{slice}
use Rattle.contents.specs.declared.Span.{Span}

-- the bounds of the value k
abbrev pub pair_at : (numbers : List ℕ) → (k : ℕ) → Span
pair_at numbers k = record { first = get_or numbers (2 * k) 0; past = get_or numbers (2 * k + 1) 0 }

-- the value k
abbrev pub bounded_at : (s numbers : List ℕ) → (k : ℕ) → List ℕ
bounded_at s numbers k = slice (pair_at numbers k).first (pair_at numbers k).past s

-- the values that numbers bound
unfoldable pub bounded : (s numbers : List ℕ) → List (List ℕ)
bounded s [] = []
bounded s (first ∷ []) = []
bounded s (first ∷ past ∷ more) = slice first past s ∷ bounded s more

-- whether all that numbers bound lies in the stream
unfoldable pub Inside : (s numbers : List ℕ) → Type 0
Inside s [] = Unit {0}
Inside s (first ∷ []) = Unit {0}
Inside s (first ∷ past ∷ more) = (first ≤ past) × (past ≤ length s) × Inside s more
