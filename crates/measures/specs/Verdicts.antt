-- What a page's two numbers are to PM1. T.502, table 10 (source document 003): the row of dimensions, with its essential and its non-essential
-- values, in basic measurement units. W-210: "State within once over the table of pairs."
use Rattle.std.specs.Prelude.{ℕ, Bool, cond, false, ◌&&◌, ◌||◌, List, [], ◌∷◌, eqb, leb, Option, Some, None}
use Rattle.measures.specs.declared.Integer.{Integer}
use Rattle.measures.specs.declared.Verdict.{Verdict}
use Rattle.measures.specs.declared.Verdict.TheVariants.{Absent, Essential, NonEssential, Outside, NotFixed}

-- the numbers of the verdicts
abbrev pub none : ℕ
none = 0

abbrev pub essential : ℕ
essential = 1

abbrev pub non_essential : ℕ
non_essential = 2

abbrev pub outside : ℕ
outside = 3

abbrev pub not_fixed : ℕ
not_fixed = 4

-- the number of each
abbrev pub number_of : Verdict → ℕ
number_of Absent = none
number_of Essential = essential
number_of NonEssential = non_essential
number_of Outside = outside
number_of NotFixed = not_fixed

-- a page may be so wide and so high, or, turned, so high and so wide
pub record Pair : Type 0 where
  pub wide : ℕ
  pub high : ℕ

abbrev pub pair : (wide high : ℕ) → Pair
pair wide high = record { wide = wide; high = high }

-- "within 9240 by 12400 or 12400 by 9240"
abbrev pub essential_pairs : List Pair
essential_pairs = pair 9240 12400 ∷ []

-- "within 9920 by 14030, 10200 by 13200 or 14030 by 19840, or one of these turned": ISO A4, North American Letter, ISO A3
abbrev pub non_essential_pairs : List Pair
non_essential_pairs = pair 9920 14030 ∷ pair 10200 13200 ∷ pair 14030 19840 ∷ []

-- neither number is over its bound
abbrev pub not_over : (horizontal vertical x y : ℕ) → Bool
not_over horizontal vertical x y = leb horizontal x && leb vertical y

-- within a pair of a table, as it stands or turned
unfoldable pub within : (horizontal vertical : ℕ) → List Pair → Bool
within horizontal vertical [] = false
within horizontal vertical (p ∷ others) =
    not_over horizontal vertical p.wide p.high || not_over horizontal vertical p.high p.wide || within horizontal vertical others

-- "under 1"
abbrev pub under_one : Integer → Bool
under_one n = n.negative || eqb n.distance 0

-- "essential if within ..; otherwise non-essential if within ..; otherwise outside"
unfoldable pub verdict_of_sizes : (horizontal vertical : ℕ) → ℕ
verdict_of_sizes h v = cond (within h v essential_pairs) essential (cond (within h v non_essential_pairs) non_essential outside)

-- Of two values: "Anything but two fixed numbers .. is 'not fixed'"; "outside if either is under 1; else ..".
unfoldable pub verdict_of_two : (horizontal vertical : Option Integer) → ℕ
verdict_of_two None v = not_fixed
verdict_of_two (Some h) None = not_fixed
verdict_of_two (Some h) (Some v) = cond (under_one h || under_one v) outside (verdict_of_sizes h.distance v.distance)
