-- The short normal form in scratch that the caller lends: what is promised of it. `promises` (proofs/Promises) is a value of the record below.
use Rattle.std.specs.Prelude.{◌≡◌, ◌⊎◌, ◌↔◌, true, List, [], ◌∷◌, ℕ, ◌+◌, ◌<◌, ◌≤◌, length}
use Rattle.octets.specs.Told.{ended, refused}
use Rattle.octets.specs.Walk.{walk_of}
use Rattle.tree.specs.Tree.{tree_of}
use Rattle.normal.specs.Short.{short_limit}
use Rattle.elements.specs.declared.Edition.{Edition}
use Rattle.elements.specs.declared.Edition.TheVariants.{Of1988, Of1993}
use Rattle.elements.specs.Judge.{Element, most_elements}
use Rattle.letters.specs.Letter.{letter, refusal, letter_in}
use Rattle.letters.specs.Lent.{rows_needed}
use Rattle.answers.specs.declared.Written.{Written}
use Rattle.answers.specs.Short.{written_short, written_short_output}
use Rattle.lent.specs.Lent.{rows_for, size_for, index_for, written_lent, written_lent_output, LentOutcome}
use Rattle.promises.specs.Demands.{Answered}
use Rattle.promises.specs.Editions.{agree}

-- rules 1 to 8 pass the stream
pub record Walked (s : List ℕ) : Type 0 where
  pub at : ℕ
  pub headers : ℕ
  pub ended : walk_of s ≡ ended at headers

-- rules 1 to 8 pass a short stream, and the lent numbers are too few for its elements
pub record Lacking (s : List ℕ) (rows index : ℕ) : Type 0 where
  pub short : length s ≤ short_limit
  pub walked : Walked s
  pub few : (rows < rows_for (rows_needed s)) ⊎ (index < index_for (rows_needed s))

-- the answer of the short normal form, and what it leaves in the output
pub record AsShort (edition : Edition) (s out : List ℕ) (rows index : ℕ) : Type 0 where
  pub answer : written_lent edition s out rows index ≡ written_short edition s out
  pub output : written_lent_output edition s out rows index ≡ written_short_output edition s out

-- With so many numbers lent for rows and so many for the index:
pub record Lent (edition : Edition) (s out : List ℕ) (rows index : ℕ) : Type 0 where
  -- what it may give: 1 to 15, 18 and 32
  pub told : Answered s (18 ∷ 32 ∷ []) (written_lent edition s out rows index).number (written_lent edition s out rows index).place
  -- a refusal gives length 0 and leaves the output as it was
  pub counts : ((written_lent edition s out rows index).number ≡ 0 → ⊥) → (written_lent edition s out rows index).length ≡ 0
  pub untouched : ((written_lent edition s out rows index).number ≡ 0 → ⊥) → written_lent_output edition s out rows index ≡ out
  -- 32 exactly where the numbers are too few, after 8 and before 9; in all other cases the answer is the short normal form's
  pub lacking : ((written_lent edition s out rows index).number ≡ 32) ↔ Lacking s rows index
  pub otherwise : ((written_lent edition s out rows index).number ≡ 32 → ⊥) → AsShort edition s out rows index
  -- so many are enough for a letter with so many elements, and those for 4,096 for any stream
  pub enough : (headers : ℕ) (elements : List Element) → letter_in edition s ≡ letter headers elements
      → rows_for (length elements) ≤ rows → index_for (length elements) ≤ index → AsShort edition s out rows index
  pub enough_for_any : rows_for most_elements ≤ rows → index_for most_elements ≤ index → AsShort edition s out rows index
  -- what rules 1 to 8 refuse is refused by that number at that place, whatever is lent; what 9 to 15 refuse, if it is enough
  pub refused_by_walk : (number place headers : ℕ) → length s ≤ short_limit → walk_of s ≡ refused number place headers
      → written_lent edition s out rows index ≡ record { number = number; place = place; length = 0 }
  pub refused_alike : (number place headers : ℕ) → length s ≤ short_limit → letter_in edition s ≡ refusal number place headers
      → rows_for (rows_needed s) ≤ rows → index_for (rows_needed s) ≤ index
      → written_lent edition s out rows index ≡ record { number = number; place = place; length = 0 }

-- What holds of all that may be lent.
pub record Promises : Type 0 where
  pub each : (edition : Edition) (s out : List ℕ) (rows index : ℕ) → Lent edition s out rows index
  -- an index is made for no fewer elements than there are, and for less than twice as many, or for 64; for more elements it is no shorter
  pub fits : (n : ℕ) → n ≤ most_elements → n ≤ size_for n
  pub tight : (n : ℕ) → (size_for n ≡ 64) ⊎ (size_for n < n + n)
  pub grows : (m n : ℕ) → m ≤ n → (rows_for m ≤ rows_for n) × (index_for m ≤ index_for n)
  -- two outcomes that the contract allows are equal, but for what the scratch holds
  pub determined : {edition : Edition} {s out : List ℕ} {rows index : ℕ} {a b : Written} {t u : List ℕ} → LentOutcome edition s out rows index a t
      → LentOutcome edition s out rows index b u → (a ≡ b) × (t ≡ u)
  -- what both editions read alike is answered alike
  pub alike : (s out : List ℕ) (rows index : ℕ) → agree (tree_of s) ≡ true
      → (written_lent Of1993 s out rows index ≡ written_lent Of1988 s out rows index)
      × (written_lent_output Of1993 s out rows index ≡ written_lent_output Of1988 s out rows index)
