-- Wrong programs that the contract of the whole reading rules out, whatever else they do: a line whose text is the one before's, an output that is not
-- written where a unit is empty, and a unit's text under another block. Each is answered a reading with number 0, and does not meet the contract.
use mathlib.Core.Path.{◌≡◌, ap, sym, ◌∙◌}
use mathlib.Core.List.{List, []}
use mathlib.Core.Option.{some}
use Prim.Native.Nat.{ℕ, ◌+◌, ◌*◌}
use lib.ListN.{get_elem?, get_or}
use lib.Seq.{slice}
use Rattle.elements.specs.declared.Edition.{Edition}
use Rattle.elements.specs.Judge.{joined_content}
use Rattle.reading.specs.declared.Match.{Match}
use Rattle.reading.specs.declared.Side.{Side}
use Rattle.answers.specs.declared.TextRead.{TextRead}
use Rattle.answers.specs.Answers.{matches_in}
use Rattle.answers.specs.Text.{TextOutcome}
use Rattle.promises_text.specs.NoStaleText.{ShowsMatch}
use Rattle.promises_text.proofs.NoStaleText.{no-stale-text}

module _ {edition : Edition} {side : Side} {s table lines out : List ℕ} {answer : TextRead} {table_after lines_after out_after : List ℕ}
    (outcome : TextOutcome edition side s table lines out answer table_after lines_after out_after) (zero_number : answer.number ≡ 0) where
  -- line k of the lent lines
  pub shows : (k : ℕ) (m : Match) → get_elem? (matches_in edition side s) k ≡ some m
      → ShowsMatch edition side s ((no-stale-text edition side).shows s table lines out answer table_after lines_after out_after outcome zero_number).elements answer lines_after out_after k m
  shows = ((no-stale-text edition side).shows s table lines out answer table_after lines_after out_after outcome zero_number).each_line

  -- a line whose text is the one before's: two lines with two texts do not show the same octets
  pub not-the-one-before : (j k : ℕ) (m n : Match) (there : get_elem? (matches_in edition side s) j ≡ some m)
      (here : get_elem? (matches_in edition side s) k ≡ some n)
      → (joined_content (shows j m there).is_match.unit.content ≡ joined_content (shows k n here).is_match.unit.content → ⊥)
      → slice (shows j m there).line.first (shows j m there).line.past out_after ≡ slice (shows k n here).line.first
      (shows k n here).line.past out_after → ⊥
  not-the-one-before j k m n there here differ same = differ (sym (shows j m there).text ∙ same ∙ (shows k n here).text)

  -- an output that is not written where a unit is empty: the line of an empty unit shows no octet
  pub nothing-of-an-empty-unit : (k : ℕ) (m : Match) (there : get_elem? (matches_in edition side s) k ≡ some m)
      → joined_content (shows k m there).is_match.unit.content ≡ [] → slice (shows k m there).line.first (shows k m there).line.past out_after ≡ []
  nothing-of-an-empty-unit k m there empty = (shows k m there).text ∙ empty

  -- a unit's text under another block: a line names the element of its own match
  pub under-its-own-block : (k : ℕ) (m : Match) (there : get_elem? (matches_in edition side s) k ≡ some m)
      → get_or (slice (5 * k) (5 * k + 5) lines_after) 0 0 ≡ m.element
  under-its-own-block k m there = ap (λ (l : List ℕ). get_or l 0 0) (shows k m there).stands ∙ (shows k m there).element
