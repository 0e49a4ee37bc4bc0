-- What is known once a stream is walked and judged: what the stream is, and where its rows are.
use mathlib.Core.Path.{◌≡◌, refl, sym, ◌∙◌}
use mathlib.Core.List.{List}
use Prim.Native.Nat.{ℕ, ◌≤◌}
use native.Mathlib.Omega.{arith}
use lib.ListN.{length}
use Rattle.octets.specs.Told.{ended}
use Rattle.octets.specs.Walk.{stream_limit, walk_of}
use Rattle.tree.specs.Tree.{tree_of}
use Rattle.tree.specs.Accepts.{Accepts}
use Rattle.runs.proofs.Laws.{stream-within}
use Rattle.elements.specs.declared.Edition.{Edition}
use Rattle.elements.specs.Judge.{most_elements}
use Rattle.letters.specs.Letter.{items_of_stream, letter, refusal, letter_in}
use Rattle.letters.specs.Lent.{rows_needed}
use Rattle.letters.specs.Scratch.{LetterRows, Stopped}
use Rattle.judging.proofs.Rows.{saying-length}
use Rattle.letters.proofs.Table.{letter-apart}
use Rattle.letters.proofs.Standing.{rows-length}
use Rattle.letters.proofs.Letters.{refused-element, accepted-letter}
use Rattle.answers.proofs.Small.{Small, refusal-small}

-- a stream that the walk passed and an element refused
pub record Refusing (edition : Edition) (s : List ℕ) (number place headers : ℕ) : Type 0 where
  pub judged : letter_in edition s ≡ refusal number place headers
  pub small : Small s number place headers

-- a letter by its rows, once it was walked
pub record Accepting (edition : Edition) (s rows : List ℕ) (count headers : ℕ) : Type 0 where
  pub held : LetterRows edition s rows count
  pub judged : letter_in edition s ≡ letter headers held.elements
  pub few : count ≤ most_elements
  pub needed : count ≤ rows_needed s
  pub within_limit : length s ≤ stream_limit

-- rules 9 to 15 refused it
pub refused-stopped : {edition : Edition} {s : List ℕ} {at headers number place : ℕ} → walk_of s ≡ ended at headers → Stopped edition s number place
    → Refusing edition s number place headers
refused-stopped {edition} {s} {at} {headers} {number} {place} walked stopped =
    let told : letter_in edition s ≡ refusal number place headers =
    refused-element edition s at headers number stopped.element walked stopped.judged ∙ rw (sym stopped.placed) in
    record { judged = told; small = refusal-small edition s number place headers told }

-- none of them did
pub accepted-judged : {edition : Edition} {s rows : List ℕ} {count at headers : ℕ} → walk_of s ≡ ended at headers → LetterRows edition s rows count
    → Accepting edition s rows count headers
accepted-judged {edition} {s} {rows} {count} {at} {headers} walked held =
    let counted = held.holds.counted in
    let few : count ≤ most_elements = omega (arith, (letter-apart held).few, counted) in
    record {
      held = held;
      judged = accepted-letter edition s at headers held.elements walked held.judged;
      few = few;
      needed = omega (arith, few, rows-length edition s (items_of_stream s), saying-length held.holds.saying, counted);
      within_limit = stream-within s at headers walked;
    }

-- a walk that ended accepts the stream with its own tree
pub accepts-walked : {s : List ℕ} {at headers : ℕ} → walk_of s ≡ ended at headers → Accepts s (tree_of s)
accepts-walked {at = at} {headers = headers} w = record { at = at; headers = headers; ended = w; tree = refl }
