-- What each question's work leaves, from what its answer says, and what any question is told of a stream that the walk refuses.
use mathlib.Core.Path.{◌≡◌, refl, ap, sym, ◌∙◌, subst}
use mathlib.Core.List.{List}
use Prim.Native.Nat.{ℕ}
use lib.ListN.{length}
use native.Mathlib.Omega.{arith}
use Rattle.elements.specs.declared.Edition.{Edition}
use Rattle.elements.specs.Judge.{Element}
use Rattle.letters.specs.Letter.{Letter, letter, refusal, letter_in}
use Rattle.reading.specs.declared.Side.{Side}
use Rattle.order.specs.declared.Class.{Class}
use Rattle.order.specs.declared.Ordered.{Ordered}
use Rattle.order.specs.Question.{OrderIs}
use Rattle.order.specs.Computed.{order_in}
use Rattle.order.proofs.Letters.{computed-is}
use Rattle.answers.proofs.Refusing.{ordered-refused}
use Rattle.answers.specs.declared.Checked.{Checked}
use Rattle.answers.specs.declared.Listed.{Listed}
use Rattle.answers.specs.declared.Reason.{Reason}
use Rattle.answers.specs.declared.Found.{Found}
use Rattle.answers.specs.declared.Copied.{Copied}
use Rattle.answers.specs.declared.Related.{Related}
use Rattle.answers.specs.declared.TextRead.{TextRead}
use Rattle.answers.specs.declared.Sourced.{Sourced}
use Rattle.answers.specs.declared.Told.{Told}
use Rattle.answers.specs.declared.Question.{Question}
use Rattle.answers.specs.declared.Question.TheVariants.{Rules, Check, Content, Joined, List as Reading, Children, Order, Text, Sources}
use Rattle.answers.specs.Answers.{ruled_by, ruled, CheckOutcome, JoinedOutcome}
use Rattle.answers.specs.Asking.{ListsFlat, Fetches}
use Rattle.answers.specs.Related.{ChildrenOutcome, related_list, related}
use Rattle.answers.specs.Filling.{Relates}
use Rattle.answers.specs.Questions.{reason_told, check_told, located_told, copied_told, listed_told, related_told, ordered_told, check_of, located_of, copied_of}
use Rattle.answers.specs.Questions.{listed_of, related_of, ordered_of, refused_told, Leaves}
use Rattle.answers.specs.Questions.{told_with, text_told, text_read_of, sourced_told, sourced_of}
use Rattle.answers.specs.TextSteps.{TextsFlat}
use Rattle.answers.specs.Sources.{SourcesOutcome}
use Rattle.answers.proofs.Small.{refusal-small}
use Rattle.answers.proofs.Checks.{checks-refused}
use Rattle.answers.proofs.Fetching.{fetches-refused, joins-refused}
use Rattle.answers.proofs.Copying.{joins-none}
use Rattle.answers.proofs.Listing.{lists-refused}
use Rattle.answers.proofs.Relating.{relates-refused}
use Rattle.answers.proofs.TextSteps.{text-ruled}
use Rattle.answers.proofs.Sources.{sources-refused}

-- a stream that is refused by one of rules 1 to 15
pub ruled-refused : (edition : Edition) (s : List ℕ) {number place headers : ℕ} → letter_in edition s ≡ refusal number place headers
    → ruled edition s ≡ record { number = number; place = place }
unfolding ruled
ruled-refused edition s e = rw e

-- a letter
pub ruled-letter : (edition : Edition) (s : List ℕ) {headers : ℕ} {elements : List Element} → letter_in edition s ≡ letter headers elements
    → ruled edition s ≡ record { number = 0; place = 0 }
unfolding ruled
ruled-letter edition s e = rw e

-- a stream is accepted by rules 1 to 15
pub record IsLetter (edition : Edition) (s : List ℕ) : Type 0 where
  pub headers : ℕ
  pub elements : List Element
  pub judged : letter_in edition s ≡ letter headers elements

-- a stream is refused by one of them
pub record IsRefused (edition : Edition) (s : List ℕ) (number place : ℕ) : Type 0 where
  pub headers : ℕ
  pub judged : letter_in edition s ≡ refusal number place headers

module _ (edition : Edition) (s : List ℕ) where
  letter-if : (l : Letter) → letter_in edition s ≡ l → (ruled_by l).number ≡ 0 → IsLetter edition s
  letter-if (letter headers elements) e zero = record { headers = headers; elements = elements; judged = e }
  letter-if (refusal number place headers) e zero = absurd (omega (arith, (refusal-small edition s number place headers e).low))

  refused-if : (l : Letter) → letter_in edition s ≡ l → ((ruled_by l).number ≡ 0 → ⊥) → IsRefused edition s (ruled_by l).number (ruled_by l).place
  refused-if (letter headers elements) e some = absurd (some refl)
  refused-if (refusal number place headers) e some = record { headers = headers; judged = e }

  -- what the number tells
  pub is_letter : (ruled edition s).number ≡ 0 → IsLetter edition s
  unfolding ruled
  is_letter zero = letter-if (letter_in edition s) refl zero

  pub is-refused : ((ruled edition s).number ≡ 0 → ⊥) → IsRefused edition s (ruled edition s).number (ruled edition s).place
  unfolding ruled
  is-refused some = refused-if (letter_in edition s) refl some

-- a question that is known, and what it is told, by other names
pub as-asked : {edition : Edition} {question known : Question} {s table flat out : List ℕ} {told same : Told} {table_after flat_after out_after : List ℕ}
    → question ≡ known
    → told ≡ same → Leaves edition known s table flat out same table_after flat_after out_after → Leaves edition question s table flat out told table_after flat_after out_after
as-asked {edition = edition} {known = known} {s = s} {table = table} {flat = flat} {out = out} {told = told} {table_after = table_after} {flat_after = flat_after} {out_after = out_after} q t l =
    subst (λ (x : Question). Leaves edition x s table flat out told table_after flat_after out_after) (sym q)
    (subst (λ (x : Told). Leaves edition known s table flat out x table_after flat_after out_after) (sym t) l)

pub refused_as : {question known : Question} {told : Told} (number place headers : ℕ) → question ≡ known → told ≡ refused_told known number place headers
    → told ≡ refused_told question number place headers
refused_as number place headers q t = t ∙ ap (λ (x : Question). refused_told x number place headers) (sym q)

-- and of any question but the check number and place alone
pub refused-other : (question : Question) → (question ≡ Check → ⊥) → (number place headers : ℕ) → refused_told question number place headers
    ≡ told_with number place 0 0 0
refused-other Rules other number place headers = refl
refused-other Check other number place headers = absurd (other refl)
refused-other (Content element) other number place headers = refl
refused-other (Joined element) other number place headers = refl
refused-other (Reading side room) other number place headers = refl
refused-other (Children row room) other number place headers = refl
refused-other (Order class) other number place headers = refl
refused-other (Text side room) other number place headers = refl
refused-other (Sources side) other number place headers = refl

module _ (edition : Edition) (s table flat out : List ℕ) where
  pub leaves-rules : {r : Reason} → r ≡ ruled edition s → Leaves edition Rules s table flat out (reason_told r) table flat out
  leaves-rules e = record { answered = ap reason_told e; tabled = refl; put = refl; beside = tt }

  pub leaves-check : {r : Checked} {after : List ℕ} → CheckOutcome edition s table r after → Leaves edition Check s table flat out (check_told r) after flat out
  leaves-check e = record { answered = ap check_told e.answered; tabled = e.tabled; put = refl; beside = tt }

  pub leaves-content : {element : ℕ} {r : Found} → Fetches edition s element r → Leaves edition (Content element) s table flat out
      (located_told r) table flat out
  leaves-content e = record { answered = ap located_told e.answered; tabled = refl; put = refl; beside = e.stands }

  pub leaves-joined : {element : ℕ} {r : Copied} {after : List ℕ} → JoinedOutcome edition s element out r after
      → Leaves edition (Joined element) s table flat out (copied_told r) table flat after
  leaves-joined e = record { answered = ap copied_told e.answered; tabled = refl; put = e.put; beside = tt }

  pub leaves-list : {side : Side} {room : ℕ} {r : Listed} {after flat_after : List ℕ} → ListsFlat edition side s table room r after flat_after
      → Leaves edition (Reading side room) s table flat out (listed_told r) after flat_after out
  leaves-list e = record {
    answered = ap listed_told e.answered;
    tabled = e.tabled;
    put = refl;
    beside = record { stored = e.stored; fits = e.fits; enough = e.enough };
  }

  pub leaves-children : {row room : ℕ} {r : Related} {after flat_after : List ℕ} → Relates edition s table row room flat r after flat_after
      → Leaves edition (Children row room) s table flat out (related_told r) after flat_after out
  leaves-children e = record { answered = ap related_told e.answered; tabled = e.tabled; put = refl; beside = e.filled }

  pub leaves-order : {class : Class} {r : Ordered} → r ≡ order_in edition class s → Leaves edition (Order class) s table flat out (ordered_told r) table flat out
  leaves-order e = record { answered = ap ordered_told e; tabled = refl; put = refl; beside = tt }

  pub leaves-text : {side : Side} {room : ℕ} {r : TextRead} {after flat_after out_after : List ℕ} → TextsFlat edition side s table room out r after flat_after out_after
      → Leaves edition (Text side room) s table flat out (text_told r) after flat_after out_after
  leaves-text e = record { answered = ap text_told e.answered; tabled = e.tabled; put = e.put; beside = e.lined }

  pub leaves-sources : {side : Side} {r : Sourced} {after flat_after : List ℕ} → SourcesOutcome edition side s table r after
      → Leaves edition (Sources side) s table flat out (sourced_told r) after flat_after out
  leaves-sources e = record { answered = ap sourced_told e.answered; tabled = e.filled; put = refl; beside = tt }

  -- whatever is asked, nothing that was lent is touched
  pub leaves-refused : (question : Question) (number place headers : ℕ) → letter_in edition s ≡ refusal number place headers
      → Leaves edition question s table flat out (refused_told question number place headers) table flat out
  leaves-refused Rules number place headers e = let r = ruled-refused edition s e in record { answered = rw r; tabled = refl; put = refl; beside = tt }
  leaves-refused Check number place headers e = leaves-check (checks-refused edition s table number place headers e)
  leaves-refused (Content element) number place headers e = leaves-content (fetches-refused edition s element number place headers e)
  leaves-refused (Joined element) number place headers e =
      let low = (refusal-small edition s number place headers e).low in
      leaves-joined (joins-none edition s element out number place (λ z. omega arith) (joins-refused edition s element number place headers e))
  leaves-refused (Reading side room) number place headers e = leaves-list (lists-refused edition side s table flat room number place headers e)
  leaves-refused (Children row room) number place headers e = leaves-children (relates-refused edition s table row room flat number place headers e)
  leaves-refused (Order class) number place headers e = leaves-order (sym (ordered-refused edition class s number place headers e))
  leaves-refused (Text side room) number place headers e = leaves-text (text-ruled edition side s table flat room out number place headers e)
  leaves-refused (Sources side) number place headers e = leaves-sources (sources-refused edition side s table number place headers e)

-- what each question answers, from what its work left
module _ {edition : Edition} {s table flat out : List ℕ} {told : Told} {table_after flat_after out_after : List ℕ} where
  pub check-left : Leaves edition Check s table flat out told table_after flat_after out_after → CheckOutcome edition s table (check_of told) table_after
  check-left l = record { answered = ap check_of l.answered; tabled = l.tabled }

  pub content-left : {element : ℕ} → Leaves edition (Content element) s table flat out told table_after flat_after out_after → Fetches edition s element
      (located_of told)
  content-left l = record { answered = ap located_of l.answered; stands = l.beside }

  pub joined-left : {element : ℕ} → Leaves edition (Joined element) s table flat out told table_after flat_after out_after → JoinedOutcome edition s element out (copied_of told) out_after
  joined-left l = record { answered = ap copied_of l.answered; put = l.put }

  pub lists-told : {side : Side} {room : ℕ} {answer : Listed} → answer ≡ listed_of told → Leaves edition
      (Reading side room) s table flat out told table_after flat_after out_after
      → ListsFlat edition side s table room answer table_after flat_after
  lists-told {side} {room} e l =
      let b = l.beside in
      subst (λ (r : Listed). ListsFlat edition side s table room r table_after flat_after) (sym e)
      (record { answered = ap listed_of l.answered; tabled = l.tabled; stored = b.stored; fits = b.fits; enough = b.enough })

  pub order-left : {class : Class} → Leaves edition (Order class) s table flat out told table_after flat_after out_after → OrderIs edition class s (ordered_of told)
  order-left {class} l = subst (OrderIs edition class s) (sym (ap ordered_of l.answered)) (computed-is edition class s)

  pub children-left : {row : ℕ} → Leaves edition (Children row (length flat)) s table flat out told table_after flat_after out_after
      → ChildrenOutcome edition s table row flat (related_of told) table_after flat_after
  unfolding related_list
  children-left {row} l =
      let told_is : told.number ≡ (related edition s table row (length flat)).number = ap (λ (t : Told). t.number) l.answered in
      record { answered = ap related_of l.answered; tabled = l.tabled; filled = l.beside ∙ rw told_is }

  pub text-told : {side : Side} {room : ℕ} {answer : TextRead} → answer ≡ text_read_of told → Leaves edition
      (Text side room) s table flat out told table_after flat_after out_after
      → TextsFlat edition side s table room out answer table_after flat_after out_after
  text-told {side} {room} e l =
      subst (λ (r : TextRead). TextsFlat edition side s table room out r table_after flat_after out_after) (sym e)
      (record { answered = ap text_read_of l.answered; tabled = l.tabled; put = l.put; lined = l.beside })

  pub sources-told : {side : Side} {answer : Sourced} → answer ≡ sourced_of told → Leaves edition (Sources side) s table flat out told table_after flat_after out_after
      → SourcesOutcome edition side s table answer table_after
  sources-told {side} e l =
      subst (λ (r : Sourced). SourcesOutcome edition side s table r table_after) (sym e) (record { answered = ap sourced_of l.answered; filled = l.tabled })
