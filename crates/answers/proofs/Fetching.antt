-- The content of an element, case by case: what holds it is a part of the stream or pieces, and both questions are answered by that.
use mathlib.Core.Path.{◌≡◌, refl, ap, sym, ◌∙◌, subst}
use mathlib.Core.Bool.{false}
use mathlib.Core.List.{List, [], ◌∷◌}
use mathlib.Core.Option.{none, some}
use Prim.Native.Nat.{ℕ, zero, suc, ◌+◌, ◌*◌, ◌<◌, ◌≤◌}
use native.Mathlib.Omega.{arith}
use lib.Dec.{eqb}
use lib.ListN.{length, get_or, get_elem?}
use lib.Seq.{length-slice}
use borrow.Author.Tests.{eq-eqb, ne_eqb}
use Rattle.std.specs.Prelude.{Option, Some, None}
use Rattle.octets.specs.Walk.{Items}
use Rattle.runs.specs.declared.Run.{Run}
use Rattle.rows.specs.Rows.{scratch_width}
use Rattle.rows.specs.Columns.{kind_at}
use Rattle.contents.specs.declared.Span.{Span}
use Rattle.contents.specs.Search.{Value, absent, octets}
use Rattle.pieces.proofs.Joined.{joined-fits}
use Rattle.elements.specs.declared.Edition.{Edition}
use Rattle.elements.specs.Judge.{bytes_of, Content, single, joined_content, Element}
use Rattle.elements.specs.Says.{Bounds}
use Rattle.letters.specs.Letter.{letter, refusal, letter_in, rows_in}
use Rattle.letters.specs.declared.Held.{Held}
use Rattle.letters.specs.declared.Held.TheVariants.{Part, Pieces}
use Rattle.letters.specs.Content.{HeldWhole, HeldInPieces}
use Rattle.judging.proofs.Lists.{at-below}
use Rattle.judging.proofs.Rows.{RowOf, row-of, cell_at}
use Rattle.letters.proofs.Fetching.{held-element, part_joined}
use Rattle.reading.specs.Match.{unit_kind}
use Rattle.answers.specs.declared.Found.{Found}
use Rattle.answers.specs.Answers.{Fetched, handed, withheld, fetched_by, part_of, fetched, why_not, located, all_of, joined_in}
use Rattle.answers.proofs.Small.{refusal-small}
use Rattle.answers.proofs.Judging.{Accepting}
use Rattle.answers.specs.Asking.{ContentAt, other_kind, held_there, nowhere, Fetches, FindsContent}

-- past the end of a list there is nothing
nothing-past : {A : Type 0} (xs : List A) (k : ℕ) → length xs ≤ k → get_elem? xs k ≡ none
nothing-past [] k l = refl
nothing-past (x ∷ xs) zero l = absurd (omega arith)
nothing-past (x ∷ xs) (suc k) l = nothing-past xs k (omega arith)

-- a pair that bounds a value lies in the stream
bounded : (s : List ℕ) (pair : Span) (v : Value) → Bounds s pair v → (pair.first ≤ pair.past) × (pair.past ≤ length s)
bounded s pair absent b = rw b (omega arith, omega arith)
bounded s pair (octets bytes) b = (b.placed.order, b.placed.inside)

-- "a 04 being one piece"
pub one_piece : (v : Value) → joined_content (single v) ≡ bytes_of v
one_piece absent = refl
one_piece (octets bytes) = refl

-- why, from where: number and place of both are those of the fetch
pub why-located : (edition : Edition) (s : List ℕ) (asked : ℕ) {told : Found} → told ≡ located edition s asked
    → record { number = told.number; place = told.place } ≡ why_not edition s asked
unfolding located
why-located edition s asked e = ap (λ (t : Found). record { number = t.number; place = t.place }) e

module _ (edition : Edition) (s : List ℕ) (asked : ℕ) where
  -- 1 to 15
  module _ (number place headers : ℕ) (e : letter_in edition s ≡ refusal number place headers) where
    pub fetches-refused : Fetches edition s asked (nowhere number place)
    unfolding fetched located
    fetches-refused =
        let low = (refusal-small edition s number place headers e).low in
        let some_number : eqb number 0 ≡ false = ne_eqb number 0 (λ z. omega arith) in
        record { answered = rw (e, some_number); stands = record { part = rw e; order = omega arith; inside = omega arith } }

    pub joins-refused : joined_in edition s asked ≡ withheld number place
    unfolding joined_in
    joins-refused = rw e

  -- of a text unit, what is wanted of its content
  pub of_unit : {headers : ℕ} {elements : List Element} {unit : Element} → letter_in edition s ≡ letter headers elements → get_elem? elements asked ≡ some unit
      → unit.kind ≡ unit_kind → (wanted : Content → Fetched) → fetched_by wanted (letter_in edition s) asked ≡ wanted unit.content
  of_unit {unit = unit} e there kind wanted = rw (e, there, eq-eqb unit.kind unit_kind kind)

  -- 20, whatever is wanted of the content
  no-unit : ((wanted : Content → Fetched) → fetched_by wanted (letter_in edition s) asked ≡ withheld 20 0) → FindsContent edition s asked None
  unfolding fetched located joined_in
  no-unit e =
      let f : fetched edition s asked ≡ withheld 20 0 = e part_of in
      record {
        fetches = record { answered = rw f; stands = record { part = rw f; order = omega arith; inside = omega arith } };
        joins = e all_of;
        known = tt;
        near_past = omega arith;
        short = omega arith;
      }

  module _ {rows : List ℕ} {count headers : ℕ} (l : Accepting edition s rows count headers) where
    -- 20 ".. or doesn't exist"
    pub finds-missing : count ≤ asked → FindsContent edition s asked None
    finds-missing past =
        let e = l.judged in
        let no_element = nothing-past l.held.elements asked (omega (arith, l.held.holds.counted)) in
        no-unit (λ wanted. rw (e, no_element))

    module _ (element : Element) (there : get_elem? l.held.elements asked ≡ some element) where
      -- 20 "asked element is no text unit"
      finds-other : (element.kind ≡ unit_kind → ⊥) → FindsContent edition s asked None
      finds-other other = let e = l.judged in no-unit (λ wanted. rw (e, there, ne_eqb element.kind unit_kind other))

      finds-part : (row : RowOf s (rows_in edition s) asked element) (first past : ℕ) → element.kind ≡ unit_kind
          → HeldWhole s first past row.row.content element.content → FindsContent edition s asked (Some (Part first past))
      unfolding fetched located joined_in
      finds-part row first past kind h =
          let within = l.within_limit in
          let stands = row.stands in
          let pair = h.fields_are in
          let f : fetched edition s asked ≡ handed (bytes_of h.value) = of_unit l.judged there kind part_of ∙ ap part_of h.content_is in
          let all = part_joined h in
          let part = all ∙ ap joined_content h.content_is ∙ one_piece h.value in
          let (order, inside) = bounded s (record { first = first; past = past }) h.value (subst (λ (v : Span). Bounds s v h.value) pair h.bounds) in
          let size = length-slice first past s inside in
          record {
            fetches = record { answered = rw (f, stands, pair); stands = record { part = part ∙ rw f; order = order; inside = inside } };
            joins = of_unit l.judged there kind all_of ∙ ap handed (sym all);
            known = tt;
            near_past = omega arith;
            short = omega arith;
          }

      finds-pieces : (run : Run) {inside : Items} → element.kind ≡ unit_kind → HeldInPieces s run inside element.content
          → FindsContent edition s asked (Some (Pieces run))
      unfolding fetched located joined_in
      finds-pieces run kind h =
          let within = l.within_limit in
          let size = joined-fits h.fine in
          let f : fetched edition s asked ≡ withheld 21 0 = of_unit l.judged there kind part_of ∙ ap part_of h.content_is in
          record {
            fetches = record { answered = rw f; stands = record { part = rw f; order = omega arith; inside = omega arith } };
            joins = of_unit l.judged there kind all_of ∙ ap all_of h.content_is;
            known = h.fine;
            near_past = omega arith;
            short = omega arith;
          }

    finds-by : (element : Element) → get_elem? l.held.elements asked ≡ some element → (row : RowOf s (rows_in edition s) asked element)
        → kind_at rows asked ≡ element.kind → {found : Option Held} → ContentAt edition s rows asked found → FindsContent edition s asked found
    finds-by element there row kind (other_kind other) = finds-other element there (λ k. other (kind ∙ k))
    finds-by element there row kind (held_there {held = Part first past} is holds) =
        finds-part element there row first past (sym kind ∙ is)
        (held-element holds l.held.elements row.row element l.held.judged row.stands there)
    finds-by element there row kind (held_there {held = Pieces run} is holds) =
        finds-pieces element there run (sym kind ∙ is) (held-element holds l.held.elements row.row element l.held.judged row.stands there)

    -- what was found of it
    pub finds-at : {found : Option Held} → asked < count → ContentAt edition s rows asked found → FindsContent edition s asked found
    finds-at below found =
        let (element, there) = at-below l.held.elements asked (omega (arith, l.held.holds.counted)) in
        let row = row-of l.held.holds.saying asked element there in
        let to : asked * scratch_width ≡ asked * scratch_width + 0 = omega arith in
        let kind : kind_at rows asked ≡ element.kind =
        ap (λ (i : ℕ). get_or rows i 0) to ∙ cell_at l.held.holds asked row.row row.stands 0 (omega arith) ∙ row.says.kind in
        finds-by element there row kind found
