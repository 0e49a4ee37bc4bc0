-- The date of a letter: its first element is the profile, so the date in the run that is met there is the letter's. What is found in a first
-- element is told alike of a letter and of that element alone (`Tells`).
use mathlib.Core.Path.{◌≡◌, refl, ap, sym, ◌∙◌}
use mathlib.Core.Bool.{Bool, true, false, cond, not, xor, true≢false}
use mathlib.Core.List.{List, []}
use Prim.Native.Nat.{ℕ, ◌≤◌}
use native.Mathlib.Omega.{arith}
use lib.Dec.{eqb}
use lib.ListN.{length}
use lib.Seq.{slice, slice_empty}
use borrow.Author.Tests.{eqb-true, eq-eqb, ne_eqb}
use borrow.Table.Steps.{cases}
use Rattle.std.specs.Prelude.{Result, Ok, Err}
use Rattle.headers.specs.Head.{constructed, type_field}
use Rattle.octets.specs.Walk.{Items, no_items, item, stream_limit}
use Rattle.tree.specs.Tree.{Tree, empty, formed, plain, tree_of}
use Rattle.runs.specs.declared.Run.{Run}
use Rattle.runs.specs.Runs.{items_of, tree_in, whole_stream, Meeting}
use Rattle.runs.proofs.Laws.{tree-none}
use Rattle.contents.specs.Search.{is, first_run, items_in}
use Rattle.contents.proofs.Firsts.{is_field}
use Rattle.dates.specs.declared.DateFound.{DateFound}
use Rattle.dates.specs.Dates.{date_in}
use Rattle.dates.specs.Finding.{places_from, date_told, Answers}
use Rattle.dates.proofs.Real.{found-small}
use Rattle.elements.specs.declared.Edition.{Edition}
use Rattle.elements.specs.Shape.{shape_of}
use Rattle.elements.specs.Judge.{Element, Judged, accepted, refused, profile_octet, refusal_of, judge_one, judge_from, judge}
use Rattle.letters.specs.Letter.{items_of_stream}
use Rattle.answers.specs.declared.Reason.{Reason}
use Rattle.answers.specs.declared.Dated.{Dated}
use Rattle.answers.specs.Answers.{ruled}
use Rattle.answers.specs.Dates.{DateAnswer, date_after, profile_in, date_of, date_places, sole_span, date_span, dated_at, dated, Bounds}
use Rattle.answers.specs.Dating.{refused_dated, dated_as, Narrow, DateTells}
use Rattle.letters.proofs.Letters.{letter-found}
use Rattle.answers.proofs.Working.{is_letter}

-- ---- the first element of a letter is its profile

-- rules 10 and 11 let a first element pass if it is a profile that is known
pub first-rules : (known profile : Bool) (more : ℕ) → cond (not known) 10 (cond (xor true profile) 11 more) ≡ 0 → (known ≡ true) × (profile ≡ true)
unfolding xor
first-rules true true more e = (refl, refl)
first-rules true false more e = let z : ◌≡◌ {A = ℕ} 11 0 = e in absurd (omega arith)
first-rules false profile more e = let z : ◌≡◌ {A = ℕ} 10 0 = e in absurd (omega arith)

pub first-let : (known profile : Bool) → known ≡ true → profile ≡ true → cond {A = ℕ} (not known) 10 (cond (xor true profile) 11 0) ≡ 0
unfolding xor
first-let known profile k p = rw (k, p)

-- a first element that no rule refuses: it is the profile, and so it is known
pub record FirstPasses (edition : Edition) (type : List ℕ) : Type 0 where
  pub known : is (shape_of edition type).octet type ≡ true
  pub profile : is profile_octet type ≡ true

module _ (edition : Edition) where
  first_passes : (type : List ℕ) (run : Tree) → refusal_of edition [] type run ≡ 0 → FirstPasses edition type
  unfolding refusal_of
  first_passes type run e =
      let p = first-rules (is (shape_of edition type).octet type) (is profile_octet type) _ e in
      record { known = p.0; profile = p.1 }

  one_passes : (type : List ℕ) (run : Tree) (more : List Element → Judged) (elements : List Element)
      → judge_one edition [] type run more ≡ accepted elements → FirstPasses edition type
  unfolding judge_one
  one_passes type run more elements e =
      let n = refusal_of edition [] type run in
      cases (eqb n 0)
      (λ t. first_passes type run (eqb-true n 0 t))
      (λ t. let f : refused n 0 ≡ accepted elements = rw t at e in let z : ◌≡◌ {A = ℕ} 0 1 = cc in absurd (omega arith))

  formed-passes : (b : Bool) (type value : List ℕ) (inside after : Tree) (elements : List Element)
      → judge edition (formed b type value inside after) ≡ accepted elements → FirstPasses edition type
  unfolding judge judge_from
  formed-passes true type value inside after elements e = one_passes type inside (λ more. judge_from edition more after) elements e
  formed-passes false type value inside after elements e = one_passes type empty (λ more. judge_from edition more after) elements e

  empty-fails : (elements : List Element) → judge edition empty ≡ accepted elements → ⊥
  unfolding judge
  empty-fails elements e = let z : ◌≡◌ {A = ℕ} 0 1 = cc in omega arith

  -- a stream that is accepted by rules 1 to 15 is judged so
  judged-as : (s : List ℕ) (zero : (ruled edition s).number ≡ 0) → judge edition (tree_of s) ≡ accepted (is_letter edition s zero).elements
  judged-as s zero = let l = is_letter edition s zero in (letter-found edition s l.headers l.elements l.judged).judged

  -- the first element of a letter passes,
  pub letter-first : (s : List ℕ) → (ruled edition s).number ≡ 0 → {at code first past : ℕ} {inside after : Items}
      → items_of_stream s ≡ item at code first past inside after → FirstPasses edition (type_field code)
  letter-first s zero {code = code} {first} {past} {inside} {after} e =
      formed-passes (constructed code) (type_field code) (slice first past s) (plain s inside) (plain s after) (is_letter edition s zero).elements
      (sym (ap (λ (i : Items). judge edition (plain s i)) e) ∙ judged-as s zero)

  -- so the element that is met first is the profile,
  pub passed-profile : (code : ℕ) → FirstPasses edition (type_field code) → code ≡ profile_octet
  passed-profile code p = eqb-true code profile_octet (sym (is_field profile_octet code) ∙ p.profile)

  pub met-profile : (s : List ℕ) → (ruled edition s).number ≡ 0 → {code first past : ℕ} {inner rest : Run}
      → Meeting s (whole_stream s) code first past inner rest → code ≡ profile_octet
  met-profile s zero {code} m = passed-profile code (letter-first s zero m.tree)

  -- and there is one
  pub met_some : (s : List ℕ) → (ruled edition s).number ≡ 0 → items_of s (whole_stream s) ≡ no_items → ⊥
  met_some s zero e = empty-fails (is_letter edition s zero).elements (sym (ap (judge edition) (tree-none s (whole_stream s) e)) ∙ judged-as s zero)

-- ---- what was found in its run is the answer

-- The answer of some elements of a stream, by what the rules say of them: its numbers, and that they bound its part.
pub record Tells (s : List ℕ) (elements : Items) (ruled : Reason) (told : Dated) : Type 0 where
  pub answered : told ≡ dated_at (date_after ruled (date_in (profile_in (plain s elements))))
      (date_span (date_after ruled (date_in (profile_in (plain s elements)))) (date_places elements))
  pub stands : Bounds s (date_after ruled (date_in (profile_in (plain s elements)))).part told.first told.past

-- what the rules refuse
pub refused-told : (s : List ℕ) (elements : Items) (ruled : Reason) (number place : ℕ) → ruled ≡ record { number = number; place = place }
    → (number ≡ 0 → ⊥) → Tells s elements ruled (refused_dated number place)
refused-told s elements ruled number place e some =
    let n : eqb number 0 ≡ false = ne_eqb number 0 some in
    record {
      answered = rw (e, n, n);
      stands = record { part = rw (e, n) (slice_empty 0 s); order = omega arith; inside = omega arith };
    }

-- the items and the tree of the profile, where it comes first
module _ (s : List ℕ) (inner : Run) {items : Items} {at code first past : ℕ} {after : Items} (p : code ≡ profile_octet)
    (e : items ≡ item at code first past (items_of s inner) after) where
  profile-items : items_in profile_octet items ≡ items_of s inner
  unfolding items_in
  profile-items = ap (items_in profile_octet) e ∙ rw (eq-eqb code profile_octet p)

  first-formed : (b : Bool) (value : List ℕ) (inside more : Tree) → constructed code ≡ b → profile_in (formed b (type_field code) value inside more) ≡ inside
  unfolding first_run
  first-formed true value inside more c = rw (is_field profile_octet code, eq-eqb code profile_octet p)
  first-formed false value inside more c = let z : true ≡ false = sym (ap constructed p) ∙ c in absurd (true≢false z)

  profile-tree : profile_in (plain s items) ≡ tree_in s inner
  profile-tree = ap (λ (i : Items). profile_in (plain s i)) e ∙ first-formed (constructed code) _ (tree_in s inner) (plain s after) refl

  module _ (ruled : Reason) (zero : ruled.number ≡ 0) where
    answer_is : (d : Result DateFound ℕ) → Answers s inner d → date_after ruled (date_in (profile_in (plain s items)))
        ≡ record { number = (date_told s d).number; place = 0; part = (date_told s d).value; day = (date_told s d).day }
    answer_is d a = let is = ap date_in profile-tree ∙ a.date in rw (is, eq-eqb ruled.number 0 zero)

    span-is : (d : DateFound) → Answers s inner (Ok d) → sole_span (date_places items) ≡ record { first = d.first; past = d.past }
    unfolding places_from
    span-is d a = ap sole_span (ap (places_from 2) profile-items ∙ a.placed.place)

    pub found-told : (d : Result DateFound ℕ) → Answers s inner d → Tells s items ruled (dated_as d)
    found-told (Ok d) a =
        let is = answer_is (Ok d) a in
        let span = span-is d a in
        record {
          answered = rw (is, span);
          stands = record { part = sym (ap (λ (x : DateAnswer). x.part) is); order = a.placed.order; inside = a.placed.inside };
        }
    found-told (Err number) a =
        let is = answer_is (Err number) a in
        let some : eqb number 0 ≡ false = ne_eqb number 0 a.placed in
        record {
          answered = rw (is, some);
          stands = record { part = slice_empty 0 s ∙ sym (ap (λ (x : DateAnswer). x.part) is); order = omega arith; inside = omega arith };
        }

-- the numbers of a date that was found fit 32 bits
pub found-narrow : {s : List ℕ} {r : Run} (d : Result DateFound ℕ) → Answers s r d → length s ≤ stream_limit → Narrow d
found-narrow (Ok d) a l =
    let small = found-small a in
    let order = a.placed.order in
    let inside = a.placed.inside in
    record { first = omega arith; past = omega arith; year = small.year; month = small.month; day = small.day }
found-narrow (Err number) a l = let small = found-small a in small.number

module _ (edition : Edition) (s : List ℕ) where
  -- of a letter
  pub date-told : (ruled edition s).number ≡ 0 → {octet first past : ℕ} {inner rest : Run}
      → Meeting s (whole_stream s) octet first past inner rest → {d : Result DateFound ℕ} → Answers s inner d → DateTells edition s (dated_as d)
  unfolding date_of dated
  date-told zero {inner = inner} m {d = d} a =
      let f = found-told s inner (met-profile edition s zero m) m.tree (ruled edition s) zero d a in
      record { answered = f.answered; stands = f.stands }

  -- of a stream that rules 1 to 15 refuse
  pub date-refused : ((ruled edition s).number ≡ 0 → ⊥) → (number place : ℕ) → ruled edition s ≡ record { number = number; place = place }
      → DateTells edition s (refused_dated number place)
  unfolding date_of dated
  date-refused some number place e =
      let not-zero : (number ≡ 0 → ⊥) = λ z. some (ap (λ (r : Reason). r.number) e ∙ z) in
      let f = refused-told s (items_of_stream s) (ruled edition s) number place e not-zero in
      record { answered = f.answered; stands = f.stands }
