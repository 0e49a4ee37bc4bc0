-- What is promised of the document's date: of a letter it is the date in its profile, by the laws of crates dates and calendar; and that depends on
-- the tree alone, which the normal form keeps.
use mathlib.Core.Path.{◌≡◌, refl, ap, ap₂, sym, ◌∙◌, subst}
use mathlib.Core.Logic.{◌↔◌, ◌⊎◌, inl, inr}
use mathlib.Core.Bool.{Bool, true, false, cond, true≢false}
use mathlib.Core.List.{List, [], ◌∷◌, ◌++◌, map}
use Prim.Native.Nat.{ℕ, ◌<◌, ◌≤◌}
use native.Mathlib.Omega.{arith}
use lib.Dec.{eqb}
use lib.ListN.{length}
use lib.Seq.{slice, slice_empty}
use borrow.Author.Tests.{eq-eqb, ne_eqb, eqb-true, eqb-false}
use borrow.Table.Steps.{cases}
use Rattle.laws.proofs.Tests.{cond-holds}
use Rattle.headers.specs.Head.{constructed as is_constructed}
use Rattle.octets.specs.Walk.{Items, no_items, item, stream_limit}
use Rattle.tree.specs.Tree.{Tree, plain, tree_of}
use Rattle.runs.proofs.Laws.{stream-fine}
use Rattle.normal.specs.Normal.{normal_form}
use Rattle.calendar.specs.declared.Day.{Day}
use Rattle.calendar.specs.Calendar.{no_day, names_day, day_at}
use Rattle.calendar.specs.Named.{Names}
use Rattle.calendar.proofs.Named.{names, named}
use Rattle.contents.specs.declared.Span.{Span}
use Rattle.contents.specs.Search.{first_run, items_in, no_span}
use Rattle.contents.proofs.Firsts.{run-here, run-after}
use Rattle.dates.specs.Dates.{Date, DateItem, in_primitive, in_constructed, no_date_by, date_from as dated_value, the_date, dates_in, date_in}
use Rattle.dates.specs.Places.{Place, bounds, no_bounds, zero_at, zeros_at, in_each_at}
use Rattle.dates.specs.Finding.{places_from, read_at}
use Rattle.dates.proofs.Trees.{dates-places}
use Rattle.dates.proofs.Real.{date-is-real, real-is-date, else-empty}
use Rattle.elements.specs.declared.Edition.{Edition}
use Rattle.elements.specs.Judge.{profile_octet}
use Rattle.letters.specs.Letter.{refusal, items_of_stream, letter_in}
use Rattle.letters.proofs.Nested.{Nested}
use Rattle.answers.specs.declared.Reason.{Reason}
use Rattle.answers.specs.Answers.{ruled}
use Rattle.answers.specs.Dates.{DateAnswer, no_date, date_after, profile_in, date_of, date_places, sole_span, date_span, dated_at, dated, Bounds}
use Rattle.answers.specs.Dating.{refused_dated}
use Rattle.letters.proofs.Letters.{letter-found}
use Rattle.answers.proofs.Small.{refusal-small}
use Rattle.answers.proofs.Working.{ruled-letter, ruled-refused, is_letter, is-refused}
use Rattle.answers.proofs.Dating.{refused-told}
use Rattle.promises.specs.Demands.{Answered, IsAccepted}
use Rattle.promises.specs.DocumentDate.{date_items, IsDate, DocumentDate}
use Rattle.promises.proofs.Locating.{stream-nested}
use Rattle.promises.proofs.Demand2.{normal_accepted, normal_tree}

-- ---- 23 and 24, of the items on the path

value-24 : (value : List ℕ) (b : Bool) → names_day value ≡ b → ((dated_value value).number ≡ 24) ↔ ((d : Day) → Names value d → ⊥)
unfolding dated_value
value-24 value true e =
    let z : (dated_value value).number ≡ 0 = rw e in
    (λ p. absurd (omega arith), λ unnamed. absurd (unnamed (day_at value) (names value e)))
value-24 value false e = (λ p d n. true≢false (sym (named value d n).0 ∙ e), λ unnamed. rw e)

value-not-23 : (value : List ℕ) (b : Bool) → names_day value ≡ b → (dated_value value).number ≡ 23 → ⊥
unfolding dated_value
value-not-23 value true e p = let z : (dated_value value).number ≡ 0 = rw e in omega arith
value-not-23 value false e p = let z : (dated_value value).number ≡ 24 = rw e in omega arith

-- a list of two or more, or of a constructed one, is no list of one primitive item
other-first : (value : List ℕ) {one other : DateItem} {more : List DateItem} → one ∷ other ∷ more ≡ in_primitive value ∷ [] → ⊥
other-first value e = let z : ◌≡◌ {A = ℕ} 0 1 = cc in omega arith

other-form : (value : List ℕ) → in_constructed ∷ [] ≡ in_primitive value ∷ [] → ⊥
other-form value e = let z : ◌≡◌ {A = ℕ} 0 1 = cc in omega arith

none-there : (value : List ℕ) → ◌≡◌ {A = List DateItem} [] (in_primitive value ∷ []) → ⊥
none-there value e = let z : ◌≡◌ {A = ℕ} 0 1 = cc in omega arith

abbrev NotOne : List DateItem → Type 0
NotOne items = (value : List ℕ) → items ≡ in_primitive value ∷ [] → ⊥

items-23 : (items : List DateItem) → ((the_date items).number ≡ 23) ↔ NotOne items
unfolding the_date
items-23 [] = (λ _ value e. none-there value e, λ _. refl)
items-23 (in_primitive value ∷ []) = (λ p _ _. value-not-23 value (names_day value) refl p, λ other. absurd (other value refl))
items-23 (in_constructed ∷ []) = (λ _ value e. other-form value e, λ _. refl)
items-23 (one ∷ other ∷ more) = (λ _ value e. other-first value e, λ _. refl)

abbrev Unnamed : List DateItem → Type 0
Unnamed items = (value : List ℕ) × (items ≡ in_primitive value ∷ []) × ((d : Day) → Names value d → ⊥)

items-24 : (items : List DateItem) → ((the_date items).number ≡ 24) ↔ Unnamed items
unfolding the_date
items-24 [] = (λ p. absurd (omega arith), λ u. absurd (none-there u.0 u.1))
items-24 (in_primitive value ∷ []) = (
  λ p. (value, refl, (value-24 value (names_day value) refl).0 p),
  λ u. let p : in_primitive value ∷ [] ≡ in_primitive u.0 ∷ [] = u.1 in let e : value ≡ u.0 = cc in (value-24 value (names_day value) refl).1
      (subst (λ (v : List ℕ). (d : Day) → Names v d → ⊥) (sym e) u.2),
)
items-24 (in_constructed ∷ []) = (λ p. absurd (omega arith), λ u. absurd (other-form u.0 u.1))
items-24 (one ∷ other ∷ more) = (λ p. absurd (omega arith), λ u. absurd (other-first u.0 u.1))

-- ---- whatever the rules say, and whatever the tree of the profile

-- the date that is given where the rules refuse nothing
abbrev pub answer_by : Date → DateAnswer
answer_by date = record { number = date.number; place = 0; part = date.value; day = date.day }

pub date-by : (r : Reason) → r.number ≡ 0 → (date : Date) → date_after r date ≡ answer_by date
date-by r zero date = rw (eq-eqb r.number 0 zero)

-- an answer with nothing but a number and a place
abbrev Empty : DateAnswer → Type 0
Empty x = x ≡ no_date (record { number = x.number; place = x.place })

empty-date : (date : Date) → (date ≡ no_date_by 23) ⊎ (date ≡ no_date_by 24) → Empty (answer_by date)
empty-date date (inl e) = rw e
empty-date date (inr e) = rw e

pub after-empty : (r : Reason) (t : Tree) → ((date_after r (date_in t)).number ≡ 0 → ⊥) → Empty (date_after r (date_in t))
after-empty r t some =
    cases (eqb r.number 0)
    (λ z.
    let e = date-by r (eqb-true r.number 0 z) (date_in t) in
    subst Empty (sym e) (empty-date (date_in t) (else-empty t (λ n. some (ap (λ (x : DateAnswer). x.number) e ∙ n)))))
    (λ z. rw z)

-- and its numbers
pub numbers-empty : (x : DateAnswer) (places : List Place) → (x.number ≡ 0 → ⊥) → Empty x
    → dated_at x (date_span x places) ≡ refused_dated x.number x.place
numbers-empty x places some e =
    let d : x.day ≡ no_day = ap (λ (y : DateAnswer). y.day) e in
    rw (ne_eqb x.number 0 some, d)

-- the number is the rules', or 0, 23 or 24 with place 0
pub data Given (r : Reason) (x : DateAnswer) : Type 0 where
  by_rules : (r.number ≡ 0 → ⊥) → x.number ≡ r.number → x.place ≡ r.place → Given r x
  a_date : x.number ≡ 0 → x.place ≡ 0 → Given r x
  no_one : x.number ≡ 23 → x.place ≡ 0 → Given r x
  no-day : x.number ≡ 24 → x.place ≡ 0 → Given r x

given-date : (r : Reason) (date : Date) → (date ≡ no_date_by 23) ⊎ (date ≡ no_date_by 24) → Given r (answer_by date)
given-date r date (inl e) = no_one (ap (λ (x : Date). x.number) e) refl
given-date r date (inr e) = no-day (ap (λ (x : Date). x.number) e) refl

pub after-given : (r : Reason) (t : Tree) → Given r (date_after r (date_in t))
after-given r t =
    cases (eqb r.number 0)
    (λ z.
    let e = date-by r (eqb-true r.number 0 z) (date_in t) in
    subst (Given r) (sym e)
    (cases (eqb (date_in t).number 0)
    (λ y. a_date (eqb-true (date_in t).number 0 y) refl)
    (λ y. given-date r (date_in t) (else-empty t (eqb-false (date_in t).number 0 y)))))
    (λ z. by_rules (eqb-false r.number 0 z) (rw z) (rw z))

-- ---- of a letter

module _ (edition : Edition) (s : List ℕ) where
  letter-date : IsAccepted edition s → date_of edition s ≡ answer_by (date_in (profile_in (tree_of s)))
  unfolding date_of
  letter-date a =
      let r = ruled-letter edition s a.judged in
      date-by (ruled edition s) (ap (λ (x : Reason). x.number) r) (date_in (profile_in (tree_of s)))

  module _ (a : IsAccepted edition s) where
    shown-is : (value : List ℕ) (d : Day) → date_of edition s ≡ record { number = 0; place = 0; part = value; day = d } → IsDate s value d
    shown-is value d e =
        let t = profile_in (tree_of s) in
        let p : answer_by (date_in t) ≡ record { number = 0; place = 0; part = value; day = d } = sym (letter-date a) ∙ e in
        let n : (date_in t).number ≡ 0 = ap (λ (x : DateAnswer). x.number) p in
        let v : (date_in t).value ≡ value = ap (λ (x : DateAnswer). x.part) p in
        let y : (date_in t).day ≡ d = ap (λ (x : DateAnswer). x.day) p in
        let g = date-is-real t n in
        record {
          only = g.item ∙ ap (λ (x : List ℕ). in_primitive x ∷ []) v;
          names = subst (λ (x : Day). Names value x) y (subst (λ (x : List ℕ). Names x (date_in t).day) v g.names_it);
        }

    shown-if : (value : List ℕ) (d : Day) → IsDate s value d → date_of edition s ≡ record { number = 0; place = 0; part = value; day = d }
    shown-if value d i = letter-date a ∙ ap answer_by (real-is-date (profile_in (tree_of s)) value d i.only i.names)

    number_is : (date_of edition s).number ≡ (the_date (date_items s)).number
    number_is = ap (λ (x : DateAnswer). x.number) (letter-date a)

    none_23 : ((date_of edition s).number ≡ 23) ↔ NotOne (date_items s)
    none_23 = let i = items-23 (date_items s) in (λ p. i.0 (sym number_is ∙ p), λ n. number_is ∙ i.1 n)

    none_24 : ((date_of edition s).number ≡ 24) ↔ Unnamed (date_items s)
    none_24 = let i = items-24 (date_items s) in (λ p. i.0 (sym number_is ∙ p), λ u. number_is ∙ i.1 u)

-- ---- where it stands

-- the items of the profile, with their places, stand for its tree
pub run-items : (octet : ℕ) (s : List ℕ) → is_constructed octet ≡ true → (i : Items) → first_run octet (plain s i) ≡ plain s (items_in octet i)
unfolding first_run items_in
run-items octet s k no_items = refl
run-items octet s k (item at type first past inside after) =
    cases (eqb type octet)
    (λ e.
    let same = eqb-true type octet e in
    let form : is_constructed type ≡ true = ap is_constructed same ∙ k in
    rw e (run-here octet type (slice first past s) (plain s inside) (plain s after) (is_constructed type) form same))
    (λ e.
    rw e (run-after octet type (slice first past s) (plain s inside) (plain s after) (is_constructed type) (eqb-false type octet e) ∙ run-items octet s k after))

-- the places on the path lie where the values of the items do
abbrev PlaceIn : (to : ℕ) → Place → Type 0
PlaceIn to (bounds first past) = (first ≤ past) × (past ≤ to)
PlaceIn to no_bounds = Unit {0}

abbrev AllIn : (to : ℕ) → List Place → Type 0
AllIn to [] = Unit {0}
AllIn to (p ∷ ps) = PlaceIn to p × AllIn to ps

both-in : (to : ℕ) (ps qs : List Place) → AllIn to ps → AllIn to qs → AllIn to (ps ++ qs)
both-in to [] qs a b = b
both-in to (p ∷ ps) qs a b = (a.0, both-in to ps qs a.1 b)

module _ (from to : ℕ) where
  zero_in : (octet first past : ℕ) → first ≤ past → past ≤ to → AllIn to (zero_at octet first past)
  zero_in octet first past order inside =
      cond-holds (AllIn to) (eqb octet 0x80) (λ _. ((order, inside), tt)) (λ _. cond-holds (AllIn to) (eqb octet 0xA0) (λ _. (tt, tt)) (λ _. tt))

  zeros-in : (i : Items) → Nested from to i → AllIn to (zeros_at i)
  unfolding zeros_at
  zeros-in no_items w = tt
  zeros-in (item at octet first past inside after) w =
      both-in to (zero_at octet first past) (zeros_at after) (zero_in octet first past w.1 w.2) (zeros-in after w.4)

  each_in : (octet : ℕ) (list : Items → List Place) → ((i : Items) → Nested from to i → AllIn to (list i)) → (i : Items) → Nested from to i
      → AllIn to (in_each_at octet list i)
  unfolding in_each_at
  each_in octet list all no_items w = tt
  each_in octet list all (item at type first past inside after) w =
      both-in to (cond (eqb type octet) (list inside) []) (in_each_at octet list after)
      (cond-holds (AllIn to) (eqb type octet) (λ _. all inside w.3) (λ _. tt)) (each_in octet list all after w.4)

  path-in : (i : Items) → Nested from to i → AllIn to (in_each_at 0xA3 (in_each_at 0xA0 zeros_at) i)
  path-in = each_in 0xA3 (in_each_at 0xA0 zeros_at) (each_in 0xA0 zeros_at zeros-in)

  dates-in : (i : Items) → Nested from to i → AllIn to (date_places i)
  unfolding items_in
  dates-in no_items w = path-in no_items w
  dates-in (item at type first past inside after) w =
      cases (eqb type profile_octet) (λ t. rw t (path-in inside w.3)) (λ t. rw t (dates-in after w.4))

sole-in : (to : ℕ) (places : List Place) → AllIn to places → ((sole_span places).first ≤ (sole_span places).past) × ((sole_span places).past ≤ to)
sole-in to [] a = (omega arith, omega arith)
sole-in to (bounds first past ∷ []) a = a.0
sole-in to (no_bounds ∷ []) a = (omega arith, omega arith)
sole-in to (one ∷ other ∷ more) a = (omega arith, omega arith)

-- one primitive item is one place, and its value stands there
sole-place : (s value : List ℕ) (places : List Place) → map (read_at s) places ≡ in_primitive value ∷ []
    → (places ≡ bounds (sole_span places).first (sole_span places).past ∷ []) × (slice (sole_span places).first (sole_span places).past s ≡ value)
sole-place s value [] e = absurd (none-there value e)
sole-place s value (bounds first past ∷ []) e = let v : slice first past s ≡ value = cc in (refl, v)
sole-place s value (no_bounds ∷ []) e = absurd (other-form value e)
sole-place s value (one ∷ other ∷ more) e = absurd (other-first value e)

-- whatever some elements of a stream are, and whatever the rules say of them
module _ (s : List ℕ) (elements : Items) (r : Reason) where
  abbrev answer : DateAnswer
  answer = date_after r (date_in (profile_in (plain s elements)))

  abbrev span : Span
  span = date_span answer (date_places elements)

  -- there is no date where the rules refuse
  rules-pass : answer.number ≡ 0 → r.number ≡ 0
  rules-pass zero =
      cases (eqb r.number 0)
      (λ t. eqb-true r.number 0 t)
      (λ t. let e : answer.number ≡ r.number = rw t in sym e ∙ zero)

  span-is : answer.number ≡ 0 → span ≡ sole_span (date_places elements)
  span-is zero = rw (eq-eqb answer.number 0 zero)

  pub sole-stands : answer.number ≡ 0 → (date_places elements ≡ bounds span.first span.past ∷ []) × (slice span.first span.past s ≡ answer.part)
  unfolding in_each_at places_from
  sole-stands zero =
      let t = profile_in (plain s elements) in
      let by = date-by r (rules-pass zero) (date_in t) in
      let n : (date_in t).number ≡ 0 = sym (ap (λ (x : DateAnswer). x.number) by) ∙ zero in
      let v : answer.part ≡ (date_in t).value = ap (λ (x : DateAnswer). x.part) by in
      let places = date_places elements in
      let read : map (read_at s) places ≡ in_primitive (date_in t).value ∷ [] =
      dates-places s (items_in profile_octet elements) ∙ ap dates_in (sym (run-items profile_octet s refl elements)) ∙ (date-is-real t n).item in
      let p = sole-place s (date_in t).value places read in
      let f : span.first ≡ (sole_span places).first = ap (λ (x : Span). x.first) (span-is zero) in
      let l : span.past ≡ (sole_span places).past = ap (λ (x : Span). x.past) (span-is zero) in
      (p.0 ∙ ap₂ (λ (x y : ℕ). bounds x y ∷ []) (sym f) (sym l), ap₂ (λ (x y : ℕ). slice x y s) f l ∙ p.1 ∙ sym v)

  -- if their values lie in the stream, so do the bounds
  pub bounds-stand : (r.number ≡ 0 → (to : ℕ) × (to ≤ length s) × Nested 0 to elements) → Bounds s answer.part span.first span.past
  bounds-stand nested =
      cases (eqb answer.number 0)
      (λ t.
      let zero = eqb-true answer.number 0 t in
      let (to, within, values) = nested (rules-pass zero) in
      let places = date_places elements in
      let (order, inside) = sole-in to places (dates-in 0 to elements values) in
      let f : span.first ≡ (sole_span places).first = ap (λ (x : Span). x.first) (span-is zero) in
      let l : span.past ≡ (sole_span places).past = ap (λ (x : Span). x.past) (span-is zero) in
      record { part = (sole-stands zero).1; order = omega (arith, f, l); inside = omega (arith, l) })
      (λ t.
      let nothing : answer.part ≡ [] = ap (λ (x : DateAnswer). x.part) (after-empty r (profile_in (plain s elements)) (eqb-false answer.number 0 t)) in
      let nowhere : span ≡ no_span = rw t in
      let f : span.first ≡ 0 = ap (λ (x : Span). x.first) nowhere in
      let l : span.past ≡ 0 = ap (λ (x : Span). x.past) nowhere in
      record { part = ap₂ (λ (x y : ℕ). slice x y s) f l ∙ slice_empty 0 s ∙ sym nothing; order = omega (arith, f, l); inside = omega (arith, l) })

module _ (edition : Edition) (s : List ℕ) where
  stands-there : (date_of edition s).number ≡ 0 → (date_places (items_of_stream s) ≡ bounds (dated edition s).first (dated edition s).past ∷ [])
      × (slice (dated edition s).first (dated edition s).past s ≡ (date_of edition s).part)
  unfolding date_of dated
  stands-there zero = sole-stands s (items_of_stream s) (ruled edition s) zero

  stands : Bounds s (date_of edition s).part (dated edition s).first (dated edition s).past
  unfolding date_of dated
  stands =
      bounds-stand s (items_of_stream s) (ruled edition s) (λ zero.
      let l = is_letter edition s zero in
      let f = letter-found edition s l.headers l.elements l.judged in
      (length s, omega arith, stream-nested s (stream-fine s f.at l.headers f.walked)))

  -- the normal form has the same tree
  normal : IsAccepted edition s → length (normal_form s) ≤ stream_limit → date_of edition (normal_form s) ≡ date_of edition s
  normal a within =
      let again : IsAccepted edition (normal_form s) =
      record { headers = a.headers; elements = a.elements; judged = normal_accepted edition s a.headers a.elements a.judged within } in
      let same = normal_tree edition s a.headers a.elements a.judged in
      letter-date edition (normal_form s) again
      ∙ ap (λ (t : Tree). answer_by (date_in (profile_in t))) same
      ∙ sym (letter-date edition s a)

  -- ---- of any stream

  refused_alike : (number place headers : ℕ) → letter_in edition s ≡ refusal number place headers → dated edition s ≡ refused_dated number place
  unfolding date_of dated
  refused_alike number place headers e =
      let some : (number ≡ 0 → ⊥) = λ z. omega (arith, (refusal-small edition s number place headers e).low) in
      sym (refused-told s (items_of_stream s) (ruled edition s) number place (ruled-refused edition s e) some).answered

  refused_empty : ((dated edition s).number ≡ 0 → ⊥)
      → ((date_of edition s).part ≡ []) × (dated edition s ≡ refused_dated (dated edition s).number (dated edition s).place)
  unfolding date_of dated
  refused_empty some =
      let x = date_of edition s in
      let e = after-empty (ruled edition s) (profile_in (tree_of s)) some in
      (ap (λ (y : DateAnswer). y.part) e, numbers-empty x (date_places (items_of_stream s)) some e)

  -- a number of 1 to 15 is not 0, nor past 15
  no_start : (number : ℕ) → 1 ≤ number → number ≤ 15 → (number ≡ 0) ⊎ (15 < number) → ⊥
  no_start number low high (inl z) = omega arith
  no_start number low high (inr l) = omega arith

  told-by : {x : DateAnswer} → Given (ruled edition s) x → Answered s (23 ∷ 24 ∷ []) x.number x.place
  told-by {x} (by_rules some n p) =
      let r = is-refused edition s some in
      let k = refusal-small edition s (ruled edition s).number (ruled edition s).place r.headers r.judged in
      record {
        one_of = inl (omega (arith, k.high));
        inside = omega (arith, k.inside);
        at_start = λ h. absurd (no_start (ruled edition s).number k.low k.high (subst (λ (y : ℕ). (y ≡ 0) ⊎ (15 < y)) n h));
      }
  told-by (a_date n p) = record { one_of = inl (omega arith); inside = omega arith; at_start = λ _. p }
  told-by (no_one n p) = record { one_of = inr (rw n); inside = omega arith; at_start = λ _. p }
  told-by (no-day n p) = record { one_of = inr (rw n); inside = omega arith; at_start = λ _. p }

  told : Answered s (23 ∷ 24 ∷ []) (dated edition s).number (dated edition s).place
  unfolding date_of dated
  told = told-by (after-given (ruled edition s) (profile_in (tree_of s)))

pub document-date : (edition : Edition) → DocumentDate edition
document-date edition =
    record {
      told = told edition;
      refused_empty = refused_empty edition;
      stands = stands edition;
      refused_alike = refused_alike edition;
      of_letter = λ s a. record {
        shown = λ value d. (shown-is edition s a value d, shown-if edition s a value d);
        none_23 = none_23 edition s a;
        none_24 = none_24 edition s a;
        stands = stands-there edition s;
        normal = normal edition s a;
      };
    }
