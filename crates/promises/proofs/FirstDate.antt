-- What is promised of the date by the first element alone: that element is read alike whatever follows it, by the laws of crate fronts, and the walk of
-- a whole letter begins with it.
use mathlib.Core.Path.{◌≡◌, refl, ap, sym, ◌∙◌, subst}
use mathlib.Core.Bool.{Bool, true, false, cond, not, xor}
use mathlib.Core.List.{List, [], ◌++◌}
use Prim.Native.Nat.{ℕ, zero, suc, ◌<◌, ◌≤◌}
use native.Mathlib.Omega.{arith}
use lib.Dec.{leb, ltb}
use lib.ListN.{length, take, length-append}
use lib.Seq.{take-append-le}
use borrow.Author.Tests.{eq-eqb, le-leb, leb-true, leb-false, le-ltb}
use borrow.Table.Steps.{cases}
use Rattle.laws.proofs.Tests.{cond-holds}
use Rattle.headers.specs.Head.{is_in, constructed, type_field}
use Rattle.octets.specs.Walk.{Items, no_items, item, End, ends, stops, Walked, ended, stream_limit, deepest, run}
use Rattle.octets.proofs.Walks.{run_step}
use Rattle.octets.proofs.RulesHold.{derives}
use Rattle.tree.specs.Tree.{Tree, empty, leaf, branch, plain, tree_of}
use Rattle.runs.proofs.Laws.{stream-fine, stream-within}
use Rattle.contents.specs.Search.{is, items_in}
use Rattle.fronts.specs.First.{walk_first}
use Rattle.fronts.proofs.Alone.{one-front, run-front, one-within, whole-alone, tree-front, OneItem, one-item}
use Rattle.fronts.proofs.Firsts.{first_stops, first-none}
use Rattle.dates.specs.Dates.{date_in}
use Rattle.elements.specs.declared.Edition.{Edition}
use Rattle.elements.specs.Shape.{shape_of}
use Rattle.elements.specs.Judge.{profile_octet, first_of, place_rules}
use Rattle.letters.specs.Letter.{items_of_stream}
use Rattle.letters.proofs.Nested.{Nested, stays}
use Rattle.answers.specs.declared.Reason.{Reason}
use Rattle.answers.specs.declared.FirstDated.{FirstDated}
use Rattle.answers.specs.Answers.{ruled}
use Rattle.answers.specs.Dates.{DateAnswer, date_after, profile_in, date_of, date_places, date_span, dated_at, dated, Bounds}
use Rattle.answers.specs.Dating.{refused_dated}
use Rattle.answers.specs.FirstDates.{first_tree, first_rule, ruled_alone, first_ruled, first_date_of, with_unread, first_dated}
use Rattle.letters.proofs.Letters.{letter-found}
use Rattle.answers.proofs.Working.{ruled-letter}
use Rattle.answers.proofs.Dating.{FirstPasses, first-let, letter-first, passed-profile, met_some}
use Rattle.answers.proofs.FirstDating.{rule-formed}
use Rattle.promises.specs.Demands.{IsAccepted}
use Rattle.promises.specs.FirstDate.{WholeIn, first_numbers_given, FirstDate}
use Rattle.promises.proofs.DocumentDate.{Given, by_rules, a_date, no_one, no-day, after-given, after-empty, numbers-empty, run-items, bounds-stand}

-- ---- what follows the first element does not change it

module _ (edition : Edition) where
  -- the answer, by what was walked, if the stream is no longer than the limit
  abbrev answer_of : Tree → End → Items → FirstDated
  answer_of t how items =
      let x = date_after (ruled_alone edition t how) (date_in (profile_in t)) in with_unread (dated_at x (date_span x (date_places items)))

  answered-by : (s : List ℕ) → length s ≤ stream_limit → first_dated edition s ≡ answer_of (first_tree s) (walk_first s).how (walk_first s).items
  unfolding first_dated first_date_of first_ruled
  answered-by s l = rw (le-ltb stream_limit (length s) l)

  module _ (s other : List ℕ) (w : WholeIn s) (g : take w.next s ≡ take w.next other) (k : w.next ≤ length other) where
    walked_same : walk_first other ≡ walk_first s
    walked_same = one-front deepest s 0 (length s) w.next w.some w.walked other g (length other) k

    tree-same : first_tree other ≡ first_tree s
    tree-same =
        ap (λ (v : Walked). plain other v.items) walked_same
        ∙ sym (tree-front deepest s 0 (length s) w.next w.some w.walked other g)

    front_same : length s ≤ stream_limit → length other ≤ stream_limit → first_dated edition s ≡ first_dated edition other
    front_same l m =
        answered-by s l
        ∙ ap (λ (t : Tree). answer_of t (walk_first s).how (walk_first s).items) (sym tree-same)
        ∙ ap (λ (v : Walked). answer_of (first_tree other) v.how v.items) (sym walked_same)
        ∙ sym (answered-by other m)

  front : (s rest : List ℕ) → WholeIn s → length (s ++ rest) ≤ stream_limit → first_dated edition s ≡ first_dated edition (s ++ rest)
  front s rest w m =
      let n = length-append s rest in
      let in-front = (one-within deepest s 0 (length s) w.next w.some w.walked (omega arith)).1 in
      let g : take w.next s ≡ take w.next (s ++ rest) = sym (take-append-le w.next s rest in-front) in
      front_same s (s ++ rest) w g (omega arith) (omega arith) m

  -- ---- and it is the date of a whole letter

  letter-some : (s : List ℕ) → (ruled edition s).number ≡ 0 → 0 < length s
  letter-some s accepted =
      cases (leb (length s) 0)
      (λ e.
      let nothing : run deepest s 0 (length s) false ≡ ended (length s) = run_step deepest s 0 (length s) false (omega arith) ∙ rw e in
      absurd (met_some edition s accepted (ap (λ (v : Walked). v.items) nothing)))
      (λ e. leb-false (length s) 0 e)

  module _ (s : List ℕ) (a : IsAccepted edition s) where
    zero-ruled : (ruled edition s).number ≡ 0
    zero-ruled = ap (λ (r : Reason). r.number) (ruled-letter edition s a.judged)

    within : length s ≤ stream_limit
    within = let f = letter-found edition s a.headers a.elements a.judged in stream-within s f.at a.headers f.walked

    whole : WholeIn s
    whole =
        let f = letter-found edition s a.headers a.elements a.judged in
        let fine = stream-fine s f.at a.headers f.walked in
        let n = whole-alone deepest s 0 (length s) (letter-some s zero-ruled) fine.whole in
        record { some = letter-some s zero-ruled; next = n.0; walked = n.1 }

    abbrev one : OneItem 0 (walk_first s).items
    one = one-item deepest s 0 (length s) whole.next whole.some whole.walked

    -- the stream begins with that item
    abbrev after : Items
    after = (run deepest s whole.next (length s) false).items

    begins : items_of_stream s ≡ item 0 one.code one.start one.past one.inside after
    begins =
        let in_stream = (one-within deepest s 0 (length s) whole.next whole.some whole.walked (omega arith)).1 in
        ap (λ (v : Walked). v.items) (run-front deepest s 0 (length s) whole.next whole.some whole.walked s refl (length s) in_stream)
        ∙ rw one.is

    passes : FirstPasses edition (type_field one.code)
    passes = letter-first edition s zero-ruled begins

    -- rules 10 and 11 let it pass
    rule-zero : first_rule edition (first_tree s) ≡ 0
    rule-zero =
        let type = type_field one.code in
        ap (λ (i : Items). first_rule edition (plain s i)) one.is
        ∙ rule-formed edition (constructed one.code) type _ _ _
        ∙ first-let (is (shape_of edition type).octet type) (is profile_octet type) passes.known passes.profile

    inside-here : (items more : Items) → items ≡ item 0 one.code one.start one.past one.inside more → items_in profile_octet items ≡ one.inside
    unfolding items_in
    inside-here items more e =
        ap (items_in profile_octet) e ∙ rw (eq-eqb one.code profile_octet (passed-profile edition one.code passes))

    inside-same : items_in profile_octet (walk_first s).items ≡ items_in profile_octet (items_of_stream s)
    inside-same = inside-here (walk_first s).items no_items one.is ∙ sym (inside-here (items_of_stream s) after begins)

    profile-same : profile_in (first_tree s) ≡ profile_in (tree_of s)
    profile-same =
        run-items profile_octet s refl (walk_first s).items ∙ ap (plain s) inside-same ∙ sym (run-items profile_octet s refl (items_of_stream s))

    ruled-same : ruled_alone edition (first_tree s) (walk_first s).how ≡ ruled edition s
    ruled-same =
        ap (ruled_alone edition (first_tree s)) whole.walked
        ∙ ap (λ (n : ℕ). record { number = n; place = 0 }) rule-zero
        ∙ sym (ruled-letter edition s a.judged)

    same : first_dated edition s ≡ with_unread (dated edition s)
    unfolding date_of dated
    same =
        answered-by s within
        ∙ rw (ruled-same, profile-same, inside-same)

  -- ---- what it may give

  refused_empty : (s : List ℕ) → ((first_dated edition s).number ≡ 0 → ⊥) → ((first_date_of edition s).part ≡ [])
      × (first_dated edition s ≡ with_unread (refused_dated (first_dated edition s).number (first_dated edition s).place))
  unfolding first_dated first_date_of
  refused_empty s some =
      let x = first_date_of edition s in
      let e = after-empty (first_ruled edition s) (profile_in (first_tree s)) some in
      (ap (λ (y : DateAnswer). y.part) e, ap with_unread (numbers-empty x (date_places (walk_first s).items) some e))

  -- the rules' own numbers
  abbrev Rules : ℕ → Reason → Type 0
  Rules n r = (is_in r.number first_numbers_given ≡ true) × (r.place ≤ n)

  few : (n : ℕ) → 2 ≤ n → n ≤ 8 → is_in n first_numbers_given ≡ true
  few zero l h = absurd (omega arith)
  few (suc zero) l h = absurd (omega arith)
  few (suc (suc zero)) l h = refl
  few (suc (suc (suc zero))) l h = refl
  few (suc (suc (suc (suc zero)))) l h = refl
  few (suc (suc (suc (suc (suc zero))))) l h = refl
  few (suc (suc (suc (suc (suc (suc zero)))))) l h = refl
  few (suc (suc (suc (suc (suc (suc (suc zero))))))) l h = refl
  few (suc (suc (suc (suc (suc (suc (suc (suc zero)))))))) l h = refl
  few (suc (suc (suc (suc (suc (suc (suc (suc (suc n))))))))) l h = absurd (omega arith)

  type-cases : (known profile : Bool) → is_in (cond {A = ℕ} (not known) 10 (cond (xor true profile) 11 0)) first_numbers_given ≡ true
  unfolding xor
  type-cases true true = refl
  type-cases true false = refl
  type-cases false profile = refl

  type-given : (type : List ℕ) → is_in (first_of (place_rules 0 (shape_of edition type).octet type)) first_numbers_given ≡ true
  type-given type = type-cases (is (shape_of edition type).octet type) (is profile_octet type)

  rule-given : (t : Tree) → is_in (first_rule edition t) first_numbers_given ≡ true
  rule-given empty = refl
  rule-given (leaf type value more) = type-given type
  rule-given (branch type inside more) = type-given type

  -- a stream that is refused in its first element has octets
  stops-some : (s : List ℕ) (number place : ℕ) → (walk_first s).how ≡ stops number place → 0 < length s
  stops-some s number place e =
      cases (leb (length s) 0)
      (λ b.
      let l = leb-true (length s) 0 b in
      let p : ends (length s) ≡ stops number place = sym (ap (λ (v : Walked). v.how) (first-none s (omega arith))) ∙ e in
      let z : ◌≡◌ {A = ℕ} 0 1 = cc in
      absurd (omega arith))
      (λ b. leb-false (length s) 0 b)

  -- the values of a first element that is whole lie before its end
  alone-nested : (s : List ℕ) (how : End) → (walk_first s).how ≡ how → (ruled_alone edition (first_tree s) how).number ≡ 0
      → (to : ℕ) × (to ≤ length s) × Nested 0 to (walk_first s).items
  alone-nested s (stops number place) e passed = absurd (omega (arith, (first_stops s number place (stops-some s number place e) e).0))
  alone-nested s (ends next) e passed =
      cases (leb (length s) 0)
      (λ b.
      let l = leb-true (length s) 0 b in
      let nothing : (walk_first s).items ≡ no_items = ap (λ (v : Walked). v.items) (first-none s (omega arith)) in
      (0, omega arith, rw nothing tt))
      (λ b.
      let l = leb-false (length s) 0 b in
      let walk = run-front deepest s 0 (length s) next l e s refl next (omega arith) in
      let rest : run deepest s next next false ≡ ended next = run_step deepest s next next false (omega arith) ∙ rw (le-leb next next (omega arith)) in
      let own = one-item deepest s 0 (length s) next l e in
      let whole : (run deepest s 0 next false).how ≡ ends next = ap (λ (v : Walked). v.how) walk ∙ rw (own.is, rest) in
      let same : (run deepest s 0 next false).items ≡ (walk_first s).items = ap (λ (v : Walked). v.items) walk ∙ rw (own.is, rest) in
      let values = (stays (derives deepest s 0 next false (omega arith)) next whole).nested in
      (next, (one-within deepest s 0 (length s) next l e (omega arith)).1, subst (Nested 0 next) same values))

  first-nested : (s : List ℕ) → (first_ruled edition s).number ≡ 0 → (to : ℕ) × (to ≤ length s) × Nested 0 to (walk_first s).items
  unfolding first_ruled
  first-nested s =
      cond-holds (λ (r : Reason). r.number ≡ 0 → (to : ℕ) × (to ≤ length s) × Nested 0 to (walk_first s).items) (ltb stream_limit (length s))
      (λ _ z. absurd (omega arith)) (λ _. alone-nested s (walk_first s).how refl)

  stands : (s : List ℕ) → Bounds s (first_date_of edition s).part (first_dated edition s).first (first_dated edition s).past
  unfolding first_dated first_date_of
  stands s = bounds-stand s (walk_first s).items (first_ruled edition s) (first-nested s)

  alone-given : (s : List ℕ) (how : End) → (walk_first s).how ≡ how → Rules (length s) (ruled_alone edition (first_tree s) how)
  alone-given s (stops number place) e =
      let k = first_stops s number place (stops-some s number place e) e in
      (few number k.0 k.1, k.2)
  alone-given s (ends next) e = (rule-given (first_tree s), omega arith)

  rules-given : (s : List ℕ) → Rules (length s) (first_ruled edition s)
  unfolding first_ruled
  rules-given s = cond-holds (Rules (length s)) (ltb stream_limit (length s)) (λ _. (refl, omega arith)) (λ _. alone-given s (walk_first s).how refl)

  given_by : (n : ℕ) (r : Reason) {x : DateAnswer} → Rules n r → Given r x → (is_in x.number first_numbers_given ≡ true) × (x.place ≤ n)
  given_by n r k (by_rules some e p) = (rw e k.0, omega (arith, k.1))
  given_by n r k (a_date e p) = (rw e, omega arith)
  given_by n r k (no_one e p) = (rw e, omega arith)
  given_by n r k (no-day e p) = (rw e, omega arith)

  given : (s : List ℕ) → (is_in (first_dated edition s).number first_numbers_given ≡ true) × ((first_dated edition s).place ≤ length s)
  unfolding first_dated first_date_of
  given s = given_by (length s) (first_ruled edition s) (rules-given s) (after-given (first_ruled edition s) (profile_in (first_tree s)))

  unread : (s : List ℕ) → (first_dated edition s).unread ≡ 1
  unfolding first_dated
  unread s = refl

pub first-date : (edition : Edition) → FirstDate edition
first-date edition =
    record {
      unread = unread edition;
      same = same edition;
      remainder = λ s rest other w l m. sym (front edition s rest w l) ∙ front edition s other w m;
      front = front edition;
      one_of = λ s. (given edition s).0;
      inside = λ s. (given edition s).1;
      stands = stands edition;
      refused_empty = refused_empty edition;
    }
