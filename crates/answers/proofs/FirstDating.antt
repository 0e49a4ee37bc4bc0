-- The date by the first element alone: 1, an empty stream, the walk's refusals, rules 10 and 11, and what is found in its run.
use mathlib.Core.Path.{◌≡◌, refl, sym, ◌∙◌}
use mathlib.Core.Bool.{Bool, true, false, not, xor}
use mathlib.Core.List.{List}
use Prim.Native.Nat.{ℕ, ◌<◌, ◌≤◌}
use native.Mathlib.Omega.{arith}
use lib.Dec.{eqb, leb, ltb}
use lib.ListN.{length}
use borrow.Author.Tests.{eqb-true, lt-ltb, le-ltb}
use Rattle.laws.proofs.Tests.{cond-holds}
use Rattle.std.specs.Prelude.{Result}
use Rattle.headers.specs.Head.{constructed, type_field}
use Rattle.octets.specs.Walk.{stops, stream_limit}
use Rattle.tree.specs.Tree.{Tree, formed}
use Rattle.runs.specs.declared.Run.{Run}
use Rattle.contents.specs.Search.{is}
use Rattle.contents.proofs.Firsts.{is_field}
use Rattle.fronts.specs.First.{walk_first}
use Rattle.fronts.specs.FirstItem.{FirstItem}
use Rattle.fronts.proofs.Firsts.{first-none}
use Rattle.dates.specs.declared.DateFound.{DateFound}
use Rattle.dates.specs.Finding.{Answers}
use Rattle.elements.specs.declared.Edition.{Edition}
use Rattle.elements.specs.Shape.{shape_of}
use Rattle.elements.specs.Judge.{profile_octet, most_elements, first_of, place_rules}
use Rattle.judging.specs.Judges.{early_refusal, shape_by}
use Rattle.answers.specs.declared.Dated.{Dated}
use Rattle.answers.specs.FirstDates.{first_rule, first_ruled, first_date_of}
use Rattle.answers.specs.Dating.{refused_dated, dated_as, FirstTells}
use Rattle.answers.proofs.Dating.{first-rules, Tells, refused-told, found-told}

-- rules 9 to 11 give 11 at most
pub early-small : (n code known : ℕ) → early_refusal n code known ≤ 11
unfolding early_refusal
early-small n code known =
    let P : ℕ → Type 0 = λ number. number ≤ 11 in
    cond-holds P (leb most_elements n) (λ _. omega arith)
    (λ _. cond-holds P (not (is known (type_field code))) (λ _. omega arith)
    (λ _. cond-holds P (xor (eqb n 0) (is profile_octet (type_field code))) (λ _. omega arith) (λ _. omega arith)))

-- a first element that they let pass is the profile
pub early-profile : (code known : ℕ) → early_refusal 0 code known ≡ 0 → code ≡ profile_octet
unfolding early_refusal
early-profile code known e =
    eqb-true code profile_octet (sym (is_field profile_octet code) ∙ (first-rules (is known (type_field code)) (is profile_octet (type_field code)) 0 e).1)

-- they look at the type field alone
pub rule-formed : (edition : Edition) (b : Bool) (type value : List ℕ) (inside after : Tree)
    → first_rule edition (formed b type value inside after) ≡ first_of (place_rules 0 (shape_of edition type).octet type)
rule-formed edition true type value inside after = refl
rule-formed edition false type value inside after = refl

module _ (edition : Edition) (s : List ℕ) where
  first-told : {told : Dated} → Tells s (walk_first s).items (first_ruled edition s) told → FirstTells edition s told
  unfolding first_date_of
  first-told t = t.answered

  -- 1
  pub first-over : stream_limit < length s → FirstTells edition s (refused_dated 1 0)
  unfolding first_ruled
  first-over l = first-told (refused-told s (walk_first s).items (first_ruled edition s) 1 0 (rw (lt-ltb _ _ l)) (λ z. omega arith))

  module _ (l : length s ≤ stream_limit) where
    within : ltb stream_limit (length s) ≡ false
    within = le-ltb stream_limit (length s) l

    -- 11 "or the stream is empty"
    pub first-empty : length s ≡ 0 → FirstTells edition s (refused_dated 11 0)
    unfolding first_ruled
    first-empty e =
        first-told (refused-told s (walk_first s).items (first_ruled edition s) 11 0 (rw (within, first-none s e)) (λ z. omega arith))

    -- 2 to 8
    pub first-faulty : (number place : ℕ) → (walk_first s).how ≡ stops number place → (number ≡ 0 → ⊥) → FirstTells edition s (refused_dated number place)
    unfolding first_ruled
    first-faulty number place e some =
        first-told (refused-told s (walk_first s).items (first_ruled edition s) number place (rw (within, e)) some)

    module _ {code : ℕ} {inner : Run} (x : FirstItem s code inner) where
      abbrev rule : ℕ
      rule = early_refusal 0 code (shape_by edition code).octet

      ruled-is : first_ruled edition s ≡ record { number = rule; place = 0 }
      unfolding first_ruled early_refusal
      ruled-is = rw (within, x.ended, x.is, rule-formed edition (constructed code) (type_field code) _ _ _)

      -- 10 and 11
      pub first-refused : (number : ℕ) → number ≡ rule → (number ≡ 0 → ⊥) → FirstTells edition s (refused_dated number 0)
      first-refused number e some =
          first-told (refused-told s (walk_first s).items (first_ruled edition s) number 0 (ruled-is ∙ rw e) some)

      -- what is found in it
      pub first-dated : rule ≡ 0 → (d : Result DateFound ℕ) → Answers s inner d → FirstTells edition s (dated_as d)
      first-dated zero d a =
          let none : (first_ruled edition s).number ≡ 0 = rw ruled-is zero in
          first-told (found-told s inner (early-profile code (shape_by edition code).octet zero) x.is (first_ruled edition s) none d a)
