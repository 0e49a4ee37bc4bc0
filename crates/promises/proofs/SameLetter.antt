-- Two files are the same letter exactly when their normal forms are the same: by the laws of crate normal.
use mathlib.Core.Path.{◌≡◌, refl, ap, sym, ◌∙◌}
use mathlib.Core.Logic.{◌↔◌}
use mathlib.Core.Bool.{xor}
use mathlib.Core.List.{List, [], ◌∷◌}
use Prim.Native.Nat.{ℕ, ◌≤◌}
use native.Mathlib.Omega.{arith}
use lib.Dec.{ltb}
use lib.ListN.{length, drop, get_or}
use lib.Seq.{take-append_seam}
use borrow.Author.Tests.{ltb-false}
use borrow.Table.Steps.{cases}
use Rattle.headers.specs.Head.{permits, form_allowed, big_endian_from, misfits, definite_at, indefinite_at, long_at, by_first, length_at, item_at, closing_at, head_at}
use Rattle.octets.specs.Walk.{stream_limit, run_for, run, walk_of}
use Rattle.tree.specs.Tree.{tree_of}
use Rattle.tree.specs.Accepts.{Accepts}
use Rattle.normal.specs.Normal.{number_octets, normal_of, normal_form}
use Rattle.normal.proofs.RoundTrip.{form-definite, again, same-form}
use Rattle.normal.proofs.Shorter.{none-shorter}
use Rattle.contents.specs.Search.{absent, amount, first_value, first_run}
use Rattle.portions.specs.Portions.{all_portions, values, well_spelt, repeats}
use Rattle.elements.specs.declared.Edition.{Edition}
use Rattle.elements.specs.declared.Edition.TheVariants.{Of1988}
use Rattle.elements.specs.Shape.{shape_of}
use Rattle.elements.specs.Judge.{single, Element, body_of, content_of, element_of, items_in_order, as_tabled, names_fit, clash, twice, refusal_of, judge_one}
use Rattle.elements.specs.Judge.{judge_from, judge}
use Rattle.elements.specs.ElementRows.{place_of}
use Rattle.letters.specs.Letter.{Letter, letter, refusal, letter_in}
use Rattle.answers.specs.declared.Written.{Written}
use Rattle.answers.specs.Answers.{written_by, written}
use Rattle.letters.proofs.Letters.{letter-found}
use Rattle.answers.proofs.Judging.{accepts-walked}
use Rattle.answers.proofs.Small.{refusal-small}
use Rattle.promises.specs.SameLetter.{form_written, SameLetter, one_order, other_order, OrderCounts}
use Rattle.promises.specs.Demands.{IsAccepted}
use Rattle.promises.proofs.Demand2.{writes, normal_accepted}

-- a letter is accepted with its tree
pub accepts-letter : (edition : Edition) (s : List ℕ) → IsAccepted edition s → Accepts s (tree_of s)
accepts-letter edition s i = accepts-walked (letter-found edition s i.headers i.elements i.judged).walked

-- what was written of a stream that was not refused: of a letter its normal form, which is within the limit
record Wrote (edition : Edition) (s out : List ℕ) : Type 0 where
  is_letter : IsAccepted edition s
  within : length (normal_form s) ≤ stream_limit
  form_is : form_written edition s out ≡ normal_form s

-- the normal form stands in front of the output
in-front : (edition : Edition) (s out : List ℕ) (i : IsAccepted edition s) → length (normal_form s) ≤ stream_limit → length (normal_form s) ≤ length out
    → ((written edition s out).number ≡ 0) × (form_written edition s out ≡ normal_form s)
in-front edition s out i within room =
    let (answered, put) = writes edition s i.headers i.elements i.judged out within room in
    let size : (written edition s out).length ≡ length (normal_form s) = ap (λ (a : Written). a.length) answered in
    (ap (λ (a : Written). a.number) answered, rw (size, put) (take-append_seam (normal_form s) (drop (length (normal_form s)) out)))

wrote_by : (edition : Edition) (s out : List ℕ) (l : Letter) → letter_in edition s ≡ l → (written_by l (normal_form s) out).number ≡ 0 → Wrote edition s out
wrote_by edition s out (refusal number place headers) e z = absurd (omega (arith, (refusal-small edition s number place headers e).low))
wrote_by edition s out (letter headers elements) e z =
    let size = length (normal_form s) in
    let i : IsAccepted edition s = record { headers = headers; elements = elements; judged = e } in
    cases (ltb stream_limit size)
    (λ t. let k : ◌≡◌ {A = ℕ} 17 0 = rw t at z in absurd (omega arith))
    (λ t.
    cases (ltb (length out) size)
    (λ u. let k : ◌≡◌ {A = ℕ} 18 0 = rw (t, u) at z in absurd (omega arith))
    (λ u.
    let within : size ≤ stream_limit = ltb-false stream_limit size t in
    let room : size ≤ length out = ltb-false (length out) size u in
    record { is_letter = i; within = within; form_is = (in-front edition s out i within room).1 }))

wrote : (edition : Edition) (s out : List ℕ) → (written edition s out).number ≡ 0 → Wrote edition s out
unfolding written
wrote edition s out z = wrote_by edition s out (letter_in edition s) refl z

same : (edition : Edition) (s r : List ℕ) → IsAccepted edition s → IsAccepted edition r → (tree_of s ≡ tree_of r) ↔ (normal_form s ≡ normal_form r)
same edition s r i j = (ap normal_of, same-form s r (tree_of s) (tree_of r) (accepts-letter edition s i) (accepts-letter edition r j))

-- the normal form of a letter, if within the limit, is a letter
form-letter : (edition : Edition) (s : List ℕ) → IsAccepted edition s → length (normal_form s) ≤ stream_limit → IsAccepted edition (normal_form s)
form-letter edition s i within = record {
  headers = i.headers;
  elements = i.elements;
  judged = normal_accepted edition s i.headers i.elements i.judged within;
}

pub same-letter : (edition : Edition) → SameLetter edition
same-letter edition = record {
  same = same edition;
  twice = λ s i. again s (tree_of s) (accepts-letter edition s i);
  shortest = λ s i r coded. none-shorter r (tree_of s) coded;
  definite = λ s i. form-definite s (tree_of s) (accepts-letter edition s i);
  found = λ s r out other z y.
      let a = wrote edition s out z in
      let b = wrote edition r other y in
      let (to, from) = same edition s r a.is_letter b.is_letter in
      (λ e. a.form_is ∙ to e ∙ sym b.form_is, λ e. from (sym a.form_is ∙ e ∙ b.form_is));
  again = λ s out other z room.
      let a = wrote edition s out z in
      let once : normal_form (normal_form s) ≡ normal_form s = again s (tree_of s) (accepts-letter edition s a.is_letter) in
      let within : length (normal_form (normal_form s)) ≤ stream_limit = omega (arith, a.within, ap length once) in
      let fits : length (normal_form (normal_form s)) ≤ length other = omega (arith, room, ap length once, ap length a.form_is) in
      let (zero_number, put) = in-front edition (normal_form s) other (form-letter edition s a.is_letter a.within) within fits in
      rw a.form_is (zero_number, put ∙ once);
}

-- the two letters of two orders: of a profile nothing is looked at
abbrev profile_says : Element
profile_says = record { kind = 0; object = 255; identifier = absent; logical = absent; portions = []; content = single absent }

one-letter : letter_in Of1988 one_order ≡ letter 4 (profile_says ∷ [])
unfolding permits form_allowed big_endian_from misfits definite_at indefinite_at long_at by_first length_at item_at closing_at head_at run_for run walk_of amount first_value first_run all_portions values well_spelt repeats shape_of body_of content_of element_of items_in_order as_tabled names_fit clash twice refusal_of judge_one judge_from judge place_of letter_in xor
one-letter = refl

other-letter : letter_in Of1988 other_order ≡ letter 4 (profile_says ∷ [])
unfolding permits form_allowed big_endian_from misfits definite_at indefinite_at long_at by_first length_at item_at closing_at head_at run_for run walk_of amount first_value first_run all_portions values well_spelt repeats shape_of body_of content_of element_of items_in_order as_tabled names_fit clash twice refusal_of judge_one judge_from judge place_of letter_in xor
other-letter = refl

forms : (normal_form one_order ≡ one_order) × (normal_form other_order ≡ other_order)
unfolding permits form_allowed big_endian_from misfits definite_at indefinite_at long_at by_first length_at item_at closing_at head_at run_for run number_octets normal_of
forms = (refl, refl)

forms_differ : normal_form one_order ≡ normal_form other_order → ⊥
forms_differ e =
    let z : ◌≡◌ {A = ℕ} 0x80 0x81 = ap (λ (octets : List ℕ). get_or octets 4 0) (sym forms.0 ∙ e ∙ forms.1) in
    omega arith

-- "The order of items in a set counts as part of the tree."
pub order-counts : OrderCounts
order-counts = record {
  one = record { headers = 4; elements = profile_says ∷ []; judged = one-letter };
  other = record { headers = 4; elements = profile_says ∷ []; judged = other-letter };
  trees_differ = λ e. forms_differ (ap normal_of e);
  forms_differ = forms_differ;
}
