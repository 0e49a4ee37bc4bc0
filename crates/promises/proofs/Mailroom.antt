-- The mailroom's question: within 65,535 octets the normal form is never longer than the stream (crate normal, `never_longer`), so that it
-- answers as the normal form question does.
use mathlib.Core.Path.{◌≡◌, refl, ap, sym, ◌∙◌, subst}
use mathlib.Core.Logic.{inl, ◌↔◌}
use mathlib.Core.Bool.{false}
use mathlib.Core.List.{List, [], ◌∷◌}
use Prim.Native.Nat.{ℕ, ◌<◌, ◌≤◌}
use native.Mathlib.Omega.{arith}
use lib.Dec.{ltb}
use lib.ListN.{length}
use borrow.Author.Tests.{ne_eqb, lt-ltb, le-ltb, ltb-true, ltb-false}
use borrow.Table.Steps.{cases}
use Rattle.octets.specs.Walk.{stream_limit, deepest, Walked}
use Rattle.octets.proofs.RulesHold.{derived}
use Rattle.octets.proofs.Numbers.{Stops, run-stops}
use Rattle.laws.proofs.Tests.{cond-holds}
use Rattle.tree.specs.Tree.{Tree, tree_of}
use Rattle.tree.proofs.Meaning.{means}
use Rattle.normal.specs.Normal.{Octets, normal_form}
use Rattle.normal.specs.Short.{short_limit}
use Rattle.normal.proofs.Shorter.{never_longer}
use Rattle.elements.specs.declared.Edition.{Edition}
use Rattle.letters.specs.Letter.{Letter, letter, refusal, letter_in}
use Rattle.answers.specs.declared.Written.{Written}
use Rattle.answers.specs.Answers.{written_by, written, written_output}
use Rattle.answers.specs.Short.{short_letter, short_by, written_short, written_short_output}
use Rattle.answers.proofs.Small.{refusal-small}
use Rattle.promises.specs.Refusals.{TopItem, Refuses, too_many, unknown, no_profile, later_profile, misshapen, mistyped, misspelt, repeated, RefusedBy}
use Rattle.promises.specs.Refusals.{no_element, at_element, RefusedWith, too_long, at_fault, by_element}
use Rattle.promises.specs.Demands.{Answered, IsAccepted}
use Rattle.promises.specs.Mailroom.{Mailroom}
use Rattle.promises.proofs.Demand1.{told-small, told-own, told-zero, small-in}
use Rattle.promises.proofs.Refusals.{refused_is}
use Rattle.promises.proofs.SameLetter.{accepts-letter}

-- the rules of elements are 9 to 15
from-9 : {edition : Edition} {before : List TopItem} {item : TopItem} (n : ℕ) → Refuses edition before item n → 9 ≤ n
from-9 n (too_many l) = omega arith
from-9 n (unknown e) = omega arith
from-9 n (no_profile z e) = omega arith
from-9 n (later_profile l e) = omega arith
from-9 n (misshapen e) = omega arith
from-9 n (mistyped e) = omega arith
from-9 n (misspelt e) = omega arith
from-9 n (repeated t) = omega arith

by-9 : {edition : Edition} {t : Tree} {j : ℕ} (n : ℕ) → RefusedBy edition t n j → 9 ≤ n
by-9 n (no_element e) = omega arith
by-9 n (at_element at) = from-9 n at.refuses

-- 1 is given to long streams alone
long-by : (edition : Edition) (s : List ℕ) (number place : ℕ) → number ≡ 1 → RefusedWith edition s number place → stream_limit < length s
long-by edition s number place e (too_long l) = l
long-by edition s number place e (at_fault l runs) =
    let stopped = subst (λ (w : Walked). Stops (length s) w.how) (sym (derived runs)) (run-stops deepest s 0 (length s) false (omega arith)) in
    absurd (omega (arith, stopped.0))
long-by edition s number place e (by_element l runs r) = absurd (omega (arith, by-9 number r))

never-1 : (edition : Edition) (s : List ℕ) (place headers : ℕ) → length s ≤ short_limit → letter_in edition s ≡ refusal 1 place headers → ⊥
never-1 edition s place headers l e = let m = long-by edition s 1 place refl ((refused_is edition s 1 place).0 (headers, e)) in omega arith

module _ (edition : Edition) (s : List ℕ) where
  abbrev size : ℕ
  size = length (normal_form s)

  no_longer : IsAccepted edition s → Octets s → length s ≤ short_limit → size ≤ length s
  no_longer i o l = never_longer s (tree_of s) (means s (tree_of s) (accepts-letter edition s i)).0 l o

  -- a stream within the limit, and one over it
  short-is : length s ≤ short_limit → short_letter edition s ≡ letter_in edition s
  short-is l = rw (le-ltb short_limit (length s) l)

  long-is : short_limit < length s → short_letter edition s ≡ refusal 1 0 0
  long-is l = rw (lt-ltb short_limit (length s) l)

  module _ (out : List ℕ) where
    abbrev given : Letter → Written
    given l = short_by l (normal_form s) out

    told-by : (l : Letter) → letter_in edition s ≡ l → Answered s (18 ∷ []) (given l).number (given l).place
    told-by (refusal number place headers) e = told-small (18 ∷ []) (small-in edition s number place headers e)
    told-by (letter headers elements) e =
        cond-holds (λ (a : Written). Answered s (18 ∷ []) a.number a.place) (ltb (length out) size) (λ _. told-own s (18 ∷ []) 18 refl)
        (λ _. told-zero s (18 ∷ []))

    told_over : Answered s (18 ∷ []) 1 0
    told_over = record { one_of = inl (omega arith); inside = omega arith; at_start = λ o. refl }

    told : Answered s (18 ∷ []) (written_short edition s out).number (written_short edition s out).place
    unfolding written_short
    told = cond-holds (λ (l : Letter). Answered s (18 ∷ []) (given l).number (given l).place) (ltb short_limit (length s)) (λ _. told_over)
        (λ _. told-by (letter_in edition s) refl)

    one-by : (l : Letter) → letter_in edition s ≡ l → length s ≤ short_limit → (given l).number ≡ 1 → ⊥
    one-by (refusal number place headers) e l z = never-1 edition s place headers l (e ∙ ap (λ (n : ℕ). refusal n place headers) z)
    one-by (letter headers elements) e l z =
        cases (ltb (length out) size)
        (λ t. let k : ◌≡◌ {A = ℕ} 18 1 = rw t at z in omega arith)
        (λ t. let k : ◌≡◌ {A = ℕ} 0 1 = rw t at z in omega arith)

    over : ((written_short edition s out).number ≡ 1) ↔ (short_limit < length s)
    unfolding written_short
    over =
        cases (ltb short_limit (length s))
        (λ t. let l = ltb-true short_limit (length s) t in rw t (λ _. l, λ _. refl))
        (λ t.
        let l = ltb-false short_limit (length s) t in
        rw t (λ z. absurd (one-by (letter_in edition s) refl l z), λ m. absurd (omega arith)))

    counts-by : (l : Letter) → ((given l).number ≡ 0 → ⊥) → (given l).length ≡ 0
    counts-by (refusal number place headers) = λ n. refl
    counts-by (letter headers elements) =
        cond-holds (λ (a : Written). (a.number ≡ 0 → ⊥) → a.length ≡ 0) (ltb (length out) size) (λ _ n. refl) (λ _ n. absurd (n refl))

    -- what the normal form question gives
    same_by : (l : Letter) → letter_in edition s ≡ l → Octets s → length s ≤ short_limit → given l ≡ written_by l (normal_form s) out
    same_by (refusal number place headers) e o l = refl
    same_by (letter headers elements) e o l =
        let m = no_longer (record { headers = headers; elements = elements; judged = e }) o l in
        rw (le-ltb stream_limit size (omega arith))

    same : Octets s → length s ≤ short_limit → written_short edition s out ≡ written edition s out
    unfolding written_short written
    same o l = ap given (short-is l) ∙ same_by (letter_in edition s) refl o l

    enough-by : (l : Letter) → letter_in edition s ≡ l → Octets s → length s ≤ short_limit → length s ≤ length out → (given l).number ≡ 18 → ⊥
    enough-by (refusal number place headers) e o l room z = omega (arith, (refusal-small edition s number place headers e).high)
    enough-by (letter headers elements) e o l room z =
        let m = no_longer (record { headers = headers; elements = elements; judged = e }) o l in
        let k : ◌≡◌ {A = ℕ} 0 18 = rw (le-ltb (length out) size (omega arith)) at z in
        omega arith

    enough : Octets s → length s ≤ length out → (written_short edition s out).number ≡ 18 → ⊥
    unfolding written_short
    enough o room =
        cases (ltb short_limit (length s))
        (λ t. rw t (λ z. omega arith))
        (λ t. rw t (enough-by (letter_in edition s) refl o (ltb-false short_limit (length s) t) room))

pub mailroom : (edition : Edition) → Mailroom edition
unfolding written_short written_short_output written_output
mailroom edition = record {
  told = told edition;
  too_long = over edition;
  counts = λ s out. counts-by edition s out (short_letter edition s);
  untouched = λ s out n. rw (ne_eqb (written_short edition s out).number 0 n);
  refused_alike = λ s out number place headers l e. rw (le-ltb short_limit (length s) l, e);
  never_longer = no_longer edition;
  same = λ s out o l. let e = same edition s out o l in (e, rw e);
  room_enough = enough edition;
}
