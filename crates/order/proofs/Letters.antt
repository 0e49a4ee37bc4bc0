-- Of the elements of every accepted stream the order is as promised; and the profile alone is in both orders.
use Rattle.std.specs.Prelude.{Option, None, Some, Ok, Err}
use mathlib.Core.Path.{◌≡◌, refl, ap, sym, ◌∙◌, subst}
use mathlib.Core.Logic.{◌⊎◌, inl, inr}
use mathlib.Core.List.Memᴰ
use mathlib.Core.List.{List, [], ◌∷◌, map}
use mathlib.Core.Bool.{true}
use Prim.Native.Nat.{ℕ, ◌<◌}
use native.Mathlib.Omega.{arith}
use lib.ListN.{length}
use borrow.Author.Tests.{eq-eqb, lt-ltb, le-ltb}
use Rattle.octets.specs.Told.{Outcome}
use Rattle.octets.specs.Walk.{walk_of}
use Rattle.tree.specs.Tree.{Tree, tree_of}
use Rattle.elements.specs.declared.Edition.{Edition}
use Rattle.elements.specs.Judge.{Element, Judged, accepted, refused, judge}
use Rattle.elements.specs.ElementRows.{place_of}
use Rattle.letters.specs.Letter.{Letter, letter, refusal, letter_in, by_walk, after_walk, items_of_stream}
use Rattle.reading.specs.declared.Side.{Side}
use Rattle.reading.specs.Match.{matches}
use Rattle.order.specs.declared.Class.{Class}
use Rattle.order.specs.declared.Class.TheVariants.{A, B}
use Rattle.order.specs.declared.Ordered.{Ordered}
use Rattle.order.specs.Represents.{◌∈◌, all_represented, profile_kind, FitAside, LimitsAside}
use Rattle.order.specs.Begins.{InOrder, FaultAt}
use Rattle.order.specs.ClausesB.{scan_b, ordered_b}
use Rattle.order.specs.Fault.{fault_of}
use Rattle.order.specs.Promises.{look, SameVerdict, OrderOf}
use Rattle.order.specs.Question.{verdict, out_of_order_number, element_start, OrderIs, by_rule, in_order, out_of_order, Answered}
use Rattle.order.specs.Computed.{by_found, by_letter, order_in, pass_of, ComputedOf}
use Rattle.order.proofs.Representing.{all-represented-of}
use Rattle.order.proofs.Fronts.{fails_on}
use Rattle.order.proofs.OrderB as OfB
use Rattle.order.proofs.PassB as PB
use Rattle.order.proofs.PassA as PA
use Rattle.order.proofs.Place.{begins-exactly, place-determined, in-order-none, fault_exactly, in_order_exactly, aside-left}
use Rattle.order.proofs.ToldByMatches.{pass-told}
use Rattle.order.proofs.Accepted.{judged-aside}

pass_exactly : (class : Class) (elements : List Element) → LimitsAside elements → pass_of class elements ≡ fault_of class elements
pass_exactly A elements a = PA.pass_exactly elements a
pass_exactly B elements a = PB.pass_exactly elements a

-- what is computed is what is said
pub computed-aside : (class : Class) (elements : List Element) → LimitsAside elements → ComputedOf class elements
computed-aside class elements a =
    record {
      front_exactly = λ front rest e. begins-exactly class front (aside-left front rest (subst LimitsAside e a));
      fault_exactly = fault_exactly class elements a;
      in_order_exactly = in_order_exactly class elements a;
      pass_exactly = pass_exactly class elements a;
    }

one-or-other : (class : Class) (elements : List Element) → LimitsAside elements → (f : Option ℕ) → fault_of class elements ≡ f
    → InOrder class elements ⊎ ((n : ℕ) × FaultAt class elements n)
one-or-other class elements a None p = inl ((in_order_exactly class elements a).0 p)
one-or-other class elements a (Some n) p = inr (n, (fault_exactly class elements a n).0 p)

-- kinds, identifiers' being there, portion counts and matches tell the fault
pub told_by_matches : (class : Class) (es fs : List Element) → LimitsAside es → LimitsAside fs → map look es ≡ map look fs
    → ((side : Side) → matches side es ≡ matches side fs) → fault_of class es ≡ fault_of class fs
told_by_matches class es fs a b looks listed = sym (pass_exactly class es a) ∙ pass-told class es fs looks listed ∙ pass_exactly class fs b

same-verdict : (class : Class) (es fs : List Element) → LimitsAside es → LimitsAside fs → fault_of class es ≡ fault_of class fs → SameVerdict class es fs
same-verdict class es fs a b same =
    record {
      in_order = (
        λ o. (in_order_exactly class fs b).0 (sym same ∙ (in_order_exactly class es a).1 o),
        λ o. (in_order_exactly class es a).0 (same ∙ (in_order_exactly class fs b).1 o),
      );
      fault = λ n. (
        λ f. (fault_exactly class fs b n).0 (sym same ∙ (fault_exactly class es a n).1 f),
        λ f. (fault_exactly class es a n).0 (same ∙ (fault_exactly class fs b n).1 f),
      );
    }

pub order-aside : (class : Class) (elements : List Element) → LimitsAside elements → OrderOf class elements
order-aside class elements a =
    record {
      fails_on = fails_on class;
      either = one-or-other class elements a (fault_of class elements) refl;
      not_both = in-order-none class elements a;
      one_place = place-determined class elements;
      told_by_matches = λ others b looks listed. same-verdict class elements others a b (told_by_matches class elements others a b looks listed);
    }

-- of the elements that the judge accepts, by either edition, and for either class
pub order-of-letter : (edition : Edition) (t : Tree) (elements : List Element) → judge edition t ≡ accepted elements → (class : Class) → OrderOf class elements
order-of-letter edition t elements judged class = order-aside class elements (judged-aside edition t elements judged)

-- the letter that a stream is was accepted by the judge
letter-judged : (edition : Edition) (s : List ℕ) (o : Outcome) (headers : ℕ) (elements : List Element) → by_walk edition s o ≡ letter headers elements
    → judge edition (tree_of s) ≡ accepted elements
letter-judged edition s (Err r) headers elements e = let z : ◌≡◌ {A = ℕ} 0 1 = cc in absurd (omega arith)
letter-judged edition s (Ok passed) headers elements e = by-judge (judge edition (tree_of s)) e
  where
    by-judge : (j : Judged) → after_walk (items_of_stream s) passed.count j ≡ letter headers elements → j ≡ accepted elements
    by-judge (accepted found) e = let b : found ≡ elements = cc in ap accepted b
    by-judge (refused number element) e = let z : ◌≡◌ {A = ℕ} 0 1 = cc in absurd (omega arith)

module _ (edition : Edition) (class : Class) (s : List ℕ) where
  aside : (headers : ℕ) (elements : List Element) → letter_in edition s ≡ letter headers elements → LimitsAside elements
  unfolding letter_in
  aside headers elements e = judged-aside edition (tree_of s) elements (letter-judged edition s (walk_of s) headers elements e)

  by-fault : (headers : ℕ) (elements : List Element) → letter_in edition s ≡ letter headers elements → (f : Option ℕ) → fault_of class elements ≡ f
      → OrderIs edition class s (by_found s elements f)
  by-fault headers elements e None p = in_order e ((in_order_exactly class elements (aside headers elements e)).0 p)
  by-fault headers elements e (Some n) p = out_of_order e ((fault_exactly class elements (aside headers elements e) n).0 p)

  by-letter : (l : Letter) → letter_in edition s ≡ l → OrderIs edition class s (by_letter class s l)
  by-letter (refusal number place headers) e = by_rule e
  by-letter (letter headers elements) e = by-fault headers elements e (fault_of class elements) refl

  -- what is computed is the answer, and there is no other
  pub computed-is : OrderIs edition class s (order_in edition class s)
  unfolding order_in
  computed-is = by-letter (letter_in edition s) refl

  by-found : (headers : ℕ) (elements : List Element) → letter_in edition s ≡ letter headers elements → (f : Option ℕ) → fault_of class elements ≡ f
      → by_found s elements f ≡ order_in edition class s
  unfolding order_in
  by-found headers elements e f p = rw (e, p)

  pub is-computed : (r : Ordered) → OrderIs edition class s r → r ≡ order_in edition class s
  unfolding order_in
  is-computed r (by_rule e) = rw e
  is-computed r (in_order {headers} {elements} e o) = by-found headers elements e None ((in_order_exactly class elements (aside headers elements e)).1 o)
  is-computed r (out_of_order {headers} {n} {elements} e f) = by-found headers elements e (Some n)
      ((fault_exactly class elements (aside headers elements e) n).1 f)

  -- what is answered of a stream is as promised
  pub answered : Answered edition class s
  answered =
      record {
        some = (order_in edition class s, computed-is);
        one = λ a b x y. is-computed a x ∙ sym (is-computed b y);
        at_element = λ headers n elements e l f.
            subst (λ (p : ℕ). OrderIs edition class s (verdict out_of_order_number p)) (element-octet n elements l) (out_of_order e f);
        at_length = λ headers elements e f.
            subst (λ (p : ℕ). OrderIs edition class s (verdict out_of_order_number p)) (end-octet elements) (out_of_order e f);
      }
    where
      element-octet : (n : ℕ) (elements : List Element) → n < length elements → element_start s elements n ≡ place_of n (items_of_stream s)
      element-octet n elements l = rw (lt-ltb n (length elements) l)

      end-octet : (elements : List Element) → element_start s elements (length elements) ≡ length s
      end-octet elements = rw (le-ltb (length elements) (length elements) (omega arith))

-- the profile alone is in both orders
module _ (x : Element) (fit : FitAside x) (profile : x.kind ≡ profile_kind) where
  bare : (us : List Element) → all_represented us x ≡ true
  bare us = all-represented-of us x (λ p m. absurd (Memᴰ.not-nil (subst (λ (ps : List (List ℕ)). p ∈ ps) (PA.alone-bare x fit profile) m)))

  alone-b : ordered_b (x ∷ []) ≡ true
  unfolding ordered_b scan_b
  alone-b = rw (eq-eqb x.kind profile_kind profile) (bare [])

  pub alone-in-order : (class : Class) → InOrder class (x ∷ [])
  alone-in-order A =
      let p = PA.alone-placed x fit profile in
      record {
        profile = p.profile;
        tabled = p.tabled;
        ascending = p.ascending;
        all_in_step = p.all_in_step;
        whole = λ e m. subst (λ (y : Element). all_represented (x ∷ []) y ≡ true) (sym (Memᴰ.eq_of_singleton m)) (bare (x ∷ []));
      }
  alone-in-order B = OfB.ordered-told (x ∷ []) alone-b
