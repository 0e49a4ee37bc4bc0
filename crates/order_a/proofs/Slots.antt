-- The number of the portion by which a unit is ordered, from the record of the unit and how many portions are listed before that of its
-- element; and whether that number is the next.
use mathlib.Core.Path.{◌≡◌, refl, ap, sym, ◌∙◌, subst}
use mathlib.Core.Bool.{Bool, true, false, ◌&&◌, true≢false}
use mathlib.Core.List.Memᴰ
use mathlib.Core.List.{List, [], ◌∷◌, ◌++◌, append-nil}
use Prim.Native.Nat.{ℕ, zero, suc, ◌+◌, ◌-◌, ◌<◌, ◌≤◌}
use native.Mathlib.Omega.{arith}
use lib.Dec.{eqb, leb}
use lib.ListN.{length, get_or, take, drop, length-append, length-map}
use lib.Seq.{split_at, length-take-le, take-take, take-suc, get_or-take}
use borrow.Author.Tests.{eqb-true, eqb-false, eq-eqb, ne_eqb, leb-true, leb-false}
use borrow.Table.Steps.{cases}
use Rattle.elements.specs.Judge.{Element}
use Rattle.reading.specs.declared.Side.{Side}
use Rattle.reading.specs.Match.{matches}
use Rattle.letters.specs.Telling.{element_at, no_element}
use Rattle.reading.proofs.Lists.{at-get_d}
use Rattle.order.specs.Represents.{◌∈◌, represents, LimitsAside, Listed, listing_of, everything, keep}
use Rattle.order.specs.ClassA.{represents_some, listed_of}
use Rattle.order.specs.PassA.{slot_in, count_if}
use Rattle.order.proofs.Representing.{associated-of}
use Rattle.order.proofs.Lacking.{keep-in, everything-in}
use Rattle.order.proofs.Keeping.{keep_append, keep-none, keep_all, everything-append}
use Rattle.order.proofs.FrontA.{kind-of}
use Rattle.order.proofs.RanksA.{some_of}
use Rattle.order.proofs.Place.{aside-left}
use Rattle.order.proofs.SightsA.{slot-none}
use Rattle.order.proofs.AsMatches.{represents-match}
use Rattle.order.proofs.CountsA.{slot_is}
use Rattle.owners.specs.Owner.{match_of}
use Rattle.order_a.specs.Turns.{before}
use Rattle.order_a.proofs.Records.{rest, whole, row-kind, side-told, record-portion}

-- one element more
one-lists : (kind : ℕ) (e : Element) → length (listed_of kind (e ∷ [])) ≡ count_if (eqb e.kind kind) (length e.portions)
unfolding listed_of everything
one-lists kind e =
    cases (eqb e.kind kind)
    (λ t. rw t (ap length (keep_all test own (λ l m. of-e l m ∙ t)) ∙ count))
    (λ t. rw t (ap length (keep-none test own (λ l m. of-e l m ∙ t))))
  where
    test : Listed → Bool
    test l = eqb l.by.kind kind

    own : List Listed
    own = listing_of e e.portions ++ []

    of-e : (l : Listed) → l ∈ own → test l ≡ eqb e.kind kind
    of-e l m =
        let (q, n, r) = Memᴰ.of_map (λ (q : List ℕ). record { by = e; portion = q }) e.portions
        (subst (λ (ls : List Listed). l ∈ ls) (append-nil (listing_of e e.portions)) m) in
        ap test (sym r)

    count : length own ≡ length e.portions
    count = ap length (append-nil (listing_of e e.portions)) ∙ length-map e.portions (λ (q : List ℕ). record { by = e; portion = q })

lists-more : (kind : ℕ) (xs ys : List Element) → length (listed_of kind (xs ++ ys)) ≡ length (listed_of kind xs) + length (listed_of kind ys)
unfolding listed_of
lists-more kind xs ys =
    ap (λ (ls : List Listed). length (keep test ls)) (everything-append xs ys) ∙ ap length (keep_append test (everything xs) (everything ys))
    ∙ length-append (keep test (everything xs)) (keep test (everything ys))
  where
    test : Listed → Bool
    test l = eqb l.by.kind kind

pub before_more : (kind : ℕ) (es : List Element) (j : ℕ) → j < length es
    → before kind es (suc j) ≡ before kind es j + count_if (eqb (element_at es j).kind kind) (length (element_at es j).portions)
before_more kind es j l =
    ap (λ (xs : List Element). length (listed_of kind xs)) (take-suc es j no_element l) ∙ lists-more kind (take j es) (element_at es j ∷ [])
    ∙ ap (λ (m : ℕ). before kind es j + m) (one-lists kind (element_at es j))

pub before-none : (kind : ℕ) (es : List Element) → before kind es 0 ≡ 0
unfolding listed_of everything keep
before-none kind es = refl

-- more are listed before a later element
pub before-rises : (kind : ℕ) (es : List Element) (i more : ℕ) → i + more ≤ length es → before kind es i ≤ before kind es (i + more)
before-rises kind es i zero l = let z : i + 0 ≡ i = omega arith in subst (λ (j : ℕ). before kind es i ≤ before kind es j) (sym z) (omega arith)
before-rises kind es i (suc more) l =
    let z : i + suc more ≡ suc (i + more) = omega arith in
    subst (λ (j : ℕ). before kind es i ≤ before kind es j) (sym z)
    (omega (arith, before-rises kind es i more (omega arith), before_more kind es (i + more) (omega arith)))

module _ (es : List Element) (aside : LimitsAside es) (k : ℕ) (below : k < length es) (kind : ℕ) where
  abbrev slot : ℕ
  slot = slot_in 0 (listed_of kind (take k es)) (element_at es k)

  -- a unit that represents none of the kind has no number
  pub no_slot : represents_some (kind ∷ []) (take k es) (element_at es k) ≡ false → slot ≡ 0
  unfolding listed_of
  no_slot t =
      slot-none 0 (listed_of kind (take k es)) (element_at es k)
      (λ l m a.
      let r = keep-in (λ (i : Listed). eqb i.by.kind kind) (everything (take k es)) l m in
      let q = everything-in (take k es) l r.0 in
      true≢false (sym (some_of (kind ∷ []) (take k es) (element_at es k) l.by q.0 (kind-of l.by kind (eqb-true l.by.kind kind r.1))
      (associated-of l.by (element_at es k) l.portion q.1 a)) ∙ t))

  module _ (side : Side) (row p : ℕ) (earlier : row < k) (m : match_of row p k ∈ matches side es) (of : (element_at es row).kind ≡ kind) where
    abbrev e : Element
    e = element_at es row

    portion-below : p < length e.portions
    portion-below = record-portion es side row p k m

    abbrev portion : List ℕ
    portion = get_or e.portions p []

    represented : represents e portion (element_at es k) ≡ true
    represented =
        (represents-match es row p k e portion (element_at es k) (at-get_d es row no_element (omega arith)) (at-get_d e.portions p [] portion-below)
        (at-get_d es k no_element below)).1
        (subst (λ (given : Side). match_of row p k ∈ matches given es) (sym (side-told side e (row-kind es side row p k m))) m)

    -- the elements before the unit, parted at the one that it is associated with
    parts : take k es ≡ take row es ++ e ∷ drop (suc row) (take k es)
    parts =
        let l : row < length (take k es) = omega (arith, length-take-le k es (omega arith)) in
        split_at (take k es) row no_element l
        ∙ ap (λ (xs : List Element). xs ++ element_at (take k es) row ∷ drop (suc row) (take k es)) (take-take row k es (omega arith))
        ∙ ap (λ (y : Element). take row es ++ y ∷ drop (suc row) (take k es)) (get_or-take k es row no_element earlier)

    pub slot-told : slot ≡ suc (before kind es row + p)
    slot-told =
        ap (λ (xs : List Element). slot_in 0 (listed_of kind xs) (element_at es k)) parts
        ∙ subst (λ (i : ℕ). slot_in 0 (listed_of i (take row es ++ e ∷ drop (suc row) (take k es))) (element_at es k) ≡ suc (before i es row + p)) of
        (slot_is (take row es) e (drop (suc row) (take k es)) (take p e.portions) portion (drop (suc p) e.portions)
        (split_at e.portions p [] portion-below)
        (subst LimitsAside parts (aside-left (take k es) (element_at es k ∷ rest es k below) (subst LimitsAside (whole es k below) aside)))
        (element_at es k) represented
        ∙ ap (λ (i : ℕ). suc (before e.kind es row + i)) (length-take-le p e.portions (omega (arith, portion-below))))

    -- the portion is one of those that are listed before a later element
    pub behind : (j : ℕ) → row < j → j ≤ length es → before kind es row + p < before kind es j
    behind j l h =
        let one = before_more kind es row (omega arith) in
        let t : count_if (eqb e.kind kind) (length e.portions) ≡ length e.portions = rw (eq-eqb e.kind kind of) in
        let z : suc row + (j - suc row) ≡ j = omega arith in
        let more = subst (λ (i : ℕ). before kind es (suc row) ≤ before kind es i) z (before-rises kind es (suc row) (j - suc row) (omega arith)) in
        omega (arith, portion-below)

-- the number is the next exactly if the portion's place is what is left after those before
pub is-next : (base p ordered : ℕ) → eqb (suc (base + p)) (suc ordered) ≡ leb base ordered && eqb p (ordered - base)
is-next base p ordered =
    cases (leb base ordered)
    (λ t. let l = leb-true base ordered t in rw t
    (cases (eqb p (ordered - base))
    (λ u. let q = eqb-true p (ordered - base) u in rw u (eq-eqb (suc (base + p)) (suc ordered) (omega arith)))
    (λ u. let q = eqb-false p (ordered - base) u in rw u (ne_eqb (suc (base + p)) (suc ordered) (λ z. q (omega arith))))))
    (λ t. let l = leb-false base ordered t in rw t (ne_eqb (suc (base + p)) (suc ordered) (λ z. omega arith)))
