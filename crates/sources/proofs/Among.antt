-- The places of all elements, in stream order, are some of the places of the stream's items, in their order: so they ascend, and no two of two elements
-- share an octet.
use mathlib.Core.Path.{◌≡◌, subst}
use mathlib.Core.Bool.{false, cond}
use mathlib.Core.List.Memᴰ
use mathlib.Core.List.{List, [], ◌∷◌, ◌++◌, Memᴰ}
use mathlib.Core.Logic.{◌⊎◌, inl, inr}
use mathlib.Core.Option.{Option, none, some}
use Prim.Native.Nat.{ℕ, zero, suc, ◌<◌, ◌≤◌}
use native.Mathlib.Omega.{arith}
use borrow.Author.Tests.{eqb-true}
use borrow.Table.Steps.{cases}
use lib.Dec.{eqb}
use lib.ListN.{length, get_or}
use Rattle.headers.specs.Head.{constructed, type_field}
use Rattle.octets.specs.Walk.{Items, no_items, item}
use Rattle.contents.specs.declared.Span.{Span}
use Rattle.contents.specs.Search.{bounds_of, items_in}
use Rattle.tree.specs.Tree.{plain}
use Rattle.elements.specs.declared.Edition.{Edition}
use Rattle.elements.specs.Shape.{Contents, shape_of}
use Rattle.elements.specs.ElementRows.{content_octet}
use Rattle.letters.proofs.Standing.{Hollow}
use Rattle.sources.specs.Places.{piece_at, places_of, Ascend}
use Rattle.sources.specs.Units.{places_with, places_at, content_places, places_of_each}
use Rattle.sources.proofs.Places.{from-earlier, to-later}

-- some of the places of a list, in its order
data Among : List Span → List Span → Type 0 where
  nothing : {qs : List Span} → Among [] qs
  kept : {p : Span} {ps qs : List Span} → Among ps qs → Among (p ∷ ps) (p ∷ qs)
  passed : {p : Span} {ps qs : List Span} → Among ps qs → Among ps (p ∷ qs)

among_later : (qs : List Span) {ps rs : List Span} → Among ps rs → Among ps (qs ++ rs)
among_later [] a = a
among_later (q ∷ qs) a = passed (among_later qs a)

among-append : {ps qs : List Span} → Among ps qs → (ps' qs' : List Span) → Among ps' qs' → Among (ps ++ ps') (qs ++ qs')
among-append {ps} {qs} nothing ps' qs' b = among_later qs b
among-append (kept a) ps' qs' b = kept (among-append a ps' qs' b)
among-append (passed a) ps' qs' b = passed (among-append a ps' qs' b)

among-front : (ps qs : List Span) → Among ps (ps ++ qs)
among-front [] qs = nothing
among-front (p ∷ ps) qs = kept (among-front ps qs)

-- a bound of places that ascend
pub bounds-order : (from to : ℕ) (ps : List Span) → Ascend from to ps → from ≤ to
bounds-order from to [] a = a
bounds-order from to (p ∷ ps) a = omega (arith, a.0, a.1, bounds-order p.past to ps a.2)

-- they ascend
among-ascends : {ps qs : List Span} → Among ps qs → (from to : ℕ) → Ascend from to qs → Ascend from to ps
among-ascends {ps} {qs} nothing from to a = bounds-order from to qs a
among-ascends (kept {p} b) from to a = (a.0, a.1, among-ascends b p.past to a.2)
among-ascends (passed {p} {ps} {qs} b) from to a =
    among-ascends b from to (from-earlier from p.past to qs (omega (arith, a.0, a.1)) a.2)

-- the places of the first item with an octet are among those of its run
with-among : (octet : ℕ) (i : Items) → Among (places_with octet i) (places_of i)
unfolding places_with bounds_of items_in places_of
with-among octet no_items = cases (constructed octet) (λ t. rw t nothing) (λ t. rw t nothing)
with-among octet (item at type first past inside after) =
    let own = cond (constructed type) (places_of inside) (piece_at first past) in
    cases (eqb type octet)
    (λ t.
    let same : type ≡ octet = eqb-true type octet t in
    rw t
    (subst (λ (o : ℕ). Among (cond (constructed o) (places_of inside) (piece_at first past)) (own ++ places_of after)) same (among-front own (places_of after))))
    (λ t. rw t (among_later (cond (constructed type) (places_of inside) (piece_at first past)) (with-among octet after)))

at-among : (octet : Option ℕ) (i : Items) → Among (places_at octet i) (places_of i)
at-among none i = nothing
at-among (some octet) i = with-among octet i

-- one list after another
unfoldable pub flat : List (List Span) → List Span
flat [] = []
flat (ps ∷ pss) = ps ++ flat pss

-- an element that is primitive has nothing inside
hollow-among : (contents : Contents) (s : List ℕ) (octet first past : ℕ) (inside : Items) → (constructed octet ≡ false → inside ≡ no_items)
    → Among (content_places contents s inside) (cond (constructed octet) (places_of inside) (piece_at first past))
unfolding content_places places_of
hollow-among contents s octet first past inside w =
    let own = at-among (content_octet contents (plain s inside)) inside in
    let places = content_places contents s inside in
    cases (constructed octet)
    (λ t. rw t own)
    (λ t. rw t (among_none places (piece_at first past) (subst (λ (i : Items). Among places (places_of i)) (w t) own)))
  where
    among_none : (ps qs : List Span) → Among ps [] → Among ps qs
    among_none ps qs nothing = nothing

each-among : (edition : Edition) (s : List ℕ) (i : Items) → Hollow i → Among (flat (places_of_each edition s i)) (places_of i)
unfolding places_of_each places_of flat
each-among edition s no_items w = nothing
each-among edition s (item at code first past inside after) w =
    among-append (hollow-among (shape_of edition (type_field code)).contents s code first past inside w.0)
    (flat (places_of_each edition s after)) (places_of after)
    (each-among edition s after w.1)

pub each-ascends : (edition : Edition) (s : List ℕ) (i : Items) → Hollow i → (from to : ℕ) → Ascend from to (places_of i)
    → Ascend from to (flat (places_of_each edition s i))
each-ascends edition s i w from to a = among-ascends (each-among edition s i w) from to a

-- and there are no more of them than items
among-few : {ps qs : List Span} → Among ps qs → length ps ≤ length qs
among-few nothing = omega arith
among-few (kept a) = let l = among-few a in omega arith
among-few (passed a) = let l = among-few a in omega arith

pub each-few : (edition : Edition) (s : List ℕ) (i : Items) → Hollow i → length (flat (places_of_each edition s i)) ≤ length (places_of i)
each-few edition s i w = among-few (each-among edition s i w)

-- places that ascend, cut in two
pub record Cut (from to : ℕ) (ps qs : List Span) : Type 0 where
  pub middle : ℕ
  pub front : Ascend from middle ps
  pub back : Ascend middle to qs

pub cut : (from to : ℕ) (ps qs : List Span) → Ascend from to (ps ++ qs) → Cut from to ps qs
cut from to [] qs a = record { middle = from; front = omega arith; back = a }
cut from to (p ∷ ps) qs a =
    let c = cut p.past to ps qs a.2 in
    record { middle = c.middle; front = (a.0, a.1, c.front); back = c.back }

-- each lies between the bounds
pub record Lies (from to : ℕ) (p : Span) : Type 0 where
  pub low : from ≤ p.first
  pub some_octet : p.first < p.past
  pub high : p.past ≤ to

lies-either : (from to : ℕ) (p q : Span) (ps : List Span) → Ascend from to (q ∷ ps) → (Memᴰ p ps → Lies q.past to p)
    → (p ≡ q) ⊎ Memᴰ p ps → Lies from to p
lies-either from to p q ps a below (inl e) =
    rw e (record { low = a.0; some_octet = a.1; high = bounds-order q.past to ps a.2 })
lies-either from to p q ps a below (inr m) =
    let l = below m in record { low = omega (arith, a.0, a.1, l.low); some_octet = l.some_octet; high = l.high }

pub lies : (from to : ℕ) (ps : List Span) → Ascend from to ps → (p : Span) → Memᴰ p ps → Lies from to p
lies from to [] a p m = absurd (Memᴰ.not-nil m)
lies from to (q ∷ ps) a p m = lies-either from to p q ps a (lies q.past to ps a.2 p) (Memᴰ.cases_cons m)

-- one of the lists
pub one-ascends-in : (from to : ℕ) (pss : List (List Span)) → Ascend from to (flat pss) → (j : ℕ) → Ascend from to (get_or pss j [])
unfolding flat
one-ascends-in from to [] a j = a
one-ascends-in from to (ps ∷ pss) a zero =
    let c = cut from to ps (flat pss) a in to-later from c.middle to ps (bounds-order c.middle to (flat pss) c.back) c.front
one-ascends-in from to (ps ∷ pss) a (suc j) =
    let c = cut from to ps (flat pss) a in
    from-earlier from c.middle to (get_or pss j []) (bounds-order from c.middle ps c.front) (one-ascends-in c.middle to pss c.back j)

pub in-one-in-all : (pss : List (List Span)) (j : ℕ) (p : Span) → Memᴰ p (get_or pss j []) → Memᴰ p (flat pss)
unfolding flat
in-one-in-all [] j p m = m
in-one-in-all (ps ∷ pss) zero p m = Memᴰ.append_left (flat pss) m
in-one-in-all (ps ∷ pss) (suc j) p m = Memᴰ.append_right ps (in-one-in-all pss j p m)

-- what stands in a later list stands later in the stream
in-flat : (from to : ℕ) (pss : List (List Span)) → Ascend from to (flat pss) → (j : ℕ) (p : Span) → Memᴰ p (get_or pss j []) → from ≤ p.first
unfolding flat
in-flat from to [] a j p m = absurd (Memᴰ.not-nil m)
in-flat from to (ps ∷ pss) a zero p m = let c = cut from to ps (flat pss) a in (lies from c.middle ps c.front p m).low
in-flat from to (ps ∷ pss) a (suc j) p m =
    let c = cut from to ps (flat pss) a in
    omega (arith, in-flat c.middle to pss c.back j p m, bounds-order from c.middle ps c.front)

pub before-later : (from to : ℕ) (pss : List (List Span)) → Ascend from to (flat pss) → (i j : ℕ) → i < j → (p q : Span) → Memᴰ p (get_or pss i [])
    → Memᴰ q (get_or pss j []) → p.past ≤ q.first
unfolding flat
before-later from to [] a i j l p q m n = absurd (Memᴰ.not-nil m)
before-later from to (ps ∷ pss) a i zero l p q m n = absurd (omega arith)
before-later from to (ps ∷ pss) a zero (suc j) l p q m n =
    let c = cut from to ps (flat pss) a in
    omega (arith, (lies from c.middle ps c.front p m).high, in-flat c.middle to pss c.back j q n)
before-later from to (ps ∷ pss) a (suc i) (suc j) l p q m n =
    let c = cut from to ps (flat pss) a in
    before-later c.middle to pss c.back i j (omega arith) p q m n
