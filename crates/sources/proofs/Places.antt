-- The places of a run: what the item that is met gives, and then what the rest gives. The octets that stand there are the pieces joined, and the places
-- ascend from where the run begins to where its value ends.
use mathlib.Core.Path.{◌≡◌, refl, ap, sym, ◌∙◌, subst}
use mathlib.Core.Bool.{Bool, true, false}
use mathlib.Core.List.{List, [], ◌∷◌, ◌++◌, append_assoc, append-nil}
use Prim.Native.Nat.{ℕ, ◌+◌, ◌<◌, ◌≤◌}
use native.Mathlib.Omega.{arith}
use borrow.Author.Tests.{ltb-true, ltb-false, lt-ltb, le-ltb}
use borrow.Table.Steps.{cases}
use lib.Dec.{ltb}
use lib.ListN.{length, length-append, length-take, drop_of_length-le, take}
use lib.Seq.{slice}
use Rattle.headers.specs.Head.{constructed}
use Rattle.octets.specs.Walk.{Items, no_items, item, End, ends, stops, past_of, count}
use Rattle.octets.specs.Rules.{Runs, at_limit, unclosed, closes, refuses, primitive, passes, breaks}
use Rattle.octets.proofs.Walks.{EndOk, run_ok}
use Rattle.octets.proofs.Turns.{header_ok}
use Rattle.octets.proofs.RulesHold.{derives}
use Rattle.tree.specs.Tree.{plain}
use Rattle.tree.specs.Accepts.{Whole}
use Rattle.contents.specs.declared.Span.{Span}
use Rattle.runs.specs.declared.Run.{Run}
use Rattle.runs.specs.Runs.{walk_in, items_of, Fine, Meeting}
use Rattle.runs.proofs.Again.{definite}
use Rattle.runs.proofs.Heads.{mark-marked}
use Rattle.pieces.specs.Pieces.{joined}
use Rattle.sources.specs.Places.{piece_at, places_of, octets_at, Ascend}

-- octets at places and then at others
pub octets-append : (s : List ℕ) (ps qs : List Span) → octets_at s (ps ++ qs) ≡ octets_at s ps ++ octets_at s qs
unfolding octets_at
octets-append s [] qs = refl
octets-append s (p ∷ ps) qs =
    ap (λ (z : List ℕ). slice p.first p.past s ++ z) (octets-append s ps qs)
    ∙ sym (append_assoc (slice p.first p.past s) (octets_at s ps) (octets_at s qs))

-- what is not there has no octets
pub slice-none : (first past : ℕ) (s : List ℕ) → past ≤ first → slice first past s ≡ []
slice-none first past s l = drop_of_length-le (take past s) {i = first} (omega (arith, length-take past s))

-- one place has the value of its piece, and an empty one has none
pub one-read : (s : List ℕ) (first past : ℕ) → octets_at s (piece_at first past) ≡ slice first past s
unfolding octets_at
one-read s first past =
    cases (ltb first past)
    (λ t. rw t (append-nil (slice first past s)))
    (λ t. rw t (sym (slice-none first past s (ltb-false first past t))))

-- "the pieces joined in order" are what stands at the places
pub read-places : (s : List ℕ) (i : Items) → octets_at s (places_of i) ≡ joined (plain s i)
unfolding places_of joined octets_at
read-places s no_items = refl
read-places s (item at code first past inside after) =
    cases (constructed code)
    (λ t. rw (t, octets-append s (places_of inside) (places_of after), read-places s inside, read-places s after))
    (λ t. rw (t, octets-append s (piece_at first past) (places_of after), one-read s first past, read-places s after))

-- places that ascend from a later place ascend from an earlier one, and others may follow them
pub from-earlier : (from from' to : ℕ) (ps : List Span) → from ≤ from' → Ascend from' to ps → Ascend from to ps
from-earlier from from' to [] l a = omega arith
from-earlier from from' to (p ∷ ps) l a = (omega (arith, a.0), a.1, a.2)

pub to-later : (from to to' : ℕ) (ps : List Span) → to ≤ to' → Ascend from to ps → Ascend from to' ps
to-later from to to' [] l a = omega arith
to-later from to to' (p ∷ ps) l a = (a.0, a.1, to-later p.past to to' ps l a.2)

pub ascend-append : (from middle middle' to : ℕ) (ps qs : List Span) → Ascend from middle ps → middle ≤ middle' → Ascend middle' to qs
    → Ascend from to (ps ++ qs)
ascend-append from middle middle' to [] qs a l b = from-earlier from middle' to qs (omega arith) b
ascend-append from middle middle' to (p ∷ ps) qs a l b = (a.0, a.1, ascend-append p.past middle middle' to ps qs a.2 l b)

-- there are no more places than octets between the bounds
pub ascend-few : (from to : ℕ) (ps : List Span) → Ascend from to ps → from + length ps ≤ to
ascend-few from to [] a = omega arith
ascend-few from to (p ∷ ps) a = omega (arith, a.0, a.1, ascend-few p.past to ps a.2)

-- one place, if it has octets
pub one-ascends : (first past : ℕ) → first ≤ past → Ascend first past (piece_at first past)
one-ascends first past l =
    cases (ltb first past) (λ t. rw t (omega arith, ltb-true first past t, omega arith)) (λ t. rw t l)

past-within : (marked : Bool) (next : ℕ) → past_of marked next ≤ next
past-within true next = omega arith
past-within false next = omega arith

-- by the rules of the walk, the places of a run that ended ascend from its start to the end of its value
closed : (marked : Bool) (at : ℕ) → marked ≡ true → at ≤ past_of marked (at + 2)
closed marked at m = rw m (omega arith)

pub ascends : {s : List ℕ} {room at limit : ℕ} {marked : Bool} {i : Items} {e : End} → Runs s room at limit marked i e → (end : ℕ) → e ≡ ends end
    → Ascend at (past_of marked end) (places_of i)
unfolding places_of
ascends (at_limit {room} {at} {limit} p) end e = let q : limit ≡ end = cc in omega arith
ascends (unclosed p) end e = let z : ◌≡◌ {A = ℕ} 0 1 = cc in absurd (omega arith)
ascends {s} (closes {room} {at} {limit} {marked} l h) end e =
    let q : at + 2 ≡ end = cc in
    subst (λ (n : ℕ). at ≤ past_of marked n) q (closed marked at (mark-marked s at limit marked room h))
ascends (refuses l h) end e = let z : ◌≡◌ {A = ℕ} 0 1 = cc in absurd (omega arith)
ascends {s} (primitive {room} {at} {limit} {marked} {h} {after} l p q r) end e =
    let o = header_ok s at limit room marked h p in
    let m = definite s at limit marked room h p q h.marked refl in
    let past = past_of h.marked h.bound in
    let same : past ≡ h.bound = rw m in
    let own = one-ascends h.start past (omega (arith, o.order)) in
    rw q
    (ascend-append at past h.bound (past_of marked end) (piece_at h.start past) (places_of after)
    (from-earlier at h.start past (piece_at h.start past) (omega (arith, o.header)) own) (omega arith) (ascends r end e))
ascends {s} (passes {room} {at} {limit} {marked} {h} {inside} {after} {next} l p q v r) end e =
    let o = header_ok s at limit room marked h p in
    let past = past_of h.marked next in
    rw q
    (ascend-append at past next (past_of marked end) (places_of inside) (places_of after)
    (from-earlier at h.start past (places_of inside) (omega (arith, o.header)) (ascends v next refl)) (past-within h.marked next) (ascends r end e))
ascends (breaks l p q v) end e = let z : ◌≡◌ {A = ℕ} 0 1 = cc in absurd (omega arith)

-- the places of a run ascend in it
run-ascends-by : {s : List ℕ} {r : Run} → Fine s r → (e : End) → (walk_in s r).how ≡ e → Whole e → Ascend r.at r.limit (places_of (items_of s r))
run-ascends-by {s} {r} f (ends next) e w =
    let rules = derives r.room s r.at r.limit r.marked f.order in
    let ok = subst (EndOk r.at r.limit (count (items_of s r))) e (run_ok r.room s r.at r.limit r.marked f.order) in
    to-later r.at (past_of r.marked next) r.limit (places_of (items_of s r)) (omega (arith, past-within r.marked next)) (ascends rules next e)
run-ascends-by f (stops number place) e w = absurd w

pub run-ascends : {s : List ℕ} {r : Run} → Fine s r → Ascend r.at r.limit (places_of (items_of s r))
run-ascends {s} {r} f = run-ascends-by f (walk_in s r).how refl f.whole

-- so there are no more of them than octets in the stream
pub places-few : {s : List ℕ} {r : Run} → Fine s r → length (places_of (items_of s r)) ≤ length s
places-few {s} {r} f = omega (arith, ascend-few r.at r.limit (places_of (items_of s r)) (run-ascends f), f.inside)

-- nor than items: the header count of the check is enough for all of a letter
pub places-items : (i : Items) → length (places_of i) ≤ count i
unfolding places_of
places-items no_items = omega arith
places-items (item at code first past inside after) =
    let more = places-items after in
    cases (constructed code)
    (λ t. rw (t, length-append (places_of inside) (places_of after)) (omega (arith, places-items inside)))
    (λ t. rw (t, length-append (piece_at first past) (places_of after)) (omega (arith, one-few first past)))
  where
    one-few : (first past : ℕ) → length (piece_at first past) ≤ 1
    one-few first past = cases (ltb first past) (λ t. rw t (omega arith)) (λ t. rw t (omega arith))

-- the first item of the run r gives the places own, and the run goes on with rest
pub record Gives (s : List ℕ) (r : Run) (own : List Span) (rest : Run) : Type 0 where
  pub gives : places_of (items_of s r) ≡ own ++ places_of (items_of s rest)
  pub fine : Fine s rest
  pub room : rest.room ≡ r.room

pub gives-length : {s : List ℕ} {r : Run} {own : List Span} {rest : Run} → Gives s r own rest
    → length (places_of (items_of s r)) ≡ length own + length (places_of (items_of s rest))
gives-length {s} {r} {own} {rest} g = ap length g.gives ∙ length-append own (places_of (items_of s rest))

pub places-none : (s : List ℕ) (r : Run) → items_of s r ≡ no_items → places_of (items_of s r) ≡ []
unfolding places_of
places-none s r e = ap places_of e

module _ {s : List ℕ} {r : Run} {octet first past : ℕ} {inner rest : Run} (m : Meeting s r octet first past inner rest) where
  -- a primitive item gives its place, if it has octets
  pub piece-gives : constructed octet ≡ false → first < past → Gives s r (record { first = first; past = past } ∷ []) rest
  unfolding places_of
  piece-gives c l = record { gives = ap places_of m.tree ∙ rw (c, lt-ltb first past l); fine = m.rest_fine; room = m.rest_room }

  pub empty-gives : constructed octet ≡ false → past ≤ first → Gives s r [] rest
  unfolding places_of
  empty-gives c l = record { gives = ap places_of m.tree ∙ rw (c, le-ltb first past l); fine = m.rest_fine; room = m.rest_room }

  -- a constructed one gives those inside it
  pub pieces-give : constructed octet ≡ true → Gives s r (places_of (items_of s inner)) rest
  unfolding places_of
  pieces-give c = record { gives = ap places_of m.tree ∙ rw c; fine = m.rest_fine; room = m.rest_room }
