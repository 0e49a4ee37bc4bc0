-- The walk accepts a stream exactly when it is coded as X.209 says and within the limit, and then with the tree that it codes: `sound` and
-- `complete` at the whole stream.
use mathlib.Core.Path.{◌≡◌, refl, ap, sym, ◌∙◌, subst}
use mathlib.Core.Bool.{Bool, true, false, cond}
use mathlib.Core.List.{List, [], append-nil}
use Prim.Native.Nat.{ℕ, ◌+◌, ◌≤◌}
use native.Mathlib.Omega.{arith}
use lib.Dec.{leb}
use lib.ListN.{length}
use borrow.Author.Tests.{le-leb, leb-true}
use Rattle.octets.specs.Told.{ended as walk_ended, refused}
use Rattle.octets.specs.Walk.{no_items, count, stream_limit, deepest, End, ends, stops, Walked, run, outcome_of, walk_of}
use Rattle.octets.specs.Rules.{Runs, at_limit}
use Rattle.octets.proofs.Told.{same-ended}
use Rattle.octets.proofs.RulesHold.{derives, derived}
use Rattle.tree.specs.Tree.{Tree, plain, tree_of, Codes}
use Rattle.tree.specs.Accepts.{Accepts, Whole}
use Rattle.tree.proofs.Here.{all}
use Rattle.tree.proofs.Sound.{sound}
use Rattle.tree.proofs.Complete.{complete, graft-empty}

-- the walk of a whole stream
abbrev top : List ℕ → Walked
top s = run deepest s 0 (length s) false

-- an outcome that ended, of a stream within the limit
ended-how : (n : ℕ) (e : End) (b : Bool) (at k : ℕ) → cond b (outcome_of n e) (refused 1 0 0) ≡ walk_ended at k → (b ≡ true) × (e ≡ ends at)
ended-how n (ends to) true at k p = (refl, ap ends (same-ended p).0)
ended-how n (ends to) false at k p = absurd cc
ended-how n (stops number place) true at k p = absurd cc
ended-how n (stops number place) false at k p = absurd cc

-- a walk that ended is of a stream within the limit, and it is whole
pub whole_of : (s : List ℕ) (at k : ℕ) → walk_of s ≡ walk_ended at k → (length s ≤ stream_limit) × Whole (top s).how
unfolding walk_of
whole_of s at k e =
    let (b, h) = ended-how (count (top s).items) (top s).how (leb (length s) stream_limit) at k e in
    (leb-true (length s) stream_limit b, subst Whole (sym h) tt)

-- a whole walk of all of s is coded by all of s
whole-codes : (s : List ℕ) (e : End) → (top s).how ≡ e → Whole e → Codes deepest (tree_of s) s
whole-codes s (stops number place) p w = absurd w
whole-codes s (ends next) p w =
    let runs = subst (λ (x : End). Runs s deepest 0 (length s) false (top s).items x) p (derives deepest s 0 (length s) false (omega arith)) in
    let (xs, c, h, q) = sound runs (omega arith) in
    subst (Codes deepest (tree_of s)) (all s xs h (omega arith)) c

-- What the walk accepts is coded so, and within the limit.
pub means : (s : List ℕ) (t : Tree) → Accepts s t → Codes deepest t s × (length s ≤ stream_limit)
means s t a =
    let (l, w) = whole_of s a.at a.headers a.ended in
    (subst (λ (u : Tree). Codes deepest u s) a.tree (whole-codes s (top s).how refl w), l)

-- the walk of octets that code t, however many they are: the limit of a stream is no part of it
pub coded-walk : (s : List ℕ) (t : Tree) → Codes deepest t s → ((top s).how ≡ ends (length s)) × (tree_of s ≡ t)
coded-walk s t c =
    let z : 0 + length s ≡ length s = omega arith in
    let o = complete c s 0 (length s) false ([], sym (append-nil s)) (omega arith) no_items (ends (length s)) (at_limit z) in
    let d = derived o.runs in
    (sym (ap (λ (w : Walked). w.how) d), ap (λ (w : Walked). plain s w.items) (sym d) ∙ o.same ∙ graft-empty t)

-- What is coded so, and within the limit, the walk accepts.
pub accepts : (s : List ℕ) (t : Tree) → Codes deepest t s → length s ≤ stream_limit → Accepts s t
unfolding walk_of
accepts s t c l =
    let (h, e) = coded-walk s t c in
    record { at = length s; headers = count (top s).items; ended = rw (le-leb (length s) stream_limit l, h); tree = e }

-- One stream codes one tree.
pub unique : (s : List ℕ) (t u : Tree) → Codes deepest t s → Codes deepest u s → t ≡ u
unique s t u c d = sym (coded-walk s t c).1 ∙ (coded-walk s u d).1

-- A stream within the limit that is refused, which is by 2 to 8, codes no tree.
pub refused-codes-nothing : (s : List ℕ) (number place k : ℕ) → walk_of s ≡ refused number place k → length s ≤ stream_limit
    → (t : Tree) → Codes deepest t s → ⊥
refused-codes-nothing s number place k e l t c =
    let a = (accepts s t c l).ended in
    absurd cc
