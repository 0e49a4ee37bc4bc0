-- What a caller needs of runs: the whole stream's run is fine once the stream was walked, a run begins at its place, what is met is
-- the tree's first item, and how many items there can be.
use mathlib.Core.Path.{◌≡◌, refl, ap, sym, ◌∙◌}
use mathlib.Core.Bool.{Bool, true, false, cond, false≢true}
use mathlib.Core.List.{List}
use Prim.Native.Nat.{ℕ, ◌+◌, ◌≤◌}
use native.Mathlib.Omega.{arith}
use lib.Dec.{leb}
use lib.ListN.{length}
use lib.Seq.{slice}
use borrow.Author.Tests.{leb-true, le-leb}
use Rattle.octets.specs.Told.{Outcome, ended, refused}
use Rattle.headers.specs.Head.{constructed, type_field}
use Rattle.octets.specs.Walk.{Items, no_items, item, count, End, ends, stops, stream_limit, outcome_of, answer, walk_of, start_of}
use Rattle.octets.specs.Rules.{Runs, at_limit, unclosed, closes, refuses, primitive, passes, breaks}
use Rattle.octets.proofs.Told.{same-ended}
use Rattle.octets.proofs.Walks.{EndOk, run_ok}
use Rattle.octets.proofs.Turns.{answer-ends}
use Rattle.octets.proofs.RulesHold.{derives}
use Rattle.tree.specs.Tree.{empty, formed, plain}
use Rattle.tree.specs.Accepts.{Whole}
use Rattle.runs.specs.declared.Run.{Run}
use Rattle.runs.specs.Runs.{walk_in, items_of, tree_in, whole_stream, tops, Fine, Meeting}
use Rattle.runs.proofs.Heads.{mark-marked}
use Rattle.runs.proofs.Ends.{ends-right, ends-at-limit}

not-refused : (b : Bool) (o : Outcome) (at n : ℕ) → cond b o (refused 1 0 0) ≡ ended at n → (b ≡ true) × (o ≡ ended at n)
not-refused true o at n p = (refl, p)
not-refused false o at n p = let z : ◌≡◌ {A = ℕ} 0 1 = cc in absurd (omega arith)

ends-whole : (e : End) (at : ℕ) → e ≡ ends at → Whole e
ends-whole e at p = rw p tt

-- a stream whose walk ended is within the limit
pub stream-within : (s : List ℕ) (at n : ℕ) → walk_of s ≡ ended at n → length s ≤ stream_limit
unfolding walk_of
stream-within s at n p = leb-true _ _ (not-refused (leb (length s) stream_limit) (answer (walk_in s (whole_stream s))) at n p).0

-- where the walk of a stream ended, its run is fine
pub stream-fine : (s : List ℕ) (at n : ℕ) → walk_of s ≡ ended at n → Fine s (whole_stream s)
unfolding walk_of
stream-fine s at n p =
    let w = walk_in s (whole_stream s) in
    let q = not-refused (leb (length s) stream_limit) (answer w) at n p in
    record { order = omega arith; inside = omega arith; whole = ends-whole w.how at (answer-ends (count w.items) w.how at n q.1) }

-- and the other way round
pub stream-ended : (s : List ℕ) → length s ≤ stream_limit → Fine s (whole_stream s) → walk_of s ≡ ended (length s) (count (items_of s (whole_stream s)))
unfolding walk_of
stream-ended s l f =
    let w = walk_in s (whole_stream s) in
    let e : w.how ≡ ends (length s) = ends-at-limit 0 (length s) w.how (ends-right _ s 0 (length s) false (omega arith)) f.whole in
    rw (le-leb _ _ l) (ap (outcome_of (count w.items)) e)

-- a stream's walk ends at its length, and its header count is that of its items
pub stream-count : (s : List ℕ) (at n : ℕ) → walk_of s ≡ ended at n → (at ≡ length s) × (n ≡ count (items_of s (whole_stream s)))
stream-count s at n p = same-ended (sym p ∙ stream-ended s (stream-within s at n p) (stream-fine s at n p))

pub starts-at : {s : List ℕ} {room at limit : ℕ} {marked : Bool} {i : Items} {e : End} → Runs s room at limit marked i e → marked ≡ false → Whole e
    → start_of limit i ≡ at
starts-at (at_limit p) m w = sym p
starts-at (unclosed p) m w = absurd w
starts-at {s} (closes {room} {at} {limit} {marked} l h) m w = absurd (false≢true (sym m ∙ mark-marked s at limit marked room h))
starts-at (refuses l h) m w = absurd w
starts-at (primitive l p q r) m w = refl
starts-at (passes l p q v r) m w = refl
starts-at (breaks l p q v) m w = absurd w

-- an unmarked run begins at its place: its first item stands there, or it is at its limit
pub start-at : {s : List ℕ} {r : Run} → Fine s r → r.marked ≡ false → start_of r.limit (items_of s r) ≡ r.at
start-at {s} {r} f m = starts-at (derives r.room s r.at r.limit r.marked f.order) m f.whole

-- what is met is the first item of the tree
pub tree-meets : {s : List ℕ} {r : Run} {code first past : ℕ} {inner rest : Run} → Meeting s r code first past inner rest
    → tree_in s r ≡ formed (constructed code) (type_field code) (slice first past s) (tree_in s inner) (tree_in s rest)
tree-meets {s} m = ap (plain s) m.tree

-- where no item is met the tree is empty
pub tree-none : (s : List ℕ) (r : Run) → items_of s r ≡ no_items → tree_in s r ≡ empty
tree-none s r e = ap (plain s) e

-- a run with no item at its top has none
pub no-tops : (i : Items) → tops i ≡ 0 → i ≡ no_items
no-tops no_items e = refl
no-tops (item at code start past inside after) e = absurd (omega arith)

-- a run has at most as many items as there are at any level
pub count-top : (i : Items) → tops i ≤ count i
count-top no_items = omega arith
count-top (item at code start past inside after) = let t = count-top after in omega arith

end-within : (at limit n : ℕ) (e : End) → EndOk at limit n e → at + (n + n) ≤ limit
end-within at limit n (ends next) o = omega arith
end-within at limit n (stops number place) o = o

-- an item has two octets at least
pub count-within : {s : List ℕ} {r : Run} → Fine s r → r.at + (count (items_of s r) + count (items_of s r)) ≤ r.limit
count-within {s} {r} f = end-within r.at r.limit (count (items_of s r)) (walk_in s r).how (run_ok r.room s r.at r.limit r.marked f.order)
