-- The pieces of a run joined: what the item that is met gives, and then what the rest gives; and no more octets than the run has.
use mathlib.Core.Path.{◌≡◌, ap, ◌∙◌}
use mathlib.Core.Bool.{Bool, true, false}
use mathlib.Core.List.{List, [], ◌++◌}
use Prim.Native.Nat.{ℕ, ◌+◌, ◌-◌, ◌≤◌}
use native.Mathlib.Omega.{arith}
use lib.ListN.{length, length-append}
use lib.Seq.{slice, length-slice}
use Rattle.headers.specs.Head.{constructed}
use Rattle.octets.specs.Walk.{Items, no_items, count, End, ends, stops, past_of}
use Rattle.octets.specs.Rules.{Runs, at_limit, unclosed, closes, refuses, primitive, passes, breaks}
use Rattle.octets.proofs.Walks.{EndOk, run_ok}
use Rattle.octets.proofs.Turns.{header_ok}
use Rattle.octets.proofs.RulesHold.{derives}
use Rattle.tree.specs.Tree.{plain}
use Rattle.tree.specs.Accepts.{Whole}
use Rattle.runs.specs.declared.Run.{Run}
use Rattle.runs.specs.Runs.{walk_in, items_of, tree_in, Fine, Meeting}
use Rattle.runs.proofs.Laws.{tree-meets, tree-none}
use Rattle.pieces.specs.Pieces.{joined}

pub joined-none : (s : List ℕ) (r : Run) → items_of s r ≡ no_items → joined (tree_in s r) ≡ []
unfolding joined
joined-none s r e = ap joined (tree-none s r e)

-- the first item of the run r gives the octets own, and the run goes on with rest
pub record Gives (s : List ℕ) (r : Run) (own : List ℕ) (rest : Run) : Type 0 where
  pub joins : joined (tree_in s r) ≡ own ++ joined (tree_in s rest)
  pub fine : Fine s rest
  pub room : rest.room ≡ r.room

pub gives-length : {s : List ℕ} {r : Run} {own : List ℕ} {rest : Run} → Gives s r own rest
    → length (joined (tree_in s r)) ≡ length own + length (joined (tree_in s rest))
gives-length {s} {r} {own} {rest} g = ap length g.joins ∙ length-append own (joined (tree_in s rest))

module _ {s : List ℕ} {r : Run} {code first past : ℕ} {inner rest : Run} (m : Meeting s r code first past inner rest) where
  -- a primitive item gives its value
  pub piece-gives : constructed code ≡ false → Gives s r (slice first past s) rest
  unfolding joined
  piece-gives c = record { joins = ap joined (tree-meets m) ∙ rw c; fine = m.rest_fine; room = m.rest_room }

  -- a constructed one gives what is inside it
  pub pieces-give : constructed code ≡ true → Gives s r (joined (tree_in s inner)) rest
  unfolding joined
  pieces-give c = record { joins = ap joined (tree-meets m) ∙ rw c; fine = m.rest_fine; room = m.rest_room }

  pub value-length : length (slice first past s) ≡ past - first
  value-length = length-slice first past s m.value_inside

-- n octets from `at` on are passed where the walk ends
abbrev Passes : (at n : ℕ) → End → Type 0
Passes at n (ends next) = at + n ≤ next
Passes at n (stops number place) = Unit {0}

passes_on : (at own next n : ℕ) (e : End) → at + own ≤ next → Passes next n e → Passes at (own + n) e
passes_on at own next n (ends to) l p = omega arith
passes_on at own next n (stops number place) l p = tt

past-within : (marked : Bool) (next : ℕ) → past_of marked next ≤ next
past-within true next = omega arith
past-within false next = omega arith

-- by the rules of the walk, pieces lie one after another
pieces-pass : {s : List ℕ} {room at limit : ℕ} {marked : Bool} {i : Items} {e : End} → Runs s room at limit marked i e → limit ≤ length s
    → Passes at (length (joined (plain s i))) e
unfolding joined
pieces-pass (at_limit p) w = omega arith
pieces-pass (unclosed p) w = tt
pieces-pass (closes l h) w = omega arith
pieces-pass (refuses l h) w = tt
pieces-pass {s} (primitive {room} {at} {limit} {marked} {h} {after} {e} l p q r) w =
    let o = header_ok s at limit room marked h p in
    let past = past_of h.marked h.bound in
    let b = past-within h.marked h.bound in
    let n = length-slice h.start past s (omega arith) in
    rw (q, length-append (slice h.start past s) (joined (plain s after)))
    (passes_on at (length (slice h.start past s)) h.bound (length (joined (plain s after))) e (omega arith) (pieces-pass r w))
pieces-pass {s} (passes {room} {at} {limit} {marked} {h} {inside} {after} {next} {e} l p q v r) w =
    let o = header_ok s at limit room marked h p in
    let k : h.start + length (joined (plain s inside)) ≤ next = pieces-pass v (omega arith) in
    rw (q, length-append (joined (plain s inside)) (joined (plain s after)))
    (passes_on at (length (joined (plain s inside))) next (length (joined (plain s after))) e (omega arith) (pieces-pass r w))
pieces-pass (breaks l p q v) w = tt

ends-within : (at limit n m : ℕ) (e : End) → Whole e → EndOk at limit n e → Passes at m e → at + m ≤ limit
ends-within at limit n m (ends next) w o p = omega arith
ends-within at limit n m (stops number place) w o p = absurd w

-- joined, the pieces of a run are no longer than the run
pub joined-within : {s : List ℕ} {r : Run} → Fine s r → r.at + length (joined (tree_in s r)) ≤ r.limit
joined-within {s} {r} f =
    ends-within r.at r.limit (count (items_of s r)) (length (joined (tree_in s r))) (walk_in s r).how f.whole
    (run_ok r.room s r.at r.limit r.marked f.order)
    (pieces-pass (derives r.room s r.at r.limit r.marked f.order) f.inside)

-- nor longer than the stream
pub joined-fits : {s : List ℕ} {r : Run} → Fine s r → length (joined (tree_in s r)) ≤ length s
joined-fits f = omega (arith, joined-within f, f.inside)
