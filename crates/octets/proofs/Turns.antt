-- What a turn of the run walker does to its answer, by what stands at its place.
use Rattle.std.specs.Prelude.{Ok, Err}
use mathlib.Core.Path.{◌≡◌, ap, ◌∙◌, subst}
use mathlib.Core.Bool.{Bool, true, false}
use mathlib.Core.List.{List}
use Prim.Native.Nat.{ℕ, suc, ◌+◌, ◌-◌, ◌<◌, ◌≤◌}
use native.Mathlib.Omega.{arith}
use borrow.Author.Tests.{le-leb, lt-leb}
use Rattle.headers.specs.declared.Header.{Header}
use Rattle.headers.specs.declared.Head.{Head}
use Rattle.headers.specs.declared.Head.TheVariants.{Item, ClosingMark, Refusal}
use Rattle.octets.specs.Told.{Outcome, ended as walk_ended, refused}
use Rattle.headers.specs.Head.{constructed, head_at}
use Rattle.octets.specs.Walk.{Items, no_items, item, count, End, ends, stops, Walked, ended, stopped, past_of, follow, on_head, run, outcome_of, answer}
use Rattle.octets.specs.Further.{plus}
use Rattle.octets.specs.Values.{value_of}
use Rattle.headers.proofs.Lies.{HeadOk, head_ok}
use Rattle.octets.proofs.Told.{same-ended, same-refused}
use Rattle.octets.proofs.Walks.{EndOk, value-ok, run_ok, run_step}

pub plus-plus : (a b : ℕ) (o : Outcome) → plus a (plus b o) ≡ plus (a + b) o
plus-plus a b (Ok e) = ap (walk_ended e.at) (omega arith)
plus-plus a b (Err r) = ap (refused r.number r.place) (omega arith)

pub plus-zero : (o : Outcome) → o ≡ plus 0 o
plus-zero (Ok e) = ap (walk_ended e.at) (omega arith)
plus-zero (Err r) = ap (refused r.number r.place) (omega arith)

plus-answer : (k n : ℕ) (e : End) → outcome_of (suc (k + n)) e ≡ plus (k + 1) (outcome_of n e)
plus-answer k n (ends at) = ap (walk_ended at) (omega arith)
plus-answer k n (stops number place) = ap (refused number place) (omega arith)

pub follow-passes : (at : ℕ) (h : Header) (inside : Items) (e : End) (more : ℕ → Walked) (next k : ℕ)
    → outcome_of (count inside) e ≡ walk_ended next k → answer (follow at h inside e more) ≡ plus (k + 1) (answer (more next))
follow-passes at h inside (ends to) more next k p =
    let (a, b) = same-ended p in
    plus-answer (count inside) (count (more to).items) (more to).how ∙ rw (a, b)
follow-passes at h inside (stops n place) more next k p = absurd cc

pub follow-breaks : (at : ℕ) (h : Header) (inside : Items) (e : End) (more : ℕ → Walked) (number place k : ℕ)
    → outcome_of (count inside) e ≡ refused number place k → answer (follow at h inside e more) ≡ refused number place (k + 1)
follow-breaks at h inside (ends to) more number place k p = absurd cc
follow-breaks at h inside (stops n q) more number place k p =
    let (a, b, d) = same-refused p in
    let m : suc (count inside + 0) ≡ k + 1 = omega arith in
    rw (a, b, m)

module _ (room : ℕ) (s : List ℕ) (at limit : ℕ) (marked : Bool) (l : at < limit) where
  pub at_head : (head : Head) → head_at s at limit marked room ≡ head → run room s at limit marked
      ≡ on_head at head (λ h. run (room - 1) s h.start h.bound h.marked) (λ next. run room s next limit marked)
  at_head head e = run_step room s at limit marked (omega arith) ∙ rw (lt-leb _ _ l, e)

  pub closes : head_at s at limit marked room ≡ ClosingMark → answer (run room s at limit marked) ≡ walk_ended (at + 2) 0
  closes e = ap answer (at_head ClosingMark e)

  pub refuses : (number place : ℕ) → head_at s at limit marked room ≡ Refusal number place → answer (run room s at limit marked) ≡ refused number place 0
  refuses number place e = ap answer (at_head (Refusal number place) e)

  pub passes : (h : Header) → head_at s at limit marked room ≡ Item h → (next k : ℕ) → answer (value_of room s h) ≡ walk_ended next k
      → answer (run room s at limit marked) ≡ plus (k + 1) (answer (run room s next limit marked))
  unfolding value_of
  passes h e next k p = ap answer (at_head (Item h) e)
      ∙ follow-passes at h (value_of room s h).items (value_of room s h).how (λ n. run room s n limit marked) next k p

  pub breaks : (h : Header) → head_at s at limit marked room ≡ Item h → (number place k : ℕ) → answer (value_of room s h) ≡ refused number place k
      → answer (run room s at limit marked) ≡ refused number place (k + 1)
  unfolding value_of
  breaks h e number place k p = ap answer (at_head (Item h) e)
      ∙ follow-breaks at h (value_of room s h).items (value_of room s h).how (λ n. run room s n limit marked) number place k p

pub unclosed : (room : ℕ) (s : List ℕ) (limit : ℕ) → answer (run room s limit limit true) ≡ refused 7 limit 0
unclosed room s limit =
    let e : run room s limit limit true ≡ stopped 7 limit = run_step room s limit limit true (omega arith) ∙ rw (le-leb limit limit (omega arith)) in
    ap answer e

pub closed : (room : ℕ) (s : List ℕ) (limit : ℕ) → answer (run room s limit limit false) ≡ walk_ended limit 0
closed room s limit =
    let e : run room s limit limit false ≡ ended limit = run_step room s limit limit false (omega arith) ∙ rw (le-leb limit limit (omega arith)) in
    ap answer e

-- where an answer stands, and how many items it can have
abbrev pub OutcomeOk : (at limit : ℕ) → Outcome → Type 0
OutcomeOk at limit (Ok e) = (at + (e.count + e.count) ≤ e.at) × (e.at ≤ limit)
OutcomeOk at limit (Err r) = at + (r.count + r.count) ≤ limit

answer_ok : (at limit n : ℕ) (e : End) → EndOk at limit n e → OutcomeOk at limit (outcome_of n e)
answer_ok at limit n (ends to) o = o
answer_ok at limit n (stops number place) o = o

pub value-outcome : (room : ℕ) (s : List ℕ) (h : Header) → h.start ≤ h.bound → OutcomeOk h.start h.bound (answer (value_of room s h))
unfolding value_of
value-outcome room s h l =
    answer_ok h.start h.bound _ (value_of room s h).how
    (value-ok (constructed h.code) h (λ g. run (room - 1) s g.start g.bound g.marked) l
    (λ g b. run_ok (room - 1) s g.start g.bound g.marked b))

-- what a header that was read tells
pub header_ok : (s : List ℕ) (at limit room : ℕ) (marked : Bool) (h : Header) → head_at s at limit marked room ≡ Item h → HeadOk at limit room (Item h)
header_ok s at limit room marked h e = subst (HeadOk at limit room) e (head_ok s at limit room marked)

pub mark-ok : (s : List ℕ) (at limit room : ℕ) (marked : Bool) → head_at s at limit marked room ≡ ClosingMark → at + 2 ≤ limit
mark-ok s at limit room marked e = subst (HeadOk at limit room) e (head_ok s at limit room marked)

module _ (room : ℕ) (s : List ℕ) (at limit : ℕ) (marked : Bool) (h : Header) (e : head_at s at limit marked room ≡ Item h) where
  -- after an item whose value ended at next, with k items inside it
  pub passed_ok : (next k : ℕ) → answer (value_of room s h) ≡ walk_ended next k → (at + 2 + (k + k) ≤ next) × (next ≤ limit)
  passed_ok next k p =
      let o = header_ok s at limit room marked h e in
      let v : OutcomeOk h.start h.bound (walk_ended next k) = subst (OutcomeOk h.start h.bound) p (value-outcome room s h o.order) in
      omega arith

  pub broken-ok : (number place k : ℕ) → answer (value_of room s h) ≡ refused number place k → at + 2 + (k + k) ≤ limit
  broken-ok number place k p =
      let o = header_ok s at limit room marked h e in
      let v : OutcomeOk h.start h.bound (refused number place k) = subst (OutcomeOk h.start h.bound) p (value-outcome room s h o.order) in
      omega arith

-- The tree of a run, by what stands at its place.
pub answer-ends : (n : ℕ) (e : End) (next k : ℕ) → outcome_of n e ≡ walk_ended next k → e ≡ ends next
answer-ends n (ends to) next k p = ap ends (same-ended p).0
answer-ends n (stops number place) next k p = absurd cc

pub answer-stops : (n : ℕ) (e : End) (number place k : ℕ) → outcome_of n e ≡ refused number place k → e ≡ stops number place
answer-stops n (ends to) number place k p = absurd cc
answer-stops n (stops m q) number place k p = let (a, b, d) = same-refused p in rw (a, b)

module _ (room : ℕ) (s : List ℕ) (at limit : ℕ) (marked : Bool) (l : at < limit) where
  pub tree-closes : head_at s at limit marked room ≡ ClosingMark → (run room s at limit marked).items ≡ no_items
  tree-closes e = ap (λ (w : Walked). w.items) (at_head room s at limit marked l ClosingMark e)

  pub tree-refuses : (number place : ℕ) → head_at s at limit marked room ≡ Refusal number place → (run room s at limit marked).items ≡ no_items
  tree-refuses number place e = ap (λ (w : Walked). w.items) (at_head room s at limit marked l (Refusal number place) e)

  module _ (h : Header) (e : head_at s at limit marked room ≡ Item h) where
    pub at_item : (run room s at limit marked).items
        ≡ (follow at h (value_of room s h).items (value_of room s h).how (λ n. run room s n limit marked)).items
    unfolding value_of
    at_item = ap (λ (w : Walked). w.items) (at_head room s at limit marked l (Item h) e)

    pub tree-passes : (next k : ℕ) → answer (value_of room s h) ≡ walk_ended next k → (run room s at limit marked).items
        ≡ item at h.code h.start (past_of h.marked next) (value_of room s h).items (run room s next limit marked).items
    tree-passes next k p = at_item ∙ rw (answer-ends (count (value_of room s h).items) (value_of room s h).how next k p)

    pub tree-breaks : (number place k : ℕ) → answer (value_of room s h) ≡ refused number place k → (run room s at limit marked).items
        ≡ item at h.code h.start h.bound (value_of room s h).items no_items
    tree-breaks number place k p = at_item ∙ rw (answer-stops (count (value_of room s h).items) (value_of room s h).how number place k p)

pub tree-ends : (room : ℕ) (s : List ℕ) (limit : ℕ) (marked : Bool) → (run room s limit limit marked).items ≡ no_items
tree-ends room s limit true =
    let e : run room s limit limit true ≡ stopped 7 limit = run_step room s limit limit true (omega arith) ∙ rw (le-leb limit limit (omega arith)) in
    ap (λ (w : Walked). w.items) e
tree-ends room s limit false =
    let e : run room s limit limit false ≡ ended limit = run_step room s limit limit false (omega arith) ∙ rw (le-leb limit limit (omega arith)) in
    ap (λ (w : Walked). w.items) e
