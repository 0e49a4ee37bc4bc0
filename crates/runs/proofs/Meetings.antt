-- What is met where a header passed: the item that the walk has there, for the walk is known to have ended.
use mathlib.Core.Path.{◌≡◌, refl, ap, sym, ◌∙◌, subst}
use mathlib.Core.Bool.{Bool, true, false, false≢true}
use mathlib.Core.List.{List}
use Prim.Native.Nat.{ℕ, ◌-◌, ◌<◌, ◌≤◌}
use native.Mathlib.Omega.{arith}
use lib.ListN.{length}
use borrow.Author.Tests.{le-leb, leb-false}
use borrow.Table.Steps.{cases}
use lib.Dec.{leb}
use Rattle.headers.specs.declared.Header.{Header}
use Rattle.headers.specs.declared.Head.{Head}
use Rattle.headers.specs.declared.Head.TheVariants.{Item, ClosingMark, Refusal}
use Rattle.headers.specs.Head.{constructed, octet_at, head_at}
use Rattle.headers.specs.Passed.{Passed}
use Rattle.octets.specs.Walk.{Items, no_items, item, count, End, ends, stops, Walked, ended, past_of, follow, run, outcome_of}
use Rattle.octets.specs.Values.{value_of}
use Rattle.headers.proofs.Lies.{Lies}
use Rattle.octets.proofs.Walks.{run_step}
use Rattle.octets.proofs.Turns.{header_ok, passed_ok, at_head, tree-ends, tree-closes, tree-refuses}
use Rattle.tree.specs.Accepts.{Whole}
use Rattle.runs.specs.declared.Run.{Run}
use Rattle.runs.specs.Runs.{walk_in, items_of, inside_of, tops, Fine, Spans, Meeting}
use Rattle.runs.proofs.Heads.{item-octet}
use Rattle.runs.proofs.Ends.{EndsRight, ends-right, ends-at-limit, past_next}

-- where the walk of an item and what follows it ended, so did that of its value
follow-whole : (at : ℕ) (h : Header) (inside : Items) (e : End) (more : ℕ → Walked) → Whole (follow at h inside e more).how → Whole e
follow-whole at h inside (ends next) more w = tt
follow-whole at h inside (stops number place) more w = w

-- an item is there, however the walk of its value ended
follow-some : (at : ℕ) (h : Header) (inside : Items) (e : End) (more : ℕ → Walked) → tops (follow at h inside e more).items ≡ 0 → ⊥
follow-some at h inside (ends next) more z = omega arith
follow-some at h inside (stops number place) more z = omega arith

-- an item's value ends as a run does
value-right : (room : ℕ) (s : List ℕ) (h : Header) (b m : Bool) → constructed h.code ≡ b → h.marked ≡ m → (h.marked ≡ true → constructed h.code ≡ true)
    → h.start ≤ h.bound → EndsRight m h.start h.bound (value_of room s h).how
unfolding value_of
value-right room s h true m c k mark l = rw (c, k) (ends-right (room - 1) s h.start h.bound m l)
value-right room s h false true c k mark l = absurd (false≢true (sym c ∙ mark k))
value-right room s h false false c k mark l = rw c refl

-- the value of an item: a definite one that is whole ends at its bound, and an indefinite one is walked as a run
module _ (room : ℕ) (s : List ℕ) (h : Header) (mark : h.marked ≡ true → constructed h.code ≡ true) where
  pub definite-value : h.marked ≡ false → h.start ≤ h.bound → Whole (value_of room s h).how → (value_of room s h).how ≡ ends h.bound
  definite-value m l =
      ends-at-limit h.start h.bound (value_of room s h).how (value-right room s h (constructed h.code) false refl m mark l)

  pub marked-run : h.marked ≡ true → (value_of room s h).how ≡ (run (room - 1) s h.start h.bound true).how
  unfolding value_of
  marked-run m = rw (mark m, m)

past-order : (m : Bool) (start bound next : ℕ) → start ≤ bound → EndsRight m start bound (ends next) → start ≤ past_of m next
past-order true start bound next l r = omega arith
past-order false start bound next l r = omega arith

past-before : (m : Bool) (next : ℕ) → past_of m next ≤ next
past-before true next = omega arith
past-before false next = omega arith

inside-items : (s : List ℕ) (h : Header) (room : ℕ) (b : Bool) → constructed h.code ≡ b → items_of s (inside_of h room) ≡ (value_of room s h).items
unfolding value_of
inside-items s h room true c = rw c
inside-items s h room false c = rw c (tree-ends (room - 1) s h.bound false)

empty-whole : (room : ℕ) (s : List ℕ) (limit : ℕ) → Whole (run room s limit limit false).how
empty-whole room s limit =
    let e : run room s limit limit false ≡ ended limit = run_step room s limit limit false (omega arith) ∙ rw (le-leb limit limit (omega arith)) in
    rw e tt

inside-fine : (s : List ℕ) (h : Header) (room : ℕ) (b : Bool) → constructed h.code ≡ b → h.start ≤ h.bound → h.bound ≤ length s
    → Whole (value_of room s h).how → Fine s (inside_of h room)
unfolding value_of
inside-fine s h room true c p q w = rw c (record { order = p; inside = q; whole = rw c at w })
inside-fine s h room false c p q w = rw c (record { order = omega arith; inside = q; whole = empty-whole (room - 1) s h.bound })

inside-room : (h : Header) (room : ℕ) (b : Bool) → constructed h.code ≡ b → (inside_of h room).room ≡ room - 1
inside-room h room true c = rw c
inside-room h room false c = rw c

-- a marked run that ended has its closing mark before the limit
pub marked-before : (s : List ℕ) (r : Run) → Fine s r → r.marked ≡ true → r.at < r.limit
marked-before s r fine m =
    let stepped = subst (λ (w : Walked). Whole w.how) (run_step r.room s r.at r.limit r.marked fine.order) fine.whole in
    cases (leb r.limit r.at)
    (λ t. absurd (rw (t, m) at stepped))
    (λ t. leb-false r.limit r.at t)

-- where the walk of a run ended, what stands at its place was not refused
passed-by : (s : List ℕ) (r : Run) → Fine s r → r.at < r.limit → (head : Head) → head_at s r.at r.limit r.marked r.room ≡ head → Passed head
passed-by s r fine l (Item h) e = tt
passed-by s r fine l ClosingMark e = tt
passed-by s r fine l (Refusal number place) e =
    subst (λ (w : Walked). Whole w.how) (at_head r.room s r.at r.limit r.marked l (Refusal number place) e) fine.whole

pub passed : (s : List ℕ) (r : Run) → Fine s r → r.at < r.limit → Passed (head_at s r.at r.limit r.marked r.room)
passed s r fine l = passed-by s r fine l (head_at s r.at r.limit r.marked r.room) refl

-- where what stands at its place is no item, the run has none
pub none-met : (s : List ℕ) (r : Run) → r.at < r.limit → (head : Head) → head_at s r.at r.limit r.marked r.room ≡ head
    → ((h : Header) → head ≡ Item h → ⊥) → items_of s r ≡ no_items
none-met s r l (Item h) e other = absurd (other h refl)
none-met s r l ClosingMark e other = tree-closes r.room s r.at r.limit r.marked l e
none-met s r l (Refusal number place) e other = tree-refuses r.room s r.at r.limit r.marked l number place e

module _ (s : List ℕ) (r : Run) (fine : Fine s r) (l : r.at < r.limit) (h : Header)
    (e : head_at s r.at r.limit r.marked r.room ≡ Item h) where
  -- what the header tells of its bounds
  pub lies : Lies r.at r.limit r.room h
  lies = header_ok s r.at r.limit r.room r.marked h e

  followed : walk_in s r ≡ follow r.at h (value_of r.room s h).items (value_of r.room s h).how (λ next. run r.room s next r.limit r.marked)
  unfolding value_of
  followed = at_head r.room s r.at r.limit r.marked l (Item h) e

  pub some_item : tops (items_of s r) ≡ 0 → ⊥
  some_item z =
      follow-some r.at h (value_of r.room s h).items (value_of r.room s h).how (λ next. run r.room s next r.limit r.marked)
      (ap (λ (w : Walked). tops w.items) (sym followed) ∙ z)

  follow-ended : Whole (follow r.at h (value_of r.room s h).items (value_of r.room s h).how (λ next. run r.room s next r.limit r.marked)).how
  follow-ended = subst (λ (w : Walked). Whole w.how) followed fine.whole

  pub value-whole : Whole (value_of r.room s h).how
  value-whole =
      follow-whole r.at h (value_of r.room s h).items (value_of r.room s h).how (λ next. run r.room s next r.limit r.marked) follow-ended

  value-ends-right : (m : Bool) → h.marked ≡ m → EndsRight m h.start h.bound (value_of r.room s h).how
  value-ends-right m k = value-right r.room s h (constructed h.code) m refl k lies.mark lies.order

  -- a definite item ends at its bound
  pub definite-ends : h.marked ≡ false → (value_of r.room s h).how ≡ ends h.bound
  definite-ends m = definite-value r.room s h lies.mark m lies.order value-whole

  -- an indefinite item is walked as a run
  pub marked-value : h.marked ≡ true → (value_of r.room s h).how ≡ (run (r.room - 1) s h.start h.bound true).how
  marked-value = marked-run r.room s h lies.mark

  -- an indefinite item is constructed: the run inside it begins where its value starts
  pub marked-inside : h.marked ≡ true → record { at = h.start; limit = h.bound; marked = true; room = r.room - 1 } ≡ inside_of h r.room
  marked-inside m = rw (m, lies.mark m)

  pub marked-whole : h.marked ≡ true → Whole (run (r.room - 1) s h.start h.bound true).how
  marked-whole m = subst Whole (marked-value m) value-whole

  module _ (next : ℕ) (v : (value_of r.room s h).how ≡ ends next) where
    right_end : (m : Bool) → h.marked ≡ m → EndsRight m h.start h.bound (ends next)
    right_end m k = subst (EndsRight m h.start h.bound) v (value-ends-right m k)

    pub next-within : (r.at < next) × (next ≤ r.limit)
    next-within =
        let n = passed_ok r.room s r.at r.limit r.marked h e next (count (value_of r.room s h).items)
        (ap (outcome_of (count (value_of r.room s h).items)) v) in
        (omega arith, omega arith)

    -- a closing mark is two octets
    pub marked-end : h.marked ≡ true → 2 ≤ next
    marked-end m = let k = right_end true m in omega arith

    -- after the item the run goes on, and ends as it does from there
    after-ended : Whole (run r.room s next r.limit r.marked).how
    after-ended = rw v at follow-ended

    pub rest-fine-after : Fine s (record { at = next; limit = r.limit; marked = r.marked; room = r.room })
    rest-fine-after = record { order = next-within.1; inside = fine.inside; whole = after-ended }

    pub ends-after : (walk_in s r).how ≡ (run r.room s next r.limit r.marked).how
    ends-after = ap (λ (w : Walked). w.how) followed ∙ rw v

    items-met : items_of s r ≡ item r.at h.code h.start (past_of h.marked next) (value_of r.room s h).items
        (run r.room s next r.limit r.marked).items
    items-met = ap (λ (w : Walked). w.items) followed ∙ rw v

    spans : constructed h.code ≡ true → Spans s (inside_of h r.room) h.start (past_of h.marked next)
    unfolding value_of
    spans c =
        let k : (run (r.room - 1) s h.start h.bound h.marked).how ≡ ends next = rw c at v in
        rw c (record { from = refl; to = k ∙ ap ends (past_next h.marked h.start h.bound next (right_end h.marked refl)) })

    -- the item is met: what is read has octets below 256, its value's end as a number and the run inside as a value
    pub meets : octet_at s r.at < 256 → (past : ℕ) → past ≡ past_of h.marked next → (inner : Run) → inner ≡ inside_of h r.room
        → Meeting s r h.code h.start past inner (record { at = next; limit = r.limit; marked = r.marked; room = r.room })
    meets small past p inner i =
        let n = next-within in
        let o = item-octet s r.at r.limit r.marked r.room h e in
        let order = past-order h.marked h.start h.bound next lies.order (right_end h.marked refl) in
        let before = past-before h.marked next in
        let deep : h.bound ≤ length s = omega (arith, lies.within, fine.inside) in
        record {
          tree = items-met ∙ rw (p, i, inside-items s h r.room (constructed h.code) refl);
          code_not_zero = o.0;
          code_small = o.1 small;
          starts = lies.header;
          value_order = omega arith;
          value_before = omega arith;
          value_inside = omega (arith, fine.inside);
          inner_fine = rw i (inside-fine s h r.room (constructed h.code) refl lies.order deep value-whole);
          inner_room = rw i (inside-room h r.room (constructed h.code) refl);
          inner_spans = λ c. rw (i, p) (spans c);
          rest_fine = rest-fine-after;
          rest_limit = refl;
          rest_marked = refl;
          rest_room = refl;
          less = omega arith;
        }
