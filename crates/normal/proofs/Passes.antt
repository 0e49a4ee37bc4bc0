-- What a pass over a run that was walked to its end meets at a place (`meets`): an item, whose value was walked to its end too, or the end of
-- the run. The walk's equation at the place says so.
use mathlib.Core.Path.{◌≡◌, refl, ap, sym, ◌∙◌, subst}
use mathlib.Core.Bool.{Bool, true, false, cond, false≢true}
use mathlib.Core.List.{List, []}
use Prim.Native.Nat.{ℕ, ◌+◌, ◌-◌, ◌*◌, ◌<◌, ◌≤◌}
use native.Mathlib.Omega.{arith}
use lib.Dec.{leb}
use lib.ListN.{length, length-append, length-drop}
use lib.Seq.{slice}
use borrow.Author.Tests.{le-leb, leb-true, leb-false}
use Rattle.headers.specs.declared.Header.{Header}
use Rattle.headers.specs.declared.Head.{Head}
use Rattle.headers.specs.declared.Head.TheVariants.{Item, ClosingMark, Refusal}
use Rattle.headers.specs.Head.{constructed, type_field, head_at}
use Rattle.headers.specs.Passed.{Passed}
use Rattle.octets.specs.Walk.{Items, item, count, End, ends, stops, Walked, ended, stopped, past_of, follow, run}
use Rattle.octets.specs.Values.{value_of}
use Rattle.headers.proofs.Lies.{Lies}
use Rattle.octets.proofs.Walks.{EndOk, value-ok, run_ok, run_step}
use Rattle.octets.proofs.RulesHold.{derives}
use Rattle.octets.proofs.Turns.{at_head, header_ok}
use Rattle.tree.specs.Tree.{Tree, formed, plain}
use Rattle.tree.specs.Accepts.{Whole}
use Rattle.tree.proofs.Heads.{ReadFrom, Tells, head-tells}
use Rattle.tree.proofs.Sound.{Coded, sound, read-from}
use Rattle.normal.specs.declared.Measured.{Measured}
use Rattle.std.specs.Prelude.{Option, Some, None}
use Rattle.normal.specs.Normal.{coded, normal_of}
use Rattle.normal.specs.Passes.{RunEnds, ValueEnds, end_of, normal_from, normal_in, item_of, ahead_at, header_size, ValueMeasures}
use Rattle.normal.proofs.Normals.{small, coded-length}

-- ---- a run that ended

-- its normal form is not too long, and if it is not marked it ended at its limit
run_is : (s : List ℕ) (room at limit : ℕ) (marked : Bool) (t : Tree) (e : End) → Coded s room at limit marked t e → Whole e
    → (length (normal_of t) ≤ 3 * length s) × (marked ≡ false → end_of e ≡ limit)
run_is s room at limit marked t (stops n place) c w = absurd w
run_is s room at limit true t (ends next) (xs, c, (rest, e), p) w =
    let l : length s - at ≡ length xs + length rest = sym (length-drop at s) ∙ ap length e ∙ length-append xs rest in
    (omega (arith, small c), λ z. absurd (false≢true (sym z)))
run_is s room at limit false t (ends next) (xs, c, (rest, e), p) w =
    let l : length s - at ≡ length xs + length rest = sym (length-drop at s) ∙ ap length e ∙ length-append xs rest in
    (omega (arith, small c), λ _. p.1)

module _ (room : ℕ) (s : List ℕ) (at limit : ℕ) (marked : Bool) (r : RunEnds room s at limit marked) where
  run-facts : (length (normal_from room s at limit marked) ≤ 3 * length s) × (marked ≡ false → end_of (run room s at limit marked).how ≡ limit)
  unfolding normal_from
  run-facts =
      run_is s room at limit marked (plain s (run room s at limit marked).items) (run room s at limit marked).how
      (sound (derives room s at limit marked r.order) r.within) r.whole

  pub form_small : length (normal_from room s at limit marked) ≤ 3 * length s
  form_small = run-facts.0

  pub form-end : marked ≡ false → end_of (run room s at limit marked).how ≡ limit
  form-end = run-facts.1

-- ---- the value of an item

past-ok : (start bound n : ℕ) (e : End) → EndOk start bound n e → Whole e → (start ≤ end_of e) × (end_of e ≤ bound)
past-ok start bound n (ends next) o w = (omega arith, omega arith)
past-ok start bound n (stops number place) o w = absurd w

module _ (room : ℕ) (s : List ℕ) (h : Header) where
  pub value-run : constructed h.code ≡ true
      → ((value_of room s h).how ≡ (run (room - 1) s h.start h.bound h.marked).how)
      × (normal_in room s h ≡ normal_from (room - 1) s h.start h.bound h.marked)
  unfolding value_of normal_in
  value-run e = (rw e, rw e)

  pub value-plain : constructed h.code ≡ false → ((value_of room s h).how ≡ ends h.bound) × (normal_in room s h ≡ slice h.start h.bound s)
  unfolding value_of normal_in
  value-plain e = (rw e, rw e)

  -- a constructed value is a run that ended
  pub value-run-ends : ValueEnds room s h → constructed h.code ≡ true → RunEnds (room - 1) s h.start h.bound h.marked
  value-run-ends v e = record { order = v.order; within = v.within; small = v.small; whole = subst Whole (value-run e).0 v.whole }

  -- it ends within its bounds
  pub value-past : h.start ≤ h.bound → Whole (value_of room s h).how → (h.start ≤ end_of (value_of room s h).how) × (end_of (value_of room s h).how ≤ h.bound)
  unfolding value_of
  value-past a w =
      past-ok h.start h.bound (count (value_of room s h).items) (value_of room s h).how
      (value-ok (constructed h.code) h (λ g. run (room - 1) s g.start g.bound g.marked) a
      (λ g b. run_ok (room - 1) s g.start g.bound g.marked b)) w

  -- a definite one ends where its length says
  value-end : ValueEnds room s h → (b : Bool) → constructed h.code ≡ b → h.marked ≡ false → end_of (value_of room s h).how ≡ h.bound
  value-end v true e m =
      ap end_of (value-run e).0 ∙ form-end (room - 1) s h.start h.bound h.marked (value-run-ends v e) m
  value-end v false e m = ap end_of (value-plain e).0

-- ---- an item that is met

-- where a run goes on that ended, nothing is refused
pub passed : (room : ℕ) (s : List ℕ) (at limit : ℕ) (marked : Bool) → at < limit → Whole (run room s at limit marked).how
    → Passed (head_at s at limit marked room)
passed room s at limit marked l w = head_passed (head_at s at limit marked room) refl
  where
    head_passed : (head : Head) → head_at s at limit marked room ≡ head → Passed head
    head_passed (Item h) e = tt
    head_passed ClosingMark e = tt
    head_passed (Refusal number place) e = subst (λ (x : Walked). Whole x.how) (at_head room s at limit marked l (Refusal number place) e) w

form_of : (b : Bool) (type v u : List ℕ) (inside after : Tree) (form : List ℕ) → (b ≡ true → normal_of inside ≡ form) → (b ≡ false → v ≡ u)
    → normal_of (formed b type v inside after) ≡ coded type (cond b form u) (normal_of after)
unfolding normal_of
form_of true type v u inside after form e f = rw (e refl)
form_of false type v u inside after form e f = rw (f refl)

-- a primitive item is not indefinite
pub unmarked : (m : Bool) (octet : ℕ) → (m ≡ true → constructed octet ≡ true) → constructed octet ≡ false → m ≡ false
unmarked false octet i c = refl
unmarked true octet i c = sym (i refl) ∙ c

-- a run goes on after an item, if the walk of the item's value ended
turn-of : (at : ℕ) (h : Header) (inside : Items) (e : End) (more : ℕ → Walked) (w : Walked) → w ≡ follow at h inside e more → Whole w.how
    → Whole e × (w.how ≡ (more (end_of e)).how)
    × (w.items ≡ item at h.code h.start (past_of h.marked (end_of e)) inside (more (end_of e)).items)
turn-of at h inside (ends next) more w p o = (tt, ap (λ (x : Walked). x.how) p, ap (λ (x : Walked). x.items) p)
turn-of at h inside (stops n place) more w p o = absurd (subst (λ (x : Walked). Whole x.how) p o)

module _ (room : ℕ) (s : List ℕ) (at limit : ℕ) (marked : Bool) where
  -- the item with the header h is met at `at`
  pub record Turn (h : Header) : Type 0 where
    pub lies : Lies at limit room h
    pub read : ReadFrom s at limit room h
    pub inside : ValueEnds room s h
    pub later : at + 2 ≤ end_of (value_of room s h).how
    pub within : end_of (value_of room s h).how ≤ limit
    pub definite : h.marked ≡ false → end_of (value_of room s h).how ≡ h.bound
    pub rest : (run room s at limit marked).how ≡ (run room s (end_of (value_of room s h).how) limit marked).how
    pub form : normal_from room s at limit marked
        ≡ coded (type_field h.code) (normal_in room s h) (normal_from room s (end_of (value_of room s h).how) limit marked)

  -- what was met
  abbrev pub Meets : Option Header → Type 0
  Meets (Some h) = Turn h
  Meets None = ((run room s at limit marked).how ≡ ends (cond marked (at + 2) at)) × (normal_from room s at limit marked ≡ [])

  module _ (r : RunEnds room s at limit marked) where
    turn : at < limit → (h : Header) → head_at s at limit marked room ≡ Item h → Turn h
    unfolding value_of normal_from normal_in
    turn l h e =
        let v = value_of room s h in
        let next = end_of v.how in
        let o = header_ok s at limit room marked h e in
        let (i, k, t) = turn-of at h v.items v.how (λ n. run room s n limit marked) (run room s at limit marked)
        (at_head room s at limit marked l (Item h) e) r.whole in
        let b = value-past room s h o.order i in
        let inside : ValueEnds room s h = record { deep = o.deep; order = o.order; within = omega arith; small = r.small; whole = i; mark = o.mark } in
        let definite = value-end room s h inside (constructed h.code) refl in
        record {
          lies = o;
          read = read-from s at limit room marked l r.within h e;
          inside = inside;
          later = omega arith;
          within = omega arith;
          definite = definite;
          rest = k;
          form = ap (λ (x : Items). normal_of (plain s x)) t
              ∙ form_of (constructed h.code) (type_field h.code) (slice h.start (past_of h.marked next) s) (slice h.start h.bound s)
              (plain s v.items) (plain s (run room s next limit marked).items)
              (normal_of (plain s (run (room - 1) s h.start h.bound h.marked).items))
              (λ c. rw c)
              (λ c.
              let m = unmarked h.marked h.code o.mark c in
              ap (λ (k : ℕ). slice h.start k s) (ap (λ (b : Bool). past_of b next) m ∙ definite m));
        }

    at_mark : at < limit → head_at s at limit marked room ≡ ClosingMark → Meets None
    unfolding normal_from normal_of
    at_mark l e =
        let p = at_head room s at limit marked l ClosingMark e in
        let m = (subst (Tells s at limit room marked) e (head-tells s at limit room marked r.within l)).0 in
        let past = ap (λ (b : Bool). ends (cond b (at + 2) at)) (sym m) in
        (ap (λ (x : Walked). x.how) p ∙ past, ap (λ (x : Walked). normal_of (plain s x.items)) p)

    meets-head : at < limit → (head : Head) → head_at s at limit marked room ≡ head → Meets (item_of head)
    meets-head l (Item h) e = turn l h e
    meets-head l ClosingMark e = at_mark l e
    meets-head l (Refusal number place) e = absurd (subst Passed e (passed room s at limit marked l r.whole))

at-end : (room : ℕ) (s : List ℕ) (at limit : ℕ) (marked : Bool) → at ≡ limit → Whole (run room s at limit marked).how
    → Meets room s at limit marked None
unfolding normal_from normal_of
at-end room s at limit true e w =
    let p : run room s at limit true ≡ stopped 7 limit = run_step room s at limit true (omega arith) ∙ rw (le-leb limit at (omega arith)) in
    absurd (subst (λ (x : Walked). Whole x.how) p w)
at-end room s at limit false e w =
    let p : run room s at limit false ≡ ended limit = run_step room s at limit false (omega arith) ∙ rw (le-leb limit at (omega arith)) in
    (ap (λ (x : Walked). x.how) p ∙ ap ends (sym e), ap (λ (x : Walked). normal_of (plain s x.items)) p)

module _ (room : ℕ) (s : List ℕ) (at limit : ℕ) (marked : Bool) (r : RunEnds room s at limit marked) where
  meets_at : (b : Bool) → leb limit at ≡ b → Meets room s at limit marked (cond b None (item_of (head_at s at limit marked room)))
  meets_at true e = let l = leb-true limit at e in at-end room s at limit marked (omega (arith, r.order)) r.whole
  meets_at false e = meets-head room s at limit marked r (leb-false limit at e) (head_at s at limit marked room) refl

  pub meets : (x : Option Header) → ahead_at room s at limit marked ≡ x → Meets room s at limit marked x
  unfolding ahead_at
  meets x e = subst (Meets room s at limit marked) e (meets_at (leb limit at) refl)

-- what is left of a run that ended
pub run-left : (room : ℕ) (s : List ℕ) (at limit : ℕ) (marked : Bool) → RunEnds room s at limit marked → (next : ℕ) → next ≤ limit
    → (run room s at limit marked).how ≡ (run room s next limit marked).how → RunEnds room s next limit marked
run-left room s at limit marked r next l e = record { order = l; within = r.within; small = r.small; whole = subst Whole e r.whole }

-- what follows an item whose value was measured, and the octets of the item with what follows it
pub turned : (room : ℕ) (s : List ℕ) (at limit : ℕ) (marked : Bool) (h : Header) → Turn room s at limit marked h
    → (m : Measured) → ValueMeasures room s h m
    → (at + 2 ≤ m.next) × (m.next ≤ limit) × ((run room s at limit marked).how ≡ (run room s m.next limit marked).how)
    × (normal_from room s at limit marked ≡ coded (type_field h.code) (normal_in room s h) (normal_from room s m.next limit marked))
    × (length (normal_from room s at limit marked) ≡ header_size h.code m.size + m.size + length (normal_from room s m.next limit marked))
turned room s at limit marked h u m v =
    let e = ap length u.form ∙ coded-length (type_field h.code) (normal_in room s h) (normal_from room s (end_of (value_of room s h).how) limit marked) in
    rw (v.measures.past, v.measures.size) (u.later, u.within, u.rest, u.form, omega arith)
