-- Laws of the walk of specs/: where a walk ends and how many items it has (`run_ok`), that the fuel of `run` is enough
-- (`fuel-enough`), and the equation of `run` with no fuel in it (`run_step`).
use mathlib.Core.Path.{◌≡◌, refl, ap, ◌∙◌}
use mathlib.Core.Bool.{Bool, true, false, cond}
use mathlib.Core.List.{List}
use Prim.Native.Nat.{ℕ, zero, suc, ◌+◌, ◌-◌, ◌<◌, ◌≤◌}
use native.Mathlib.Omega.{arith}
use lib.Dec.{leb}
use borrow.Author.Tests.{leb-false}
use Rattle.headers.specs.declared.Header.{Header}
use Rattle.headers.specs.declared.Head.{Head}
use Rattle.headers.specs.declared.Head.TheVariants.{Item, ClosingMark, Refusal}
use Rattle.headers.specs.Head.{constructed, head_at}
use Rattle.headers.proofs.Lies.{HeadOk, head_ok}
use Rattle.octets.specs.Walk.{Items, item, count, End, ends, stops, Walked, ended, stopped, past_of, follow, value, on_head, step, run_for, run}

-- a walk from `at` with n items ends past them and within the limit
abbrev pub EndOk : (at limit n : ℕ) → End → Type 0
EndOk at limit n (ends next) = (at + (n + n) ≤ next) × (next ≤ limit)
EndOk at limit n (stops number place) = at + (n + n) ≤ limit

abbrev pub WalkOk : (at limit : ℕ) → Walked → Type 0
WalkOk at limit w = EndOk at limit (count w.items) w.how

abbrev pub RunOk : (Header → Walked) → Type 0
RunOk f = (h : Header) → h.start ≤ h.bound → WalkOk h.start h.bound (f h)

abbrev pub MoreOk : (limit : ℕ) → (ℕ → Walked) → Type 0
MoreOk limit more = (next : ℕ) → next ≤ limit → WalkOk next limit (more next)

end_later : (at next limit k n : ℕ) (e : End) → at + 2 + (k + k) ≤ next → EndOk next limit n e → EndOk at limit (suc (k + n)) e
end_later at next limit k n (ends to) h o = omega arith
end_later at next limit k n (stops number place) h o = omega arith

follow-ok : (at limit : ℕ) (h : Header) → at + 2 ≤ h.start → h.bound ≤ limit → (inside : Items) (e : End)
    → EndOk h.start h.bound (count inside) e → (more : ℕ → Walked) → MoreOk limit more → WalkOk at limit (follow at h inside e more)
follow-ok at limit h a b inside (ends next) o more m =
    end_later at next limit (count inside) (count (more next).items) (more next).how (omega arith) (m next (omega arith))
follow-ok at limit h a b inside (stops number place) o more m = omega arith

pub value-ok : (b : Bool) (h : Header) (f : Header → Walked) → h.start ≤ h.bound → RunOk f → WalkOk h.start h.bound (value b h f)
value-ok true h f l r = r h l
value-ok false h f l r = omega arith

head-step-ok : (at limit room : ℕ) → at ≤ limit → (head : Head) → HeadOk at limit room head → (f : Header → Walked) → RunOk f
    → (more : ℕ → Walked) → MoreOk limit more → WalkOk at limit (on_head at head f more)
head-step-ok at limit room l (Item h) o f r more m =
    let v = value (constructed h.code) h f in
    follow-ok at limit h o.header o.within v.items v.how (value-ok (constructed h.code) h f o.order r) more m
head-step-ok at limit room l ClosingMark o f r more m = omega arith
head-step-ok at limit room l (Refusal n place) o f r more m = omega arith

limit-ok : (at limit : ℕ) (marked : Bool) → at ≤ limit → WalkOk at limit (cond marked (stopped 7 limit) (ended limit))
limit-ok at limit true l = omega arith
limit-ok at limit false l = omega arith

pub step_ok : (b : Bool) (at limit room : ℕ) (marked : Bool) → at ≤ limit → (head : Head) → HeadOk at limit room head → (f : Header → Walked) → RunOk f
    → (more : ℕ → Walked) → MoreOk limit more → WalkOk at limit (step b at limit marked head f more)
step_ok true at limit room marked l head o f r more m = limit-ok at limit marked l
step_ok false at limit room marked l head o f r more m = head-step-ok at limit room l head o f r more m

pub run-for-ok : (fuel room : ℕ) (s : List ℕ) (at limit : ℕ) (marked : Bool) → at ≤ limit → WalkOk at limit (run_for fuel room s at limit marked)
unfolding run_for
run-for-ok zero room s at limit marked l = omega arith
run-for-ok (suc fuel) room s at limit marked l =
    step_ok (leb limit at) at limit room marked l (head_at s at limit marked room) (head_ok s at limit room marked)
    (λ h. run_for fuel (room - 1) s h.start h.bound h.marked)
    (λ h b. run-for-ok fuel (room - 1) s h.start h.bound h.marked b)
    (λ next. run_for fuel room s next limit marked)
    (λ next b. run-for-ok fuel room s next limit marked b)

pub run_ok : (room : ℕ) (s : List ℕ) (at limit : ℕ) (marked : Bool) → at ≤ limit → WalkOk at limit (run room s at limit marked)
unfolding run
run_ok room s at limit marked l = run-for-ok (suc (limit - at)) room s at limit marked l

-- Two walks of what lies inside and after an item agree where the walk asks them.
abbrev pub SameRun : (at limit : ℕ) → (f g : Header → Walked) → Type 0
SameRun at limit f g = (h : Header) → at + 2 ≤ h.start → h.start ≤ h.bound → h.bound ≤ limit → f h ≡ g h

abbrev pub SameMore : (at limit : ℕ) → (f g : ℕ → Walked) → Type 0
SameMore at limit f g = (next : ℕ) → at < next → next ≤ limit → f next ≡ g next

pub follow-same : (at limit : ℕ) (h : Header) → at + 2 ≤ h.start → h.bound ≤ limit → (inside : Items) (e : End)
    → EndOk h.start h.bound (count inside) e → (more other : ℕ → Walked) → SameMore at limit more other
    → follow at h inside e more ≡ follow at h inside e other
follow-same at limit h a b inside (ends next) o more other m =
    ap (λ (w : Walked). record {
      items = item at h.code h.start (past_of h.marked next) inside w.items;
      how = w.how;
    }) (m next (omega arith) (omega arith))
follow-same at limit h a b inside (stops n place) o more other m = refl

value_same : (b : Bool) (h : Header) (f g : Header → Walked) → f h ≡ g h → value b h f ≡ value b h g
value_same true h f g e = e
value_same false h f g e = refl

head-same : (at limit room : ℕ) (head : Head) → HeadOk at limit room head → (f g : Header → Walked) → RunOk f → SameRun at limit f g
    → (more other : ℕ → Walked) → SameMore at limit more other → on_head at head f more ≡ on_head at head g other
head-same at limit room (Item h) o f g r e more other m =
    let b = constructed h.code in
    let v = value b h f in
    follow-same at limit h o.header o.within v.items v.how (value-ok b h f o.order r) more other m
    ∙ ap (λ (w : Walked). follow at h w.items w.how other) (value_same b h f g (e h o.header o.order o.within))
head-same at limit room ClosingMark o f g r e more other m = refl
head-same at limit room (Refusal n place) o f g r e more other m = refl

pub step_same : (b : Bool) (at limit room : ℕ) (marked : Bool) → leb limit at ≡ b → (head : Head) → HeadOk at limit room head
    → (f g : Header → Walked) → RunOk f → (at < limit → SameRun at limit f g)
    → (more other : ℕ → Walked) → (at < limit → SameMore at limit more other)
    → step b at limit marked head f more ≡ step b at limit marked head g other
step_same true at limit room marked t head o f g r e more other m = refl
step_same false at limit room marked t head o f g r e more other m =
    let l = leb-false limit at t in
    head-same at limit room head o f g r (e l) more other (m l)

-- any fuel above what is left gives the same walk
pub fuel-enough : (f g room : ℕ) (s : List ℕ) (at limit : ℕ) (marked : Bool) → at ≤ limit → limit - at < f → limit - at < g
    → run_for f room s at limit marked ≡ run_for g room s at limit marked
unfolding run_for
fuel-enough zero g room s at limit marked l hf hg = absurd (omega arith)
fuel-enough (suc f) zero room s at limit marked l hf hg = absurd (omega arith)
fuel-enough (suc f) (suc g) room s at limit marked l hf hg =
    step_same (leb limit at) at limit room marked refl (head_at s at limit marked room) (head_ok s at limit room marked)
    (λ h. run_for f (room - 1) s h.start h.bound h.marked)
    (λ h. run_for g (room - 1) s h.start h.bound h.marked)
    (λ h b. run-for-ok f (room - 1) s h.start h.bound h.marked b)
    (λ k h a b c. fuel-enough f g (room - 1) s h.start h.bound h.marked b (omega arith) (omega arith))
    (λ next. run_for f room s next limit marked)
    (λ next. run_for g room s next limit marked)
    (λ k next a b. fuel-enough f g room s next limit marked b (omega arith) (omega arith))

-- the equation of `run`, in which no fuel stands
pub run_step : (room : ℕ) (s : List ℕ) (at limit : ℕ) (marked : Bool) → at ≤ limit → run room s at limit marked
    ≡ step (leb limit at) at limit marked (head_at s at limit marked room)
    (λ h. run (room - 1) s h.start h.bound h.marked)
    (λ next. run room s next limit marked)
unfolding run run_for
run_step room s at limit marked l =
    step_same (leb limit at) at limit room marked refl (head_at s at limit marked room) (head_ok s at limit room marked)
    (λ h. run_for (limit - at) (room - 1) s h.start h.bound h.marked)
    (λ h. run (room - 1) s h.start h.bound h.marked)
    (λ h b. run-for-ok (limit - at) (room - 1) s h.start h.bound h.marked b)
    (λ k h a b c. fuel-enough (limit - at) (suc (h.bound - h.start)) (room - 1) s h.start h.bound h.marked b (omega arith) (omega arith))
    (λ next. run_for (limit - at) room s next limit marked)
    (λ next. run room s next limit marked)
    (λ k next a b. fuel-enough (limit - at) (suc (limit - next)) room s next limit marked b (omega arith) (omega arith))
