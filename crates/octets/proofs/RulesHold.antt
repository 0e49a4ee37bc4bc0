-- The rules and the function say the same: what the rules derive is the walk of `run` (`derived`), and they derive it (`derives`).
use mathlib.Core.Path.{◌≡◌, refl, sym, ◌∙◌}
use mathlib.Core.Bool.{Bool, true, false, cond}
use mathlib.Core.List.{List}
use Prim.Native.Nat.{ℕ, zero, suc, ◌+◌, ◌-◌, ◌<◌, ◌≤◌}
use native.Mathlib.Omega.{arith}
use lib.Dec.{leb}
use borrow.Author.Tests.{le-leb, lt-leb, leb-true, leb-false}
use Rattle.headers.specs.declared.Header.{Header}
use Rattle.headers.specs.declared.Head.{Head}
use Rattle.headers.specs.declared.Head.TheVariants.{Item, ClosingMark, Refusal}
use Rattle.headers.specs.Head.{constructed, head_at}
use Rattle.octets.specs.Walk.{Items, count, End, ends, stops, Walked, ended, stopped, follow, value, on_head, step, run_for, run}
use Rattle.octets.specs.Rules.{Runs, at_limit, unclosed, closes, refuses, primitive, passes, breaks}
use Rattle.headers.proofs.Lies.{HeadOk, head_ok}
use Rattle.headers.proofs.Conditions.{refused-exactly}
use Rattle.octets.proofs.Walks.{EndOk, WalkOk, RunOk, run-for-ok, run_step}

abbrev walked : Items → End → Walked
walked i e = record { items = i; how = e }

run-at : (room : ℕ) (s : List ℕ) (at limit : ℕ) (marked : Bool) (head : Head) → at < limit → head_at s at limit marked room ≡ head
    → run room s at limit marked ≡ on_head at head (λ h. run (room - 1) s h.start h.bound h.marked) (λ next. run room s next limit marked)
run-at room s at limit marked head l e = run_step room s at limit marked (omega arith) ∙ rw (lt-leb _ _ l, e)

pub derived : {s : List ℕ} {room at limit : ℕ} {marked : Bool} {i : Items} {e : End} → Runs s room at limit marked i e
    → walked i e ≡ run room s at limit marked
derived {s} (at_limit {room} {at} {limit} p) = sym (run_step room s at limit false (omega arith) ∙ rw (le-leb limit at (omega arith)))
derived {s} (unclosed {room} {at} {limit} p) = sym (run_step room s at limit true (omega arith) ∙ rw (le-leb limit at (omega arith)))
derived {s} (closes {room} {at} {limit} {marked} l h) = sym (run-at room s at limit marked ClosingMark l h)
derived {s} (refuses {room} {at} {limit} {marked} {number} {place} l h) = sym
    (run-at room s at limit marked (Refusal number place) l ((refused-exactly s at limit marked room number place).1 h))
derived {s} (primitive {room} {at} {limit} {marked} {h} {after} {e} l p q r) =
    sym (run-at room s at limit marked (Item h) l p
    ∙ rw (q, ← derived r))
derived {s} (passes {room} {at} {limit} {marked} {h} {inside} {after} {next} {e} l p q v r) =
    sym (run-at room s at limit marked (Item h) l p
    ∙ rw (q, ← derived v, ← derived r))
derived {s} (breaks {room} {at} {limit} {marked} {h} {inside} {number} {place} l p q v) =
    sym (run-at room s at limit marked (Item h) l p ∙ rw (q, ← derived v))

-- The rules derive the walk: by the fuel of `run_for`, as long as it is enough.
abbrev Derives : List ℕ → (room at limit : ℕ) → (marked : Bool) → Walked → Type 0
Derives s room at limit marked w = Runs s room at limit marked w.items w.how

derives-limit : (s : List ℕ) (room at limit : ℕ) (marked : Bool) → at ≡ limit → Derives s room at limit marked (cond marked (stopped 7 limit) (ended limit))
derives-limit s room at limit true p = unclosed p
derives-limit s room at limit false p = at_limit p

-- the rest of a run, after an item within bounds
abbrev More : List ℕ → (room limit : ℕ) → (marked : Bool) → Header → (ℕ → Walked) → Type 0
More s room limit marked h more = (next : ℕ) → h.start ≤ next → next ≤ h.bound → Derives s room next limit marked (more next)

derives-follow : (s : List ℕ) (room at limit : ℕ) (marked : Bool) (h : Header) → at < limit → head_at s at limit marked room ≡ Item h
    → constructed h.code ≡ true → (inside : Items) (e : End) → EndOk h.start h.bound (count inside) e
    → Runs s (room - 1) h.start h.bound h.marked inside e → (more : ℕ → Walked) → More s room limit marked h more
    → Derives s room at limit marked (follow at h inside e more)
derives-follow s room at limit marked h l p q inside (ends next) o v more m = passes l p q v (m next (omega arith) o.1)
derives-follow s room at limit marked h l p q inside (stops n place) o v more m = breaks l p q v

derives-item : (s : List ℕ) (room at limit : ℕ) (marked : Bool) (h : Header) → at < limit → head_at s at limit marked room ≡ Item h
    → h.start ≤ h.bound → (b : Bool) → constructed h.code ≡ b → (f : Header → Walked) → WalkOk h.start h.bound (f h)
    → Derives s (room - 1) h.start h.bound h.marked (f h) → (more : ℕ → Walked) → More s room limit marked h more
    → Derives s room at limit marked (follow at h (value b h f).items (value b h f).how more)
derives-item s room at limit marked h l p a true q f o r more m =
    derives-follow s room at limit marked h l p q (f h).items (f h).how o r more m
derives-item s room at limit marked h l p a false q f o r more m = primitive l p q (m h.bound a (omega arith))

derives-head : (s : List ℕ) (room at limit : ℕ) (marked : Bool) (head : Head) → at < limit → head_at s at limit marked room ≡ head
    → HeadOk at limit room head → (f : Header → Walked) → RunOk f
    → ((h : Header) → at + 2 ≤ h.start → h.start ≤ h.bound → h.bound ≤ limit → Derives s (room - 1) h.start h.bound h.marked (f h))
    → (more : ℕ → Walked) → ((next : ℕ) → at < next → next ≤ limit → Derives s room next limit marked (more next))
    → Derives s room at limit marked (on_head at head f more)
derives-head s room at limit marked (Item h) l p o f k r more m =
    derives-item s room at limit marked h l p o.order (constructed h.code) refl f (k h o.order) (r h o.header o.order o.within) more
    (λ next x y. m next (omega arith) (omega arith))
derives-head s room at limit marked ClosingMark l p o f k r more m = closes l p
derives-head s room at limit marked (Refusal n q) l p o f k r more m = refuses l ((refused-exactly s at limit marked room n q).0 p)

derives-step : (s : List ℕ) (room at limit : ℕ) (marked : Bool) (b : Bool) → leb limit at ≡ b → at ≤ limit
    → (f : Header → Walked) → RunOk f
    → (at < limit → (h : Header) → at + 2 ≤ h.start → h.start ≤ h.bound → h.bound ≤ limit → Derives s (room - 1) h.start h.bound h.marked (f h))
    → (more : ℕ → Walked) → (at < limit → (next : ℕ) → at < next → next ≤ limit → Derives s room next limit marked (more next))
    → Derives s room at limit marked (step b at limit marked (head_at s at limit marked room) f more)
derives-step s room at limit marked true t a f k r more m =
    let x = leb-true limit at t in derives-limit s room at limit marked (omega arith)
derives-step s room at limit marked false t a f k r more m =
    let l = leb-false limit at t in
    derives-head s room at limit marked (head_at s at limit marked room) l refl (head_ok s at limit room marked) f k (r l) more (m l)

derives-for : (fuel room : ℕ) (s : List ℕ) (at limit : ℕ) (marked : Bool) → at ≤ limit → limit - at < fuel
    → Derives s room at limit marked (run_for fuel room s at limit marked)
unfolding run_for
derives-for zero room s at limit marked l h = absurd (omega arith)
derives-for (suc fuel) room s at limit marked l enough =
    derives-step s room at limit marked (leb limit at) refl l
    (λ h. run_for fuel (room - 1) s h.start h.bound h.marked)
    (λ h b. run-for-ok fuel (room - 1) s h.start h.bound h.marked b)
    (λ k h a b c. derives-for fuel (room - 1) s h.start h.bound h.marked b (omega arith))
    (λ next. run_for fuel room s next limit marked)
    (λ k next a b. derives-for fuel room s next limit marked b (omega arith))

pub derives : (room : ℕ) (s : List ℕ) (at limit : ℕ) (marked : Bool) → at ≤ limit
    → Runs s room at limit marked (run room s at limit marked).items (run room s at limit marked).how
unfolding run
derives room s at limit marked l = derives-for (suc (limit - at)) room s at limit marked l (omega arith)
