-- The first item of a stream, walked alone (`one_of`). Where that ends, at next: any stream that begins with the same octets up to there,
-- with any limit that is not before that, has the same first item, walked alone (`one-front`) or with all that follows (`run-front`);
-- and the run of the item alone, from its place to next, is fine and has that item (`alone-fine`, `alone-items`).
use mathlib.Core.Path.{◌≡◌, refl, ap, sym, ◌∙◌, subst}
use mathlib.Core.Bool.{Bool, true, false, cond, false≢true}
use mathlib.Core.List.{List}
use Prim.Native.Nat.{ℕ, ◌-◌, ◌<◌, ◌≤◌}
use native.Mathlib.Omega.{arith}
use lib.Dec.{leb}
use lib.ListN.{length, take}
use borrow.Author.Tests.{le-leb, lt-leb}
use Rattle.headers.specs.declared.Header.{Header}
use Rattle.headers.specs.declared.Head.{Head}
use Rattle.headers.specs.declared.Head.TheVariants.{Item, ClosingMark, Refusal}
use Rattle.headers.specs.Head.{constructed, head_at}
use Rattle.octets.specs.Walk.{Items, no_items, item, count, End, ends, stops, Walked, ended, past_of, follow, value, on_head, step, run}
use Rattle.octets.specs.Further.{one_of}
use Rattle.octets.specs.Rules.{Runs}
use Rattle.octets.proofs.Turns.{header_ok}
use Rattle.headers.proofs.Lies.{head_ok}
use Rattle.octets.proofs.Walks.{EndOk, run_ok, step_ok, run_step}
use Rattle.octets.proofs.RulesHold.{derived, derives}
use Rattle.tree.specs.Tree.{plain}
use Rattle.tree.specs.Accepts.{Whole}
use Rattle.runs.specs.Runs.{items_of, definite_run, Fine}
use Rattle.runs.proofs.Heads.{mark-marked}
use Rattle.runs.proofs.Ends.{right}
use Rattle.runs.proofs.Again.{definite}
use Rattle.fronts.proofs.Fronts.{under, Agree, agree_less, head-same, runs_same, trees-same, bound-from, bound-is, agree-slice, past-least}

-- an item, and then what was walked after it
abbrev pub followed : Items → Walked → Walked
followed no_items w = w
followed (item at code start past inside after) w = record { items = item at code start past inside w.items; how = w.how }

-- the run inside an item that ends at next: nothing of a primitive one
abbrev Inner : Bool → List ℕ → (room : ℕ) → Header → Items → (next : ℕ) → Type 0
Inner true s room h inside next = Runs s (room - 1) h.start h.bound h.marked inside (ends next)
Inner false s room h inside next = (inside ≡ no_items) × (h.bound ≡ next)

-- an item that was walked alone, to next
record Alone (s : List ℕ) (room at limit next : ℕ) (w : Walked) : Type 0 where
  pub h : Header
  pub head : head_at s at limit false room ≡ Item h
  pub inside : Items
  pub inner : Inner (constructed h.code) s room h inside next
  pub is : w ≡ record { items = item at h.code h.start (past_of h.marked next) inside no_items; how = ends next }

module _ (room : ℕ) (s : List ℕ) (at limit next : ℕ) where
  module _ (h : Header) (e : head_at s at limit false room ≡ Item h) where
    follow-alone : (inside : Items) (end : End) → constructed h.code ≡ true → Runs s (room - 1) h.start h.bound h.marked inside end
        → (follow at h inside end (λ n. ended n)).how ≡ ends next → Alone s room at limit next (follow at h inside end (λ n. ended n))
    follow-alone inside (ends to) c r p =
        let k : to ≡ next = cc in
        record {
          h = h;
          head = e;
          inside = inside;
          inner = subst (λ (b : Bool). Inner b s room h inside next) (sym c)
              (subst (λ (n : ℕ). Runs s (room - 1) h.start h.bound h.marked inside (ends n)) k r);
          is = rw k;
        }
    follow-alone inside (stops number place) c r p = let z : ◌≡◌ {A = ℕ} 0 1 = cc in absurd (omega arith)

    item-alone : (b : Bool) → constructed h.code ≡ b → (let v = value b h (λ g. run (room - 1) s g.start g.bound g.marked) in
        (follow at h v.items v.how (λ n. ended n)).how ≡ ends next → Alone s room at limit next (follow at h v.items v.how (λ n. ended n)))
    item-alone true c p =
        let o = header_ok s at limit room false h e in
        let w = run (room - 1) s h.start h.bound h.marked in
        follow-alone w.items w.how c (derives (room - 1) s h.start h.bound h.marked o.order) p
    item-alone false c p =
        let k : h.bound ≡ next = cc in
        record {
          h = h;
          head = e;
          inside = no_items;
          inner = subst (λ (b : Bool). Inner b s room h no_items next) (sym c) (refl, k);
          is = rw k;
        }

  head-alone : (head : Head) → head_at s at limit false room ≡ head
      → (let w = on_head at head (λ h. run (room - 1) s h.start h.bound h.marked) (λ n. ended n) in w.how ≡ ends next → Alone s room at limit next w)
  head-alone (Item h) e p = item-alone h e (constructed h.code) refl p
  head-alone ClosingMark e p = absurd (false≢true (mark-marked s at limit false room e))
  head-alone (Refusal number place) e p = let z : ◌≡◌ {A = ℕ} 0 1 = cc in absurd (omega arith)

  alone : at < limit → (one_of room s at limit).how ≡ ends next → Alone s room at limit next (one_of room s at limit)
  unfolding one_of
  alone l p =
      let e : step (leb limit at) at limit false (head_at s at limit false room) (λ h. run (room - 1) s h.start h.bound h.marked) (λ n. ended n)
      ≡ on_head at (head_at s at limit false room) (λ h. run (room - 1) s h.start h.bound h.marked) (λ n. ended n) = rw (lt-leb limit at l) in
      subst (Alone s room at limit next) (sym e) (head-alone (head_at s at limit false room) refl (sym (ap (λ (w : Walked). w.how) e) ∙ p))

-- the item in another stream with the same front, and another limit that is not before its end
module _ (s other : List ℕ) (room at limit next : ℕ) (g : Agree s other next) (past : ℕ) (w : next ≤ past) where
  -- where its value lies, and what is walked in it there
  record There (h : Header) (b : Bool) (inside : Items) : Type 0 where
    pub starts : h.start ≤ next
    pub bounded : h.marked ≡ false → h.bound ≡ next
    pub walks : value b (under past h) (λ k. run (room - 1) other k.start k.bound k.marked) ≡ record { items = inside; how = ends next }

  value_there : (h : Header) → head_at s at limit false room ≡ Item h → (b : Bool) → constructed h.code ≡ b → (inside : Items) → Inner b s room h inside next
      → There h b inside
  value_there h e true c inside r =
      let b = bound-from h.marked next h.bound past h.start (right r) w in
      let n = runs_same s other r next refl g (under past h).bound b.0 b.1 in
      record { starts = n.0; bounded = λ f. bound-is h.marked next h.bound h.start (right r) f; walks = sym (derived n.1) }
  value_there h e false c inside r =
      let o = header_ok s at limit room false h e in
      let m = definite s at limit false room h e c h.marked refl in
      let k : (under past h).bound ≡ next = ap (λ (x : Bool). cond x past h.bound) m ∙ r.1 in
      let i : no_items ≡ inside = sym r.0 in
      record { starts = omega arith; bounded = λ f. r.1; walks = rw (k, i) }

  module _ {a : Walked} (x : Alone s room at limit next a) where
    there : There x.h (constructed x.h.code) x.inside
    there = value_there x.h x.head (constructed x.h.code) refl x.inside x.inner

    before : at < past
    before = let o = header_ok s at limit room false x.h x.head in let n = there.starts in omega arith

    head-there : head_at other at past false room ≡ Item (under past x.h)
    head-there =
        head-same s other at limit past room false x.h x.head (let n = there.starts in omega arith)
        (λ f. let n = there.bounded f in omega arith) (agree_less s other x.h.start next there.starts g)

    -- what is walked there, with any walk of what follows
    walked-there : (more : ℕ → Walked)
        → step (leb past at) at past false (head_at other at past false room) (λ h. run (room - 1) other h.start h.bound h.marked) more
        ≡ followed a.items (more next)
    walked-there more = rw (lt-leb past at before, head-there, there.walks, x.is)

    one-there : one_of room other at past ≡ a
    unfolding one_of
    one-there = walked-there (λ n. ended n) ∙ rw x.is

    run-there : run room other at past false ≡ followed a.items (run room other next past false)
    run-there = run_step room other at past false (let l = before in omega arith) ∙ walked-there (λ n. run room other n past false)

module _ (room : ℕ) (s : List ℕ) (at limit next : ℕ) (l : at < limit) (e : (one_of room s at limit).how ≡ ends next) where
  module _ (other : List ℕ) (g : take next s ≡ take next other) (past : ℕ) (w : next ≤ past) where
    -- the item walked alone depends on nothing after it
    pub one-front : one_of room other at past ≡ one_of room s at limit
    one-front = one-there s other room at limit next g past w (alone room s at limit next l e)

    -- a walk of all of the other stream begins with that item, and goes on after it
    pub run-front : run room other at past false ≡ followed (one_of room s at limit).items (run room other next past false)
    run-front = run-there s other room at limit next g past w (alone room s at limit next l e)

  -- the run that has the item alone
  alone-walk : run room s at next false ≡ one_of room s at limit
  alone-walk =
      let x = alone room s at limit next l e in
      let n : run room s next next false ≡ ended next = run_step room s next next false (omega arith) ∙ rw (le-leb next next (omega arith)) in
      run-front s refl next (omega arith) ∙ rw (n, x.is)

  pub alone-items : items_of s (definite_run at next room) ≡ (one_of room s at limit).items
  alone-items = ap (λ (w : Walked). w.items) alone-walk

  -- it ends after its place, and within the limit
  pub one-within : limit ≤ length s → (at < next) × (next ≤ limit)
  unfolding one_of
  one-within f =
      let x = alone room s at limit next l e in
      let ok = step_ok (leb limit at) at limit room false (omega arith) (head_at s at limit false room) (head_ok s at limit room false)
      (λ h. run (room - 1) s h.start h.bound h.marked) (λ h b. run_ok (room - 1) s h.start h.bound h.marked b)
      (λ n. ended n) (λ n b. (omega arith, b)) in
      let o : EndOk at limit (count (one_of room s at limit).items) (ends next) = subst (EndOk at limit (count (one_of room s at limit).items)) e ok in
      (before s s room at limit next refl next (omega arith) x, o.1)

  pub alone-fine : limit ≤ length s → Fine s (definite_run at next room)
  alone-fine f =
      let b = one-within f in
      let whole : Whole (run room s at next false).how = subst Whole (sym (ap (λ (w : Walked). w.how) alone-walk ∙ e)) tt in
      record { order = omega arith; inside = omega arith; whole = whole }

-- where a walk of all ends, its first item walked alone ends too
module _ (room : ℕ) (s : List ℕ) (at limit : ℕ) (more : ℕ → Walked) where
  follow-whole : (h : Header) (inside : Items) (e : End) → Whole (follow at h inside e more).how
      → (next : ℕ) × ((follow at h inside e (λ n. ended n)).how ≡ ends next)
  follow-whole h inside (ends next) w = (next, refl)
  follow-whole h inside (stops number place) w = absurd w

  head-whole : (head : Head) → head_at s at limit false room ≡ head → (f : Header → Walked) → Whole (on_head at head f more).how
      → (next : ℕ) × ((on_head at head f (λ n. ended n)).how ≡ ends next)
  head-whole (Item h) e f w = let v = value (constructed h.code) h f in follow-whole h v.items v.how w
  head-whole ClosingMark e f w = absurd (false≢true (mark-marked s at limit false room e))
  head-whole (Refusal number place) e f w = absurd w

pub whole-alone : (room : ℕ) (s : List ℕ) (at limit : ℕ) → at < limit → Whole (run room s at limit false).how
    → (next : ℕ) × ((one_of room s at limit).how ≡ ends next)
unfolding one_of
whole-alone room s at limit l w =
    let f : Header → Walked = λ h. run (room - 1) s h.start h.bound h.marked in
    let more : ℕ → Walked = λ n. run room s n limit false in
    let e : run room s at limit false ≡ on_head at (head_at s at limit false room) f more =
    run_step room s at limit false (omega arith) ∙ rw (lt-leb limit at l) in
    let n = head-whole room s at limit more (head_at s at limit false room) refl f (subst Whole (ap (λ (x : Walked). x.how) e) w) in
    (n.0, rw (lt-leb limit at l) n.1)

-- where the first item walked alone is refused, a walk of all is refused alike
module _ (at : ℕ) (more : ℕ → Walked) (number place : ℕ) where
  follow-stops : (h : Header) (inside : Items) (e : End) → (follow at h inside e (λ n. ended n)).how ≡ stops number place
      → (follow at h inside e more).how ≡ stops number place
  follow-stops h inside (ends next) p = let z : ◌≡◌ {A = ℕ} 0 1 = cc in absurd (omega arith)
  follow-stops h inside (stops n q) p = p

  head-stops : (head : Head) (f : Header → Walked) → (on_head at head f (λ n. ended n)).how ≡ stops number place
      → (on_head at head f more).how ≡ stops number place
  head-stops (Item h) f p = let v = value (constructed h.code) h f in follow-stops h v.items v.how p
  head-stops ClosingMark f p = let z : ◌≡◌ {A = ℕ} 0 1 = cc in absurd (omega arith)
  head-stops (Refusal n q) f p = p

pub alone-stops : (room : ℕ) (s : List ℕ) (at limit number place : ℕ) → at < limit → (one_of room s at limit).how ≡ stops number place
    → (run room s at limit false).how ≡ stops number place
unfolding one_of
alone-stops room s at limit number place l p =
    let f : Header → Walked = λ h. run (room - 1) s h.start h.bound h.marked in
    let more : ℕ → Walked = λ n. run room s n limit false in
    let e : run room s at limit false ≡ on_head at (head_at s at limit false room) f more =
    run_step room s at limit false (omega arith) ∙ rw (lt-leb limit at l) in
    ap (λ (w : Walked). w.how) e ∙ head-stops at more number place (head_at s at limit false room) f (rw (lt-leb limit at l) at p)

-- one item and no other
pub record OneItem (at : ℕ) (items : Items) : Type 0 where
  pub code : ℕ
  pub start : ℕ
  pub past : ℕ
  pub inside : Items
  pub is : items ≡ item at code start past inside no_items

module _ (room : ℕ) (s : List ℕ) (at limit next : ℕ) (l : at < limit) (e : (one_of room s at limit).how ≡ ends next) where
  inside-same : (other : List ℕ) → take next s ≡ take next other → (h : Header) (b : Bool) (inside : Items) → Inner b s room h inside next
      → plain s inside ≡ plain other inside
  inside-same other g h true inside r =
      let b = bound-from h.marked next h.bound next h.start (right r) (omega arith) in
      trees-same s other r next refl g (under next h).bound b.0 b.1
  inside-same other g h false inside r = rw r.0

  -- the first item stands for the same tree in both streams
  pub tree-front : (other : List ℕ) → take next s ≡ take next other
      → plain s (one_of room s at limit).items ≡ plain other (one_of room s at limit).items
  tree-front other g =
      let x = alone room s at limit next l e in
      let value = agree-slice s other x.h.start (past_of x.h.marked next) next (past-least s other x.h.marked next) g in
      rw (x.is, value, inside-same other g x.h (constructed x.h.code) x.inside x.inner)

  -- it is an item, and nothing follows it
  pub one-item : OneItem at (one_of room s at limit).items
  one-item =
      let x = alone room s at limit next l e in
      record {
        code = x.h.code;
        start = x.h.start;
        past = past_of x.h.marked next;
        inside = x.inside;
        is = ap (λ (w : Walked). w.items) x.is;
      }

  pub one-some : (one_of room s at limit).items ≡ no_items → ⊥
  one-some z =
      let x = one-item in
      let p : item at x.code x.start x.past x.inside no_items ≡ no_items = sym x.is ∙ z in
      let q : ◌≡◌ {A = ℕ} 0 1 = cc in
      omega arith

  pub one_only : (code first past : ℕ) (inside after : Items) → (one_of room s at limit).items ≡ item at code first past inside after → after ≡ no_items
  one_only code first past inside after z =
      let x = one-item in
      let p : item at x.code x.start x.past x.inside no_items ≡ item at code first past inside after = sym x.is ∙ z in
      cc
