-- A value of primitive items read again, as a definite run from its first octet to its last, has the same items: a primitive item is
-- definite, and its header depends on nothing around it but that its value is within the limit and a level is left.
use mathlib.Core.Path.{◌≡◌, refl, ap, sym, ◌∙◌, subst}
use mathlib.Core.Bool.{Bool, true, false, cond, not, ◌&&◌, false≢true}
use mathlib.Core.List.{List}
use Prim.Native.Nat.{ℕ, ◌+◌, ◌-◌, ◌<◌, ◌≤◌}
use native.Mathlib.Omega.{arith}
use lib.Dec.{leb, ltb, eqb}
use lib.ListN.{take, drop}
use borrow.Author.Tests.{le-leb, lt-ltb, le-ltb, eq-eqb, ne_eqb}
use Rattle.headers.specs.declared.Header.{Header}
use Rattle.headers.specs.declared.Head.{Head}
use Rattle.headers.specs.declared.Head.TheVariants.{Item, ClosingMark, Refusal}
use Rattle.headers.specs.Head.{number_bits, constructed, misfits, big_endian, octet_at, definite_at, indefinite_at, long_at, by_first, length_at, closing_at, item_at}
use Rattle.headers.specs.Head.{head_at}
use Rattle.octets.specs.Walk.{Items, End, ends, Walked, past_of, run}
use Rattle.octets.specs.Rules.{Runs, at_limit, unclosed, closes, refuses, primitive, passes, breaks}
use Rattle.headers.proofs.Lies.{FieldRead, in_one, in_two, in_three, item-holds}
use Rattle.laws.proofs.Tests.{cond-holds}
use Rattle.octets.proofs.Turns.{header_ok}
use Rattle.octets.proofs.RulesHold.{derived, derives}
use Rattle.tree.specs.Tree.{plain}
use Rattle.tree.specs.Accepts.{Whole}
use Rattle.runs.specs.declared.Run.{Run}
use Rattle.runs.specs.Runs.{walk_in, items_of, tree_in, definite_run, all_primitive, Fine, Meeting}
use Rattle.runs.proofs.Heads.{mark-marked}
use Rattle.runs.proofs.Ends.{right, past_next}

-- another reading yields the same header, if that is definite and its value ends within the other limit
abbrev Kept : (other : Head) → (limit : ℕ) → Head → Type 0
Kept other limit (Item h) = h.marked ≡ false → h.bound ≤ limit → other ≡ Item h
Kept other limit ClosingMark = Unit {0}
Kept other limit (Refusal number place) = Unit {0}

module _ (code at limit past : ℕ) (other : Head) where
  definite-kept : (start len : ℕ) → (start + len ≤ past → other ≡ definite_at code at start len past) → Kept other past (definite_at code at start len limit)
  unfolding definite_at
  definite-kept start len same =
      cond-holds (Kept other past) (leb (start + len) limit)
      (λ _. cond-holds (Kept other past) (misfits code len) (λ _. tt) (λ f _ w. same w ∙ rw (le-leb _ _ w, f)))
      (λ _. tt)

  first-kept : (s : List ℕ) (from first : ℕ) → (from + 1 ≤ past → other ≡ by_first s code at from first past)
      → Kept other past (by_first s code at from first limit)
  unfolding by_first indefinite_at long_at
  first-kept s from first same =
      cond-holds (Kept other past) (ltb first 0x80)
      (λ a. definite-kept (from + 1) first (λ w. same (omega arith) ∙ rw a))
      (λ a. cond-holds (Kept other past) (eqb first 0x80)
      (λ _. cond-holds (Kept other past) (constructed code) (λ _ m. absurd (false≢true (sym m))) (λ _. tt))
      (λ b. cond-holds (Kept other past) (ltb first 0x85)
      (λ d. cond-holds (Kept other past) (leb (from + 1 + (first - 0x80)) limit)
      (λ _. definite-kept (from + 1 + (first - 0x80)) (big_endian (take (first - 0x80) (drop (from + 1) s)))
      (λ w. let k : from + 1 + (first - 0x80) ≤ past = omega arith in same (omega arith) ∙ rw (a, b, d, le-leb _ _ k)))
      (λ _. tt))
      (λ _. tt)))

  length-kept : (s : List ℕ) (from : ℕ) → (from < past → other ≡ length_at s code at from past) → Kept other past (length_at s code at from limit)
  unfolding length_at
  length-kept s from same =
      cond-holds (Kept other past) (ltb from limit)
      (λ _. first-kept s from (octet_at s from) (λ w. let k : from < past = omega arith in same k ∙ rw (lt-ltb _ _ k)))
      (λ _. tt)

closing-kept : (s : List ℕ) (at limit past : ℕ) (marked : Bool) (other : Head) → Kept other past (closing_at s at limit marked)
unfolding closing_at
closing-kept s at limit past marked other =
    cond-holds (Kept other past) marked
    (λ _. cond-holds (Kept other past) (ltb (at + 1) limit)
    (λ _. cond-holds (Kept other past) (eqb (octet_at s (at + 1)) 0) (λ _. tt) (λ _. tt))
    (λ _. tt))
    (λ _. tt)

-- a type field that was read is read again, before another limit that is past it
pub item-again : (s : List ℕ) (octet at limit past levels : ℕ) → 0 < levels → {code from : ℕ} → FieldRead s octet at limit code from → from < past
    → item_at s octet at past levels ≡ length_at s code at from past
unfolding item_at
item-again s octet at limit past levels some (in_one low tabled) w =
    rw (ne_eqb levels 0 (λ z. omega arith), ne_eqb (number_bits octet) 31 low, tabled)
item-again s octet at limit past levels some (in_two n k l a b) w =
    let there : at + 1 < past = omega arith in
    rw (
      ne_eqb levels 0 (λ z. omega arith),
      eq-eqb (number_bits octet) 31 n,
      lt-ltb (at + 1) past there,
      le-ltb (octet_at s (at + 1)) 31 a,
      lt-ltb (octet_at s (at + 1)) 0x80 b,
      k,
    )
item-again s octet at limit past levels some (in_three n k l a b c) w =
    let second = octet_at s (at + 1) in
    let there : at + 1 < past = omega arith in
    let further : at + 2 < past = omega arith in
    let under : 31 ≤ second = omega arith in
    let above : 0x80 ≤ second = omega arith in
    rw (
      ne_eqb levels 0 (λ z. omega arith),
      eq-eqb (number_bits octet) 31 n,
      lt-ltb (at + 1) past there,
      le-ltb second 31 under,
      le-ltb second 0x80 above,
      ne_eqb second 0x80 (λ z. omega arith),
      lt-ltb second 0x100 b,
      lt-ltb (at + 2) past further,
      lt-ltb (octet_at s (at + 2)) 0x80 c,
      k,
    )

-- an item's header is kept where the run is definite, ends within another limit and has a level left
head-kept : (s : List ℕ) (at limit past : ℕ) (marked : Bool) (room levels : ℕ) → (0 < room → 0 < levels)
    → Kept (head_at s at past false levels) past (head_at s at limit marked room)
unfolding head_at
head-kept s at limit past marked room levels deep =
    let octet = octet_at s at in
    let other = head_at s at past false levels in
    cond-holds (Kept other past) (eqb octet 0) (λ _. closing-kept s at limit past marked other)
    (λ z. item-holds (Kept other past) s octet at limit room (λ _ _ _. tt)
    (λ some code from read.
    length-kept code at limit past other s from
    (λ w. rw z (item-again s octet at limit past levels (deep some) read w))))

-- a primitive item is definite
pub definite : (s : List ℕ) (at limit : ℕ) (marked : Bool) (room : ℕ) (h : Header) → head_at s at limit marked room ≡ Item h → constructed h.code ≡ false
    → (m : Bool) → h.marked ≡ m → h.marked ≡ false
definite s at limit marked room h e c true m = absurd (false≢true (sym c ∙ (header_ok s at limit room marked h e).mark m))
definite s at limit marked room h e c false m = m

-- no constructed item is among primitive ones
not-all : (b c : Bool) → b ≡ true → not b && c ≡ true → ⊥
not-all true c p q = false≢true q
not-all false c p q = false≢true p

all_after : (b c : Bool) → not b && c ≡ true → c ≡ true
all_after true c q = absurd (false≢true q)
all_after false c q = q

-- the rules derive the run again: it ends where the value does
again-runs : {s : List ℕ} {room at limit : ℕ} {marked : Bool} {i : Items} {e : End} → Runs s room at limit marked i e
    → (levels : ℕ) → (0 < room → 0 < levels) → (past : ℕ) → e ≡ ends (cond marked (past + 2) past) → all_primitive i ≡ true
    → (at ≤ past) × Runs s levels at past false i (ends past)
again-runs (at_limit {room} {at} {limit} p) levels deep past e a =
    let k : limit ≡ past = cc in
    (omega arith, at_limit (p ∙ k))
again-runs (unclosed p) levels deep past e a = let z : ◌≡◌ {A = ℕ} 0 1 = cc in absurd (omega arith)
again-runs {s} (closes {room} {at} {limit} {marked} l h) levels deep past e a =
    let m = mark-marked s at limit marked room h in
    let q : ends (at + 2) ≡ ends (past + 2) = e ∙ ap (λ (b : Bool). ends (cond b (past + 2) past)) m in
    let k : at + 2 ≡ past + 2 = cc in
    let there : at ≡ past = omega arith in
    (omega arith, at_limit there)
again-runs (refuses l h) levels deep past e a = let z : ◌≡◌ {A = ℕ} 0 1 = cc in absurd (omega arith)
again-runs {s} (primitive {room} {at} {limit} {marked} {h} {after} l p q r) levels deep past e a =
    let n = again-runs r levels deep past e (all_after (constructed h.code) (all_primitive after) a) in
    let m = definite s at limit marked room h p q h.marked refl in
    let o = header_ok s at limit room marked h p in
    let k = subst (Kept (head_at s at past false levels) past) p (head-kept s at limit past marked room levels deep) m n.0 in
    let before : at < past = omega arith in
    (omega arith, primitive before k q n.1)
again-runs (passes {h = h} {after = after} l p q v r) levels deep past e a = absurd (not-all (constructed h.code) (all_primitive after) q a)
again-runs (breaks l p q v) levels deep past e a = let z : ◌≡◌ {A = ℕ} 0 1 = cc in absurd (omega arith)

-- the run inside an item, read again up to where its value ends
pub value-again : {s : List ℕ} {room at limit : ℕ} {marked : Bool} {i : Items} {next : ℕ} → Runs s room at limit marked i (ends next)
    → (levels : ℕ) → (0 < room → 0 < levels) → all_primitive i ≡ true → Runs s levels at (past_of marked next) false i (ends (past_of marked next))
value-again {at = at} {limit = limit} {marked = marked} {next = next} v levels deep all =
    (again-runs v levels deep (past_of marked next) (ap ends (past_next marked at limit next (right v))) all).1

module _ {s : List ℕ} {r : Run} {code first past : ℕ} {inner rest : Run} (met : Meeting s r code first past inner rest)
    (c : constructed code ≡ true) (all : all_primitive (items_of s inner) ≡ true) (levels : ℕ) (deep : 0 < inner.room → 0 < levels) where
  derived-again : (inner.at ≤ past) × Runs s levels inner.at past false (items_of s inner) (ends past)
  derived-again =
      again-runs (derives inner.room s inner.at inner.limit inner.marked met.inner_fine.order) levels deep past (met.inner_spans c).to all

  walked-again : walk_in s (definite_run first past levels) ≡ record { items = items_of s inner; how = ends past }
  walked-again = ap (λ (at : ℕ). run levels s at past false) (sym (met.inner_spans c).from) ∙ sym (derived derived-again.1)

  -- A met item with none but primitive items inside it can be read again by its value's bounds alone: that run is fine,
  pub again-fine : Fine s (definite_run first past levels)
  again-fine =
      let whole : Whole (walk_in s (definite_run first past levels)).how = rw walked-again tt in
      record { order = met.value_order; inside = met.value_inside; whole = whole }

  -- it has the same items
  pub again-items : items_of s (definite_run first past levels) ≡ items_of s inner
  again-items = ap (λ (w : Walked). w.items) walked-again

  -- and stands for the same tree
  pub again-tree : tree_in s (definite_run first past levels) ≡ tree_in s inner
  again-tree = ap (plain s) again-items
