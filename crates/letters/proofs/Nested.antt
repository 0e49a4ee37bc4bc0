-- Items lie in their run, at every depth, and the bounds of a value that is looked for lie there too; an item of the stream lies before
-- the next. By the rules of the walk.
use mathlib.Core.Path.{◌≡◌, refl, sym, ◌∙◌}
use mathlib.Core.Bool.{Bool, true, false, false≢true}
use mathlib.Core.Option.{Option, some, none}
use mathlib.Core.List.{List}
use Prim.Native.Nat.{ℕ, ◌+◌, ◌≤◌}
use native.Mathlib.Omega.{arith}
use borrow.Table.Steps.{cases}
use lib.Dec.{eqb}
use Rattle.octets.specs.Walk.{Items, no_items, item, End, ends, past_of, start_of}
use Rattle.octets.specs.Rules.{Runs, at_limit, unclosed, closes, refuses, primitive, passes, breaks}
use Rattle.octets.proofs.Turns.{header_ok}
use Rattle.tree.specs.Accepts.{Whole}
use Rattle.runs.proofs.Laws.{starts-at}
use Rattle.contents.specs.Search.{bounds_of, items_in}
use Rattle.elements.specs.Shape.{Contents, profile, described, unit, style, protected}
use Rattle.elements.specs.ElementRows.{bounds_at, body_in}
use Rattle.letters.specs.Letter.{Within, not_there, present}

-- all values lie between two places
abbrev pub Nested : (from to : ℕ) → Items → Type 0
Nested from to no_items = Unit {0}
Nested from to (item at code first past inside after) = (from ≤ first) × (first ≤ past) × (past ≤ to) × Nested from to inside × Nested from to after

wider : (from to from' to' : ℕ) → from' ≤ from → to ≤ to' → (i : Items) → Nested from to i → Nested from' to' i
wider from to from' to' low high no_items w = tt
wider from to from' to' low high (item at code first past inside after) w =
    (omega (arith, w.0), w.1, omega (arith, w.2), wider from to from' to' low high inside w.3, wider from to from' to' low high after w.4)

-- a run from `at` that ended: its items lie before next, and a closing mark is two octets
pub record Stays (marked : Bool) (at next : ℕ) (i : Items) : Type 0 where
  pub order : at ≤ next
  pub mark : marked ≡ true → at + 2 ≤ next
  pub nested : Nested at next i

pub past-between : (m : Bool) (start next : ℕ) → start ≤ next → (m ≡ true → start + 2 ≤ next) → (start ≤ past_of m next) × (past_of m next ≤ next)
past-between true start next l mark = let k = mark refl in (omega arith, omega arith)
past-between false start next l mark = (l, omega arith)

pub stays : {s : List ℕ} {room at limit : ℕ} {marked : Bool} {i : Items} {e : End} → Runs s room at limit marked i e → (end : ℕ) → e ≡ ends end
    → Stays marked at end i
stays (at_limit {room} {at} {limit} p) end e =
    let q : limit ≡ end = cc in record { order = omega arith; mark = λ m. absurd (false≢true m); nested = tt }
stays (unclosed p) end e = let z : ◌≡◌ {A = ℕ} 0 1 = cc in absurd (omega arith)
stays (closes {room} {at} {limit} {marked} l h) end e =
    let q : at + 2 ≡ end = cc in record { order = omega arith; mark = λ m. omega arith; nested = tt }
stays (refuses l h) end e = let z : ◌≡◌ {A = ℕ} 0 1 = cc in absurd (omega arith)
stays {s} (primitive {room} {at} {limit} {marked} {h} {after} l p q r) end e =
    let head = header_ok s at limit room marked h p in
    let beyond = stays r end e in
    let past = past-between h.marked h.start h.bound head.order (λ m. absurd (false≢true (sym q ∙ head.mark m))) in
    record {
      order = omega (arith, head.header, head.order, beyond.order);
      mark = λ m. omega (arith, head.header, head.order, beyond.order);
      nested = (
        omega (arith, head.header),
        past.0,
        omega (arith, past.1, beyond.order),
        tt,
        wider h.bound end at end (omega (arith, head.header, head.order)) (omega arith) after beyond.nested,
      );
    }
stays {s} (passes {room} {at} {limit} {marked} {h} {inside} {after} {next} l p q v r) end e =
    let head = header_ok s at limit room marked h p in
    let within = stays v next refl in
    let beyond = stays r end e in
    let past = past-between h.marked h.start next within.order within.mark in
    record {
      order = omega (arith, head.header, within.order, beyond.order);
      mark = λ m. omega (arith, head.header, within.order, beyond.order);
      nested = (
        omega (arith, head.header),
        past.0,
        omega (arith, past.1, beyond.order),
        wider h.start next at end (omega (arith, head.header)) (omega (arith, beyond.order)) inside within.nested,
        wider next end at end (omega (arith, head.header, within.order)) (omega arith) after beyond.nested,
      );
    }
stays (breaks l p q v) end e = let z : ◌≡◌ {A = ℕ} 0 1 = cc in absurd (omega arith)

-- each item of a run that is not marked lies before the next, or the run's end
abbrev pub Separate : (end : ℕ) → Items → Type 0
Separate end no_items = Unit {0}
Separate end (item at code first past inside after) = Nested at (start_of end after) inside × Separate end after

pub separate : {s : List ℕ} {room at limit : ℕ} {marked : Bool} {i : Items} {e : End} → Runs s room at limit marked i e → marked ≡ false → Whole e
    → Separate limit i
separate (at_limit p) m w = tt
separate (unclosed p) m w = tt
separate (closes l h) m w = tt
separate (refuses l h) m w = tt
separate (primitive l p q r) m w = (tt, separate r m w)
separate {s} (passes {room} {at} {limit} {marked} {h} {inside} {after} {next} l p q v r) m w =
    let head = header_ok s at limit room marked h p in
    let here : start_of limit after ≡ next = starts-at r m w in
    (wider h.start next at (start_of limit after) (omega (arith, head.header)) (omega (arith, here)) inside (stays v next refl).nested, separate r m w)
separate (breaks l p q v) m w = absurd w

module _ (from to : ℕ) where
  pub bounds-within : (octet : ℕ) (i : Items) → Nested from to i → Within from to (bounds_of octet i)
  unfolding bounds_of
  bounds-within octet no_items w = not_there refl
  bounds-within octet (item at type first past inside after) w =
      cases (eqb type octet) (λ t. rw t (present w.0 w.1 w.2)) (λ t. rw t (bounds-within octet after w.4))

  pub items-within : (octet : ℕ) (i : Items) → Nested from to i → Nested from to (items_in octet i)
  unfolding items_in
  items-within octet no_items w = tt
  items-within octet (item at type first past inside after) w =
      cases (eqb type octet) (λ t. rw t w.3) (λ t. rw t (items-within octet after w.4))

  pub bounds-at-within : (octet : Option ℕ) (i : Items) → Nested from to i → Within from to (bounds_at octet i)
  bounds-at-within none i w = not_there refl
  bounds-at-within (some octet) i w = bounds-within octet i w

  pub body-within : (contents : Contents) (i : Items) → Nested from to i → Nested from to (body_in contents i)
  unfolding body_in
  body-within profile i w = tt
  body-within (described needed types) i w = items-within 0x31 i w
  body-within (unit needed tiled) i w = items-within 0x31 i w
  body-within style i w = w
  body-within (protected enciphered) i w = tt
