-- The measuring of a run: what is counted so far, with what is left from `at`, is all of it, and a turn keeps that.
use mathlib.Core.Path.{◌≡◌, refl, ap, sym, ◌∙◌}
use mathlib.Core.Bool.{Bool, true, false, cond, false≢true}
use mathlib.Core.List.{List, ◌++◌, append_assoc, append-nil}
use Prim.Native.Nat.{ℕ, ◌+◌, ◌-◌, ◌*◌, ◌≤◌}
use native.Mathlib.Omega.{arith}
use lib.ListN.{length}
use lib.Seq.{slice, slice_empty, length-slice}
use Rattle.std.specs.Prelude.{None}
use Rattle.headers.specs.declared.Header.{Header}
use Rattle.headers.specs.Head.{constructed, type_field}
use Rattle.octets.specs.Walk.{past_of, run}
use Rattle.normal.specs.declared.Measured.{Measured}
use Rattle.normal.specs.Normal.{length_octets, Octets}
use Rattle.normal.specs.Passes.{RunEnds, ValueEnds, end_of, normal_from, normal_in, header_size, RunMeasures, ValueMeasures}
use Rattle.normal.proofs.Own.{own-header, slice-join}
use Rattle.normal.proofs.Passes.{Turn, Meets, turned, run-left, form_small, value-run, value-plain, unmarked}

-- a primitive value is its own normal form
pub plain-measured : (room : ℕ) (s : List ℕ) (h : Header) → ValueEnds room s h → constructed h.code ≡ false
    → ValueMeasures room s h (record { next = h.bound; size = h.bound - h.start; shortest = true })
plain-measured room s h v k =
    let (e, f) = value-plain room s h k in
    let z : h.start + (h.bound - h.start) ≡ h.bound = omega (arith, v.order) in
    record {
      measures = record {
        past = sym (ap end_of e);
        size = sym (ap length f ∙ length-slice h.start h.bound s v.within);
        own = λ _. (
          f ∙ ap (λ (j : ℕ). slice h.start j s) (sym z),
          z ∙ ap (λ (x : Bool). past_of x h.bound) (sym (unmarked h.marked h.code v.mark k)),
        );
      };
      inner = λ e'. absurd (false≢true (sym e'));
    }

-- a constructed one is a run
pub run-measured : (room : ℕ) (s : List ℕ) (h : Header) → constructed h.code ≡ true → (m : Measured)
    → RunMeasures (room - 1) s h.start h.bound h.marked m → ValueMeasures room s h m
run-measured room s h k m v = let (e, f) = value-run room s h k in record { measures = rw (e, f) v; inner = λ _. k }

-- a marked run ends past its closing mark, any other at its limit
past-of-end : (marked : Bool) (at : ℕ) → past_of marked (cond marked (at + 2) at) ≡ at
past-of-end true at = omega arith
past-of-end false at = refl

module _ (room : ℕ) (s : List ℕ) (from limit : ℕ) (marked : Bool) where
  -- from `from` to `at` there are `size` octets of the normal form, and perhaps they are those of the stream
  pub record Counted (at size : ℕ) (shortest : Bool) : Type 0 where
    pub begun : from ≤ at
    pub left : RunEnds room s at limit marked
    pub same : (run room s from limit marked).how ≡ (run room s at limit marked).how
    pub sum : length (normal_from room s from limit marked) ≡ size + length (normal_from room s at limit marked)
    pub own : shortest ≡ true
        → (normal_from room s from limit marked ≡ slice from (from + size) s ++ normal_from room s at limit marked) × (from + size ≡ at)

  pub none-counted : RunEnds room s from limit marked → Counted from 0 true
  none-counted r =
      let z : from + 0 ≡ from = omega arith in
      record { begun = omega arith; left = r; same = refl; sum = omega arith; own = λ _. (rw (z, slice_empty from s), z) }

  module _ (at size : ℕ) (shortest : Bool) (c : Counted at size shortest) where
    -- at the end of the run all is counted
    pub all-counted : Meets room s at limit marked None → (past : ℕ) → cond marked (at + 2) at ≡ past
        → RunMeasures room s from limit marked (record { next = past; size = size; shortest = shortest })
    all-counted (e, f) past p = record {
      past = sym (ap end_of (c.same ∙ e) ∙ p);
      size = sym (c.sum ∙ ap (λ (l : List ℕ). size + length l) f ∙ omega arith);
      own = λ b. let (o, z) = c.own b in (o ∙ ap (λ (l : List ℕ). slice from (from + size) s ++ l) f ∙ append-nil (slice from (from + size) s), z ∙ sym (ap (past_of marked) (sym p) ∙ past-of-end marked at));
    }

    module _ (h : Header) (u : Turn room s at limit marked h) (m : Measured) (v : ValueMeasures room s h m) where
      -- what is counted then is bounded
      pub bounded : RunEnds room s from limit marked → size + (header_size h.code m.size + m.size) ≤ 3 * length s
      bounded r = let t = turned room s at limit marked h u m v in omega (arith, form_small room s from limit marked r, c.sum)

      -- an item that stands as in the normal form
      item-own : Octets s → h.marked ≡ false → m.shortest ≡ true → h.start ≡ at + header_size h.code m.size
          → normal_from room s at limit marked ≡ slice at m.next s ++ normal_from room s m.next limit marked
      item-own o n b p =
          let (form, z) = v.measures.own b in
          let next : h.start + m.size ≡ m.next = z ∙ ap (λ (x : Bool). past_of x m.next) n in
          let bound : h.bound ≡ h.start + m.size = sym (next ∙ v.measures.past ∙ u.definite n) in
          let rest = normal_from room s m.next limit marked in
          let value = slice h.start m.next s in
          let head : slice at h.start s ≡ type_field h.code ++ length_octets m.size = own-header s at limit room h o u.read n m.size bound p in
          let inner : normal_in room s h ≡ value = form ∙ ap (λ (k : ℕ). slice h.start k s) next in
          let len : length_octets (length (normal_in room s h)) ≡ length_octets m.size = ap length_octets (sym v.measures.size) in
          (turned room s at limit marked h u m v).3
          ∙ ap (λ (l : List ℕ). type_field h.code ++ (l ++ (normal_in room s h ++ rest))) len
          ∙ ap (λ (l : List ℕ). type_field h.code ++ (length_octets m.size ++ (l ++ rest))) inner
          ∙ sym (append_assoc (type_field h.code) (length_octets m.size) (value ++ rest))
          ∙ ap (λ (l : List ℕ). l ++ (value ++ rest)) (sym head)
          ∙ sym (append_assoc (slice at h.start s) value rest)
          ∙ ap (λ (l : List ℕ). l ++ rest) (slice-join s at h.start m.next (omega arith) (omega arith))

      -- a turn counts the item
      pub item-counted : Octets s → (size' : ℕ) (shortest' : Bool) → size' ≡ size + header_size h.code m.size + m.size
          → (shortest' ≡ true → (shortest ≡ true) × (h.marked ≡ false) × (m.shortest ≡ true) × (h.start ≡ at + header_size h.code m.size))
          → Counted m.next size' shortest'
      item-counted o size' shortest' e k =
          let (later, within, rest, form, len) = turned room s at limit marked h u m v in
          record {
            begun = omega (arith, c.begun);
            left = run-left room s at limit marked c.left m.next within rest;
            same = c.same ∙ rest;
            sum = omega (arith, c.sum);
            own = λ b.
                let (b₀, n, i, p) = k b in
                let (q, z) = c.own b₀ in
                let next : h.start + m.size ≡ m.next = (v.measures.own i).1 ∙ ap (λ (x : Bool). past_of x m.next) n in
                let z' : from + size' ≡ m.next = omega arith in
                let after = normal_from room s m.next limit marked in (
                  q ∙ ap (λ (j : ℕ). slice from j s ++ normal_from room s at limit marked) z
                      ∙ ap (λ (xs : List ℕ). slice from at s ++ xs) (item-own o n i p)
                      ∙ sym (append_assoc (slice from at s) (slice at m.next s) after)
                      ∙ ap (λ (xs : List ℕ). xs ++ after) (slice-join s from at m.next c.begun (omega arith))
                      ∙ ap (λ (j : ℕ). slice from j s ++ after) (sym z'),
                  z',
                );
          }
