-- The writing of a run: what is left to write from `at` makes of the output what all of it made of the output as it was, and a turn keeps
-- that.
use mathlib.Core.Path.{◌≡◌, refl, ap, sym, ◌∙◌, subst}
use mathlib.Core.Bool.{Bool, true}
use mathlib.Core.List.{List, ◌++◌, append_assoc}
use Prim.Native.Nat.{ℕ, ◌+◌, ◌*◌, ◌≤◌}
use native.Mathlib.Omega.{arith}
use lib.ListN.{length, drop, length-append}
use lib.Seq.{slice, sets, length-sets, sets-eq}
use Rattle.std.specs.Prelude.{None}
use Rattle.headers.specs.declared.Header.{Header}
use Rattle.headers.specs.Head.{type_field}
use Rattle.octets.specs.Walk.{past_of}
use Rattle.laws.proofs.Tests.{cond-holds}
use Rattle.normal.specs.declared.Measured.{Measured}
use Rattle.normal.specs.Normal.{length_octets, coded}
use Rattle.normal.specs.Passes.{RunEnds, ValueEnds, normal_from, normal_in, header_size, ValueMeasures, PutsOctets}
use Rattle.normal.proofs.Lengths.{length-length}
use Rattle.laws.proofs.Writes.{sets-append}
use Rattle.normal.proofs.Passes.{Turn, Meets, turned, run-left, form_small, value-past}

-- a value that is its own normal form is copied from within its bounds
pub copies : (room : ℕ) (s : List ℕ) (h : Header) → ValueEnds room s h → (m : Measured) → ValueMeasures room s h m → m.shortest ≡ true
    → (h.start + m.size ≤ h.bound) × (normal_in room s h ≡ slice h.start (h.start + m.size) s)
copies room s h w m v b =
    let (form, e) = v.measures.own b in
    let p = value-past room s h w.order w.whole in
    let l : past_of h.marked m.next ≤ m.next = cond-holds (λ (k : ℕ). k ≤ m.next) h.marked (λ _. omega arith) (λ _. omega arith) in
    (omega (arith, v.measures.past), form)

-- an item: its header, its value, and what follows it
put-coded : (out mid last : List ℕ) (pos : ℕ) (type value after : List ℕ) (past next : ℕ)
    → PutsOctets out pos (type ++ length_octets (length value)) past mid → PutsOctets mid past value next last
    → sets out pos (coded type value after) ≡ sets last next after
put-coded out mid last pos type value after past next p q =
    let head = type ++ length_octets (length value) in
    ap (sets out pos) (sym (append_assoc type (length_octets (length value)) (value ++ after)))
    ∙ sets-append out pos head (value ++ after)
    ∙ ap (λ (k : ℕ). sets (sets out pos head) k (value ++ after)) (sym p.to)
    ∙ ap (λ (l : List ℕ). sets l past (value ++ after)) (sym p.written)
    ∙ sets-append mid past value after
    ∙ ap (λ (k : ℕ). sets (sets mid past value) k after) (sym q.to)
    ∙ ap (λ (l : List ℕ). sets l next after) (sym q.written)

module _ (room : ℕ) (s : List ℕ) (from limit : ℕ) (marked : Bool) (out₀ : List ℕ) (begin : ℕ) where
  -- the normal form from `from` to `at` is written, up to pos
  pub record PutSoFar (at pos : ℕ) (out : List ℕ) : Type 0 where
    pub left : RunEnds room s at limit marked
    pub kept : length out ≡ length out₀
    pub to : begin + length (normal_from room s from limit marked) ≡ pos + length (normal_from room s at limit marked)
    pub written : sets out₀ begin (normal_from room s from limit marked) ≡ sets out pos (normal_from room s at limit marked)

  pub none-put : RunEnds room s from limit marked → PutSoFar from begin out₀
  none-put r = record { left = r; kept = refl; to = refl; written = refl }

  module _ (at pos : ℕ) (out : List ℕ) (c : PutSoFar at pos out) where
    -- at the end of the run all is written
    pub all-put : Meets room s at limit marked None → PutsOctets out₀ begin (normal_from room s from limit marked) pos out
    all-put (e, f) = record {
      to = sym (c.to ∙ ap (λ (l : List ℕ). pos + length l) f ∙ omega arith);
      written = sym (c.written ∙ ap (sets out pos) f);
    }

    module _ (h : Header) (u : Turn room s at limit marked h) (m : Measured) (v : ValueMeasures room s h m) where
      -- there is room for the item, and it is not too long
      pub fits : begin + length (normal_from room s from limit marked) ≤ length out₀
          → (pos + (header_size h.code m.size + m.size) ≤ length out) × (m.size ≤ 3 * length s)
      fits l =
          let t = turned room s at limit marked h u m v in
          let k = form_small room s at limit marked c.left in
          (omega (arith, c.to, c.kept), omega arith)

      -- a turn writes the item
      pub item-put : (past pos' : ℕ) (mid out' : List ℕ)
          → PutsOctets out pos (type_field h.code ++ length_octets m.size) past mid → PutsOctets mid past (normal_in room s h) pos' out'
          → PutSoFar m.next pos' out'
      item-put past pos' mid out' p q =
          let (later, within, rest, form, len) = turned room s at limit marked h u m v in
          let type = type_field h.code in
          let p' = subst (λ (k : ℕ). PutsOctets out pos (type ++ length_octets k) past mid) v.measures.size p in
          let put = put-coded out mid out' pos type (normal_in room s h) (normal_from room s m.next limit marked) past pos' p' q in
          record {
            left = run-left room s at limit marked c.left m.next within rest;
            kept = ap length (q.written ∙ ap (λ (l : List ℕ). sets l past (normal_in room s h)) p.written)
                ∙ length-sets (sets out pos (type ++ length_octets m.size)) past (normal_in room s h)
                ∙ length-sets out pos (type ++ length_octets m.size) ∙ c.kept;
            to = omega (arith, c.to, p.to, q.to, v.measures.size, length-append type (length_octets m.size), length-length m.size);
            written = c.written ∙ ap (sets out pos) form ∙ put;
          }

-- what is written from the start on
pub put_front : (out form after : List ℕ) (past : ℕ) → length form ≤ length out → PutsOctets out 0 form past after → after ≡ form ++ drop (length form) out
put_front out form after past l p =
    let e : 0 + length form ≡ length form = omega arith in
    p.written ∙ sets-eq form out 0 (omega arith) ∙ rw e
