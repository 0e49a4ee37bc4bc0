-- What is read of an item depends on nothing after it: another stream that begins with the same octets, up to where the item ends, with
-- any limit that is not before that, has the same header there and the same items in it (`head-same`, `runs_same`).
use mathlib.Core.Path.{◌≡◌, refl, ap, sym, ◌∙◌, subst}
use mathlib.Core.Bool.{Bool, true, false, cond, false≢true}
use mathlib.Core.List.{List, [], ◌∷◌}
use Prim.Native.Nat.{ℕ, ◌+◌, ◌-◌, ◌<◌, ◌≤◌}
use native.Mathlib.Omega.{arith}
use lib.Dec.{leb, ltb, eqb}
use lib.ListN.{get_or, take, drop}
use lib.Seq.{slice, take-take, get_or-take}
use borrow.Author.Tests.{le-leb, lt-ltb}
use Rattle.headers.specs.declared.Header.{Header}
use Rattle.headers.specs.declared.Head.{Head}
use Rattle.headers.specs.declared.Head.TheVariants.{Item, ClosingMark, Refusal}
use Rattle.headers.specs.Head.{constructed, code_of, misfits, big_endian, octet_at, definite_at, indefinite_at, long_at, by_first, length_at, closing_at, head_at}
use Rattle.headers.proofs.Lies.{FieldRead, in_one, in_two, in_three, item-holds, field_past}
use Rattle.laws.proofs.Tests.{cond-holds}
use Rattle.octets.specs.Walk.{Items, no_items, item, End, ends, past_of}
use Rattle.octets.specs.Rules.{Runs, at_limit, unclosed, closes, refuses, primitive, passes, breaks}
use Rattle.octets.proofs.Turns.{header_ok}
use Rattle.tree.specs.Tree.{plain}
use Rattle.tree.proofs.Here.{slice_is}
use Rattle.runs.proofs.Again.{item-again, definite}
use Rattle.runs.proofs.Ends.{EndsRight, right}

-- the header of an item under another limit: an indefinite item is bounded by it
abbrev pub under : (limit : ℕ) → Header → Header
under limit h = record { code = h.code; number = h.number; start = h.start; bound = cond h.marked limit h.bound; marked = h.marked }

-- where the value of an item ends, and the bound under another limit
pub bound-is : (m : Bool) (to bound start : ℕ) → EndsRight m start bound (ends to) → m ≡ false → bound ≡ to
bound-is true to bound start r f = absurd (false≢true (sym f))
bound-is false to bound start r f = sym r

pub bound-from : (m : Bool) (to bound past start : ℕ) → EndsRight m start bound (ends to) → to ≤ past
    → (to ≤ cond m past bound) × (m ≡ false → cond m past bound ≡ to)
bound-from true to bound past start r w = (w, λ f. absurd (false≢true (sym f)))
bound-from false to bound past start r w = (omega arith, λ f. sym r)

module _ (s other : List ℕ) where
  -- both begin with the same n octets
  abbrev pub Agree : ℕ → Type 0
  Agree n = take n s ≡ take n other

  pub agree_less : (m n : ℕ) → m ≤ n → Agree n → Agree m
  agree_less m n l g = sym (take-take m n s l) ∙ ap (take m) g ∙ take-take m n other l

  agree-octet : (n i : ℕ) → i < n → Agree n → get_or other i 0 ≡ get_or s i 0
  agree-octet n i l g = sym (sym (get_or-take n s i 0 l) ∙ ap (λ (xs : List ℕ). get_or xs i 0) g ∙ get_or-take n other i 0 l)

  agree-part : (at k : ℕ) → Agree (at + k) → take k (drop at s) ≡ take k (drop at other)
  agree-part at k g = sym (slice_is at k s) ∙ ap (drop at) g ∙ slice_is at k other

  -- a type field that is read in the one stream is read in the other too
  field-there : {octet at limit code from : ℕ} (past : ℕ) → FieldRead s octet at limit code from → from < past → Agree from
      → FieldRead other octet at past code from
  field-there past (in_one low tabled) w g = in_one low tabled
  field-there {octet} {at} past (in_two n k l a b) w g =
      let e = agree-octet (at + 2) (at + 1) (omega arith) g in
      subst (λ (x : ℕ). FieldRead other octet at past (code_of (octet ∷ x ∷ [])) (at + 2)) e (in_two n k (omega arith) (omega arith) (omega arith))
  field-there {octet} {at} past (in_three n k l a b c) w g =
      let e = agree-octet (at + 3) (at + 1) (omega arith) g in
      let f = agree-octet (at + 3) (at + 2) (omega arith) g in
      let read : FieldRead other octet at past (code_of (octet ∷ octet_at other (at + 1) ∷ octet_at other (at + 2) ∷ [])) (at + 3) =
      in_three n k (omega arith) (omega arith) (omega arith) (omega arith) in
      subst (λ (x : ℕ). FieldRead other octet at past (code_of (octet ∷ octet_at s (at + 1) ∷ x ∷ [])) (at + 3)) f
      (subst (λ (x : ℕ). FieldRead other octet at past (code_of (octet ∷ x ∷ octet_at other (at + 2) ∷ [])) (at + 3)) e read)

  module _ (at limit past : ℕ) (there : Head) where
    -- a header read in the one stream is read in the other too
    abbrev Kept : Head → Type 0
    Kept (Item h) = h.start ≤ past → (h.marked ≡ false → h.bound ≤ past) → Agree h.start → there ≡ Item (under past h)
    Kept ClosingMark = at + 2 ≤ past → Agree (at + 2) → there ≡ ClosingMark
    Kept (Refusal n place) = Unit {0}

    definite-kept : (code start len : ℕ) → (start ≤ past → Agree start → there ≡ definite_at code at start len past)
        → Kept (definite_at code at start len limit)
    unfolding definite_at
    definite-kept code start len same =
        cond-holds Kept (leb (start + len) limit)
        (λ _. cond-holds Kept (misfits code len) (λ _. tt) (λ f w v g. same w g ∙ rw (le-leb _ _ (v refl), f)))
        (λ _. tt)

    first-kept : (code from first : ℕ) → (from + 1 ≤ past → Agree (from + 1) → there ≡ by_first other code at from first past)
        → Kept (by_first s code at from first limit)
    unfolding by_first indefinite_at long_at
    first-kept code from first same =
        cond-holds Kept (ltb first 0x80) (λ a. definite-kept code (from + 1) first (λ w g. same w g ∙ rw a))
        (λ a. cond-holds Kept (eqb first 0x80)
        (λ b. cond-holds Kept (constructed code) (λ c w v g. same w g ∙ rw (a, b, c)) (λ _. tt))
        (λ b. cond-holds Kept (ltb first 0x85)
        (λ d. cond-holds Kept (leb (from + 1 + (first - 0x80)) limit)
        (λ _. definite-kept code (from + 1 + (first - 0x80)) (big_endian (take (first - 0x80) (drop (from + 1) s)))
        (λ w g.
        let less = agree_less (from + 1) (from + 1 + (first - 0x80)) (omega arith) g in
        same (omega arith) less ∙ rw (a, b, d, le-leb _ _ w, agree-part (from + 1) (first - 0x80) g)))
        (λ _. tt))
        (λ _. tt)))

    length-kept : (code from : ℕ) → (from + 1 ≤ past → Agree (from + 1) → there ≡ length_at other code at from past)
        → Kept (length_at s code at from limit)
    unfolding length_at
    length-kept code from same =
        cond-holds Kept (ltb from limit)
        (λ _. first-kept code from (octet_at s from)
        (λ w g. let k : from < past = omega arith in same w g ∙ rw (lt-ltb _ _ k, agree-octet (from + 1) from (omega arith) g)))
        (λ _. tt)

    closing-kept : (marked : Bool) → (at + 2 ≤ past → Agree (at + 2) → there ≡ closing_at other at past marked) → Kept (closing_at s at limit marked)
    unfolding closing_at
    closing-kept marked same =
        cond-holds Kept marked
        (λ m. cond-holds Kept (ltb (at + 1) limit)
        (λ _. cond-holds Kept (eqb (octet_at s (at + 1)) 0)
        (λ y w g.
        let k : at + 1 < past = omega arith in
        same w g ∙ rw (m, lt-ltb _ _ k, agree-octet (at + 2) (at + 1) (omega arith) g, y))
        (λ _. tt))
        (λ _. tt))
        (λ _. tt)

  module _ (at limit past room : ℕ) (marked : Bool) where
    head-kept : Kept at limit past (head_at other at past marked room) (head_at s at limit marked room)
    unfolding head_at
    head-kept =
        let octet = octet_at s at in
        let there = head_at other at past marked room in
        let P = Kept at limit past there in
        cond-holds P (eqb octet 0)
        (λ z. closing-kept at limit past there marked (λ w g. rw (agree-octet (at + 2) at (omega arith) g, z)))
        (λ z. item-holds P s octet at limit room (λ _ _ _. tt)
        (λ some code from read. length-kept at limit past there code from
        (λ w g.
        let after = field_past read in
        let front = agree_less from (from + 1) (omega arith) g in
        let l : from < past = omega arith in
        rw (agree-octet (from + 1) at (omega arith) g, z) (item-again other octet at past past room some (field-there past read l front) l))))

    pub head-same : (h : Header) → head_at s at limit marked room ≡ Item h → h.start ≤ past → (h.marked ≡ false → h.bound ≤ past) → Agree h.start
        → head_at other at past marked room ≡ Item (under past h)
    head-same h e = subst (Kept at limit past (head_at other at past marked room)) e head-kept

    pub mark-same : head_at s at limit marked room ≡ ClosingMark → at + 2 ≤ past → Agree (at + 2) → head_at other at past marked room ≡ ClosingMark
    mark-same e = subst (Kept at limit past (head_at other at past marked room)) e head-kept

  -- the rules derive the run in the other stream too: a definite run with the same limit, an indefinite one with any that is not before
  -- its closing mark
  pub runs_same : {room at limit : ℕ} {marked : Bool} {i : Items} {e : End} → Runs s room at limit marked i e → (next : ℕ) → e ≡ ends next
      → Agree next → (past : ℕ) → next ≤ past → (marked ≡ false → past ≡ next) → (at ≤ next) × Runs other room at past marked i (ends next)
  runs_same (at_limit {room} {at} {limit} p) next e g past w d =
      let k : limit ≡ next = cc in
      let z : past ≡ next = d refl in
      (omega arith, subst (λ (n : ℕ). Runs other room at past false no_items (ends n)) z (at_limit (p ∙ k ∙ sym z)))
  runs_same (unclosed p) next e g past w d = let z : ◌≡◌ {A = ℕ} 0 1 = cc in absurd (omega arith)
  runs_same (closes {room} {at} {limit} {marked} l h) next e g past w d =
      let k : at + 2 ≡ next = cc in
      let before : at < past = omega arith in
      let front = agree_less (at + 2) next (omega arith) g in (
        omega arith,
        subst (λ (n : ℕ). Runs other room at past marked no_items (ends n)) k (closes before (mark-same at limit past room marked h (omega arith) front)),
      )
  runs_same (refuses l h) next e g past w d = let z : ◌≡◌ {A = ℕ} 0 1 = cc in absurd (omega arith)
  runs_same (primitive {room} {at} {limit} {marked} {h} {after} l p q r) next e g past w d =
      let o = header_ok s at limit room marked h p in
      let n = runs_same r next e g past w d in
      let m = definite s at limit marked room h p q h.marked refl in
      let before : at < past = omega arith in
      let front = agree_less h.start next (omega arith) g in
      let k = head-same at limit past room marked h p (omega arith) (λ _. omega arith) front in
      let b : (under past h).bound ≡ h.bound = ap (λ (x : Bool). cond x past h.bound) m in
      let r' = subst (λ (x : ℕ). Runs other room x past marked after (ends next)) (sym b) n.1 in
      let v : past_of h.marked (under past h).bound ≡ past_of h.marked h.bound = ap (past_of h.marked) b in (
        omega arith,
        subst (λ (x : ℕ). Runs other room at past marked (item at h.code h.start x no_items after) (ends next)) v
            (primitive {h = under past h} before k q r'),
      )
  runs_same (passes {room} {at} {limit} {marked} {h} {inside} {after} {next} l p q v r) final e g past w d =
      let o = header_ok s at limit room marked h p in
      let n = runs_same r final e g past w d in
      let b = bound-from h.marked next h.bound past h.start (right v) (omega arith) in
      let i = runs_same v next refl (agree_less next final n.0 g) (under past h).bound b.0 b.1 in
      let before : at < past = omega arith in
      let front = agree_less h.start final (omega arith) g in
      let k = head-same at limit past room marked h p (omega arith)
      (λ m. let z = bound-is h.marked next h.bound h.start (right v) m in omega arith) front in
      (omega arith, passes {h = under past h} before k q i.1 n.1)
  runs_same (breaks l p q v) next e g past w d = let z : ◌≡◌ {A = ℕ} 0 1 = cc in absurd (omega arith)

  pub agree-slice : (first past n : ℕ) → past ≤ n → Agree n → slice first past s ≡ slice first past other
  agree-slice first past n l g = ap (drop first) (agree_less past n l g)

  pub past-least : (marked : Bool) (next : ℕ) → past_of marked next ≤ next
  past-least true next = omega arith
  past-least false next = omega arith

  -- and they stand for the same tree
  pub trees-same : {room at limit : ℕ} {marked : Bool} {i : Items} {e : End} → Runs s room at limit marked i e → (next : ℕ) → e ≡ ends next
      → Agree next → (past : ℕ) → next ≤ past → (marked ≡ false → past ≡ next) → plain s i ≡ plain other i
  trees-same (at_limit p) next e g past w d = refl
  trees-same (unclosed p) next e g past w d = refl
  trees-same (closes l h) next e g past w d = refl
  trees-same (refuses l h) next e g past w d = refl
  trees-same (primitive {room} {at} {limit} {marked} {h} {after} l p q r) next e g past w d =
      let n = runs_same r next e g past w d in
      let a = trees-same r next e g past w d in
      let v = agree-slice h.start (past_of h.marked h.bound) next (omega (arith, past-least h.marked h.bound)) g in
      rw (q, v, a)
  trees-same (passes {room} {at} {limit} {marked} {h} {inside} {after} {next} l p q v r) final e g past w d =
      let n = runs_same r final e g past w d in
      let a = trees-same r final e g past w d in
      let b = bound-from h.marked next h.bound past h.start (right v) (omega arith) in
      let i = trees-same v next refl (agree_less next final n.0 g) (under past h).bound b.0 b.1 in
      rw (q, i, a)
  trees-same (breaks l p q v) next e g past w d = let z : ◌≡◌ {A = ℕ} 0 1 = cc in absurd (omega arith)
