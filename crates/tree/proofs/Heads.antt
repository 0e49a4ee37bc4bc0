-- What a header that was read tells of the octets that stand there: each refusal that was passed over is a fact (`head-tells`).
use mathlib.Core.Path.{◌≡◌, refl, ap, sym, ◌∙◌, subst}
use mathlib.Core.Bool.{Bool, true, false}
use mathlib.Core.List.{List, [], ◌∷◌, ◌++◌, append_assoc}
use Prim.Native.Nat.{ℕ, ◌+◌, ◌-◌, ◌<◌, ◌≤◌}
use native.Mathlib.Omega.{arith}
use lib.Dec.{leb, ltb, eqb}
use lib.ListN.{length, take, drop, length-append}
use borrow.Author.Tests.{leb-true, ltb-true, ltb-false, eqb-true, eqb-false}
use Rattle.headers.specs.declared.Header.{Header}
use Rattle.headers.specs.declared.Head.{Head}
use Rattle.headers.specs.declared.Head.TheVariants.{Item, ClosingMark, Refusal}
use Rattle.headers.specs.Head.{constructed, code_of, type_field, misfits, big_endian, octet_at, definite_at, indefinite_at, long_at, by_first, length_at, closing_at}
use Rattle.headers.specs.Head.{item_at, head_at}
use Rattle.headers.proofs.Fields.{field-one}
use Rattle.headers.proofs.Lies.{FieldRead, in_one, in_two, in_three, item-holds}
use Rattle.tree.specs.Tree.{TypeField, one_octet, two_octets, three_octets, Length, short, long}
use Rattle.tree.proofs.Types.{field_of, form_of}
use Rattle.laws.proofs.Tests.{cond-holds}
use Rattle.tree.proofs.Here.{Here, one, some, joined, moved}

long_of : (first : ℕ) (octets : List ℕ) → first ≡ 0x80 + length octets → 1 ≤ length octets → length octets ≤ 4
    → Length (big_endian octets) (first ∷ octets)
long_of first octets e a b = subst (λ (x : ℕ). Length (big_endian octets) (x ∷ octets)) (sym e) (long {octets = octets} a b)

-- what the length octets of a header say of its value
abbrev pub Sized : (marked : Bool) → (code start bound limit : ℕ) → (len : List ℕ) → Type 0
Sized false code start bound limit len = (n : ℕ) × (bound ≡ start + n) × Length n len × (misfits code n ≡ false)
Sized true code start bound limit len = (len ≡ 0x80 ∷ []) × (constructed code ≡ true) × (bound ≡ limit)

-- a type field with this code stands at `at`, up to past
pub record FieldHere (s : List ℕ) (at code past : ℕ) : Type 0 where
  pub here : Here s at (type_field code)
  pub ends : past ≡ at + length (type_field code)
  pub type : TypeField (type_field code) (constructed code)

-- octets that are a type field stand there
field-stands : (s : List ℕ) (at code past : ℕ) (type : List ℕ) → type_field code ≡ type → Here s at type → past ≡ at + length type
    → TypeField type (constructed code) → FieldHere s at code past
field-stands s at code past type e here ends g = record {
  here = subst (Here s at) (sym e) here;
  ends = ends ∙ ap (λ (t : List ℕ). at + length t) (sym e);
  type = subst (λ (t : List ℕ). TypeField t (constructed code)) (sym e) g;
}

-- the octets of a place and of the next one
next-two : (s : List ℕ) (at : ℕ) → at + 1 < length s → Here s at (octet_at s at ∷ octet_at s (at + 1) ∷ [])
next-two s at l = joined s at (octet_at s at ∷ []) (octet_at s (at + 1) ∷ []) (one s at (omega arith)) (one s (at + 1) l)

-- a type field that was read stands there
field-tells : (s : List ℕ) (at limit code past : ℕ) → at < length s → limit ≤ length s → FieldRead s (octet_at s at) at limit code past
    → FieldHere s at code past
field-tells s at limit code _ l f (in_one low tabled) =
    let same : code_of (code ∷ []) ≡ code = omega arith in
    let e = subst (λ (k : ℕ). type_field k ≡ code ∷ []) same (field-one code low) in
    field-stands s at code (at + 1) (code ∷ []) e (one s at l) refl (one_octet low tabled refl)
field-tells s at limit code _ l f (in_two n k p a b) =
    let type : List ℕ = octet_at s at ∷ octet_at s (at + 1) ∷ [] in
    let g : TypeField type (constructed (octet_at s at)) = two_octets k refl a b in
    field-stands s at code (at + 2) type (field_of g) (next-two s at (omega arith)) refl (subst (TypeField type) (sym (form_of g)) g)
field-tells s at limit code _ l f (in_three n k p a b c) =
    let type : List ℕ = octet_at s at ∷ octet_at s (at + 1) ∷ octet_at s (at + 2) ∷ [] in
    let g : TypeField type (constructed (octet_at s at)) = three_octets k refl a b c in
    let here = joined s at (octet_at s at ∷ octet_at s (at + 1) ∷ []) (octet_at s (at + 2) ∷ []) (next-two s at (omega arith)) (one s (at + 2) (omega arith)) in
    field-stands s at code (at + 3) type (field_of g) here refl (subst (TypeField type) (sym (form_of g)) g)

-- the octets that a header was read from: its type field and its length octets
pub record ReadFrom (s : List ℕ) (at limit room : ℕ) (h : Header) : Type 0 where
  pub len : List ℕ
  pub here : Here s at (type_field h.code ++ len)
  pub past : h.start ≡ at + length (type_field h.code ++ len)
  pub deep : 0 < room
  pub type : TypeField (type_field h.code) (constructed h.code)
  pub sized : Sized h.marked h.code h.start h.bound limit len

abbrev pub Tells : List ℕ → (at limit room : ℕ) → (marked : Bool) → Head → Type 0
Tells s at limit room marked (Item h) = ReadFrom s at limit room h
Tells s at limit room marked ClosingMark = (marked ≡ true) × Here s at (0 ∷ 0 ∷ [])
Tells s at limit room marked (Refusal n place) = Unit {0}

module _ (s : List ℕ) (at limit room : ℕ) (marked : Bool) (f : limit ≤ length s) where
  abbrev P : Head → Type 0
  P = Tells s at limit room marked

  module _ (code from : ℕ) (deep : 0 < room) (field : FieldHere s at code from) where
    -- the type field, and length octets after it
    abbrev headed : List ℕ → List ℕ
    headed len = type_field code ++ len

    -- the place past a first length octet
    past_first : (first : ℕ) → from + 1 ≡ at + length (headed (first ∷ []))
    past_first first = omega (arith, field.ends, length-append (type_field code) (first ∷ []))

    definite-tells : (start n : ℕ) (len : List ℕ) → Here s at (headed len) → start ≡ at + length (headed len) → Length n len
        → P (definite_at code at start n limit)
    unfolding definite_at
    definite-tells start n len here past l =
        cond-holds P (leb (start + n) limit)
        (λ _. cond-holds P (misfits code n) (λ _. tt)
        (λ m. record { len = len; here = here; past = past; deep = deep; type = field.type; sized = (n, refl, l, m) }))
        (λ _. tt)

    indefinite-tells : (first : ℕ) → first ≡ 0x80 → Here s at (headed (first ∷ [])) → P (indefinite_at code at from limit)
    unfolding indefinite_at
    indefinite-tells first e here =
        cond-holds P (constructed code)
        (λ c. record {
          len = first ∷ [];
          here = here;
          past = past_first first;
          deep = deep;
          type = field.type;
          sized = (ap (λ (x : ℕ). x ∷ []) e, c, refl);
        })
        (λ _. tt)

    long-tells : (first k : ℕ) → first ≡ 0x80 + k → 1 ≤ k → k ≤ 4 → Here s at (headed (first ∷ [])) → P (long_at s code at from k limit)
    unfolding long_at
    long-tells first k e a b here =
        cond-holds P (leb (from + 1 + k) limit)
        (λ t.
        let l = leb-true (from + 1 + k) limit t in
        let octets = take k (drop (from + 1) s) in
        let (there, z) = some s (from + 1) k (omega arith) in
        let e' : first ≡ 0x80 + length octets = omega arith in
        let all = joined s at (headed (first ∷ [])) octets here (moved s octets (past_first first) there) in
        let past : from + 1 + k ≡ at + length (headed (first ∷ octets)) = omega (arith, field.ends, length-append (type_field code) (first ∷ octets)) in
        definite-tells (from + 1 + k) (big_endian octets) (first ∷ octets)
        (subst (Here s at) (append_assoc (type_field code) (first ∷ []) octets) all) past
        (long_of first octets e' (omega arith) (omega arith)))
        (λ _. tt)

    first-tells : (first : ℕ) → Here s at (headed (first ∷ [])) → P (by_first s code at from first limit)
    unfolding by_first
    first-tells first here =
        cond-holds P (ltb first 0x80)
        (λ e. definite-tells (from + 1) first (first ∷ []) here (past_first first) (short (ltb-true _ _ e)))
        (λ a. cond-holds P (eqb first 0x80)
        (λ e. indefinite-tells first (eqb-true _ _ e) here)
        (λ b. cond-holds P (ltb first 0x85)
        (λ c.
        let low = ltb-false first 0x80 a in
        let other = eqb-false first 0x80 b in
        let high = ltb-true first 0x85 c in
        long-tells first (first - 0x80) (omega arith) (omega arith) (omega arith) here)
        (λ _. tt)))

    length-tells : P (length_at s code at from limit)
    unfolding length_at
    length-tells =
        cond-holds P (ltb from limit)
        (λ e. let l = ltb-true from limit e in
        let first = octet_at s from in
        first-tells first (joined s at (type_field code) (first ∷ []) field.here (moved s (first ∷ []) field.ends (one s from (omega arith)))))
        (λ _. tt)

  item-tells : at < limit → P (item_at s (octet_at s at) at limit room)
  item-tells l =
      item-holds P s (octet_at s at) at limit room (λ _ _ _. tt)
      (λ deep code past read. length-tells code past deep (field-tells s at limit code past (omega arith) f read))

  closing-tells : Here s at (0 ∷ []) → P (closing_at s at limit marked)
  unfolding closing_at
  closing-tells here =
      cond-holds P marked
      (λ m. cond-holds P (ltb (at + 1) limit)
      (λ e. let l = ltb-true (at + 1) limit e in
      let next = octet_at s (at + 1) in
      cond-holds P (eqb next 0)
      (λ z. (m, joined s at (0 ∷ []) (0 ∷ []) here (subst (λ (x : ℕ). Here s (at + 1) (x ∷ [])) (eqb-true next 0 z) (one s (at + 1) (omega arith)))))
      (λ _. tt))
      (λ _. tt))
      (λ _. tt)

  pub head-tells : at < limit → P (head_at s at limit marked room)
  unfolding head_at
  head-tells l =
      let here = one s at (omega arith) in
      cond-holds P (eqb (octet_at s at) 0)
      (λ z. closing-tells (subst (λ (x : ℕ). Here s at (x ∷ [])) (eqb-true (octet_at s at) 0 z) here))
      (λ _. item-tells l)
