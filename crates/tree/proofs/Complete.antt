-- What is coded so the walk accepts: by induction on `Codes`, each case of which is a rule of the walk (`complete`).
use mathlib.Core.Path.{◌≡◌, refl, ap, ◌∙◌, subst}
use mathlib.Core.Bool.{Bool, true, false, false≢true}
use mathlib.Core.List.{List, [], ◌∷◌, ◌++◌}
use Prim.Native.Nat.{ℕ, suc, ◌+◌, ◌-◌, ◌*◌, ◌/◌, ◌%◌, ◌<◌, ◌≤◌}
use native.Mathlib.Omega.{arith}
use lib.ListN.{length, take, drop, length-append}
use lib.Seq.{slice}
use borrow.Author.Tests.{le-leb, lt-ltb, le-ltb, eq-eqb, ne_eqb, eqb-true}
use Rattle.headers.specs.declared.Header.{Header}
use Rattle.headers.specs.declared.Head.TheVariants.{Item, ClosingMark}
use Rattle.headers.specs.Head.{number_bits, constructed, permits, form_allowed, code_of, type_field, type_number, misfits, big_endian, octet_at, definite_at}
use Rattle.headers.specs.Head.{read_field, indefinite_at, long_at, by_first, length_at, field_at, closing_at, item_at, head_at}
use Rattle.headers.proofs.Fields.{above-thirty}
use Rattle.octets.specs.Walk.{Items, no_items, item, End, ends, past_of}
use Rattle.octets.specs.Rules.{Runs, at_limit, closes, primitive, passes}
use Rattle.tree.specs.Tree.{Tree, empty, leaf, branch, plain, TypeField, one_octet, two_octets, three_octets, Length, short, long, Codes, nothing}
use Rattle.tree.specs.Tree.{primitive as leaf-coding, definite, indefinite}
use Rattle.tree.proofs.Here.{Here, first, second, tail, octet-at, taken, sliced, moved, item-length, apart}
use Rattle.tree.proofs.Types.{field_of, form_of, field-some}

-- no type field begins with 00
some_octet : (octet : ℕ) → form_allowed octet ≡ true → octet ≡ 0 → ⊥
unfolding form_allowed permits
some_octet octet t z = false≢true (subst (λ (k : ℕ). form_allowed k ≡ true) z t)

-- rule 8 is of primitive items
fits : (code n : ℕ) → constructed code ≡ true → misfits code n ≡ false
unfolding misfits
fits code n c =
    let e = eqb-true (code / 32 % 2) 1 c in
    rw (ne_eqb code 1 (λ z. omega arith), ne_eqb code 5 (λ z. omega arith), ne_eqb code 2 (λ z. omega arith), ne_eqb code 10 (λ z. omega arith))

-- a type field that stands at a place is read there
field_is : {type : List ℕ} {form : Bool} (s : List ℕ) (at limit : ℕ) → TypeField type form → Here s at type → at + length type ≤ limit
    → (octet_at s at ≡ 0 → ⊥) × (field_at s (octet_at s at) at limit ≡ read_field (code_of type) (at + length type))
field_is s at limit (one_octet {octet} low tabled q) here l =
    let e = octet-at s at octet [] here in
    let same : octet + 256 * 0 ≡ octet = omega arith in
    rw (e, same) (some_octet octet tabled, rw (ne_eqb (number_bits octet) 31 low, tabled))
field_is s at limit (two_octets {first} {second} k q a b) here l =
    let e = octet-at s at first (second ∷ []) here in
    let e2 = octet-at s (at + 1) second [] (tail s at first (second ∷ []) here) in
    let (some, small, bits) = above-thirty first k in
    let there : at + 1 < limit = omega arith in
    rw e (λ z. omega arith, rw (eq-eqb (number_bits first) 31 bits, lt-ltb (at + 1) limit there, e2, le-ltb second 31 a, lt-ltb second 0x80 b, k))
field_is s at limit (three_octets {first} {second} {third} k q a b c) here l =
    let e = octet-at s at first (second ∷ third ∷ []) here in
    let after = tail s at first (second ∷ third ∷ []) here in
    let e2 = octet-at s (at + 1) second (third ∷ []) after in
    let two : at + 1 + 1 ≡ at + 2 = omega arith in
    let e3 = octet-at s (at + 2) third [] (moved s (third ∷ []) two (tail s (at + 1) second (third ∷ []) after)) in
    let (some, small, bits) = above-thirty first k in
    let there : at + 1 < limit = omega arith in
    let further : at + 2 < limit = omega arith in
    let under : 31 ≤ second = omega arith in
    let above : 0x80 ≤ second = omega arith in
    rw e (
      λ z. omega arith,
      rw (
        eq-eqb (number_bits first) 31 bits,
        lt-ltb (at + 1) limit there,
        e2,
        le-ltb second 31 under,
        le-ltb second 0x80 above,
        ne_eqb second 0x80 (λ z. omega arith),
        lt-ltb second 0x100 b,
        lt-ltb (at + 2) limit further,
        e3,
        lt-ltb third 0x80 c,
        k,
      ),
    )

module _ (s : List ℕ) (at limit room : ℕ) (marked : Bool) {type : List ℕ} {form : Bool} (g : TypeField type form) where
  abbrev code : ℕ
  code = code_of type

  abbrev from : ℕ
  from = at + length type

  definite-is : (start n : ℕ) → start + n ≤ limit → misfits code n ≡ false
      → definite_at code at start n limit ≡ Item (record { code = code; number = type_number code; start = start; bound = start + n; marked = false })
  unfolding definite_at
  definite-is start n l m = rw (le-leb (start + n) limit l, m)

  head_is : Here s at type → from ≤ limit → head_at s at limit marked (suc room) ≡ length_at s code at from limit
  unfolding head_at item_at
  head_is here l =
      let (some, read) = field_is s at limit g here l in
      rw (ne_eqb (octet_at s at) 0 some, ne_eqb (suc room) 0 (λ z. omega arith), read)

  length-is : (fst : ℕ) → from < limit → octet_at s from ≡ fst → length_at s code at from limit ≡ by_first s code at from fst limit
  unfolding length_at
  length-is fst l e = rw (lt-ltb from limit l, e)

  short-is : (n : ℕ) → n < 0x80 → by_first s code at from n limit ≡ definite_at code at (from + 1) n limit
  unfolding by_first
  short-is n l = rw (lt-ltb n 0x80 l)

  marked-is : constructed code ≡ true → by_first s code at from 0x80 limit ≡ Item (record {
    code = code;
    number = type_number code;
    start = from + 1;
    bound = limit;
    marked = true;
  })
  unfolding by_first indefinite_at
  marked-is c = rw c

  long-is : (k : ℕ) → 1 ≤ k → k ≤ 4 → from + 1 + k ≤ limit
      → by_first s code at from (0x80 + k) limit ≡ definite_at code at (from + 1 + k) (big_endian (take k (drop (from + 1) s))) limit
  unfolding by_first long_at
  long-is k a b l =
      let e : 0x80 + k - 0x80 ≡ k = omega arith in
      rw (
        le-ltb (0x80 + k) 0x80 (omega arith),
        ne_eqb (0x80 + k) 0x80 (λ z. omega arith),
        lt-ltb (0x80 + k) 0x85 (omega arith),
        e,
        le-leb (from + 1 + k) limit l,
      )

  -- the header of an item with a definite length
  headed : {n : ℕ} {len : List ℕ} → Length n len → Here s at (type ++ len) → (start : ℕ) → start ≡ at + length (type ++ len)
      → start + n ≤ limit → misfits code n ≡ false
      → head_at s at limit marked (suc room) ≡ Item (record { code = code; number = type_number code; start = start; bound = start + n; marked = false })
  headed (short {n} l) here start p f m =
      let e : start ≡ from + 1 = omega (arith, length-append type (n ∷ [])) in
      head_is (first s at type (n ∷ []) here) (omega arith)
      ∙ length-is n (omega arith) (octet-at s from n [] (second s at type (n ∷ []) here))
      ∙ short-is n l
      ∙ rw (← e) (definite-is start n f m)
  headed (long {octets} a b) here start p f m =
      let k = length octets in
      let len : List ℕ = (0x80 + k) ∷ octets in
      let there = second s at type len here in
      let e : start ≡ from + 1 + k = omega (arith, length-append type len) in
      let ts : take k (drop (from + 1) s) ≡ octets = taken s (from + 1) octets (tail s from (0x80 + k) octets there) in
      head_is (first s at type len here) (omega arith)
      ∙ length-is (0x80 + k) (omega arith) (octet-at s from (0x80 + k) octets there)
      ∙ long-is k a b (omega arith)
      ∙ rw (ts, ← e) (definite-is start (big_endian octets) f m)

  -- the header of one with the length octet 80
  headed-open : constructed code ≡ true → Here s at (type ++ (0x80 ∷ [])) → (start : ℕ) → start ≡ at + length (type ++ (0x80 ∷ [])) → start ≤ limit
      → head_at s at limit marked (suc room) ≡ Item (record { code = code; number = type_number code; start = start; bound = limit; marked = true })
  headed-open c here start p f =
      let e : start ≡ from + 1 = omega (arith, length-append type (0x80 ∷ [])) in
      head_is (first s at type (0x80 ∷ []) here) (omega arith)
      ∙ length-is 0x80 (omega arith) (octet-at s from 0x80 [] (second s at type (0x80 ∷ []) here))
      ∙ rw e (marked-is c)

mark-is : (s : List ℕ) (at limit room : ℕ) → Here s at (0 ∷ 0 ∷ []) → at + 2 ≤ limit → head_at s at limit true room ≡ ClosingMark
unfolding head_at closing_at
mark-is s at limit room here f =
    rw (octet-at s at 0 (0 ∷ []) here, lt-ltb (at + 1) limit (omega arith), octet-at s (at + 1) 0 [] (tail s at 0 (0 ∷ []) here))

-- one run after another
abbrev pub graft : Tree → Tree → Tree
graft empty u = u
graft (leaf type value after) u = leaf type value (graft after u)
graft (branch type inside after) u = branch type inside (graft after u)

pub graft-empty : (t : Tree) → graft t empty ≡ t
graft-empty empty = refl
graft-empty (leaf type value after) = ap (leaf type value) (graft-empty after)
graft-empty (branch type inside after) = ap (branch type inside) (graft-empty after)

-- a run that has the items of t, and then i
pub record Reaches (s : List ℕ) (room at limit : ℕ) (marked : Bool) (t : Tree) (i : Items) (e : End) : Type 0 where
  pub items : Items
  pub runs : Runs s room at limit marked items e
  pub same : plain s items ≡ graft t (plain s i)

-- a constructed item whose run has the items of `inside`, and then what follows it
branch-reaches : (s : List ℕ) (room at limit : ℕ) (marked : Bool) (h : Header) → at < limit → head_at s at limit marked (suc room) ≡ Item h
    → constructed h.code ≡ true → (next : ℕ) (inside after : Tree) (i : Items) (e : End)
    → Reaches s room h.start h.bound h.marked inside no_items (ends next) → Reaches s (suc room) next limit marked after i e
    → Reaches s (suc room) at limit marked (branch (type_field h.code) inside after) i e
branch-reaches s room at limit marked h l p q next inside after i e w o =
    let z : room ≡ suc room - 1 = omega arith in
    record {
      items = item at h.code h.start (past_of h.marked next) w.items o.items;
      runs = passes l p q (subst (λ (k : ℕ). Runs s k h.start h.bound h.marked w.items (ends next)) z w.runs) o.runs;
      same = rw (q, w.same, o.same, graft-empty inside);
    }

-- octets that code t, within the limit, and a run after them: together a run
pub complete : {room : ℕ} {t : Tree} {xs : List ℕ} → Codes room t xs → (s : List ℕ) (at limit : ℕ) (marked : Bool)
    → Here s at xs → at + length xs ≤ limit → (i : Items) (e : End) → Runs s room (at + length xs) limit marked i e
    → Reaches s room at limit marked t i e
complete (nothing {room}) s at limit marked here f i e r =
    let z : at + 0 ≡ at = omega arith in
    record { items = i; runs = subst (λ (k : ℕ). Runs s room k limit marked i e) z r; same = refl }
complete (leaf-coding {room} {type} {len} {value} {rest} {after} g m l c) s at limit marked here f i e r =
    let start = at + length (type ++ len) in
    let bound = start + length value in
    let past = item-length s at type len value rest start bound refl refl in
    let (head, there, after-here) = apart s at type len value rest start bound refl refl here in
    let o = complete c s bound limit marked after-here (omega arith) i e
    (subst (λ (k : ℕ). Runs s (suc room) k limit marked i e) past r) in
    let v : slice start bound s ≡ value = sliced s start value bound refl there in
    let lt : at < limit = omega (arith, length-append type len, field-some g) in
    let q = form_of g in
    record {
      items = item at (code_of type) start bound no_items o.items;
      runs = primitive {h = record { code = code_of type; number = type_number (code_of type); start = start; bound = bound; marked = false }} lt
          (headed s at limit room marked g l head start refl (omega arith) m) q o.runs;
      same = rw (q, field_of g) (ap (λ (x : List ℕ). leaf type x (plain s o.items)) v ∙ ap (leaf type value) o.same);
    }
complete (definite {room} {type} {len} {value} {rest} {inside} {after} g l ci c) s at limit marked here f i e r =
    let start = at + length (type ++ len) in
    let bound = start + length value in
    let past = item-length s at type len value rest start bound refl refl in
    let (head, there, after-here) = apart s at type len value rest start bound refl refl here in
    let lt : at < limit = omega (arith, length-append type len, field-some g) in
    let q = form_of g in
    subst (λ (t : List ℕ). Reaches s (suc room) at limit marked (branch t inside after) i e) (field_of g)
    (branch-reaches s room at limit marked (record { code = code_of type; number = type_number (code_of type); start = start; bound = bound; marked = false }) lt
    (headed s at limit room marked g l head start refl (omega arith) (fits (code_of type) (length value) q))
    q bound inside after i e
    (complete ci s start bound false there (omega arith) no_items (ends bound) (at_limit refl))
    (complete c s bound limit marked after-here (omega arith) i e
    (subst (λ (k : ℕ). Runs s (suc room) k limit marked i e) past r)))
complete (indefinite {room} {type} {value} {rest} {inside} {after} g ci c) s at limit marked here f i e r =
    let open-length : List ℕ = 0x80 ∷ [] in
    let marked-rest : List ℕ = 0 ∷ 0 ∷ rest in
    let start = at + length (type ++ open-length) in
    let to = start + length value in
    let past : at + length (type ++ (0x80 ∷ (value ++ marked-rest))) ≡ to + 2 + length rest =
    item-length s at type open-length value marked-rest start to refl refl ∙ omega arith in
    let (head, there, mark) = apart s at type open-length value marked-rest start to refl refl here in
    let lt : at < limit = omega (arith, length-append type open-length) in
    let before : to < limit = omega arith in
    let q = form_of g in
    subst (λ (t : List ℕ). Reaches s (suc room) at limit marked (branch t inside after) i e) (field_of g)
    (branch-reaches s room at limit marked (record { code = code_of type; number = type_number (code_of type); start = start; bound = limit; marked = true }) lt
    (headed-open s at limit room marked g q head start refl (omega arith))
    q (to + 2) inside after i e
    (complete ci s start limit true there (omega arith) no_items (ends (to + 2))
    (closes before (mark-is s to limit room (first s to (0 ∷ 0 ∷ []) rest mark) (omega arith))))
    (complete c s (to + 2) limit marked (second s to (0 ∷ 0 ∷ []) rest mark) (omega arith) i e
    (subst (λ (k : ℕ). Runs s (suc room) k limit marked i e) past r)))
