-- A header is read the same from its own octets alone as in the letter (`same_head`), it has as many octets as `wanted` says (`as_wanted`),
-- and its first octets tell whether more are wanted (`same-wanted`). Nothing else in this crate knows what a header looks like.
use Rattle.std.specs.Prelude.{Result, Err}
use mathlib.Core.Path.{◌≡◌, refl, ap, sym, ◌∙◌}
use mathlib.Core.Bool.{Bool, true, false, cond}
use mathlib.Core.List.{List, [], ◌∷◌, ◌++◌}
use Prim.Native.Nat.{ℕ, suc, ◌+◌, ◌-◌, ◌<◌, ◌≤◌, min}
use native.Mathlib.Omega.{arith}
use native.Mathlib.Nat.{add-zero}
use lib.Dec.{leb, ltb, eqb}
use lib.ListN.{length, get_or, take, drop, length-drop, get_or-append}
use lib.Seq.{get_or-drop, drop-drop, drop-append-le, take-append-le}
use borrow.Author.Tests.{leb-true, leb-false, le-leb, lt-leb, ltb-true, lt-ltb, le-ltb, eqb-true, eq-eqb, ne_eqb}
use Rattle.headers.specs.declared.Head.{Head}
use Rattle.headers.specs.declared.Head.TheVariants.{Item, ClosingMark, Refusal}
use Rattle.headers.specs.declared.Field.{Field}
use Rattle.headers.specs.Head.{number_bits, constructed, form_allowed, is_in, above_thirty, code_of, misfits, big_endian, octet_at}
use Rattle.headers.specs.Head.{read_field, definite_at, indefinite_at, long_at, by_first, length_at, field_at, after_field, closing_at, item_at, head_at}
use Rattle.headers.proofs.Lies.{FieldRead, in_one, in_two, in_three, item-holds}
use Rattle.laws.proofs.Tests.{cond-holds}
use Rattle.blocks.specs.Engine.{further, field_size, header_size, wanted, whole, moved}

same-leb : (a b c d : ℕ) → (a ≤ b → c ≤ d) → (c ≤ d → a ≤ b) → leb a b ≡ leb c d
same-leb a b c d f g = go (leb c d) refl
  where
    go : (t : Bool) → leb c d ≡ t → leb a b ≡ t
    go true e = le-leb a b (g (leb-true c d e))
    go false e =
        let l = leb-false c d e in
        lt-leb a b (below a b (λ h. let k = f h in omega arith))
      where
        below : (a b : ℕ) → (a ≤ b → ⊥) → b < a
        below a b n = omega arith

-- a test in the letter and the same test among the header's octets
both : {A : Type 0} (R : A → A → Type 0) (b c : Bool) {x y p q : A} → b ≡ c → (c ≡ true → R x p) → (c ≡ false → R y q)
    → R (cond b x y) (cond c p q)
both R b true e f g = rw e (f refl)
both R b false e f g = rw e (g refl)

abbrev Moved : (by : ℕ) → Head → Head → Type 0
Moved by x p = x ≡ moved by p

-- a header has two octets at least
pub two-wanted : (b : List ℕ) → 2 ≤ wanted b
unfolding wanted
two-wanted b =
    let P : ℕ → Type 0 = λ n. 2 ≤ header_size n b in
    cond-holds P (eqb (number_bits (octet_at b 0)) 31)
    (λ _. cond-holds P (ltb (octet_at b 1) 0x80) (λ _. omega arith) (λ _. omega arith))
    (λ _. omega arith)

-- the type field and the first length octet are wanted
size-wanted : (b : List ℕ) → field_size b < wanted b
unfolding wanted
size-wanted b = omega arith

-- The header at `at` of the letter s, of whose octets b are the first, with `left` octets before the limit.
module _ (s b : List ℕ) (at limit left : ℕ) (l : limit ≡ at + left) where
  refused : (n : ℕ) → Refusal n at ≡ moved at (Refusal n 0)
  refused n = ap (Refusal n) (sym (add-zero at))

  same-definite : (code start here len : ℕ) → start ≡ at + here → definite_at code at start len limit ≡ moved at (definite_at code 0 here len left)
  unfolding definite_at
  same-definite code start here len e =
      both (Moved at) (leb (start + len) limit) (leb (here + len) left)
      (same-leb (start + len) limit (here + len) left (λ h. omega arith) (λ h. omega arith))
      (λ _. both (Moved at) (misfits code len) (misfits code len) refl (λ _. refused 8)
      (λ _. let d : start + len ≡ at + (here + len) = omega arith in rw (d, e)))
      (λ _. refused 7)

  same-indefinite : (code from here : ℕ) → from ≡ at + here → indefinite_at code at from limit ≡ moved at (indefinite_at code 0 here left)
  unfolding indefinite_at
  same-indefinite code from here e =
      let d : from + 1 ≡ at + (here + 1) = omega arith in
      both (Moved at) (constructed code) (constructed code) refl (λ _. rw (d, l)) (λ _. refused 6)

  -- a place of the header is before the limit
  same-before : (i : ℕ) → ltb (at + i) limit ≡ ltb i left
  same-before i = same-leb (suc (at + i)) limit (suc i) left (λ h. omega arith) (λ h. omega arith)

  module _ (rest : List ℕ) (here : drop at s ≡ b ++ rest) where
    octet-of : (i : ℕ) → i < length b → octet_at s (at + i) ≡ octet_at b i
    octet-of i h = sym (get_or-drop at s i 0) ∙ ap (λ (x : List ℕ). get_or x i 0) here ∙ get_or-append b rest 0 i h

    octets-of : (i k from : ℕ) → from ≡ at + i → i + k ≤ length b → take k (drop from s) ≡ take k (drop i b)
    octets-of i k from p h =
        let first : i ≤ length b = omega arith in
        let enough : k ≤ length (drop i b) = simp length-drop (omega arith) in
        let e : drop (at + i) s ≡ drop i b ++ rest = sym (drop-drop i at s) ∙ ap (drop i) here ∙ drop-append-le i b rest first in
        rw p (ap (take k) e ∙ take-append-le k (drop i b) rest enough)

    -- the header has come
    module _ (enough : min (wanted b) left ≤ length b) where
      same-long : (code from size k : ℕ) → from ≡ at + size → size + 1 + k ≤ wanted b
          → long_at s code at from k limit ≡ moved at (long_at b code 0 size k left)
      unfolding long_at
      same-long code from size k e w =
          both (Moved at) (leb (from + 1 + k) limit) (leb (size + 1 + k) left)
          (same-leb (from + 1 + k) limit (size + 1 + k) left (λ h. omega arith) (λ h. omega arith))
          (λ t. let h = leb-true (size + 1 + k) left t in
          rw (octets-of (size + 1) k (from + 1) (omega arith) (omega arith))
          (same-definite code (from + 1 + k) (size + 1 + k) (big_endian (take k (drop (size + 1) b))) (omega arith)))
          (λ _. refused 7)

      same_first : (code from size : ℕ) → from ≡ at + size → field_size b ≡ size
          → by_first s code at from (octet_at b size) limit ≡ moved at (by_first b code 0 size (octet_at b size) left)
      unfolding by_first wanted
      same_first code from size e f =
          let y = octet_at b size in
          let w : wanted b ≡ header_size size b = rw f in
          both (Moved at) (ltb y 0x80) (ltb y 0x80) refl (λ _. same-definite code (from + 1) (size + 1) y (omega arith))
          (λ _. both (Moved at) (eqb y 0x80) (eqb y 0x80) refl (λ _. same-indefinite code from size e)
          (λ _. both (Moved at) (ltb y 0x85) (ltb y 0x85) refl
          (λ t. let k : further y ≡ y - 0x80 = rw t in same-long code from size (y - 0x80) e (omega arith))
          (λ _. refused 6)))

      same_length : (octet from size : ℕ) → from ≡ at + size → field_size b ≡ size
          → length_at s octet at from limit ≡ moved at (length_at b octet 0 size left)
      unfolding length_at
      same_length octet from size e f =
          let same : ltb from limit ≡ ltb size left = rw e (same-before size) in
          both (Moved at) (ltb from limit) (ltb size left) same
          (λ t. let h = ltb-true size left t in
          let w = size-wanted b in
          let o : octet_at s from ≡ octet_at b size = rw e (octet-of size (omega arith)) in
          rw o (same_first octet from size e f))
          (λ _. refused 7)

      -- what follows the type field in the letter and among the octets of the header
      abbrev Follows : Result Field ℕ → Result Field ℕ → Type 0
      Follows x p = after_field s at limit x ≡ moved at (after_field b 0 left p)

      read_same : (code from size : ℕ) → from ≡ at + size → field_size b ≡ size → (test : Bool)
          → Follows (cond test (read_field code from) (Err 5)) (cond test (read_field code size) (Err 5))
      read_same code from size e f test = both Follows test test refl (λ _. same_length code from size e f) (λ _. refused 5)

      same-field : Follows (field_at s (octet_at b 0) at limit) (field_at b (octet_at b 0) 0 left)
      unfolding wanted
      same-field =
          let first = octet_at b 0 in
          let second = octet_at b 1 in
          let third = octet_at b 2 in
          let two = two-wanted b in
          both Follows (eqb (number_bits first) 31) (eqb (number_bits first) 31) refl
          (λ n. both Follows (ltb (at + 1) limit) (ltb 1 left) (same-before 1)
          (λ t. let h = ltb-true 1 left t in
          let o : octet_at s (at + 1) ≡ second = octet-of 1 (omega arith) in
          rw o (both Follows (ltb second 31) (ltb second 31) refl (λ _. refused 4)
          (λ _. both Follows (ltb second 0x80) (ltb second 0x80) refl
          (λ a. let f : field_size b ≡ 2 = rw (n, a) in read_same (code_of (first ∷ second ∷ [])) (at + 2) 2 refl f (is_in first above_thirty))
          (λ a. let f : field_size b ≡ 3 = rw (n, a) in
          both Follows (eqb second 0x80) (eqb second 0x80) refl (λ _. refused 4)
          (λ _. both Follows (ltb second 0x100) (ltb second 0x100) refl
          (λ _. both Follows (ltb (at + 2) limit) (ltb 2 left) (same-before 2)
          (λ u. let g = ltb-true 2 left u in
          let w = size-wanted b in
          let q : octet_at s (at + 2) ≡ third = octet-of 2 (omega arith) in
          rw q (both Follows (ltb third 0x80) (ltb third 0x80) refl
          (λ _. read_same (code_of (first ∷ second ∷ third ∷ [])) (at + 3) 3 refl f (is_in first above_thirty))
          (λ _. refused 4)))
          (λ _. refused 7))
          (λ _. refused 4))))))
          (λ _. refused 7))
          (λ n. let f : field_size b ≡ 1 = rw n in read_same first (at + 1) 1 refl f (form_allowed first))

      same_item : (room : ℕ) → item_at s (octet_at b 0) at limit room ≡ moved at (item_at b (octet_at b 0) 0 left room)
      unfolding item_at
      same_item room = both (Moved at) (eqb room 0) (eqb room 0) refl (λ _. refused 3) (λ _. same-field)

      same-closing : (marked : Bool) → closing_at s at limit marked ≡ moved at (closing_at b 0 left marked)
      unfolding closing_at
      same-closing marked =
          let two = two-wanted b in
          both (Moved at) marked marked refl
          (λ _. both (Moved at) (ltb (at + 1) limit) (ltb 1 left) (same-before 1)
          (λ t. let h = ltb-true 1 left t in
          let o : octet_at s (at + 1) ≡ octet_at b 1 = octet-of 1 (omega arith) in
          rw o (both (Moved at) (eqb (octet_at b 1) 0) (eqb (octet_at b 1) 0) refl (λ _. refl) (λ _. refused 2)))
          (λ _. refused 7))
          (λ _. refused 2)

    -- a header that has come is read the same from its own octets
    pub same_head : 0 < length b → whole b left ≡ true → (marked : Bool) (room : ℕ)
        → head_at s at limit marked room ≡ moved at (head_at b 0 left marked room)
    unfolding whole head_at
    same_head n w marked room =
        let enough = leb-true (min (wanted b) left) (length b) w in
        let first : octet_at s at ≡ octet_at b 0 = ap (octet_at s) (sym (add-zero at)) ∙ octet-of 0 n in
        rw first (both (Moved at) (eqb (octet_at b 0) 0) (eqb (octet_at b 0) 0) refl
        (λ _. same-closing enough marked)
        (λ _. same_item enough room))

-- what was read from these octets ends with the last of those wanted, and only an item that waits for it has a closing mark
abbrev pub Ends : (b : List ℕ) → (marked : Bool) → Head → Type 0
Ends b marked (Item h) = h.start ≡ wanted b
Ends b marked ClosingMark = (wanted b ≡ 2) × (marked ≡ true)
Ends b marked (Refusal number place) = Unit {0}

-- the type field that was read has as many octets as its first ones tell
field_told : (b : List ℕ) (left code past : ℕ) → FieldRead b (octet_at b 0) 0 left code past → field_size b ≡ past
field_told b left code past (in_one n f) = rw (ne_eqb (number_bits (octet_at b 0)) 31 n)
field_told b left code past (in_two n f h k m) = rw (eq-eqb (number_bits (octet_at b 0)) 31 n, lt-ltb (octet_at b 1) 0x80 m)
field_told b left code past (in_three n f h k m o) =
    let long : 0x80 ≤ octet_at b 1 = omega arith in
    rw (eq-eqb (number_bits (octet_at b 0)) 31 n, le-ltb (octet_at b 1) 0x80 long)

module _ (b : List ℕ) (left : ℕ) (marked : Bool) (size : ℕ) (told : field_size b ≡ size) where
  abbrev length_octet : ℕ
  length_octet = octet_at b size

  definite-wanted : (code start len : ℕ) → start ≡ header_size size b → Ends b marked (definite_at code 0 start len left)
  unfolding definite_at wanted
  definite-wanted code start len e =
      cond-holds (Ends b marked) (leb (start + len) left) (λ _. cond-holds (Ends b marked) (misfits code len) (λ _. tt) (λ _. rw told e)) (λ _. tt)

  first-wanted : (code : ℕ) → Ends b marked (by_first b code 0 size length_octet left)
  unfolding by_first indefinite_at long_at wanted
  first-wanted code =
      let y = length_octet in
      cond-holds (Ends b marked) (ltb y 0x80)
      (λ t. let l = ltb-true y 0x80 t in definite-wanted code (size + 1) y (none (omega arith)))
      (λ _. cond-holds (Ends b marked) (eqb y 0x80)
      (λ t. cond-holds (Ends b marked) (constructed code) (λ _. let e = eqb-true y 0x80 t in rw told (none (omega arith))) (λ _. tt))
      (λ _. cond-holds (Ends b marked) (ltb y 0x85)
      (λ t. cond-holds (Ends b marked) (leb (size + 1 + (y - 0x80)) left)
      (λ _. definite-wanted code (size + 1 + (y - 0x80)) (big_endian (take (y - 0x80) (drop (size + 1) b))) (rw t))
      (λ _. tt))
      (λ _. tt)))
    where
      none : length_octet ≤ 0x80 → size + 1 ≡ header_size size b
      none l =
          let t : ltb length_octet 0x85 ≡ true = lt-ltb length_octet 0x85 (omega arith) in
          let z : length_octet - 0x80 ≡ 0 = omega arith in
          let n : size + 1 + 0 ≡ size + 1 = omega arith in
          rw (t, z, n)

  length-wanted : (code : ℕ) → Ends b marked (length_at b code 0 size left)
  unfolding length_at
  length-wanted code = cond-holds (Ends b marked) (ltb size left) (λ _. first-wanted code) (λ _. tt)

module _ (b : List ℕ) (left : ℕ) (marked : Bool) where
  mark-wanted : octet_at b 0 ≡ 0 → octet_at b 1 ≡ 0 → wanted b ≡ 2
  unfolding wanted
  mark-wanted e f = rw (e, f)

  pub as_wanted : (room : ℕ) → Ends b marked (head_at b 0 left marked room)
  unfolding head_at closing_at
  as_wanted room =
      let octet = octet_at b 0 in
      cond-holds (Ends b marked) (eqb octet 0)
      (λ z. cond-holds (Ends b marked) marked
      (λ m. cond-holds (Ends b marked) (ltb 1 left)
      (λ _. cond-holds (Ends b marked) (eqb (octet_at b 1) 0) (λ t. (mark-wanted (eqb-true octet 0 z) (eqb-true (octet_at b 1) 0 t), m)) (λ _. tt))
      (λ _. tt))
      (λ _. tt))
      (λ _. item-holds (Ends b marked) b octet 0 left room (λ _ _ _. tt)
      (λ _ code past f. length-wanted b left marked past (field_told b left code past f) code))

-- more octets of a header are wanted after the first of them, p, by what p tells exactly if by what all tell
pub same-wanted : (p c : List ℕ) → (length p < wanted p → length p < wanted (p ++ c)) × (length p < wanted (p ++ c) → length p < wanted p)
unfolding wanted
same-wanted [] c = (λ _. let w = two-wanted c in omega arith, λ _. let w = two-wanted [] in omega arith)
same-wanted (y ∷ []) c = (λ _. let w = two-wanted (y ∷ c) in omega arith, λ _. let w = two-wanted (y ∷ []) in omega arith)
same-wanted (y ∷ z ∷ []) c =
    let P : ℕ → Type 0 = λ n. (2 < header_size n (y ∷ z ∷ []) → 2 < header_size n (y ∷ z ∷ c)) × (2 < header_size n (y ∷ z ∷ c) → 2 < header_size n (y ∷ z ∷ [])) in
    cond-holds P (eqb (number_bits y) 31)
    (λ _. cond-holds P (ltb z 0x80) (λ _. (λ _. omega arith, λ _. omega arith)) (λ _. (λ _. omega arith, λ _. omega arith)))
    (λ _. (λ h. h, λ h. h))
same-wanted (y ∷ z ∷ w ∷ []) c =
    let P : ℕ → Type 0 = λ n. (3 < header_size n (y ∷ z ∷ w ∷ []) → 3 < header_size n (y ∷ z ∷ w ∷ c))
    × (3 < header_size n (y ∷ z ∷ w ∷ c) → 3 < header_size n (y ∷ z ∷ w ∷ [])) in
    cond-holds P (eqb (number_bits y) 31)
    (λ _. cond-holds P (ltb z 0x80) (λ _. (λ h. h, λ h. h)) (λ _. (λ _. omega arith, λ _. omega arith)))
    (λ _. (λ h. h, λ h. h))
same-wanted (y ∷ z ∷ w ∷ v ∷ p) c =
    let n = length (y ∷ z ∷ w ∷ v ∷ p) in
    let P : ℕ → Type 0 = λ f. (n < header_size f (y ∷ z ∷ w ∷ v ∷ p) → n < header_size f (y ∷ z ∷ w ∷ v ∷ p ++ c))
    × (n < header_size f (y ∷ z ∷ w ∷ v ∷ p ++ c) → n < header_size f (y ∷ z ∷ w ∷ v ∷ p)) in
    cond-holds P (eqb (number_bits y) 31)
    (λ _. cond-holds P (ltb z 0x80) (λ _. (λ h. h, λ h. h)) (λ _. (λ h. h, λ h. h)))
    (λ _. (λ h. h, λ h. h))

-- the first octets of a header that are as many as they want tell all
pub told-wanted : (p c : List ℕ) → wanted p ≤ length p → wanted (p ++ c) ≡ wanted p
unfolding wanted
told-wanted [] c h = let w = two-wanted [] in absurd (omega arith)
told-wanted (y ∷ []) c h = let w = two-wanted (y ∷ []) in absurd (omega arith)
told-wanted (y ∷ z ∷ []) c l =
    let P : ℕ → Type 0 = λ n. header_size n (y ∷ z ∷ []) ≤ 2 → header_size n (y ∷ z ∷ c) ≡ header_size n (y ∷ z ∷ []) in
    cond-holds P (eqb (number_bits y) 31)
    (λ _. cond-holds P (ltb z 0x80) (λ _ h. absurd (omega arith)) (λ _ h. absurd (omega arith)))
    (λ _ _. refl) l
told-wanted (y ∷ z ∷ w ∷ []) c l =
    let P : ℕ → Type 0 = λ n. header_size n (y ∷ z ∷ w ∷ []) ≤ 3 → header_size n (y ∷ z ∷ w ∷ c) ≡ header_size n (y ∷ z ∷ w ∷ []) in
    cond-holds P (eqb (number_bits y) 31)
    (λ _. cond-holds P (ltb z 0x80) (λ _ _. refl) (λ _ h. absurd (omega arith)))
    (λ _ _. refl) l
told-wanted (y ∷ z ∷ w ∷ v ∷ p) c h =
    let P : ℕ → Type 0 = λ n. header_size n (y ∷ z ∷ w ∷ v ∷ p ++ c) ≡ header_size n (y ∷ z ∷ w ∷ v ∷ p) in
    cond-holds P (eqb (number_bits y) 31)
    (λ _. cond-holds P (ltb z 0x80) (λ _. refl) (λ _. refl))
    (λ _. refl)

further-few : (y : ℕ) → further y ≤ 4
further-few y = cond-holds (λ (n : ℕ). n ≤ 4) (ltb y 0x85) (λ t. let l = ltb-true y 0x85 t in omega arith) (λ _. omega arith)

-- a header has eight octets at most
pub eight-wanted : (b : List ℕ) → wanted b ≤ 8
unfolding wanted
eight-wanted b =
    let P : ℕ → Type 0 = λ n. header_size n b ≤ 8 in
    let one = further-few (octet_at b 1) in
    let two = further-few (octet_at b 2) in
    let three = further-few (octet_at b 3) in
    cond-holds P (eqb (number_bits (octet_at b 0)) 31)
    (λ _. cond-holds P (ltb (octet_at b 1) 0x80) (λ _. omega arith) (λ _. omega arith))
    (λ _. omega arith)
