-- The open items in the array: the innermost is read, closed and opened.
use mathlib.Core.Path.{◌≡◌, refl, ap, sym, ◌∙◌, subst}
use mathlib.Core.Bool.{Bool, true, false}
use mathlib.Core.List.{List, [], ◌∷◌, ◌++◌}
use Prim.Native.Nat.{ℕ, zero, suc, ◌+◌, ◌-◌, ◌/◌, ◌%◌, ◌<◌, ◌≤◌}
use native.Mathlib.Omega.{arith}
use native.Mathlib.Numerals.{add-one}
use lib.Dec.{leb, ltb, eqb}
use lib.ListN.{length, get_or, set, take, drop, take-append-drop, length-set}
use lib.Seq.{get_or-set_other, get_or-set_same, length-take-le, take-suc-set}
use borrow.Author.Tests.{le-leb, lt-leb, eq-eqb, ne_eqb}
use Rattle.headers.specs.declared.Header.{Header}
use Rattle.headers.specs.declared.Head.{Head}
use Rattle.headers.specs.declared.Head.TheVariants.{Item, ClosingMark, Refusal}
use Rattle.headers.specs.Head.{constructed, misfits, big_endian, octet_at, definite_at, indefinite_at, long_at, by_first, length_at, closing_at, head_at}
use Rattle.headers.proofs.Lies.{HeadOk, head_ok, item-holds}
use Rattle.laws.proofs.Tests.{cond-holds}
use Rattle.blocks.proofs.Headers.{same_head}
use Rattle.blocks.specs.Engine.{Open, reading, found, settle, limit_of, marked_of, room_of, further, field_size, wanted, whole, moved, decide, in_header}
use Rattle.engine.specs.declared.Blocks.{Blocks}
use Rattle.engine.specs.Stored.{open_of, opens_of, state_of}
use Rattle.engine.specs.Skimming.{opens, with_standing, Lying, Numbered}

pub innermost : (n : ℕ) (ends : List ℕ) → 0 < n → opens_of n ends ≡ open_of (get_or ends (n - 1) 0) ∷ opens_of (n - 1) ends
innermost zero ends h = absurd (omega arith)
innermost (suc n) ends h = let e : suc n - 1 ≡ n = omega arith in rw e

module _ (n : ℕ) (ends : List ℕ) (h : 0 < n) (at : ℕ) (k : ℕ) where
  abbrev e : ℕ
  e = get_or ends (n - 1) 0

  pub settle-going : at < e / 2 → settle k (opens_of n ends) at ≡ reading k (opens_of n ends) at []
  settle-going l = rw (innermost n ends h, lt-leb (e / 2) at l)

  pub settle-unclosed : e / 2 ≤ at → e % 2 ≡ 1 → settle k (opens_of n ends) at ≡ found 7 (e / 2) k
  settle-unclosed l m = rw (innermost n ends h, le-leb (e / 2) at l, eq-eqb (e % 2) 1 m)

  pub settle-ended : e / 2 ≤ at → (e % 2 ≡ 1 → ⊥) → settle k (opens_of n ends) at ≡ settle k (opens_of (n - 1) ends) at
  settle-ended l m = rw (innermost n ends h, le-leb (e / 2) at l, ne_eqb (e % 2) 1 m)

-- one open item less
pub one_less : (n : ℕ) (ends : List ℕ) → drop 1 (opens_of n ends) ≡ opens_of (n - 1) ends
one_less zero ends = refl
one_less (suc n) ends = let e : suc n - 1 ≡ n = omega arith in rw e

-- what lies past the open items does not matter
pub others : (n i : ℕ) (ends : List ℕ) (v : ℕ) → n ≤ i → opens_of n (set ends i v) ≡ opens_of n ends
others zero i ends v h = refl
others (suc n) i ends v h =
    let ne : n ≡ i → ⊥ = λ p. omega arith in
    rw (get_or-set_other ends i n v 0 ne, others n i ends v (omega arith))

-- one item more
pub pushed : (n : ℕ) (ends : List ℕ) (e : ℕ) (o : Open) → n < length ends → open_of e ≡ o → opens_of (n + 1) (set ends n e) ≡ o ∷ opens_of n ends
pushed n ends e o h q = rw (add-one n, get_or-set_same ends n e 0 h, others n n ends e (omega arith), q)

lying-of : (left room : ℕ) (head : Head) → HeadOk 0 left room head → Lying left room head
lying-of left room (Item h) o = (o.header, o.order, o.within, o.deep)
lying-of left room ClosingMark o = o
lying-of left room (Refusal number place) o = tt

pub lying : (octets : List ℕ) (left room : ℕ) (marked : Bool) → Lying left room (head_at octets 0 left marked room)
lying octets left room marked = lying-of left room (head_at octets 0 left marked room) (head_ok octets 0 left room marked)

-- a header that was read lies before the limit
pub item-fits : (limit at room : ℕ) (head : Head) (h : Header) → head ≡ Item h → Lying (limit - at) room head
    → (at + h.start ≤ limit) × (at + h.bound ≤ limit) × (0 < room)
item-fits limit at room head h e o =
    let (a, b, c, deep) : Lying (limit - at) room (Item h) = subst (Lying (limit - at) room) e o in
    (omega arith, omega arith, deep)

pub mark-fits : (limit at room : ℕ) (head : Head) → head ≡ ClosingMark → Lying (limit - at) room head → at + 2 ≤ limit
mark-fits limit at room head e o =
    let l : Lying (limit - at) room ClosingMark = subst (Lying (limit - at) room) e o in
    omega arith

pub refusal-numbered : (head : Head) (number place : ℕ) → head ≡ Refusal number place → Numbered head → (0 < number) × (number ≤ 8) × (place ≡ 0)
refusal-numbered head number place e o = subst Numbered e o

-- how many octets a header has
pub wanted-is : (b : List ℕ) (field more : ℕ) → field ≡ field_size b → more ≡ further (octet_at b field) → field + 1 + more ≡ wanted b
unfolding wanted
wanted-is b field more e f = rw (f, e)

-- one octet more is kept
pub kept_more : (n : ℕ) (octets : List ℕ) (x : ℕ) → n < length octets → take (n + 1) (set octets n x) ≡ take n octets ++ (x ∷ [])
kept_more n octets x h = rw (add-one n, take-suc-set octets n x h)

moved_none : (head : Head) → moved 0 head ≡ head
moved_none (Item h) =
    let a : 0 + h.start ≡ h.start = omega arith in
    let b : 0 + h.bound ≡ h.bound = omega arith in
    rw (a, b)
moved_none ClosingMark = refl
moved_none (Refusal number place) = let a : 0 + place ≡ place = omega arith in rw a

-- what lies past the octets kept does not matter to a header that has come
pub head-kept : (octets : List ℕ) (m left : ℕ) (marked : Bool) (room : ℕ) → 0 < m → m ≤ length octets → whole (take m octets) left ≡ true
    → head_at octets 0 left marked room ≡ head_at (take m octets) 0 left marked room
head-kept octets m left marked room z l w =
    let n : 0 < length (take m octets) = rw (length-take-le m octets l) z in
    let e : left ≡ 0 + left = omega arith in
    same_head octets (take m octets) 0 left left e (drop m octets) (sym (take-append-drop m octets)) n w marked room
    ∙ moved_none (head_at (take m octets) 0 left marked room)

-- a refusal is one of 2 to 8, at the header's first octet
refusal : (n : ℕ) → 0 < n → n ≤ 8 → Numbered (Refusal n 0)
refusal n h l = (h, l, refl)

module _ (b : List ℕ) (left : ℕ) where
  definite-numbered : (code start len : ℕ) → Numbered (definite_at code 0 start len left)
  unfolding definite_at
  definite-numbered code start len =
      cond-holds Numbered (leb (start + len) left)
      (λ _. cond-holds Numbered (misfits code len) (λ _. refusal 8 (omega arith) (omega arith)) (λ _. tt))
      (λ _. refusal 7 (omega arith) (omega arith))

  length-numbered : (code from : ℕ) → Numbered (length_at b code 0 from left)
  unfolding length_at by_first long_at indefinite_at
  length-numbered code from =
      let first = octet_at b from in
      let k = first - 0x80 in
      cond-holds Numbered (ltb from left)
      (λ _. cond-holds Numbered (ltb first 0x80) (λ _. definite-numbered code (from + 1) first)
      (λ _. cond-holds Numbered (eqb first 0x80)
      (λ _. cond-holds Numbered (constructed code) (λ _. tt) (λ _. refusal 6 (omega arith) (omega arith)))
      (λ _. cond-holds Numbered (ltb first 0x85)
      (λ _. cond-holds Numbered (leb (from + 1 + k) left)
      (λ _. definite-numbered code (from + 1 + k) (big_endian (take k (drop (from + 1) b))))
      (λ _. refusal 7 (omega arith) (omega arith)))
      (λ _. refusal 6 (omega arith) (omega arith)))))
      (λ _. refusal 7 (omega arith) (omega arith))

  pub numbered : (marked : Bool) (room : ℕ) → Numbered (head_at b 0 left marked room)
  unfolding head_at closing_at
  numbered marked room =
      cond-holds Numbered (eqb (octet_at b 0) 0)
      (λ _. cond-holds Numbered marked
      (λ _. cond-holds Numbered (ltb 1 left)
      (λ _. cond-holds Numbered (eqb (octet_at b 1) 0) (λ _. tt) (λ _. refusal 2 (omega arith) (omega arith)))
      (λ _. refusal 7 (omega arith) (omega arith)))
      (λ _. refusal 2 (omega arith) (omega arith)))
      (λ _. item-holds Numbered b (octet_at b 0) 0 left room (λ n h l. refusal n (omega arith) (omega arith)) (λ _ code past _. length-numbered code past))

-- a header octet, the last or another
pub in_whole : (total taken k : ℕ) (os : List Open) (at : ℕ) (b : List ℕ) → whole b (limit_of total os - at) ≡ true
    → in_header total taken k os at b ≡ decide taken k os at (moved at (head_at b 0 (limit_of total os - at) (marked_of os) (room_of os)))
unfolding in_header
in_whole total taken k os at b e = rw e

pub in-part : (total taken k : ℕ) (os : List Open) (at : ℕ) (b : List ℕ) → whole b (limit_of total os - at) ≡ false
    → in_header total taken k os at b ≡ reading k os at b
unfolding in_header
in-part total taken k os at b e = rw e

-- as many open items as the level says
pub level-is : (n : ℕ) (ends : List ℕ) → length (opens_of n ends) ≡ n
level-is zero ends = refl
level-is (suc n) ends = ap suc (level-is n ends)

-- The state with one octet more kept.
abbrev pub keeping : Blocks → ℕ → Blocks
keeping b x =
    record {
      total = b.total;
      taken = b.taken;
      at = b.at;
      level = b.level;
      headers = b.headers;
      number = b.number;
      place = b.place;
      have = b.have + 1;
      ends = b.ends;
      begun = set b.begun b.have x;
    }

module _ (b : Blocks) (x : ℕ) (l : b.have < length b.begun) (left : ℕ) (same : left ≡ limit_of b.total (opens b) - b.at) where
  abbrev octets : List ℕ
  octets = set b.begun b.have x

  abbrev next : List ℕ
  next = take b.have b.begun ++ (x ∷ [])

  pub part-octet : b.number ≡ 0 → whole (take (b.have + 1) octets) left ≡ false
      → state_of (keeping b x) ≡ with_standing b (in_header b.total b.taken b.headers (opens b) b.at next)
  part-octet z w =
      let k = kept_more b.have b.begun x l in
      let e : whole next (limit_of b.total (opens b) - b.at) ≡ false = rw (← k, ← same) w in
      rw (eq-eqb b.number 0 z, k, in-part b.total b.taken b.headers (opens b) b.at next e)

  pub whole-octet : (head : Head) → head ≡ head_at octets 0 left (marked_of (opens b)) (16 - b.level) → whole (take (b.have + 1) octets) left ≡ true
      → decide b.taken b.headers (opens b) b.at (moved b.at head)
      ≡ in_header b.total b.taken b.headers (opens b) b.at next
  whole-octet head h w =
      let k = kept_more b.have b.begun x l in
      let n = length-set b.begun b.have x in
      let e : whole next (limit_of b.total (opens b) - b.at) ≡ true = rw (← k, ← same) w in
      let d = level-is b.level b.ends in
      let f : head ≡ head_at next 0 (limit_of b.total (opens b) - b.at) (marked_of (opens b)) (room_of (opens b)) =
      h ∙ head-kept octets (b.have + 1) left (marked_of (opens b)) (16 - b.level) (omega arith) (omega arith) w ∙ rw (k, d, same) in
      ap (λ (a : Head). decide b.taken b.headers (opens b) b.at (moved b.at a)) f
      ∙ sym (in_whole b.total b.taken b.headers (opens b) b.at next e)
