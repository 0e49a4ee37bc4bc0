-- A header that lies in a block is read there, in one go (`seen`). From `header-octets` and `same_head`.
use mathlib.Core.Path.{◌≡◌, refl, sym, subst}
use mathlib.Core.Bool.{Bool, true, false}
use mathlib.Core.List.{List, [], ◌∷◌, ◌++◌}
use Prim.Native.Nat.{ℕ, ◌+◌, ◌-◌, ◌<◌, ◌≤◌, min}
use native.Mathlib.Omega.{arith}
use lib.Dec.{leb}
use lib.ListN.{length, take, drop, length-drop, take-append-drop}
use lib.Seq.{length-take-le}
use borrow.Author.Tests.{le-leb, leb-true, leb-false}
use Rattle.headers.specs.declared.Head.{Head}
use Rattle.headers.specs.declared.Head.TheVariants.{Item, ClosingMark, Refusal}
use Rattle.headers.specs.Head.{head_at}
use Rattle.headers.proofs.Lies.{HeadOk, head_ok}
use Rattle.blocks.specs.Engine.{Open, limit_of, marked_of, room_of, wanted, whole, moved, decide, feed}
use Rattle.blocks.proofs.Headers.{Ends, same_head, as_wanted, two-wanted, eight-wanted, same-wanted, told-wanted}
use Rattle.blocks.proofs.Goes.{header-octets}
use Rattle.engine.specs.Skimming.{Numbered, at_header, back, Ahead, Seen}
use Rattle.engine.proofs.Stores.{numbered}

back-moved : (i at : ℕ) (h : Head) → moved at h ≡ back i at (moved i h)
back-moved i at (Item h) =
    let a : at + h.start ≡ at + (i + h.start - i) = omega arith in
    let b : at + h.bound ≡ at + (i + h.bound - i) = omega arith in
    rw (a, b)
back-moved i at ClosingMark = refl
back-moved i at (Refusal number place) = let a : at + place ≡ at + (i + place - i) = omega arith in rw a

ahead_of : (b : List ℕ) (marked : Bool) (i left room : ℕ) (h : Head) → length b ≡ min (wanted b) left → Ends b marked h → HeadOk 0 left room h → Numbered h
    → Ahead (length b) i (moved i h)
ahead_of b marked i left room (Item h) l e o n =
    let order = o.order in
    let within = o.within in
    omega arith
ahead_of b marked i left room ClosingMark l e o n = omega (arith, e.0)
ahead_of b marked i left room (Refusal number place) l e o n = (n.0, n.1, let z = n.2 in omega arith)

is_whole : (b : List ℕ) (left : ℕ) → length b ≡ min (wanted b) left → whole b left ≡ true
unfolding whole
is_whole b left j = le-leb (min (wanted b) left) (length b) (omega arith)

-- as many as the first n octets want, or as many as are left
as_many : (all first n left : ℕ) → n ≡ min all left → (n < first → n < all) → (first ≤ n → all ≡ first) → n ≡ min first left
as_many all first n left e more told = go (leb first n) refl
  where
    go : (t : Bool) → leb first n ≡ t → n ≡ min first left
    go true b = let same = told (leb-true first n b) in omega arith
    go false b = let less = more (leb-false first n b) in let part = leb-false first n b in omega arith

-- the octets of a header, of those from its first on: as many as are wanted, or all before the limit
module _ (c : List ℕ) (left : ℕ) (l : 8 ≤ length c) where
  abbrev size : ℕ
  size = min (wanted c) left

  size_is : length (take size c) ≡ size
  size_is = let few = eight-wanted c in length-take-le size c (omega arith)

  just : length (take size c) ≡ min (wanted (take size c)) left
  just =
      let b = take size c in
      let parts : b ++ drop size c ≡ c = take-append-drop size c in
      as_many (wanted c) (wanted b) (length b) left size_is
      (subst (λ (x : List ℕ). length b < wanted b → length b < wanted x) parts (same-wanted b (drop size c)).0)
      (subst (λ (x : List ℕ). wanted b ≤ length b → wanted x ≡ wanted b) parts (told-wanted b (drop size c)))

at_once : (total k : ℕ) (os : List Open) (at : ℕ) (b : List ℕ) → 0 < length b → length b ≡ min (wanted b) (limit_of total os - at)
    → feed (at_header total k os at) b
    ≡ record {
      total = total;
      taken = at + length b;
      standing = decide (at + length b) k os at (moved at (head_at b 0 (limit_of total os - at) (marked_of os) (room_of os)));
    }
at_once total k os at [] z j = absurd (omega arith)
at_once total k os at (x ∷ q) z j = header-octets total k os at x q j

seen_of : (total k : ℕ) (os : List Open) (at : ℕ) (block : List ℕ) (i m : ℕ) (b rest : List ℕ) → drop i block ≡ b ++ rest → take m (drop i block) ≡ b
    → length b ≡ m → 0 < m → m ≤ 8 → length b ≡ min (wanted b) (limit_of total os - at)
    → Seen total k os at block i (head_at block i (i + (limit_of total os - at)) (marked_of os) (room_of os))
seen_of total k os at block i m b rest here part n z eight j =
    let left = limit_of total os - at in
    let s : 0 < length b = omega arith in
    let h = head_at b 0 left (marked_of os) (room_of os) in
    let e : head_at block i (i + left) (marked_of os) (room_of os) ≡ moved i h =
    same_head block b i (i + left) left refl rest here s (is_whole b left j) (marked_of os) (room_of os) in
    let a : Ahead (length b) i (moved i h) = ahead_of b (marked_of os) i left (room_of os) h j (as_wanted b left (marked_of os) (room_of os))
    (head_ok b 0 left (room_of os) (marked_of os)) (numbered b left (marked_of os) (room_of os)) in
    record {
      size = m;
      some = z;
      eight = eight;
      ahead = rw (e, ← n) a;
      state = rw (part, e, ← n, ← back-moved i at h) (at_once total k os at b s j);
    }

pub seen : (total k : ℕ) (os : List Open) (at : ℕ) (block : List ℕ) (i : ℕ) → at < limit_of total os → i + 8 ≤ length block
    → Seen total k os at block i (head_at block i (i + (limit_of total os - at)) (marked_of os) (room_of os))
seen total k os at block i a l =
    let left = limit_of total os - at in
    let c = drop i block in
    let long : 8 ≤ length c = (let d = length-drop i block in omega arith) in
    let m = min (wanted c) left in
    let two = two-wanted c in
    let few = eight-wanted c in
    seen_of total k os at block i m (take m c) (drop m c) (sym (take-append-drop m c)) refl (size_is c left long) (omega arith) (omega arith) (just c left long)
