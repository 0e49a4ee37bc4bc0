-- Laws for code that goes faster than octet by octet: a finding stays (`finding-stays`), value octets are one addition (`value-octets`), a
-- header that lies in a block is read there (`header-octets`); and sixteen ends are enough, in every state (`never-deeper`).
use mathlib.Core.Path.{◌≡◌, refl, ap, sym, ◌∙◌}
use mathlib.Core.Bool.{Bool, true, false}
use mathlib.Core.List.{List, [], ◌∷◌, ◌++◌, append_assoc}
use Prim.Native.Nat.{ℕ, suc, ◌+◌, ◌-◌, ◌<◌, ◌≤◌, min}
use native.Mathlib.Omega.{arith}
use lib.Dec.{leb, eqb}
use lib.ListN.{length, drop, length-append}
use borrow.Author.Tests.{le-leb, lt-leb, ne_eqb}
use Rattle.headers.specs.declared.Head.{Head}
use Rattle.headers.specs.declared.Head.TheVariants.{Item, ClosingMark, Refusal}
use Rattle.headers.specs.Head.{constructed, head_at}
use Rattle.headers.proofs.Lies.{HeadOk, head_ok}
use Rattle.laws.proofs.Tests.{cond-holds}
use Rattle.blocks.specs.Engine.{Open, Standing, reading, found, State, limit_of, marked_of, room_of, wanted, whole, moved, settle, arrive, enter, decide}
use Rattle.blocks.specs.Engine.{in_header, onward, step, feed}
use Rattle.blocks.proofs.Headers.{same-wanted}

abbrev state : (total taken : ℕ) → Standing → State
state total taken w = record { total = total; taken = taken; standing = w }

-- after a finding octets are only counted
pub finding-stays : (total taken number place k : ℕ) (xs : List ℕ)
    → feed (state total taken (found number place k)) xs ≡ state total (taken + length xs) (found number place k)
unfolding step
finding-stays total taken number place k [] = let e : taken + 0 ≡ taken = omega arith in rw e
finding-stays total taken number place k (x ∷ xs) =
    let e : suc taken + length xs ≡ taken + suc (length xs) = omega arith in
    finding-stays total (suc taken) number place k xs ∙ rw e

-- octets of a value, at least one
pub value-octets : (total taken k : ℕ) (opens : List Open) (at : ℕ) (begun : List ℕ) (x : ℕ) (xs : List ℕ) → taken + length (x ∷ xs) ≤ at
    → feed (state total taken (reading k opens at begun)) (x ∷ xs)
    ≡ state total (taken + length (x ∷ xs)) (arrive (taken + length (x ∷ xs)) k opens at)
unfolding step
value-octets total taken k opens at begun x [] h =
    let e : taken + 1 ≡ suc taken = omega arith in
    rw (e, le-leb (suc taken) at (omega arith))
value-octets total taken k opens at begun x (y ∷ ys) h =
    let e : suc taken + length (y ∷ ys) ≡ taken + length (x ∷ y ∷ ys) = omega arith in
    let far : (at ≡ suc taken) → ⊥ = λ p. omega arith in
    rw (le-leb (suc taken) at (omega arith), ne_eqb at (suc taken) far) (value-octets total (suc taken) k opens at [] y ys (omega arith) ∙ rw e)

-- the first octets of a header are not yet all
part-header : (p : List ℕ) (x : ℕ) (q : List ℕ) (left : ℕ) → length (p ++ (x ∷ q)) ≡ min (wanted (p ++ (x ∷ q))) left → whole p left ≡ false
unfolding whole
part-header p x q left j =
    let n = length-append p (x ∷ q) in
    let more : length p < wanted (p ++ (x ∷ q)) = omega arith in
    let w = (same-wanted p (x ∷ q)).1 more in
    lt-leb (min (wanted p) left) (length p) (omega arith)

module _ (total k : ℕ) (opens : List Open) (at : ℕ) where
  abbrev left : ℕ
  left = limit_of total opens - at

  -- what a header does, read from its octets alone
  abbrev decided : (b : List ℕ) → Standing
  decided b = decide (at + length b) k opens at (moved at (head_at b 0 left (marked_of opens) (room_of opens)))

  last-octet : (b : List ℕ) → whole b left ≡ true → in_header total (at + length b) k opens at b ≡ decided b
  unfolding in_header
  last-octet b e = rw e

  other-octet : (taken : ℕ) (b : List ℕ) → whole b left ≡ false → in_header total taken k opens at b ≡ reading k opens at b
  unfolding in_header
  other-octet taken b e = rw e

  just-whole : (b : List ℕ) → length b ≡ min (wanted b) left → whole b left ≡ true
  unfolding whole
  just-whole b j = le-leb (min (wanted b) left) (length b) (omega arith)

  one-octet : (p : List ℕ) (x : ℕ) → step (state total (at + length p) (reading k opens at p)) x
      ≡ state total (at + length (p ++ (x ∷ []))) (in_header total (at + length (p ++ (x ∷ []))) k opens at (p ++ (x ∷ [])))
  unfolding step
  one-octet p x =
      let n : at + length (p ++ (x ∷ [])) ≡ suc (at + length p) = (let a = length-append p (x ∷ []) in omega arith) in
      rw (n, lt-leb (suc (at + length p)) at (omega arith))

  rest-of-header : (p : List ℕ) (x : ℕ) (q : List ℕ) (b : List ℕ) → p ++ (x ∷ q) ≡ b → length b ≡ min (wanted b) left
      → feed (state total (at + length p) (reading k opens at p)) (x ∷ q) ≡ state total (at + length b) (decided b)
  rest-of-header p x [] b e j =
      one-octet p x ∙ rw e (ap (state total (at + length b)) (last-octet b (just-whole b j)))
  rest-of-header p x (y ∷ q) b e j =
      let f : (p ++ (x ∷ [])) ++ (y ∷ q) ≡ b = append_assoc p (x ∷ []) (y ∷ q) ∙ e in
      let j' : length ((p ++ (x ∷ [])) ++ (y ∷ q)) ≡ min (wanted ((p ++ (x ∷ [])) ++ (y ∷ q))) left = rw f j in
      let part = part-header (p ++ (x ∷ [])) y q left j' in
      ap (λ (s : State). feed s (y ∷ q))
      (one-octet p x ∙ ap (state total (at + length (p ++ (x ∷ [])))) (other-octet (at + length (p ++ (x ∷ []))) (p ++ (x ∷ [])) part))
      ∙ rest-of-header (p ++ (x ∷ [])) y q b f j

  -- a header that stands in a block, from its first octet to its last, or all of it that lies before the limit
  pub header-octets : (x : ℕ) (q : List ℕ) → length (x ∷ q) ≡ min (wanted (x ∷ q)) left
      → feed (state total at (reading k opens at [])) (x ∷ q) ≡ state total (at + length (x ∷ q)) (decided (x ∷ q))
  header-octets x q j =
      let z : at + 0 ≡ at = omega arith in
      ap (λ (n : ℕ). feed (state total n (reading k opens at [])) (x ∷ q)) (sym z) ∙ rest-of-header [] x q (x ∷ q) refl j

-- no more than sixteen items are open
abbrev pub Shallow : Standing → Type 0
Shallow (reading k opens at begun) = length opens ≤ 16
Shallow (found number place k) = Unit {0}

settle-shallow : (k : ℕ) (opens : List Open) (at : ℕ) → length opens ≤ 16 → Shallow (settle k opens at)
settle-shallow k [] at h = h
settle-shallow k (o ∷ outer) at h =
    cond-holds Shallow (leb o.bound at)
    (λ _. cond-holds Shallow o.marked (λ _. tt) (λ _. settle-shallow k outer at (omega arith)))
    (λ _. h)

arrive-shallow : (taken k : ℕ) (opens : List Open) (at : ℕ) → length opens ≤ 16 → Shallow (arrive taken k opens at)
arrive-shallow taken k opens at h = cond-holds Shallow (eqb at taken) (λ _. settle-shallow k opens at h) (λ _. h)

decide-shallow : (taken k : ℕ) (opens : List Open) (at limit : ℕ) → length opens ≤ 16 → (by : ℕ) (head : Head) → HeadOk by limit (room_of opens) head
    → Shallow (decide taken k opens at (moved at head))
decide-shallow taken k opens at limit h by (Item i) o = go (constructed i.code)
  where
    go : (b : Bool) → Shallow (enter b taken (suc k) opens (record {
      code = i.code;
      number = i.number;
      start = at + i.start;
      bound = at + i.bound;
      marked = i.marked;
    }))
    go true = let d = o.deep in arrive-shallow taken (suc k) (record { bound = at + i.bound; marked = i.marked } ∷ opens) (at + i.start) (omega arith)
    go false = arrive-shallow taken (suc k) opens (at + i.bound) h
decide-shallow taken k opens at limit h by ClosingMark o = go opens h
  where
    go : (opens : List Open) → length opens ≤ 16 → Shallow (arrive taken k (drop 1 opens) (at + 2))
    go [] h = arrive-shallow taken k [] (at + 2) h
    go (o ∷ outer) h = arrive-shallow taken k outer (at + 2) (omega arith)
decide-shallow taken k opens at limit h by (Refusal number place) o = tt

onward-shallow : (total taken x : ℕ) (w : Standing) → Shallow w → Shallow (onward total taken x w)
unfolding in_header
onward-shallow total taken x (found number place k) h = tt
onward-shallow total taken x (reading k opens at begun) h =
    let left = limit_of total opens - at in
    let b = begun ++ (x ∷ []) in
    cond-holds Shallow (leb taken at) (λ _. arrive-shallow taken k opens at h)
    (λ _. cond-holds Shallow (whole b left)
    (λ _. decide-shallow taken k opens at left h 0 (head_at b 0 left (marked_of opens) (room_of opens)) (head_ok b 0 left (room_of opens) (marked_of opens)))
    (λ _. h))

-- sixteen ends are enough: a state that has no more gets no more, whatever the letter
pub never-deeper : (s : State) (xs : List ℕ) → Shallow s.standing → Shallow (feed s xs).standing
unfolding step
never-deeper s [] h = h
never-deeper s (x ∷ xs) h = never-deeper (step s x) xs (onward-shallow s.total (suc s.taken) x s.standing h)
