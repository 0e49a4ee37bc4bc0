-- What holds of the engine after some octets of a letter (`Good`): the walk from where it stands tells what the walk of the letter tells,
-- and the octets of a begun header are the letter's. A step keeps it (`onward-good`), and when all octets have come it is the answer
-- (`good-end`).
use mathlib.Core.Path.{◌≡◌, refl, ap, sym, ◌∙◌}
use mathlib.Core.Bool.{Bool, true, false, false≢true}
use mathlib.Core.List.{List, [], ◌∷◌, ◌++◌, append_assoc}
use Prim.Native.Nat.{ℕ, suc, ◌+◌, ◌-◌, ◌<◌, ◌≤◌, min}
use native.Mathlib.Omega.{arith}
use lib.Dec.{leb, eqb}
use lib.ListN.{length, drop, length-append}
use lib.Seq.{drop-cons}
use borrow.Author.Tests.{leb-true, leb-false, eqb-true, eqb-false}
use Rattle.headers.specs.declared.Header.{Header}
use Rattle.headers.specs.declared.Head.{Head}
use Rattle.headers.specs.declared.Head.TheVariants.{Item, ClosingMark, Refusal}
use Rattle.headers.specs.Head.{constructed, octet_at, head_at}
use Rattle.laws.proofs.Tests.{cond-holds}
use Rattle.octets.specs.Told.{Outcome, ended as walk_ended, refused, told}
use Rattle.octets.proofs.Turns.{header_ok, mark-ok}
use Rattle.blocks.specs.Engine.{Open, Standing, reading, found, limit_of, marked_of, room_of, wanted, whole, moved, settle, arrive, enter, decide}
use Rattle.blocks.specs.Engine.{in_header, onward}
use Rattle.blocks.specs.Blocks.{told_of}
use Rattle.blocks.specs.Resume.{leave, resume, outlook}
use Rattle.blocks.proofs.Headers.{Ends, same_head, as_wanted, two-wanted, same-wanted}
use Rattle.blocks.proofs.Resumes.{opened, resume-ended, resume-unclosed, resume-letter, resume-refused, resume-mark, resume-primitive}
use Rattle.blocks.proofs.Resumes.{resume-constructed}

-- an open item ends no later than the one around it
abbrev pub Nested : (total : ℕ) → List Open → Type 0
Nested total [] = Unit {0}
Nested total (o ∷ outer) = (o.bound ≤ limit_of total outer) × Nested total outer

within-letter : (total : ℕ) (opens : List Open) → Nested total opens → limit_of total opens ≤ total
within-letter total [] n = omega arith
within-letter total (o ∷ outer) n = let h = within-letter total outer n.1 in omega arith

-- the innermost open item has not ended
abbrev pub Going : (at : ℕ) → List Open → Type 0
Going at [] = Unit {0}
Going at (o ∷ outer) = at < o.bound

-- the octets of a header that have come, not yet all: they are the letter's
abbrev pub Begun : (letter : List ℕ) → (taken left at : ℕ) → List ℕ → Type 0
Begun letter taken left at [] = taken ≤ at
Begun letter taken left at (x ∷ more) =
    (taken ≡ at + length (x ∷ more)) × (drop at letter ≡ (x ∷ more) ++ drop taken letter)
    × (length (x ∷ more) < left) × (length (x ∷ more) < wanted (x ∷ more))

pub record Reads (letter : List ℕ) (taken : ℕ) (opens : List Open) (at : ℕ) (begun : List ℕ) : Type 0 where
  pub nested : Nested (length letter) opens
  pub within : at ≤ limit_of (length letter) opens
  pub going : at ≤ taken → Going at opens
  pub come : Begun letter taken (limit_of (length letter) opens - at) at begun

abbrev pub Place : (letter : List ℕ) → (taken : ℕ) → Standing → Type 0
Place letter taken (reading headers opens at begun) = Reads letter taken opens at begun
Place letter taken (found number place headers) = Unit {0}

-- where the engine stands is a place of the letter, and from there the walk tells this
abbrev pub Good : (letter : List ℕ) → (taken : ℕ) → Outcome → Standing → Type 0
Good letter taken tells w = Place letter taken w × (outlook letter w ≡ tells)

missing : (b : List ℕ) (left : ℕ) → whole b left ≡ false → (length b < left) × (length b < wanted b)
unfolding whole
missing b left part = let f = leb-false (min (wanted b) left) (length b) part in (omega arith, omega arith)

before-limit : (total at : ℕ) (opens : List Open) → Going at opens → at < total → at < limit_of total opens
before-limit total at [] g l = l
before-limit total at (o ∷ outer) g l = g

one_wanted : (x : ℕ) → length (x ∷ []) ≤ wanted (x ∷ [])
one_wanted x = let w = two-wanted (x ∷ []) in omega arith

module _ (letter : List ℕ) (tells : Outcome) where
  settle-good : (taken k : ℕ) (opens : List Open) (at : ℕ) → Nested (length letter) opens → at ≤ limit_of (length letter) opens → taken ≡ at
      → resume letter opens k at ≡ tells → Good letter taken tells (settle k opens at)
  settle-good taken k [] at n w t e = (record { nested = tt; within = w; going = λ _. tt; come = omega arith }, e)
  settle-good taken k (o ∷ outer) at n w t e =
      cond-holds (Good letter taken tells) (leb o.bound at)
      (λ b. let same : at ≡ o.bound = (let l = leb-true o.bound at b in omega arith) in
      cond-holds (Good letter taken tells) o.marked
      (λ m. (tt, sym (unclosed same m) ∙ e))
      (λ m. settle-good taken k outer at n.1 (omega arith) t (sym (ended same m) ∙ e)))
      (λ b. let l = leb-false o.bound at b in (record { nested = n; within = w; going = λ _. l; come = omega arith }, e))
    where
      unclosed : at ≡ o.bound → o.marked ≡ true → resume letter (o ∷ outer) k at ≡ refused 7 o.bound k
      unclosed p m = rw (p, m) (resume-unclosed letter o.bound outer k)

      ended : at ≡ o.bound → o.marked ≡ false → resume letter (o ∷ outer) k at ≡ resume letter outer k at
      ended p m = rw (p, m) (resume-ended letter o.bound outer k)

  arrive-good : (taken k : ℕ) (opens : List Open) (at : ℕ) → Nested (length letter) opens → at ≤ limit_of (length letter) opens → taken ≤ at
      → resume letter opens k at ≡ tells → Good letter taken tells (arrive taken k opens at)
  arrive-good taken k opens at n w t e =
      cond-holds (Good letter taken tells) (eqb at taken)
      (λ b. settle-good taken k opens at n w (sym (eqb-true at taken b)) e)
      (λ b. (record { nested = n; within = w; going = λ h. absurd (eqb-false at taken b (omega arith)); come = t }, e))

  enter-good : (taken k : ℕ) (opens : List Open) (h : Header) → Nested (length letter) opens → h.start ≤ h.bound
      → h.bound ≤ limit_of (length letter) opens → taken ≤ h.start
      → (b : Bool) → (b ≡ true → resume letter (opened h ∷ opens) k h.start ≡ tells) → (b ≡ false → resume letter opens k h.bound ≡ tells)
      → Good letter taken tells (enter b taken k opens h)
  enter-good taken k opens h n o w t true e f = arrive-good taken k (opened h ∷ opens) h.start (w, n) o t (e refl)
  enter-good taken k opens h n o w t false e f = arrive-good taken k opens h.bound n w (omega arith) (f refl)

  -- so many octets have come, and with them what was read at `at`
  abbrev Came : (taken at : ℕ) → (marked : Bool) → Head → Type 0
  Came taken at marked (Item h) = taken ≤ h.start
  Came taken at marked ClosingMark = (taken ≤ at + 2) × (marked ≡ true)
  Came taken at marked (Refusal number place) = Unit {0}

  mark-good : (taken k : ℕ) (opens : List Open) (at : ℕ) → Nested (length letter) opens → marked_of opens ≡ true
      → at + 2 ≤ limit_of (length letter) opens → taken ≤ at + 2 → leave letter opens (walk_ended (at + 2) k) ≡ tells
      → Good letter taken tells (arrive taken k (drop 1 opens) (at + 2))
  mark-good taken k [] at n m w t e = absurd (false≢true m)
  mark-good taken k (o ∷ outer) at n m w t e = arrive-good taken k outer (at + 2) n.1 (omega arith) t e

  decide-good : (taken k : ℕ) (opens : List Open) (at : ℕ) → Nested (length letter) opens → at < limit_of (length letter) opens
      → (head : Head) → head_at letter at (limit_of (length letter) opens) (marked_of opens) (room_of opens) ≡ head → Came taken at (marked_of opens) head
      → resume letter opens k at ≡ tells → Good letter taken tells (decide taken k opens at head)
  decide-good taken k opens at n l (Item h) p c e =
      let o = header_ok letter at (limit_of (length letter) opens) (room_of opens) (marked_of opens) h p in
      enter-good taken (suc k) opens h n o.order o.within c (constructed h.code)
      (λ q. sym (resume-constructed letter opens k at l h p q) ∙ e)
      (λ q. sym (resume-primitive letter opens k at l h p q) ∙ e)
  decide-good taken k opens at n l ClosingMark p c e =
      mark-good taken k opens at n c.1 (mark-ok letter at (limit_of (length letter) opens) (room_of opens) (marked_of opens) p) c.0
      (sym (resume-mark letter opens k at l p) ∙ e)
  decide-good taken k opens at n l (Refusal number place) p c e = (tt, sym (resume-refused letter opens k at l number place p) ∙ e)

  came : (taken at : ℕ) (b : List ℕ) (marked : Bool) (head : Head) → taken ≡ at + length b → length b ≤ wanted b → Ends b marked head
      → Came taken at marked (moved at head)
  came taken at b marked (Item h) t w e = omega arith
  came taken at b marked ClosingMark t w e = (omega arith, e.1)
  came taken at b marked (Refusal number place) t w e = tt

  begun-is : (taken left at : ℕ) (b : List ℕ) → 0 < length b → taken ≡ at + length b → drop at letter ≡ b ++ drop taken letter
      → length b < left → length b < wanted b → Begun letter taken left at b
  begun-is taken left at [] z t h l w = absurd (omega arith)
  begun-is taken left at (x ∷ more) z t h l w = (t, h, l, w)

  -- a header's octets with one more, the last of `taken`
  header-good : (taken k : ℕ) (opens : List Open) (at : ℕ) (b : List ℕ) → Nested (length letter) opens → Going at opens
      → 0 < length b → taken ≡ at + length b → drop at letter ≡ b ++ drop taken letter
      → taken ≤ limit_of (length letter) opens → length b ≤ wanted b
      → resume letter opens k at ≡ tells → Good letter taken tells (in_header (length letter) taken k opens at b)
  unfolding in_header
  header-good taken k opens at b n g z t h l w e =
      let limit = limit_of (length letter) opens in
      let left = limit - at in
      let marked = marked_of opens in
      let room = room_of opens in
      let same-limit : limit ≡ at + left = omega arith in
      let before : at < limit = omega arith in
      cond-holds (Good letter taken tells) (whole b left)
      (λ full.
      let head = head_at b 0 left marked room in
      let same = same_head letter b at limit left same-limit (drop taken letter) h z full marked room in
      decide-good taken k opens at n before (moved at head) same (came taken at b marked head t w (as_wanted b left marked room)) e)
      (λ part.
      let m = missing b left part in
      (record { nested = n; within = omega arith; going = λ _. g; come = begun-is taken left at b z t h m.0 m.1 }, e))

  -- the octets of a header with the next one
  module _ (taken : ℕ) (l : taken < length letter) (k : ℕ) (opens : List Open) (at : ℕ) where
    abbrev x : ℕ
    x = octet_at letter taken

    next-good : (begun : List ℕ) → Reads letter taken opens at begun → at ≤ taken → resume letter opens k at ≡ tells
        → Good letter (suc taken) tells (in_header (length letter) (suc taken) k opens at (begun ++ (x ∷ [])))
    next-good [] r a e =
        let t : at ≡ taken = (let h = r.come in omega arith) in
        let here : drop at letter ≡ (x ∷ []) ++ drop (suc taken) letter = rw t (drop-cons letter taken 0 l) in
        let b = before-limit (length letter) at opens (r.going a) (omega arith) in
        header-good (suc taken) k opens at (x ∷ []) r.nested (r.going a) (omega arith) (omega arith) here (omega arith) (one_wanted x) e
    next-good (y ∷ more) r a e =
        let (t, h, m, w) = r.come in
        let b = y ∷ more in
        let size : length (b ++ (x ∷ [])) ≡ suc (length b) = length-append b (x ∷ []) ∙ omega arith in
        let here : drop at letter ≡ (b ++ (x ∷ [])) ++ drop (suc taken) letter =
        h ∙ ap (λ (r : List ℕ). b ++ r) (drop-cons letter taken 0 l) ∙ sym (append_assoc b (x ∷ []) (drop (suc taken) letter)) in
        header-good (suc taken) k opens at (b ++ (x ∷ [])) r.nested (r.going a) (omega arith) (omega arith) here (omega arith)
        (let more = (same-wanted b (x ∷ [])).0 w in omega arith) e

  -- an octet more
  pub onward-good : (taken : ℕ) → taken < length letter → (w : Standing) → Good letter taken tells w
      → Good letter (suc taken) tells (onward (length letter) (suc taken) (octet_at letter taken) w)
  onward-good taken l (found number place k) g = g
  onward-good taken l (reading k opens at begun) (r, e) =
      cond-holds (Good letter (suc taken) tells) (leb (suc taken) at)
      (λ b. arrive-good (suc taken) k opens at r.nested r.within (leb-true (suc taken) at b) e)
      (λ b. let a = leb-false (suc taken) at b in next-good taken l k opens at begun r (omega arith) e)

  end_reads : (k : ℕ) (opens : List Open) (at : ℕ) (begun : List ℕ) → Reads letter (length letter) opens at begun
      → resume letter opens k at ≡ walk_ended (length letter) k
  end_reads k [] at [] r =
      let e : at ≡ length letter = (let a = r.within in let b = r.come in omega arith) in
      rw e (resume-letter letter k)
  end_reads k (o ∷ outer) at [] r =
      let n = within-letter (length letter) (o ∷ outer) r.nested in
      let w = r.within in
      let c = r.come in
      let g = r.going (omega arith) in
      absurd (omega arith)
  end_reads k opens at (x ∷ more) r =
      let n = within-letter (length letter) opens r.nested in
      let (t, h, m, w) = r.come in
      absurd (omega arith)

  -- all octets have come
  pub good-end : (w : Standing) → Good letter (length letter) tells w → told_of w ≡ told tells
  good-end (found number place k) (p, e) = ap told e
  good-end (reading k opens at begun) (r, e) = ap told (sym (end_reads k opens at begun r) ∙ e)
