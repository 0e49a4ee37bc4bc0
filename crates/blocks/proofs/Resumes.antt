-- The walk from a place with items open, turn by turn: what the engine does there leaves what the walk will tell. From the laws of the
-- walk's own turns (octets, proofs/Turns).
use Rattle.std.specs.Prelude.{Ok, Err}
use mathlib.Core.Path.{◌≡◌, refl, ◌∙◌}
use mathlib.Core.Bool.{true, false}
use mathlib.Core.List.{List, [], ◌∷◌}
use Prim.Native.Nat.{ℕ, suc, ◌+◌, ◌-◌, ◌<◌}
use native.Mathlib.Omega.{arith}
use lib.ListN.{length}
use Rattle.headers.specs.declared.Header.{Header}
use Rattle.headers.specs.declared.Head.{Head}
use Rattle.headers.specs.declared.Head.TheVariants.{Item, ClosingMark, Refusal}
use Rattle.headers.specs.Head.{constructed, head_at}
use Rattle.octets.specs.Told.{Outcome, ended, refused}
use Rattle.octets.specs.Walk.{run, answer}
use Rattle.octets.specs.Values.{value_of}
use Rattle.octets.specs.Further.{plus}
use Rattle.octets.proofs.Turns.{plus-plus, closes, refuses, passes, breaks, unclosed, closed}
use Rattle.blocks.specs.Engine.{Open, limit_of, marked_of, room_of}
use Rattle.blocks.specs.Resume.{run_in, leave, resume}

-- an item as it is opened
abbrev pub opened : Header → Open
opened h = record { bound = h.bound; marked = h.marked }

leave-refused : (s : List ℕ) (opens : List Open) (number place k : ℕ) → leave s opens (refused number place k) ≡ refused number place k
leave-refused s [] number place k = refl
leave-refused s (o ∷ outer) number place k = refl

-- at the end of an open item
pub resume-ended : (s : List ℕ) (bound : ℕ) (outer : List Open) (k : ℕ)
    → resume s (record { bound = bound; marked = false } ∷ outer) k bound ≡ resume s outer k bound
resume-ended s bound outer k =
    let e : k + 0 ≡ k = omega arith in
    rw (closed (room_of (record { bound = bound; marked = false } ∷ outer)) s bound, e)

pub resume-unclosed : (s : List ℕ) (bound : ℕ) (outer : List Open) (k : ℕ)
    → resume s (record { bound = bound; marked = true } ∷ outer) k bound ≡ refused 7 bound k
resume-unclosed s bound outer k =
    let e : k + 0 ≡ k = omega arith in
    rw (unclosed (room_of (record { bound = bound; marked = true } ∷ outer)) s bound, e)

-- at the end of the letter
pub resume-letter : (s : List ℕ) (k : ℕ) → resume s [] k (length s) ≡ ended (length s) k
resume-letter s k = let e : k + 0 ≡ k = omega arith in rw (closed (room_of []) s (length s), e)

module _ (s : List ℕ) (opens : List Open) (k at : ℕ) (l : at < limit_of (length s) opens) where
  abbrev head : Head
  head = head_at s at (limit_of (length s) opens) (marked_of opens) (room_of opens)

  pub resume-refused : (number place : ℕ) → head ≡ Refusal number place → resume s opens k at ≡ refused number place k
  resume-refused number place e =
      let z : k + 0 ≡ k = omega arith in
      rw (refuses (room_of opens) s at (limit_of (length s) opens) (marked_of opens) l number place e, z) (leave-refused s opens number place k)

  pub resume-mark : head ≡ ClosingMark → resume s opens k at ≡ leave s opens (ended (at + 2) k)
  resume-mark e =
      let z : k + 0 ≡ k = omega arith in
      rw (closes (room_of opens) s at (limit_of (length s) opens) (marked_of opens) l e, z)

  module _ (h : Header) (e : head ≡ Item h) where
    -- an item whose value ended
    resume-passed : (next n : ℕ) → answer (value_of (room_of opens) s h) ≡ ended next n → resume s opens k at ≡ resume s opens (suc k + n) next
    resume-passed next n p =
        let z : k + (n + 1) ≡ suc k + n = omega arith in
        rw (
          passes (room_of opens) s at (limit_of (length s) opens) (marked_of opens) l h e next n p,
          plus-plus k (n + 1) (answer (run (room_of opens) s next (limit_of (length s) opens) (marked_of opens))),
          z,
        )

    pub resume-primitive : constructed h.code ≡ false → resume s opens k at ≡ resume s opens (suc k) h.bound
    unfolding value_of
    resume-primitive q =
        let v : answer (value_of (room_of opens) s h) ≡ ended h.bound 0 = rw q in
        let z : suc k + 0 ≡ suc k = omega arith in
        resume-passed h.bound 0 v ∙ rw z

    inside : (o : Outcome) → answer (value_of (room_of opens) s h) ≡ o → resume s opens k at ≡ leave s (opened h ∷ opens) (plus (suc k) o)
    inside (Ok e) p = resume-passed e.at e.count p
    inside (Err r) p =
        let z : k + (r.count + 1) ≡ suc k + r.count = omega arith in
        rw (breaks (room_of opens) s at (limit_of (length s) opens) (marked_of opens) l h e r.number r.place r.count p, z)
        (leave-refused s opens r.number r.place (suc k + r.count))

    pub resume-constructed : constructed h.code ≡ true → resume s opens k at ≡ resume s (opened h ∷ opens) (suc k) h.start
    unfolding value_of
    resume-constructed q =
        let r : 16 - length opens - 1 ≡ 16 - suc (length opens) = omega arith in
        let v : answer (value_of (room_of opens) s h) ≡ answer (run_in s (opened h ∷ opens) h.start) = rw (q, r) in
        inside (answer (run_in s (opened h ∷ opens) h.start)) v
