-- A turn of the loop over a block, and what it leaves to take. From the laws of the engine (blocks, proofs/Goes).
use mathlib.Core.Path.{◌≡◌, ap, sym, ◌∙◌}
use mathlib.Core.List.{List, [], ◌∷◌, ◌++◌}
use Prim.Native.Nat.{ℕ, suc, ◌+◌, ◌-◌, ◌<◌, ◌≤◌}
use native.Mathlib.Omega.{arith}
use native.Mathlib.Numerals.{add-one}
use lib.ListN.{length, get_or, take, drop, length-drop, take-append-drop}
use lib.Seq.{drop-cons, drop-drop, drop-length, length-take-le}
use borrow.Author.Tests.{eq-eqb, ne_eqb, lt-leb}
use Rattle.blocks.specs.Engine.{Open, reading, found, State, arrive, in_header, step, feed}
use Rattle.blocks.proofs.Goes.{finding-stays, value-octets}
use Rattle.blocks.proofs.Cutting.{feed-append}
use Rattle.engine.specs.declared.Blocks.{Blocks}
use Rattle.engine.specs.Stored.{standing_of, state_of}
use Rattle.engine.specs.Skimming.{opens, FineIfReading, Turns}

-- an octet of a header
pub header-step : (b : Blocks) (x : ℕ) → b.number ≡ 0 → b.at ≤ b.taken → step (state_of b) x
    ≡ record {
      total = b.total;
      taken = b.taken + 1;
      standing = in_header b.total (b.taken + 1) b.headers (opens b) b.at (take b.have b.begun ++ (x ∷ []));
    }
unfolding step
header-step b x z l = rw (eq-eqb b.number 0 z, add-one b.taken, lt-leb (suc b.taken) b.at (omega arith))

-- octets of a value, as a list that is not empty
pub values : (total taken k : ℕ) (os : List Open) (at : ℕ) (begun ys : List ℕ) → 0 < length ys → taken + length ys ≤ at
    → feed (record { total = total; taken = taken; standing = reading k os at begun }) ys
    ≡ record { total = total; taken = taken + length ys; standing = arrive (taken + length ys) k os at }
values total taken k os at begun [] z h = absurd (omega arith)
values total taken k os at begun (y ∷ ys) z h = value-octets total taken k os at begun y ys h

module _ (b : Blocks) (block : List ℕ) (i : ℕ) (l : i < length block) (f : b.taken + (length block - i) ≤ b.total) where
  pub counted-turn : (r : Blocks) → (b.number ≡ 0 → ⊥) → r.number ≡ b.number
      → state_of r ≡ record { total = b.total; taken = b.taken + (length block - i); standing = standing_of b }
      → Turns b block i r (length block)
  counted-turn r ne n e =
      let total : r.total ≡ b.total = ap (λ (t : State). t.total) e in
      let taken : r.taken ≡ b.taken + (length block - i) = ap (λ (t : State). t.taken) e in
      let size = length-drop i block in
      let w : standing_of b ≡ found b.number b.place b.headers = rw (ne_eqb b.number 0 ne) in
      record {
        further = omega arith;
        within = omega arith;
        fine = λ z. absurd (ne (sym n ∙ z));
        fits = omega arith;
        total = total;
        state =
            rw (drop-length block) (rw e (rw w (finding-stays b.total b.taken b.number b.place b.headers (drop i block) ∙ rw size)));
      }

  pub passed-turn : (r : Blocks) (j : ℕ) → b.number ≡ 0 → i < j → j ≤ length block → b.taken + (j - i) ≤ b.at → FineIfReading r
      → state_of r ≡ record { total = b.total; taken = b.taken + (j - i); standing = arrive (b.taken + (j - i)) b.headers (opens b) b.at }
      → Turns b block i r j
  passed-turn r j z less m far fine e =
      let total : r.total ≡ b.total = ap (λ (t : State). t.total) e in
      let taken : r.taken ≡ b.taken + (j - i) = ap (λ (t : State). t.taken) e in
      let size = length-drop i block in
      let ys = take (j - i) (drop i block) in
      let n : length ys ≡ j - i = length-take-le (j - i) (drop i block) (omega arith) in
      let rest : drop (j - i) (drop i block) ≡ drop j block = (let q : i + (j - i) ≡ j = omega arith in drop-drop (j - i) i block ∙ rw q) in
      let w : standing_of b ≡ reading b.headers (opens b) b.at (take b.have b.begun) = rw (eq-eqb b.number 0 z) in
      let v : feed (state_of b) ys ≡ state_of r =
      rw (e, w) (values b.total b.taken b.headers (opens b) b.at (take b.have b.begun) ys (omega arith) (omega arith) ∙ rw n) in
      record {
        further = omega arith;
        within = m;
        fine = fine;
        fits = omega arith;
        total = total;
        state =
            ap (feed (state_of b)) (sym (take-append-drop (j - i) (drop i block))) ∙ feed-append (state_of b) ys (drop (j - i) (drop i block)) ∙ rw (v, rest);
      }

  pub header-turned : (r : Blocks) → FineIfReading r → state_of r ≡ step (state_of b) (get_or block i 0) → Turns b block i r (i + 1)
  unfolding step
  header-turned r fine e =
      let total : r.total ≡ b.total = ap (λ (t : State). t.total) e in
      let taken : r.taken ≡ suc b.taken = ap (λ (t : State). t.taken) e in
      let d : drop i block ≡ get_or block i 0 ∷ drop (i + 1) block = drop-cons block i 0 l ∙ rw (add-one i) in
      record {
        further = omega arith;
        within = omega arith;
        fine = fine;
        fits = omega arith;
        total = total;
        state = ap (feed (state_of b)) d ∙ ap (λ (s : State). feed s (drop (i + 1) block)) (sym e);
      }
