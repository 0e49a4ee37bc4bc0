-- What a caller gets who starts, hands over blocks one after another and closes, by the contracts of the three functions alone: after every
-- block the state that is defined over the octets so far (`after-every-block`), and at the close the answer of the walk of the octets that
-- were not refused, if they are all (`from-start-to-close`).
use mathlib.Core.Path.{◌≡◌, refl, ap, sym, ◌∙◌}
use mathlib.Core.Bool.{true}
use mathlib.Core.List.{List}
use Prim.Native.Nat.{ℕ}
use Rattle.blocks.specs.Engine.{State, state_after}
use Rattle.blocks.specs.Blocks.{start, take_block, take_blocks, kept, close, at_close}
use Rattle.blocks.proofs.Cutting.{any-blocks, any-close}
use Rattle.octets.specs.Told.{Told}
use Rattle.engine.specs.declared.Blocks.{Blocks}
use Rattle.engine.specs.declared.Taken.{Taken}
use Rattle.engine.specs.Stored.{state_of, sound, closed_of, Starts, Takes, Calls, none, call}

calls : {b last : Blocks} {blocks : List (List ℕ)} → Calls b blocks last → sound b ≡ true
    → (state_of last ≡ take_blocks (state_of b) blocks) × (sound last ≡ true)
calls none s = (refl, s)
calls {b} (call {last} {block} {blocks} {r} t more) s =
    let (e, f) = calls more (t.goes_on s) in
    let one : state_of r.state ≡ (take_block (state_of b) block).state = t.state ∙ rw s in
    (e ∙ ap (λ (x : State). take_blocks x blocks) one, f)

-- "After every block it stands where the definition over the bytes so far puts it": the bytes of the blocks that were not refused.
pub after-every-block : (total : ℕ) (first : Taken) (last : Blocks) (blocks : List (List ℕ)) → Starts total first → Calls first.state blocks last
    → state_of last ≡ state_after total (kept total blocks)
after-every-block total first last blocks s c =
    (calls c s.goes_on).0 ∙ ap (λ (x : State). take_blocks x blocks) s.state ∙ any-blocks total blocks

pub from-start-to-close : (total : ℕ) (first : Taken) (last : Blocks) (blocks : List (List ℕ)) → Starts total first → Calls first.state blocks last
    → closed_of last ≡ at_close total (kept total blocks)
from-start-to-close total first last blocks s c =
    let (f, g) = calls c s.goes_on in
    let h : state_of last ≡ take_blocks (start total).state blocks = f ∙ ap (λ (x : State). take_blocks x blocks) s.state in
    rw g (ap close h ∙ any-close total blocks)

-- Two outcomes of a block that its contract allows have the same number, and states that stand for the same.
pub takes-determined : (b : Blocks) (block : List ℕ) (r q : Taken) → Takes b block r → Takes b block q
    → (r.number ≡ q.number) × (state_of r.state ≡ state_of q.state)
takes-determined b block r q t u = (t.number ∙ sym u.number, t.state ∙ sym u.state)

-- and so have two outcomes of the start
pub starts-determined : (total : ℕ) (r q : Taken) → Starts total r → Starts total q → (r.number ≡ q.number) × (state_of r.state ≡ state_of q.state)
starts-determined total r q t u = (t.number ∙ sym u.number, t.state ∙ sym u.state)

-- The contract of the close is an equation: one answer.
pub closes-determined : (b : Blocks) (r q : Told) → r ≡ closed_of b → q ≡ closed_of b → r ≡ q
closes-determined b r q t u = t ∙ sym u
