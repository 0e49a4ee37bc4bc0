-- `normal::meet` meets its contract: an item is met where its header passed, and none where the run ends.
use mathlib.Core.Path.{◌≡◌, refl, sym, ◌∙◌}
use mathlib.Core.Bool.{Bool}
use mathlib.Core.List.{List}
use Prim.Native.Nat.{ℕ, ◌<◌}
use borrow.Author.Tests.{le-leb, lt-leb}
use native.Mathlib.Omega.{arith}
use Rattle.std.specs.Prelude.{None}
use Rattle.headers.specs.declared.Header.{Header}
use Rattle.headers.specs.declared.Head.{Head}
use Rattle.headers.specs.declared.Head.TheVariants.{Item, ClosingMark, Refusal}
use Rattle.headers.specs.Head.{head_at}
use Rattle.normal.specs.Passes.{item_of, ahead_at}
use Rattle.normal.proofs.Passes.{passed}
use Rattle.normal.proofs.meet.Goals as goal

before-limit : (room : ℕ) (s : List ℕ) (at limit : ℕ) (marked : Bool) → at < limit → (head : Head) → head_at s at limit marked room ≡ head
    → item_of head ≡ ahead_at room s at limit marked
unfolding ahead_at
before-limit room s at limit marked l head e = rw (lt-leb limit at l, e)

pub returns-then-limit-at : goal.returns-then-limit-at
unfolding ahead_at
returns-then-limit-at c = let a = c.args in rw (le-leb a.limit a.at c.if-limit-at.true)

pub passed_head-requires : goal.passed_head-requires
passed_head-requires c =
    let a = c.args in
    (omega arith, omega arith, passed a.room a.s.now a.at a.limit a.marked (omega arith) c.requires.whole)

pub returns-in-Item : goal.returns-in-Item
returns-in-Item c =
    let a = c.args in
    before-limit a.room a.s.now a.at a.limit a.marked (omega arith) (Item c.in-Item.h)
    (sym c.passed_head.ensures ∙ c.in-Item.is)

no-item : (head : Head) → ((h : Header) → head ≡ Item h → ⊥) → item_of head ≡ None
no-item (Item h) other = absurd (other h refl)
no-item ClosingMark other = refl
no-item (Refusal number place) other = refl

pub returns-in_default : goal.returns-in_default
returns-in_default c =
    let a = c.args in
    sym (no-item c.passed_head.result c.in_default.not-Item)
    ∙ before-limit a.room a.s.now a.at a.limit a.marked (omega arith) c.passed_head.result (sym c.passed_head.ensures)
