-- `decided`: each arm is a case of `decide`.
use mathlib.Core.Path.{◌≡◌, ap, ◌∙◌}
use mathlib.Core.Bool.{true, false}
use mathlib.Core.List.{◌∷◌}
use Prim.Native.Nat.{ℕ, ◌+◌, ◌-◌, ◌/◌, ◌%◌}
use native.Mathlib.Omega.{arith}
use native.Mathlib.Numerals.{add-one}
use borrow.Author.Tests.{eq-eqb, ne_eqb}
use Rattle.headers.specs.Head.{constructed}
use Rattle.blocks.specs.Engine.{Open, arrive}
use Rattle.engine.specs.Skimming.{opens, with_standing}
use Rattle.engine.proofs.Stores.{one_less, item-fits, mark-fits, refusal-numbered}
use Rattle.engine.proofs.header.decided.Goals as goal

pub overflow_add-at : goal.overflow_add-at
overflow_add-at c =
    let f = item-fits c.args.limit c.args.b.at (16 - c.args.b.level) c.args.head c.in-Item.h c.in-Item.is c.requires.4 in
    omega arith

pub overflow_add-at-then-h-eq1 : goal.overflow_add-at-then-h-eq1
overflow_add-at-then-h-eq1 c =
    let f = item-fits c.args.limit c.args.b.at (16 - c.args.b.level) c.args.head c.in-Item.h c.in-Item.is c.requires.4 in
    omega arith

pub open_item-requires : goal.open_item-requires
open_item-requires c =
    let f = item-fits c.args.limit c.args.b.at (16 - c.args.b.level) c.args.head c.in-Item.h c.in-Item.is c.requires.4 in
    (c.requires.0, omega arith, omega arith)

pub returns-then-h-eq1 : goal.returns-then-h-eq1
returns-then-h-eq1 c =
    let b = c.args.b in
    let w = c.open_item.ensures in
    let q : constructed c.in-Item.h.code ≡ true = eq-eqb (c.in-Item.h.code / 32 % 2) 1 (omega arith) in
    let o : Open = record { bound = b.at + c.in-Item.h.bound; marked = c.in-Item.h.marked } in
    let n = ap (λ (k : ℕ). with_standing b (arrive b.taken k (o ∷ opens b) (b.at + c.in-Item.h.start))) (add-one b.headers) in
    (w.state ∙ rw (c.in-Item.is, q) n, w.depth, w.kept, omega (arith, w.headers))

pub overflow_add-b-in-Item : goal.overflow_add-b-in-Item
overflow_add-b-in-Item c =
    let f = item-fits c.args.limit c.args.b.at (16 - c.args.b.level) c.args.head c.in-Item.h c.in-Item.is c.requires.4 in
    omega arith

pub overflow_add-b-in-ClosingMark : goal.overflow_add-b-in-ClosingMark
overflow_add-b-in-ClosingMark c =
    let f = mark-fits c.args.limit c.args.b.at (16 - c.args.b.level) c.args.head c.in-ClosingMark.is c.requires.4 in
    omega arith

pub overflow_cast-b : goal.overflow_cast-b
overflow_cast-b c =
    let n = refusal-numbered c.args.head c.in-Refusal.number c.in-Refusal.place c.in-Refusal.is c.requires.5 in
    omega (arith, n.1)

pub overflow_cast-b-in-Refusal : goal.overflow_cast-b-in-Refusal
overflow_cast-b-in-Refusal c = omega (arith, c.requires.6)

pub returns-else-h-eq1 : goal.returns-else-h-eq1
returns-else-h-eq1 c =
    let b = c.args.b in
    let w = c.arrived.ensures in
    let q : constructed c.in-Item.h.code ≡ false = ne_eqb (c.in-Item.h.code / 32 % 2) 1 (λ e. omega arith) in
    (w.state ∙ rw (c.in-Item.is, q, add-one b.headers), w.depth, w.kept, omega (arith, w.headers))

pub returns-in-ClosingMark : goal.returns-in-ClosingMark
returns-in-ClosingMark c =
    let b = c.args.b in
    let w = c.arrived-in-ClosingMark.ensures in
    (w.state ∙ rw (c.in-ClosingMark.is, c.saturating_sub.ensures, one_less b.level b.ends), w.depth, w.kept, omega (arith, w.headers))

pub returns-in-Refusal : goal.returns-in-Refusal
returns-in-Refusal c =
    let n = refusal-numbered c.args.head c.in-Refusal.number c.in-Refusal.place c.in-Refusal.is c.requires.5 in
    let ne : c.in-Refusal.number ≡ 0 → ⊥ = λ e. omega arith in
    let z : c.args.b.at + c.in-Refusal.place ≡ c.args.b.at = omega arith in
    (rw (c.in-Refusal.is, ne_eqb c.in-Refusal.number 0 ne, z), c.requires.1, omega arith, omega arith)
