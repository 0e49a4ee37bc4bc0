-- `making::writing::measure` meets its contract: after k turns the size is that of the first k entries.
use mathlib.Core.Path.{◌≡◌, ap, sym, ◌∙◌, subst}
use Prim.Native.Nat.{ℕ, ◌/◌}
use lib.ListN.{length}
use native.Mathlib.Omega.{arith}
use Rattle.making.specs.Flat.{entry_width}
use Rattle.making.specs.Octets.{entry_size_by, capped}
use Rattle.making.specs.Lent.{names_of, text_of, Ordered, size_up_to}
use Rattle.making.proofs.Sizes.{capped-within, capped-most}
use Rattle.making.proofs.Lent.{entry-there, measured-next}
use Rattle.making.proofs.writing.measure.Goals as goal

pub loop-k-init : goal.loop-k-init
unfolding size_up_to
loop-k-init c = sym (capped-within 2 (omega arith))

pub entry_at-requires : goal.entry_at-requires
entry_at-requires c = entry-there (length c.args.numbers.now) c.loop-k.k (omega arith)

pub entry_size-requires : goal.entry_size-requires
entry_size-requires c = subst Ordered (sym c.entry_at.ensures) (c.requires c.loop-k.k (omega arith))

pub overflow_add-size : goal.overflow_add-size
overflow_add-size c =
    let l = c.loop-k in
    let numbers = c.args.numbers.now in
    omega (
      arith,
      l.invariant,
      capped-most (size_up_to numbers l.k),
      c.entry_size.ensures,
      capped-most (entry_size_by (names_of c.entry_at.result) (text_of c.entry_at.result)),
    )

pub loop-k-preserved : goal.loop-k-preserved
loop-k-preserved c =
    let l = c.loop-k in
    let entry_at = c.entry_at in
    measured-next c.args.numbers.now l.k l.size c.entry_size.result
    c.cap-size.result entry_at.result l.invariant entry_at.ensures c.entry_size.ensures c.cap-size.ensures

pub returns : goal.returns
returns c =
    let numbers = c.args.numbers.now in
    let all : c.loop-k.k ≡ length numbers / entry_width = omega arith in
    c.loop-k.invariant ∙ ap (λ (n : ℕ). capped (size_up_to numbers n)) all
