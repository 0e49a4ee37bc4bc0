-- `making::writing::put_entries` meets its contract: after k turns the first k entries are written.
use mathlib.Core.Path.{◌≡◌, refl, sym, ◌∙◌, subst}
use Prim.Native.Nat.{ℕ, suc, ◌+◌, ◌/◌, ◌<◌, ◌≤◌}
use lib.ListN.{length}
use native.Mathlib.Omega.{arith}
use Rattle.normal.specs.Passes.{PutsOctets}
use Rattle.making.specs.Flat.{entry_width, said_up_to}
use Rattle.making.specs.Octets.{entry_size_by, entries_octets}
use Rattle.making.specs.declared.Entry.{Entry}
use Rattle.making.specs.Lent.{names_of, text_of, EntryLies}
use Rattle.making.proofs.Lent.{entry-there, size-next, size-on, octets-up-to, written_none, written_next}
use Rattle.making.proofs.writing.put_entries.Goals as goal

pub loop-k-init : goal.loop-k-init
loop-k-init c =
    let a = c.args in
    (refl, written_none a.buffer.now a.numbers.now a.out.now a.begin)

pub entry_at-requires : goal.entry_at-requires
entry_at-requires c = entry-there (length c.args.numbers.now) c.loop-k.k (omega arith)

pub put_entry-at-requires : goal.put_entry-at-requires
put_entry-at-requires c =
    let buffer = c.args.buffer.now in
    let numbers = c.args.numbers.now in
    let l = c.loop-k in
    let below : l.k < length numbers / entry_width = omega arith in
    let size = size-next numbers l.k in
    let grows = size-on numbers (suc l.k) (length numbers / entry_width) (omega arith) in
    let done = octets-up-to buffer numbers l.k (λ j m. c.requires.0 j (omega arith)) in
    let e = c.entry_at.ensures in (
      subst (EntryLies buffer) (sym e) (c.requires.0 l.k below),
      subst (λ (x : Entry). text_of x ≤ 1048576) (sym e) (omega (arith, c.requires.1)),
      subst (λ (x : Entry). l.at + entry_size_by (names_of x) (text_of x) ≤ length l.out) (sym e)
          (omega (arith, c.requires.2, c.requires.3, l.invariant.0, l.invariant.1.to)),
    )

pub loop-k-preserved : goal.loop-k-preserved
loop-k-preserved c =
    let a = c.args in
    let l = c.loop-k in
    let entry_at = c.entry_at in (
      c.put_entry-at.auto.out ∙ l.invariant.0,
      written_next a.buffer.now a.numbers.now l.k entry_at.result entry_at.ensures l.invariant.1 c.put_entry-at.ensures,
    )

pub shape_of-out : goal.shape_of-out
shape_of-out c = c.loop-k.invariant.0

pub returns : goal.returns
returns c =
    let buffer = c.args.buffer.now in
    let numbers = c.args.numbers.now in
    let l = c.loop-k in
    let all : l.k ≡ length numbers / entry_width = omega arith in
    subst (λ (n : ℕ). PutsOctets c.args.out.now c.args.begin (entries_octets (said_up_to buffer numbers n)) l.at l.out) all l.invariant.1
