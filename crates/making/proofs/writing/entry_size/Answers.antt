-- `making::writing::entry_size` meets its contract: by the sizes of the parts.
use mathlib.Core.Path.{◌≡◌, ap, ◌∙◌}
use Prim.Native.Nat.{ℕ, ◌+◌}
use native.Mathlib.Omega.{arith}
use Rattle.making.specs.Octets.{entry_size_by, capped}
use Rattle.making.specs.Lent.{names_of}
use Rattle.making.proofs.writing.entry_size.Goals as goal

pub returns : goal.returns
returns c =
    let size_of = c.size_of in
    let size_of2 = c.size_of-2 in
    let entry = c.args.entry in
    let n : size_of.result + size_of2.result ≡ names_of entry = omega (arith, size_of.ensures, size_of2.ensures) in
    c.size_by.ensures ∙ ap (λ (k : ℕ). capped (entry_size_by k c.size_of-3.result)) n
    ∙ ap (λ (k : ℕ). capped (entry_size_by (names_of entry) k)) c.size_of-3.ensures
