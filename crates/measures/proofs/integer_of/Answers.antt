-- `measures::integer_of` meets its contract: no integer, one that is not under 0, and one that is.
use mathlib.Core.Path.{◌≡◌, sym, ap, ◌∙◌}
use mathlib.Core.Bool.{true}
use mathlib.Core.List.{List}
use native.Mathlib.Omega.{arith}
use Prim.Native.Nat.{ℕ}
use lib.ListN.{length, take, drop}
use lib.Seq.{take-length}
use Rattle.headers.specs.Head.{big_endian}
use Rattle.measures.specs.Integers.{is_integer}
use Rattle.measures.proofs.Octets.{octets-bounded, no-integer, not-under, under-zero}
use Rattle.measures.proofs.integer_of.Goals as goal

-- all octets are those of the whole
whole : (v : List ℕ) → big_endian (take (length v) (drop 0 v)) ≡ big_endian v
whole v = ap big_endian (take-length v)

pub returns-then-not-is_integer : goal.returns-then-not-is_integer
returns-then-not-is_integer c =
    let v = c.args.v.now in
    no-integer v (sym c.is_integer.ensures ∙ c.if-not-is_integer.true)

pub big_endian-n-requires : goal.big_endian-n-requires
big_endian-n-requires c =
    let v = c.args.v.now in
    (omega arith, (octets-bounded v (sym c.is_integer.ensures ∙ c.if-not-is_integer.false)).1)

pub bounds-v-0 : goal.bounds-v-0
bounds-v-0 c =
    let v = c.args.v.now in
    omega (arith, (octets-bounded v (sym c.is_integer.ensures ∙ c.if-not-is_integer.false)).0)

pub returns-then-v-lt128 : goal.returns-then-v-lt128
returns-then-v-lt128 c =
    let v = c.args.v.now in
    let e : is_integer v ≡ true = sym c.is_integer.ensures
    ∙ c.if-not-is_integer.false in
    not-under v e _ (c.big_endian-n.ensures.0 ∙ whole v) (omega arith)

pub power-requires : goal.power-requires
power-requires c =
    let v = c.args.v.now in
    octets-bounded v (sym c.is_integer.ensures ∙ c.if-not-is_integer.false)

pub overflow_sub-result : goal.overflow_sub-result
overflow_sub-result c =
    let v = c.args.v.now in
    omega (arith, c.power.ensures, c.big_endian-n.ensures.1)

pub returns : goal.returns
returns c =
    let v = c.args.v.now in
    let e : is_integer v ≡ true = sym c.is_integer.ensures
    ∙ c.if-not-is_integer.false in
    under-zero v e _ (c.big_endian-n.ensures.0
    ∙ whole v) (omega arith) _ c.power.ensures
