-- `parents::parent_of` meets its contract: each test is a case of the definition, and what was looked up is the parent.
use mathlib.Core.Path.{ap, sym, ◌∙◌, subst}
use Prim.Native.Nat.{ℕ, ◌≤◌}
use native.Mathlib.Omega.{arith}
use lib.Seq.{slice}
use Rattle.headers.specs.Head.{is_in}
use Rattle.parents.specs.Parent.{parent_kinds, no_parent}
use Rattle.parents.proofs.Finding.{parent-other, parent-one-group, parent-found, side-small}
use Rattle.parents.proofs.parent_of.Goals as goal

pub returns-then-not-is_parent_kind : goal.returns-then-not-is_parent_kind
returns-then-not-is_parent_kind c =
    let t = ap (λ (k : ℕ). is_in k (parent_kinds k)) (sym c.kind_at-kind.ensures) ∙ sym c.is_parent_kind.ensures ∙ c.if-not-is_parent_kind.true in
    record { small = omega arith; is = λ elements ready. parent-other ready c.args.j c.requires.j_lt_n.0 t }

pub returns-in_default : goal.returns-in_default
returns-in_default c = record {
  small = omega arith;
  is = λ elements ready. parent-one-group ready c.args.j c.requires.j_lt_n.0 c.bounds_at-name.result c.bounds_at-name.ensures c.in_default.ensures;
}

pub returns : goal.returns
returns c =
    let front = slice c.bounds_at-name.result.first c.in-Some.cut c.args.s.now in
    let told = c.own_side.ensures in
    let kind = c.kind_at-kind.result in
    let small = side-small c.args.s.now c.args.rows.now c.args.n front c.carrier.result c.carrier.ensures c.requires.j_lt_n.1 kind in
    record {
      small = subst (λ (k : ℕ). k ≤ no_parent) (sym told) small;
      is = λ elements ready. told ∙ parent-found ready c.args.j c.requires.j_lt_n.0 c.bounds_at-name.result c.bounds_at-name.ensures c.in-Some.ensures
          c.carrier.result c.carrier.ensures kind c.kind_at-kind.ensures;
    }
