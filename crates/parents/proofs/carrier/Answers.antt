-- `parents::carrier` meets its contract: the name is hashed and looked up.
use mathlib.Core.Path.{◌≡◌, ap, sym, ◌∙◌, subst}
use mathlib.Core.List.{List}
use Prim.Native.Nat.{ℕ, ◌+◌, ◌-◌}
use native.Mathlib.Omega.{arith}
use lib.Seq.{slice}
use Rattle.std.proofs.lemmas.List.{drop-take}
use Rattle.rows.specs.Columns.{identifier_column}
use Rattle.rows.specs.Chains.{FindsRow}
use Rattle.parents.specs.Lookup.{object_space}
use Rattle.parents.proofs.carrier.Goals as goal

pub find-requires : goal.find-requires
find-requires c = record { bounded = c.requires.bounded; filed = c.requires.filed; hashed_value = c.hash_over-hashed.ensures.0 }

pub returns : goal.returns
returns c =
    let a = c.args in
    let s = a.s.now in
    let end : a.first + (a.past - a.first) ≡ a.past = omega (arith, c.requires.first_le_past.0) in
    let part = sym (drop-take a.first (a.past - a.first) s) ∙ ap (λ (p : ℕ). slice a.first p s) end in
    subst (λ (bytes : List ℕ). FindsRow s a.rows.now identifier_column a.n object_space bytes c.find.result) part c.find.ensures
