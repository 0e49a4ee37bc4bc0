-- `parents::is_parent_kind` meets its contract: the kinds of either side, by cases of the definition.
use mathlib.Core.Path.{sym, ◌∙◌}
use Rattle.parents.specs.Parent.{parent_kinds}
use Rattle.parents.proofs.is_parent_kind.Goals as goal

pub returns-then-is_either : goal.returns-then-is_either
unfolding parent_kinds
returns-then-is_either c = rw (sym c.is_either.ensures ∙ c.if-is_either.true) c.is_either-then-is_either.ensures

pub returns-then-is_either-2 : goal.returns-then-is_either-2
unfolding parent_kinds
returns-then-is_either-2 c =
    rw (
      sym c.is_either.ensures ∙ c.if-is_either.false,
      sym c.is_either-2.ensures ∙ c.if-is_either-2.true,
    )
    c.is_either-then-is_either-2.ensures

pub returns : goal.returns
unfolding parent_kinds
returns c =
    rw (sym c.is_either.ensures ∙ c.if-is_either.false, sym c.is_either-2.ensures ∙ c.if-is_either-2.false)
