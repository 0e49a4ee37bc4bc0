-- `answers::content::content_at` meets its contract: the row's kind is tested, and what holds the content is found.
use mathlib.Core.Path.{sym, ◌∙◌}
use Rattle.answers.specs.Asking.{other_kind, held_there}
use Rattle.answers.proofs.content.content_at.Goals as goal

pub returns-then-kind_at-ne-TEXT_UNIT : goal.returns-then-kind_at-ne-TEXT_UNIT
returns-then-kind_at-ne-TEXT_UNIT c = other_kind (λ e. c.if-kind_at-ne-TEXT_UNIT.true (c.kind_at.ensures ∙ e))

pub content_of-requires : goal.content_of-requires
content_of-requires c = record { fine = c.requires.fine; by_index = c.requires.element_bound.1 }

pub returns : goal.returns
returns c = held_there (sym c.kind_at.ensures ∙ c.if-kind_at-ne-TEXT_UNIT.false) c.content_of.ensures
