-- `close`: each case is one of `Questions`.
use mathlib.Core.Path.{sym, ◌∙◌}
use Rattle.engine.proofs.Questions.{closed-early, closed-found, closed-read}
use Rattle.engine.proofs.close.Goals as goal

pub returns-then-not-is_sound : goal.returns-then-not-is_sound
returns-then-not-is_sound c = closed-early c.args.b (rw c.is_sound.ensures at c.then-not-is_sound.either)

pub returns-then-b-eq0 : goal.returns-then-b-eq0
returns-then-b-eq0 c = closed-read c.args.b (sym c.is_sound.ensures ∙ c.if-not-is_sound.false) c.if-b.false c.if-b-eq0.true

pub returns-else-b-eq0 : goal.returns-else-b-eq0
returns-else-b-eq0 c = closed-found c.args.b (sym c.is_sound.ensures ∙ c.if-not-is_sound.false) c.if-b.false c.if-b-eq0.false
