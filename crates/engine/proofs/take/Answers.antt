-- `take`: each case is one of `Questions`.
use mathlib.Core.Path.{sym, ◌∙◌}
use native.Mathlib.Omega.{arith}
use Rattle.engine.proofs.Questions.{sound-is, takes-unsound, takes-past, takes-fits}
use Rattle.engine.proofs.take.Goals as goal
use Rattle.engine.proofs.take.Goals.{then-not-is_sound-via-then-not-is_sound, then-not-is_sound-via-else-not-is_sound+then-b}
use Rattle.engine.proofs.take.Goals.{then-not-is_sound-via-else-not-is_sound+else-b+then-b-block}

pub returns-then-not-is_sound : goal.returns-then-not-is_sound
returns-then-not-is_sound c =
    let a = c.args in
    elim c.then-not-is_sound.branch [
      | then-not-is_sound-via-then-not-is_sound w ↦ takes-unsound a.b a.block.now (sym c.is_sound.ensures ∙ w.if-not-is_sound.true)
      | then-not-is_sound-via-else-not-is_sound+then-b w ↦ takes-past a.b a.block.now (sym c.is_sound.ensures ∙ w.if-not-is_sound.false) (omega arith)
      | then-not-is_sound-via-else-not-is_sound+else-b+then-b-block w ↦
          takes-past a.b a.block.now (sym c.is_sound.ensures ∙ w.if-not-is_sound.false) (omega arith)
    ]

pub fed-requires : goal.fed-requires
fed-requires c = (sound-is c.args.b (sym c.is_sound.ensures ∙ c.if-not-is_sound.false), omega arith)

pub returns : goal.returns
returns c =
    let a = c.args in
    takes-fits a.b a.block.now c.fed.result c.fed.ensures.0 (sym c.is_sound.ensures ∙ c.if-not-is_sound.false) (omega arith) c.fed.ensures.1
