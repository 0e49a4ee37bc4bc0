-- `wanted_of`: the type field, the first length octet, and those that follow.
use mathlib.Core.Path.{◌∙◌, ap}
use native.Mathlib.Omega.{arith}
use Rattle.blocks.specs.Engine.{further}
use Rattle.engine.proofs.Stores.{wanted-is}
use Rattle.engine.proofs.header.wanted_of.Goals as goal

pub returns : goal.returns
returns c =
    let field = c.field_size_of-field in
    let more = c.further_of.ensures in (
      wanted-is c.args.kept.now field.result c.further_of.result field.ensures.0 (more.0 ∙ ap further c.octet_of.ensures),
      omega (arith, field.ensures.1, more.1),
    )
