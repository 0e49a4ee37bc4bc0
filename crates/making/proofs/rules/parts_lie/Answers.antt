-- `making::rules::parts_lie` meets its contract: three parts, one after another.
use mathlib.Core.Path.{sym, ◌∙◌}
use Rattle.making.specs.Entries.{inside, parts_inside}
use Rattle.making.proofs.Ruling.{third-tells, second-tells, first-tells}
use Rattle.making.proofs.rules.parts_lie.Goals as goal

pub returns-then-lies-2 : goal.returns-then-lies-2
unfolding parts_inside
returns-then-lies-2 c =
    let args = c.args in
    let buffer = args.buffer.now in
    let entry = args.entry in
    let a = inside buffer entry.identifier in
    let b = inside buffer entry.portion in
    let c' = inside buffer entry.text in
    c.lies-then-lies-2.ensures ∙ third-tells a b c' (sym c.lies.ensures
    ∙ c.if-lies.true) (sym c.lies-then-lies.ensures ∙ c.if-lies-2.true)

pub returns-else-lies-2 : goal.returns-else-lies-2
unfolding parts_inside
returns-else-lies-2 c =
    let args = c.args in
    let buffer = args.buffer.now in
    let entry = args.entry in
    let a = inside buffer entry.identifier in
    let b = inside buffer entry.portion in
    let c' = inside buffer entry.text in
    second-tells a b c' (sym c.lies.ensures ∙ c.if-lies.true) (sym c.lies-then-lies.ensures ∙ c.if-lies-2.false)

pub returns-else-lies : goal.returns-else-lies
unfolding parts_inside
returns-else-lies c =
    let args = c.args in
    let buffer = args.buffer.now in
    let entry = args.entry in
    let a = inside buffer entry.identifier in
    let b = inside buffer entry.portion in
    let c' = inside buffer entry.text in
    first-tells a b c' (sym c.lies.ensures ∙ c.if-lies.false)
