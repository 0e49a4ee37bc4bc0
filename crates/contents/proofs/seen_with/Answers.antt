-- `contents::seen_with` meets its contract: its test is that of `seen_with`.
use borrow.Author.Tests.{eq-eqb, ne_eqb}
use Rattle.contents.specs.Gather.{seen_with}
use Rattle.contents.proofs.seen_with.Goals as goal

pub returns-then-p-octet : goal.returns-then-p-octet
unfolding seen_with
returns-then-p-octet c = rw (eq-eqb _ _ c.if-p-octet.true, c.first_of.ensures)

pub returns : goal.returns
unfolding seen_with
returns c = rw (ne_eqb _ _ c.if-p-octet.false, c.copied.ensures)
