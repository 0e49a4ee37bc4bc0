-- `elements::shapes::shape_1993` meets its contract: each arm makes the shape that 1993 has of its own for its octet, and the last one that of
-- 1988.
use mathlib.Core.Path.{sym, ap, ◌∙◌}
use Rattle.elements.specs.Shape.{added1993, shapes1988, shapes1993}
use Rattle.elements.specs.Slots.{slots_of}
use Rattle.elements.proofs.Looking.{found, passed}
use Rattle.elements.proofs.shapes.shape_1993.Goals as goal

pub returns-in-163 : goal.returns-in-163
returns-in-163 c = found shapes1993 c.unit_slots.ensures c.in-163.is

pub returns-in-169 : goal.returns-in-169
returns-in-169 c = found shapes1993 c.sealed_slots.ensures c.in-169.is

pub returns-in-170 : goal.returns-in-170
returns-in-170 c = found shapes1993 c.enciphered_slots.ensures c.in-170.is

pub returns-in-171 : goal.returns-in-171
returns-in-171 c = found shapes1993 c.enciphered_slots-in-171.ensures c.in-171.is

pub returns-in-172 : goal.returns-in-172
returns-in-172 c = found shapes1993 c.enciphered_slots-in-172.ensures c.in-172.is

pub returns-in_default : goal.returns-in_default
returns-in_default c = c.shape_1988.ensures ∙ sym (ap slots_of (passed (Unit {0}) c.args.code added1993 shapes1988 c.in_default.in_default-own.rest))
