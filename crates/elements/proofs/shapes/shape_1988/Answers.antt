-- `elements::shapes::shape_1988` meets its contract: each arm makes the shape that the list of 1988 has for its octet, and the last one
-- that of no element, since the list has none for any other.
use mathlib.Core.Path.{sym, ap, ◌∙◌}
use mathlib.Core.List.{[]}
use Rattle.elements.specs.Shape.{shapes1988}
use Rattle.elements.specs.Slots.{slots_of}
use Rattle.elements.proofs.Looking.{found, passed}
use Rattle.elements.proofs.shapes.shape_1988.Goals as goal

pub returns-in-160 : goal.returns-in-160
returns-in-160 c = found shapes1988 c.profile_slots.ensures c.in-160.is

pub returns-in-161 : goal.returns-in-161
returns-in-161 c = found shapes1988 c.described_slots.ensures c.in-161.is

pub returns-in-162 : goal.returns-in-162
returns-in-162 c = found shapes1988 c.described_slots-in-162.ensures c.in-162.is

pub returns-in-163 : goal.returns-in-163
returns-in-163 c = found shapes1988 c.unit_slots.ensures c.in-163.is

pub returns-in-165 : goal.returns-in-165
returns-in-165 c = found shapes1988 c.described_slots-in-165.ensures c.in-165.is

pub returns-in-166 : goal.returns-in-166
returns-in-166 c = found shapes1988 c.described_slots-in-166.ensures c.in-166.is

pub returns-in-167 : goal.returns-in-167
returns-in-167 c = found shapes1988 c.style_slots.ensures c.in-167.is

pub returns-in-168 : goal.returns-in-168
returns-in-168 c = found shapes1988 c.style_slots-in-168.ensures c.in-168.is

pub returns-in_default : goal.returns-in_default
returns-in_default c = c.profile_slots-in_default.ensures ∙ sym (ap slots_of (passed (Unit {0}) c.args.code shapes1988 [] c.in_default.in_default-own.rest))
