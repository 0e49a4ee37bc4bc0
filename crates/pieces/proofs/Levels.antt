-- An item that is met has a level of its own, so the run inside it has fewer levels left: what calls itself for that run ends.
use mathlib.Core.Path.{subst}
use mathlib.Core.Bool.{Bool}
use mathlib.Core.List.{List}
use Prim.Native.Nat.{ℕ, ◌<◌, ◌≤◌}
use native.Mathlib.Omega.{arith}
use Rattle.octets.specs.Walk.{Items, no_items, item, End}
use Rattle.octets.specs.Rules.{Runs, at_limit, unclosed, closes, refuses, primitive, passes, breaks}
use Rattle.octets.proofs.Turns.{header_ok}
use Rattle.octets.proofs.RulesHold.{derives}
use Rattle.runs.specs.declared.Run.{Run}
use Rattle.runs.specs.Runs.{Meeting}

-- where there are items there is a level for them
abbrev Leveled : (room : ℕ) → Items → Type 0
Leveled room no_items = Unit {0}
Leveled room (item at code start past inside after) = 0 < room

leveled : {s : List ℕ} {room at limit : ℕ} {marked : Bool} {i : Items} {e : End} → Runs s room at limit marked i e → Leveled room i
leveled (at_limit p) = tt
leveled (unclosed p) = tt
leveled (closes l h) = tt
leveled (refuses l h) = tt
leveled {s} (primitive {room} {at} {limit} {marked} {h} l p q r) = (header_ok s at limit room marked h p).deep
leveled {s} (passes {room} {at} {limit} {marked} {h} l p q v r) = (header_ok s at limit room marked h p).deep
leveled {s} (breaks {room} {at} {limit} {marked} {h} l p q v) = (header_ok s at limit room marked h p).deep

pub level-less : {s : List ℕ} {r : Run} {code first past : ℕ} {inner rest : Run} → Meeting s r code first past inner rest
    → inner.room < r.room
level-less {s} {r} m =
    let order : r.at ≤ r.limit = omega (arith, m.less) in
    let some = subst (Leveled r.room) m.tree (leveled (derives r.room s r.at r.limit r.marked order)) in
    omega (arith, m.inner_room)
