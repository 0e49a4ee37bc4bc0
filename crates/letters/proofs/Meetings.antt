-- A primitive item that is met has nothing inside.
use mathlib.Core.Path.{◌≡◌, sym}
use mathlib.Core.Bool.{Bool, true, false, false≢true}
use mathlib.Core.List.{List}
use Prim.Native.Nat.{ℕ}
use native.Mathlib.Omega.{arith}
use Rattle.headers.specs.Head.{constructed}
use Rattle.octets.specs.Walk.{Items, no_items, item, End}
use Rattle.octets.specs.Rules.{Runs, at_limit, unclosed, closes, refuses, primitive, passes, breaks}
use Rattle.octets.proofs.RulesHold.{derives}
use Rattle.runs.specs.declared.Run.{Run}
use Rattle.runs.specs.Runs.{items_of, Fine, Meeting}

inside-none : {s : List ℕ} {room at limit : ℕ} {marked : Bool} {i : Items} {e : End} → Runs s room at limit marked i e
    → (place code first past : ℕ) (inside after : Items) → i ≡ item place code first past inside after → constructed code ≡ false → inside ≡ no_items
inside-none (at_limit p) place code first past inside after e c = let z : ◌≡◌ {A = ℕ} 0 1 = cc in absurd (omega arith)
inside-none (unclosed p) place code first past inside after e c = let z : ◌≡◌ {A = ℕ} 0 1 = cc in absurd (omega arith)
inside-none (closes l h) place code first past inside after e c = let z : ◌≡◌ {A = ℕ} 0 1 = cc in absurd (omega arith)
inside-none (refuses l h) place code first past inside after e c = let z : ◌≡◌ {A = ℕ} 0 1 = cc in absurd (omega arith)
inside-none (primitive l h p r) place code first past inside after e c = cc
inside-none (passes l h p v r) place code first past inside after e c = let z : true ≡ false = cc in absurd (false≢true (sym z))
inside-none (breaks l h p v) place code first past inside after e c = let z : true ≡ false = cc in absurd (false≢true (sym z))

pub nothing-inside : {s : List ℕ} {r : Run} {code first past : ℕ} {inner rest : Run} → Fine s r → Meeting s r code first past inner rest
    → constructed code ≡ false → items_of s inner ≡ no_items
nothing-inside {s} {r} {code} {first} {past} {inner} {rest} fine m c =
    inside-none (derives r.room s r.at r.limit r.marked fine.order) r.at code first past (items_of s inner) (items_of s rest) m.tree c
