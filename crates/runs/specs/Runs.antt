-- A run of items as a value, and what is met at its start. Document 01, "Octet rules": "a constructed value is a run of items, each with
-- a value of its own. The run ends exactly at the definite length, or at the closing mark."
-- After this crate nobody but the normal form's writer looks at headers, limits or closing marks: a pass asks what is met, and goes on.
-- Only runs that were walked without a refusal are met (`Fine`).
use Rattle.std.specs.Prelude.{◌≡◌, Bool, cond, false, true, not, ◌&&◌, List, ℕ, ◌≤◌, ◌-◌, suc, ◌+◌, ◌<◌, length, Option, Some, None}
use Rattle.headers.specs.declared.Header.{Header}
use Rattle.headers.specs.Head.{constructed}
use Rattle.octets.specs.Walk.{Walked, run, Items, deepest, no_items, item, ends}
use Rattle.tree.specs.Tree.{Tree, plain}
use Rattle.tree.specs.Accepts.{Whole}
use Rattle.runs.specs.declared.Run.{Run}
use Rattle.runs.specs.declared.Met.{Met}

-- the walk of a run
abbrev pub walk_in : List ℕ → Run → Walked
walk_in s r = run r.room s r.at r.limit r.marked

-- the items of a run
abbrev pub items_of : List ℕ → Run → Items
items_of s r = (walk_in s r).items

-- the tree that a run stands for
abbrev pub tree_in : List ℕ → Run → Tree
tree_in s r = plain s (items_of s r)

-- a definite run: the value from first to past, with room levels left
abbrev pub definite_run : (first past room : ℕ) → Run
definite_run first past room = record { at = first; limit = past; marked = false; room = room }

-- the run of a whole stream: "Top elements are at level 1; level 16 is the deepest."
abbrev pub whole_stream : List ℕ → Run
whole_stream s = definite_run 0 (length s) deepest

-- the run inside the item with the header h, which is at the first of room levels: a primitive has an empty one, at its end
abbrev pub inside_of : Header → (room : ℕ) → Run
inside_of h room =
    cond (constructed h.code) (record { at = h.start; limit = h.bound; marked = h.marked; room = room - 1 })
    (definite_run h.bound h.bound (room - 1))

-- how many items a run has, not looking inside them
abbrev pub tops : Items → ℕ
tops no_items = 0
tops (item at code start past inside after) = suc (tops after)

-- whether all items of a run are primitive
abbrev pub all_primitive : Items → Bool
all_primitive no_items = true
all_primitive (item at code start past inside after) = not (constructed code) && all_primitive after

-- a run within the stream whose walk ended
pub record Fine (s : List ℕ) (r : Run) : Type 0 where
  pub order : r.at ≤ r.limit
  pub inside : r.limit ≤ length s
  pub whole : Whole (walk_in s r).how

-- a run is the value from first to past: it ends there, or past the closing mark that follows
pub record Spans (s : List ℕ) (r : Run) (first past : ℕ) : Type 0 where
  pub from : r.at ≡ first
  pub to : (walk_in s r).how ≡ ends (cond r.marked (past + 2) past)

-- What is met at the start of a run: an item with the code of its type field and its value from first to past, the run inside it, and the rest of the
-- run, which is shorter and begins where the item ends. "Closing marks lie in the element and in no value."
pub record Meeting (s : List ℕ) (r : Run) (code first past : ℕ) (inner rest : Run) : Type 0 where
  pub tree : items_of s r ≡ item r.at code first past (items_of s inner) (items_of s rest)
  pub code_not_zero : code ≡ 0 → ⊥
  pub code_small : code < 16777216
  pub starts : r.at + 2 ≤ first
  pub value_order : first ≤ past
  pub value_before : past ≤ rest.at
  pub value_inside : past ≤ length s
  pub inner_fine : Fine s inner
  pub inner_room : inner.room ≡ r.room - 1
  pub inner_spans : constructed code ≡ true → Spans s inner first past
  pub rest_fine : Fine s rest
  pub rest_limit : rest.limit ≡ r.limit
  pub rest_marked : rest.marked ≡ r.marked
  pub rest_room : rest.room ≡ r.room
  pub less : rest.limit - rest.at < r.limit - r.at

-- what is met: an item, or the run's end, where it has no item
abbrev pub Meets : List ℕ → Run → Option Met → Type 0
Meets s r (Some met) = Meeting s r met.code met.first met.past met.inner met.rest
Meets s r None = items_of s r ≡ no_items
