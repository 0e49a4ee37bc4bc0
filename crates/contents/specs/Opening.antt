-- The first two items of a run, and whether there are more. An element of document 01 has at most two items, but for the profile and the
-- styles, whose items are free.
use Rattle.std.specs.Prelude.{◌≡◌, List, ℕ, ◌≤◌, Option, Some, None}
use Rattle.octets.specs.Walk.{no_items}
use Rattle.runs.specs.declared.Run.{Run}
use Rattle.runs.specs.Runs.{items_of, definite_run, Meeting}
use Rattle.contents.specs.declared.Part.{Part}
use Rattle.contents.specs.declared.Opening.{Opening}
use Rattle.contents.specs.First.{IsFirst, Lacks}

-- a part that is not there: nothing, in a run with no item
abbrev pub no_part : Part
no_part = record { code = 0; first = 0; past = 0; inner = definite_run 0 0 0 }

-- the run r begins with the item p, and goes on with the run rest
abbrev pub Begins : List ℕ → (r : Run) → Part → (rest : Run) → Type 0
Begins s r p rest = Meeting s r p.code p.first p.past p.inner rest

-- whether a run that follows two items ends: the count is then 2, and 3 if it begins with a third
pub data CountsOn (s : List ℕ) (last : Run) (n : ℕ) : Type 0 where
  ends_here : n ≡ 2 → items_of s last ≡ no_items → CountsOn s last n
  goes_on : (third : Part) (beyond : Run) → n ≡ 3 → Begins s last third beyond → CountsOn s last n

-- how many items a run has, and the first two: one by one, up to the run's end, or to a third item, which there is if the count is 3
pub data Opens (s : List ℕ) (r : Run) (o : Opening) : Type 0 where
  nothing : o.count ≡ 0 → items_of s r ≡ no_items → Opens s r o
  single : (rest : Run) → o.count ≡ 1 → Begins s r o.one rest → items_of s rest ≡ no_items → Opens s r o
  several : (rest last : Run) → Begins s r o.one rest → Begins s rest o.two last → CountsOn s last o.count → Opens s r o

-- the first item of a run with the octet, if it has one
abbrev pub FoundIn : List ℕ → Run → (octet : ℕ) → Option Part → Type 0
FoundIn s r octet (Some p) = IsFirst s r octet p
FoundIn s r octet None = Lacks s r octet

-- what was found in an opening is what its run has, if that has no more than two items
abbrev pub FindsPart : Opening → (octet : ℕ) → Option Part → Type 0
FindsPart o octet found = (s : List ℕ) (r : Run) → Opens s r o → o.count ≤ 2 → FoundIn s r octet found
