-- What the code learns of the first item of a run with an octet, or of its absence.
use Rattle.std.specs.Prelude.{◌≡◌, true, false, List, ℕ, ◌<◌, ◌≤◌, length}
use Rattle.std.proofs.Math.Seq.{slice}
use Rattle.headers.specs.Head.{constructed}
use Rattle.octets.specs.Walk.{no_items}
use Rattle.tree.specs.Tree.{empty}
use Rattle.runs.specs.declared.Run.{Run}
use Rattle.runs.specs.Runs.{items_of, tree_in, Fine}
use Rattle.contents.specs.declared.Part.{Part}
use Rattle.contents.specs.declared.Span.{Span}
use Rattle.contents.specs.Search.{amount, absent, octets, first_value, first_run, bounds_of, items_in}

-- the bounds of a part's value
abbrev pub span_of : Part → Span
span_of p = record { first = p.first; past = p.past }

-- p is the first item of the run r with the octet: it has the value that is looked for, if the octet is primitive, or the run
pub record IsFirst (s : List ℕ) (r : Run) (octet : ℕ) (p : Part) : Type 0 where
  pub octet_is : p.code ≡ octet
  pub octet_not_zero : octet ≡ 0 → ⊥
  pub octet_small : octet < 16777216
  pub there : amount octet (tree_in s r) ≡ 0 → ⊥
  pub starts : 0 < p.first
  pub order : p.first ≤ p.past
  pub inside : p.past ≤ length s
  pub inner_fine : Fine s p.inner
  pub bounds : bounds_of octet (items_of s r) ≡ span_of p
  pub items : items_in octet (items_of s r) ≡ items_of s p.inner
  pub value : constructed octet ≡ false → first_value octet (tree_in s r) ≡ octets (slice p.first p.past s)
  pub tree : constructed octet ≡ true → first_run octet (tree_in s r) ≡ tree_in s p.inner

-- no item of the run r has the octet: "Absent is 0 and 0."
pub record Lacks (s : List ℕ) (r : Run) (octet : ℕ) : Type 0 where
  pub amount_is : amount octet (tree_in s r) ≡ 0
  pub bounds : bounds_of octet (items_of s r) ≡ record { first = 0; past = 0 }
  pub items : items_in octet (items_of s r) ≡ no_items
  pub value : first_value octet (tree_in s r) ≡ absent
  pub tree : first_run octet (tree_in s r) ≡ empty
