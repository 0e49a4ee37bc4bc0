-- What names an element, gathered in one pass: how often each octet that matters stands in the run, and the first one's value.
-- Document 01, "Element rules": "at most one 41 (its identifier), at most one A1 (portions ..), no 61 and no 81 .. at most one 40 (layout
-- identifier), at most one 84 (logical identifier), no 60 and no A4. In a style: no 65." An octet 0 stands for none: no item has it.
use Rattle.std.specs.Prelude.{◌≡◌, true, false, cond, List, ◌⊎◌, ℕ, ◌+◌, ◌<◌, ◌≤◌, eqb, length}
use Rattle.std.proofs.Math.Seq.{slice}
use Rattle.headers.specs.Head.{constructed}
use Rattle.runs.specs.declared.Run.{Run}
use Rattle.runs.specs.Runs.{items_of, tree_in, Fine}
use Rattle.contents.specs.declared.Part.{Part}
use Rattle.contents.specs.declared.Span.{Span}
use Rattle.contents.specs.declared.Tally.{Tally}
use Rattle.contents.specs.declared.Sought.{Sought}
use Rattle.contents.specs.declared.Gathered.{Gathered}
use Rattle.contents.specs.Search.{amount, absent, octets, first_value, first_run, bounds_of, items_in}
use Rattle.contents.specs.First.{span_of}
use Rattle.contents.specs.Opening.{no_part}

-- n items of the run have the octet, and the first one's value, if there is one, has the bounds v
pub record Counted (s : List ℕ) (r : Run) (octet n : ℕ) (v : Span) : Type 0 where
  pub amount_is : n ≡ amount octet (tree_in s r)
  pub bounds : v ≡ bounds_of octet (items_of s r)
  pub order : v.first ≤ v.past
  pub inside : v.past ≤ length s
  pub present : (n ≡ 0 → ⊥) → 0 < v.past
  pub value : (n ≡ 0 → ⊥) → constructed octet ≡ false → first_value octet (tree_in s r) ≡ octets (slice v.first v.past s)
  pub missing : n ≡ 0 → first_value octet (tree_in s r) ≡ absent

-- what was gathered is what the run has; list is the run inside the first item with the octet of portions
pub record Gathers (s : List ℕ) (r : Run) (sought : Sought) (g : Gathered) : Type 0 where
  pub identifier : Counted s r sought.identifier g.identifiers g.identifier
  pub logical : Counted s r sought.logical g.logicals g.logical
  pub portions : Counted s r sought.portions g.lists g.portions
  pub list_fine : Fine s g.list
  pub list_items : items_of s g.list ≡ items_in sought.portions (items_of s r)
  pub list_tree : (sought.portions ≡ 0) ⊎ (constructed sought.portions ≡ true) → tree_in s g.list ≡ first_run sought.portions (tree_in s r)
  pub barred : g.barred ≡ amount sought.never (tree_in s r) + amount sought.neither (tree_in s r)

-- no item with the octet was seen
abbrev pub unseen : Tally
unseen = record { amount = 0; part = no_part }

-- the first item that was seen, if p comes after x
abbrev pub earlier : Tally → Part → Part
earlier x p = cond (eqb x.amount 0) p x.part

-- the item p is seen after the others: it counts if it has the octet
unfoldable pub seen_with : (octet : ℕ) → Tally → Part → Tally
seen_with octet x p = cond (eqb p.code octet) (record { amount = x.amount + 1; part = earlier x p }) x

-- what was seen of three octets, as the answer
abbrev pub gathered_from : (identifier logical portions : Tally) → (barred : ℕ) → Gathered
gathered_from identifier logical portions barred = record {
  identifiers = identifier.amount;
  identifier = span_of identifier.part;
  logicals = logical.amount;
  logical = span_of logical.part;
  lists = portions.amount;
  portions = span_of portions.part;
  list = portions.part.inner;
  barred = barred;
}
