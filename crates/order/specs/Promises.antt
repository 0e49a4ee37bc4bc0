-- What is promised of the order of a letter: the first page of this crate. proofs/Letters has a value of `OrderOf` for the elements of every
-- accepted stream.
use Rattle.std.specs.Prelude.{ℕ, ◌≡◌, ◌⊎◌, ◌↔◌, Bool, List, ◌++◌, map, length}
use Rattle.elements.specs.Judge.{Element}
use Rattle.reading.specs.declared.Side.{Side}
use Rattle.reading.specs.Match.{matches}
use Rattle.order.specs.declared.Class.{Class}
use Rattle.order.specs.Represents.{named, LimitsAside}
use Rattle.order.specs.Begins.{InOrder, Begins, FaultAt}

-- what the rules look at of an element besides its matches: its kind, whether it has an identifier, and how many portions it lists
pub record Look : Type 0 where
  pub kind : ℕ
  pub named : Bool
  pub lists : ℕ

abbrev pub look : Element → Look
look e = record { kind = e.kind; named = named e; lists = length e.portions }

-- both have one verdict: in order, or 26 at one element
pub record SameVerdict (class : Class) (elements others : List Element) : Type 0 where
  pub in_order : InOrder class elements ↔ InOrder class others
  pub fault : (n : ℕ) → FaultAt class elements n ↔ FaultAt class others n

pub record OrderOf (class : Class) (elements : List Element) : Type 0 where
  -- once a front fails, every longer one fails
  pub fails_on : (front more : List Element) → (Begins class front → ⊥) → Begins class (front ++ more) → ⊥
  -- in order, or out of order at one place: one of the two, and not both
  pub either : InOrder class elements ⊎ ((n : ℕ) × FaultAt class elements n)
  pub not_both : InOrder class elements → (n : ℕ) → FaultAt class elements n → ⊥
  pub one_place : (m n : ℕ) → FaultAt class elements m → FaultAt class elements n → m ≡ n
  -- "over the list of kinds and matches": other elements with the same looks and the same matches get the same verdict
  pub told_by_matches : (others : List Element) → LimitsAside others → map look elements ≡ map look others
      → ((side : Side) → matches side elements ≡ matches side others) → SameVerdict class elements others
