-- What is promised of the PM1 desk (W-210): for a partner who wants to know what a list of verdicts means. `pm1-desk` (proofs/Promises) is a value of the
-- record below.
use Rattle.std.specs.Prelude.{◌≡◌, ◌↔◌, true, ℕ, ◌≤◌, ◌<◌, length}
use mathlib.Core.List.{List, [], ◌∷◌, Memᴰ}
use Rattle.std.proofs.Math.Option.{some}
use Rattle.std.proofs.Math.ListN.{get_elem?}
use Rattle.tree.specs.Tree.{tree_of}
use Rattle.normal.specs.Normal.{normal_form}
use Rattle.elements.specs.declared.Edition.{Edition}
use Rattle.elements.specs.declared.Edition.TheVariants.{Of1988, Of1993}
use Rattle.elements.specs.Judge.{Element}
use Rattle.letters.specs.Letter.{refusal, letter_in}
use Rattle.reading.specs.Lists.{Sorted, Once}
use Rattle.promises.specs.Refusals.{TopItem, top_items, says_in}
use Rattle.answers.specs.Answers.{table_of}
use Rattle.promises.specs.Demands.{Answered, IsAccepted}
use Rattle.promises.specs.Editions.{is_protected, agree}
use Rattle.measures.specs.Verdicts.{within, essential_pairs, non_essential_pairs}
use Rattle.dimensions.specs.Dimensions.{verdict_of}
use Rattle.pm1.specs.declared.Paged.{Paged}
use Rattle.pm1.specs.Pages.{Page, is_page, pages_in}
use Rattle.pm1.specs.Answers.{list_too_short, pages_lent, paged, paged_table, paged_list, PagesOutcome}

-- a record is of a page or a page class of the stream, with the verdict that the definition gives its items
pub record OfPage (edition : Edition) (s : List ℕ) (p : Page) : Type 0 where
  pub item : TopItem
  pub there : get_elem? (top_items (tree_of s)) p.element ≡ some item
  pub page : is_page (says_in edition item).kind (says_in edition item).object ≡ true
  pub verdict_is : p.verdict ≡ verdict_of item.run

pub record Desk (edition : Edition) : Type 0 where
  -- every stream gets an answer: 0, one of 1 to 15, 16 or 30, and a place in the stream, 0 with 0 and from 16 on
  pub told : (s table : List ℕ) (room : ℕ) → Answered s (16 ∷ list_too_short ∷ []) (paged edition s table room).number (paged edition s table room).place
  -- what rules 1 to 15 refuse is refused by that number at that place
  pub refused_alike : (s : List ℕ) (number place headers : ℕ) → letter_in edition s ≡ refusal number place headers → (table : List ℕ) (room : ℕ)
      → paged edition s table room ≡ record { number = number; place = place; elements = 0; pages = 0 }
  -- a refusal lists no pages, and but for 30 it has no element count
  pub counts : (s table : List ℕ) (room : ℕ) → ((paged edition s table room).number ≡ 0 → ⊥)
      → ((paged edition s table room).pages ≡ 0) × (((paged edition s table room).number ≡ list_too_short → ⊥) → (paged edition s table room).elements ≡ 0)
  -- "list untouched"; the table is untouched too, but that 30 leaves it finished
  pub untouched : (s table list : List ℕ) → ((paged edition s table (pages_lent list)).number ≡ 0 → ⊥) → paged_list edition s table list ≡ list
  pub table_untouched : (s table : List ℕ) (room : ℕ) → ((paged edition s table room).number ≡ 0 → ⊥)
      → ((paged edition s table room).number ≡ list_too_short → ⊥) → paged_table edition s table room ≡ table
  pub table_finished : (s table : List ℕ) (room : ℕ) → (paged edition s table room).number ≡ list_too_short → paged_table edition s table room ≡ table_of edition s table
  -- the list has exactly the pages, each with its verdict,
  pub exactly : (s : List ℕ) (p : Page) → Memᴰ p (pages_in edition s) ↔ OfPage edition s p
  -- in stream order, and none twice
  pub in_order : (s : List ℕ) → Sorted (λ (p q : Page). p.element < q.element) (pages_in edition s)
  pub once : (s : List ℕ) → Once (pages_in edition s)
  -- of a letter the pages are elements that say they are one, and there are no more than elements: so long a list never meets 30
  pub said : (s : List ℕ) (a : IsAccepted edition s) (p : Page) → OfPage edition s p
      → (e : Element) × (get_elem? a.elements p.element ≡ some e) × (is_page e.kind e.object ≡ true)
  pub few : (s : List ℕ) (a : IsAccepted edition s) → length (pages_in edition s) ≤ length a.elements
  -- the verdicts do not depend on length octets: two streams with one tree have the same, and so has the normal form
  pub same_tree : (s r : List ℕ) → tree_of s ≡ tree_of r → pages_in edition s ≡ pages_in edition r
  pub normal : (s : List ℕ) → IsAccepted edition s → pages_in edition (normal_form s) ≡ pages_in edition s
  -- two outcomes of the contract are equal
  pub determined : {s table list table_a table_b list_a list_b : List ℕ} {a b : Paged} → PagesOutcome edition s table list a table_a list_a
      → PagesOutcome edition s table list b table_b list_b → (a ≡ b) × (table_a ≡ table_b) × (list_a ≡ list_b)

-- the same answer from both editions, and the same left in table and list
pub record SamePages (s table list : List ℕ) : Type 0 where
  pub pages : paged Of1993 s table (pages_lent list) ≡ paged Of1988 s table (pages_lent list)
  pub pages_table : paged_table Of1993 s table (pages_lent list) ≡ paged_table Of1988 s table (pages_lent list)
  pub pages_list : paged_list Of1993 s table list ≡ paged_list Of1988 s table list

-- What is promised of the desk and the two editions (W-213). `pm1-editions` (proofs/Editions) is a value.
pub record DeskEditions : Type 0 where
  -- "A stream with no protected parts and only items on which both editions agree gets the same answer from either."
  pub alike : (s : List ℕ) → agree (tree_of s) ≡ true → (table list : List ℕ) → SamePages s table list
  -- "never a wrong row": by 1988 a stream with a protected part fills no table
  pub no_row : (s : List ℕ) (j : ℕ) (item : TopItem) → get_elem? (top_items (tree_of s)) j ≡ some item → is_protected item.type ≡ true
      → (table : List ℕ) (room : ℕ) → paged_table Of1988 s table room ≡ table

-- every essential pair is within a non-essential one: what is within the one table is within the other
abbrev pub EssentialWithin : Type 0
EssentialWithin = (h v : ℕ) → within h v essential_pairs ≡ true → within h v non_essential_pairs ≡ true
