-- What the normal form keeps, row by row: its rows and those of the stream tell the same elements.
use mathlib.Core.Path.{◌≡◌, refl, ap, sym, ◌∙◌}
use mathlib.Core.Logic.{◌↔◌}
use mathlib.Core.List.{List}
use mathlib.Core.Option.{some}
use Prim.Native.Nat.{ℕ}
use native.Mathlib.Omega.{arith}
use lib.ListN.{get_elem?}
use Rattle.tree.specs.Tree.{Tree, tree_of}
use Rattle.normal.specs.Normal.{normal_form}
use Rattle.contents.specs.declared.Span.{Span}
use Rattle.contents.specs.Search.{Value, absent, octets, no_span}
use Rattle.elements.specs.declared.Row.{Row}
use Rattle.elements.specs.declared.Edition.{Edition}
use Rattle.elements.specs.Judge.{Content, single, in_pieces, Element}
use Rattle.promises.specs.Refusals.{TopItem, top_items}
use Rattle.promises.specs.Demands.{TellsValue, TellsContent, RowTells}
use Rattle.promises.specs.Kept.{SamePair, SameContent, SameRow, KeepsLetters}
use Rattle.promises.proofs.Joining.{told-bytes, same-joined}
use Rattle.promises.proofs.Demand2.{tell, top-at, normal_accepted, normal_tree}

through : {A B C : Type 0} → A ↔ C → B ↔ C → A ↔ B
through (to, from) (there, back) = (λ a. back (to a), λ b. from (there b))

absent-told : (s : List ℕ) (pair : Span) (value : Value) → TellsValue s pair value → (pair ≡ no_span) ↔ (value ≡ absent)
absent-told s pair absent e = (λ _. refl, λ _. e)
absent-told s pair (octets bytes) (e, there) = (
  λ z. let p = ap (λ (v : Span). v.past) z in absurd (omega arith),
  λ z. let y : ◌≡◌ {A = ℕ} 0 1 = cc in absurd (omega arith),
)

same-pair : (s t : List ℕ) (pair other : Span) (value : Value) → TellsValue s pair value → TellsValue t other value → SamePair s pair t other
same-pair s t pair other value a b = record {
  bytes = told-bytes s pair value a ∙ sym (told-bytes t other value b);
  absent = through (absent-told s pair value a) (absent-told t other value b);
}

same-content : (s t : List ℕ) (pair other : Span) (content : Content) → TellsContent s pair content → TellsContent t other content
    → SameContent content s pair t other
same-content s t pair other (single value) a b = same-pair s t pair other value a b
same-content s t pair other (in_pieces run) (c, _) (d, _) = (c, d)

same_rows : {edition : Edition} {s t : List ℕ} {row other : Row} {item : TopItem} {element : Element} → RowTells edition s row item element
    → RowTells edition t other item element
    → SameRow element s row t other
same_rows {s} {t} {row} {other} {element = element} a b = record {
  kind = a.kind ∙ sym b.kind;
  object = a.object ∙ sym b.object;
  identifier = same-pair s t row.identifier other.identifier element.identifier a.identifier b.identifier;
  logical = same-pair s t row.logical other.logical element.logical a.logical b.logical;
  portions = (a.portions, b.portions);
  no_portions = through a.no_portions b.no_portions;
  content = same-content s t row.content other.content element.content a.content b.content;
}

pub keeps-letters : (edition : Edition) → KeepsLetters edition
keeps-letters edition s headers elements e within =
    let again = normal_accepted edition s headers elements e within in
    record {
      rows = λ j element row other there p q.
          let (item, at) = top-at edition s headers elements e j element there in
          let kept : get_elem? (top_items (tree_of (normal_form s))) j ≡ some item =
          ap (λ (t : Tree). get_elem? (top_items t) j) (normal_tree edition s headers elements e) ∙ at in
          same_rows (tell edition s headers elements e j row item element p at there)
          (tell edition (normal_form s) headers elements again j other item element q kept there);
      joined = same-joined edition s (normal_form s) e again;
      list = λ side. rw (again, e);
    }
