-- An element in which nothing stands: whatever its shape it says no more than its kind, so it shares no name and its row is soon made.
use mathlib.Core.Path.{◌≡◌, refl, sym, ap, ◌∙◌, subst}
use mathlib.Core.Bool.{Bool, true, false, ◌&&◌}
use mathlib.Core.List.{List, [], ◌∷◌}
use mathlib.Core.Option.{none}
use Prim.Native.Nat.{ℕ, ◌%◌, ◌≤◌}
use native.Mathlib.Omega.{arith}
use lib.Dec.{eqb}
use lib.ListN.{length}
use Rattle.headers.specs.Head.{type_field}
use Rattle.octets.specs.Walk.{no_items, Walked, ends}
use Rattle.octets.specs.Rules.{at_limit}
use Rattle.octets.proofs.RulesHold.{derived}
use Rattle.tree.specs.Tree.{empty, plain}
use Rattle.tree.specs.Accepts.{Whole}
use Rattle.runs.specs.Runs.{walk_in, items_of, Fine}
use Rattle.names.specs.Hash.{hash_from}
use Rattle.contents.specs.Search.{Value, absent, octets, amount, first_value, first_run, bounds_of, items_in, no_span}
use Rattle.portions.specs.Portions.{all_portions, values, well_spelt, repeats}
use Rattle.rows.specs.Rows.{name_space_of}
use Rattle.elements.specs.declared.Edition.{Edition}
use Rattle.elements.specs.declared.Row.{Row}
use Rattle.elements.specs.Shape.{Contents, profile, described, unit, style, protected, ContentItem, whole, pieced, Shape}
use Rattle.elements.specs.Judge.{single, holders_of, content_in, content_of, Element, no_type, body_of, element_of, names_fit, shares, clash, twice, refusal_of}
use Rattle.elements.specs.ElementRows.{holder_in, content_octet, body_in, row_of}
use Rattle.rows.specs.Columns.{portions_run}
use Rattle.elements.specs.Says.{Says}
use Rattle.judging.specs.declared.PlacedItem.{PlacedItem}
use Rattle.judging.specs.Judges.{early_refusal, shape_by, element_by, MayBeBare, Passing}
use Rattle.judging.proofs.Lists.{any_false}
use Rattle.judging.proofs.Steps.{refused-early, refused-last}

-- what it says, and its row
abbrev bare_element : (octet : ℕ) → Element
bare_element octet = record { kind = octet % 32; object = no_type; identifier = absent; logical = absent; portions = []; content = single absent }

abbrev bare_row : (code first past : ℕ) → Row
bare_row code first past = record {
  kind = code % 32;
  object = no_type;
  whole = record { first = first; past = past };
  identifier = no_span;
  logical = no_span;
  portions = no_span;
  content = no_span;
}

-- where nothing stands, nothing holds a content
holds-nothing : (holders : List ContentItem) → content_in holders empty ≡ single absent
unfolding amount
holds-nothing [] = refl
holds-nothing (whole octet ∷ others) = holds-nothing others
holds-nothing (pieced octet ∷ others) = holds-nothing others

held-nowhere : (holders : List ContentItem) → holder_in holders empty ≡ none
unfolding amount
held-nowhere [] = refl
held-nowhere (holder ∷ others) = held-nowhere others

says-nothing-by : (octet : ℕ) (contents : Contents) → element_of (record { octet = octet; contents = contents }) empty ≡ bare_element octet
unfolding element_of body_of content_of amount first_value first_run values
says-nothing-by octet profile = refl
says-nothing-by octet (described needed types) = refl
says-nothing-by octet (unit needed tiled) = rw (holds-nothing (holders_of (unit needed tiled)))
says-nothing-by octet style = refl
says-nothing-by octet (protected enciphered) = rw (holds-nothing (holders_of (protected enciphered)))

says_nothing : (shape : Shape) → element_of shape empty ≡ bare_element shape.octet
says_nothing shape = says-nothing-by shape.octet shape.contents

row-of-none-by : (octet : ℕ) (contents : Contents) (s : List ℕ) (first past : ℕ)
    → row_of (record { octet = octet; contents = contents }) s first past no_items ≡ bare_row octet first past
unfolding row_of body_in content_octet items_in bounds_of
row-of-none-by octet profile s first past = rw (says-nothing-by octet profile)
row-of-none-by octet (described needed types) s first past = rw (says-nothing-by octet (described needed types))
row-of-none-by octet (unit needed tiled) s first past =
    rw (says-nothing-by octet (unit needed tiled), held-nowhere (holders_of (unit needed tiled)))
row-of-none-by octet style s first past = rw (says-nothing-by octet style)
row-of-none-by octet (protected enciphered) s first past =
    rw (says-nothing-by octet (protected enciphered), held-nowhere (holders_of (protected enciphered)))

row-of-none : (shape : Shape) (s : List ℕ) (first past : ℕ) → row_of shape s first past no_items ≡ bare_row shape.octet first past
row-of-none shape s first past = row-of-none-by shape.octet shape.contents s first past

-- it shares no name
shares-absent : (v : Value) → shares v absent ≡ false
shares-absent absent = refl
shares-absent (octets bytes) = refl

and-false : (b : Bool) → b && false ≡ false
and-false true = refl
and-false false = refl

never-twice : (done : List Element) (octet : ℕ) → twice done (bare_element octet) ≡ false
unfolding twice clash repeats
never-twice done octet =
    rw (any_false (λ d. clash d (bare_element octet)) done
    (λ j d e. rw (shares-absent d.identifier, shares-absent d.logical) (and-false (eqb (name_space_of d.kind) (name_space_of (octet % 32))))))

-- no portions stand between 0 and 0
walked-nothing : (s : List ℕ) → walk_in s (portions_run no_span) ≡ record { items = no_items; how = ends 0 }
walked-nothing s = sym (derived (at_limit refl))

nothing-fine : (s : List ℕ) → Fine s (portions_run no_span)
nothing-fine s = record { order = omega arith; inside = omega arith; whole = subst (λ (w : Walked). Whole w.how) (sym (walked-nothing s)) tt }

row-says : (s : List ℕ) (code first past : ℕ) → Says s (bare_row code first past) (bare_element code)
unfolding all_portions values names_fit well_spelt
row-says s code first past =
    let nothing : items_of s (portions_run no_span) ≡ no_items = ap (λ (w : Walked). w.items) (walked-nothing s) in
    record {
      kind = refl;
      object = refl;
      identifier = refl;
      logical = refl;
      portions_fine = nothing-fine s;
      only_portions = rw nothing;
      portions = rw nothing;
      content = refl;
      spelt = refl;
    }

-- rules 9 to 15 of an item in which nothing stands
module _ (edition : Edition) (s : List ℕ) (done : List Element) (item : PlacedItem) (may : MayBeBare edition item.code)
    (bare : items_of s item.inner ≡ no_items) where
  abbrev early : ℕ
  early = early_refusal (length done) item.code item.code

  pub bare-refused : (n : ℕ) → n ≡ early → (n ≡ 0 → ⊥) → refusal_of edition done (type_field item.code) (plain s (items_of s item.inner)) ≡ n
  bare-refused n e some = refused-early edition done item.code (plain s (items_of s item.inner)) n (rw may.known e) some

  module _ (passed : early ≡ 0) (order : item.first ≤ item.past) (inside : item.past ≤ length s) where
    abbrev its_element : element_by edition item.code empty ≡ bare_element item.code
    its_element = says_nothing (shape_by edition item.code) ∙ ap bare_element may.known

    pub bare-passes : Passing edition s done item (bare_row item.code item.first item.past) (record { identifier = 0; logical = 0 })
    unfolding hash_from
    bare-passes =
        record {
          unrefused =
              rw bare (refused-last edition done item.code empty (rw may.known passed) may.fits false
              (rw its_element (never-twice done item.code)));
          row_is = rw bare (sym (row-of-none (shape_by edition item.code) s item.first item.past
              ∙ ap (λ (o : ℕ). bare_row o item.first item.past) may.known));
          says = rw (bare, its_element) (row-says s item.code item.first item.past);
          placed = record {
            kind = omega arith;
            object = omega arith;
            whole = record { order = order; inside = inside };
            identifier = record { order = omega arith; inside = omega arith };
            logical = record { order = omega arith; inside = omega arith };
            portions = record { order = omega arith; inside = omega arith };
            content = record { order = omega arith; inside = omega arith };
          };
          hashed = refl;
        }
