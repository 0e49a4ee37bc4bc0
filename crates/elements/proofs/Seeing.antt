-- What is seen of an element is what was found of it: the first rule of 12 to 14 that refuses, or its row.
use mathlib.Core.Path.{◌≡◌, sym, ◌∙◌}
use mathlib.Core.Bool.{true, false, and-false}
use mathlib.Core.List.{List}
use Prim.Native.Nat.{ℕ, ◌<◌}
use native.Mathlib.Nat.{mod-lt}
use native.Mathlib.Omega.{arith}
use Rattle.std.specs.Prelude.{Some, None, Ok, Err}
use Rattle.runs.specs.declared.Run.{Run}
use Rattle.runs.specs.Runs.{tree_in}
use Rattle.contents.specs.declared.Gathered.{Gathered}
use Rattle.contents.specs.declared.Span.{Span}
use Rattle.contents.specs.Search.{first_run, first_value}
use Rattle.pieces.specs.Pieces.{bit_pieces}
use Rattle.portions.specs.declared.PortionList.{PortionList}
use Rattle.elements.specs.declared.Frame.{Frame}
use Rattle.elements.specs.declared.Slots.{Slots}
use Rattle.elements.specs.Judge.{pieces_alone, names_fit}
use Rattle.elements.specs.Slots.{slot_content, slot_ordered, slot_tabled, slot_refusal}
use Rattle.elements.specs.Says.{Placed}
use Rattle.elements.specs.Frames.{Types}
use Rattle.elements.specs.Sees.{tabled_by, spelt_by, row_by, SeesSlots}
use Rattle.elements.proofs.Bounding.{counted-placed}
use Rattle.elements.proofs.Findings.{Findings, element_in, mixed-untabled, tabled-by, names-by}
use Rattle.elements.proofs.Passing.{passes-by}

-- contents not as tabled: items out of order, or another item among the pieces of the content or of a seal
untabled : (s : List ℕ) (shape : Slots) (r : Run) (first past : ℕ) (numbers : List ℕ)
    → slot_tabled shape (tree_in s r) ≡ false → SeesSlots s shape r first past numbers (Err 12)
unfolding slot_refusal
untabled s shape r first past numbers e = record { refusal = rw e; there = λ z. omega arith }

module _ (s : List ℕ) (shape : Slots) (r : Run) (first past : ℕ) (numbers : List ℕ) where
  pub sees-unordered : slot_ordered shape (tree_in s r) ≡ false → SeesSlots s shape r first past numbers (Err 12)
  unfolding slot_tabled
  sees-unordered e = untabled s shape r first past numbers (rw e)

  pub sees-others : pieces_alone (slot_content shape (tree_in s r)) ≡ false → SeesSlots s shape r first past numbers (Err 12)
  unfolding slot_tabled
  sees-others e = untabled s shape r first past numbers (rw (e, and-false (slot_ordered shape (tree_in s r))))

  pub sees-seal : bit_pieces (first_run shape.seal (tree_in s r)) ≡ false → SeesSlots s shape r first past numbers (Err 12)
  unfolding slot_tabled
  sees-seal e =
      untabled s shape r first past numbers
      (rw (e, and-false (pieces_alone (slot_content shape (tree_in s r))), and-false (slot_ordered shape (tree_in s r))))

-- 12
module _ {s : List ℕ} {shape : Slots} {r : Run} {frame : Frame} {g : Gathered} {numbers : List ℕ} (whole : Span) where
  pub sees-mixed : Findings s shape r frame g None numbers → SeesSlots s shape r whole.first whole.past numbers (Err 12)
  sees-mixed f = untabled s shape r whole.first whole.past numbers (mixed-untabled f)

module _ {s : List ℕ} {shape : Slots} {r : Run} {frame : Frame} {g : Gathered} {listed : PortionList} {numbers : List ℕ}
    (f : Findings s shape r frame g (Some listed) numbers) (whole : Span) where
  pub sees-untabled : tabled_by shape.identifier.needed g ≡ false → SeesSlots s shape r whole.first whole.past numbers (Err 12)
  sees-untabled t = untabled s shape r whole.first whole.past numbers (sym (tabled-by f) ∙ t)

  module _ (t : tabled_by shape.identifier.needed g ≡ true) where
    tabled : slot_tabled shape (tree_in s r) ≡ true
    tabled = sym (tabled-by f) ∙ t

    -- 13
    pub sees-untyped : Types shape.types (first_value shape.object (tree_in s r)) None → SeesSlots s shape r whole.first whole.past numbers (Err 13)
    unfolding slot_refusal
    sees-untyped u = record { refusal = rw (tabled, u); there = λ z. omega arith }

    module _ (object : ℕ) (types : Types shape.types (first_value shape.object (tree_in s r)) (Some object)) where
      -- 14
      pub sees-misspelt : spelt_by (element_in shape s r).identifier (element_in shape s r).logical listed ≡ false
          → SeesSlots s shape r whole.first whole.past numbers (Err 14)
      unfolding slot_refusal
      sees-misspelt q =
          let misspelt : names_fit (element_in shape s r) ≡ false = sym (names-by f) ∙ q in
          record { refusal = rw (tabled, types.0, misspelt); there = λ z. omega arith }

      -- none of the rules refuses
      pub sees-well : object < 256 → Placed s whole → Placed s frame.content.value
          → spelt_by (element_in shape s r).identifier (element_in shape s r).logical listed ≡ true
          → SeesSlots s shape r whole.first whole.past numbers (Ok (record { row = row_by shape frame object g whole; count = listed.count }))
      unfolding slot_refusal
      sees-well small w content q =
          let spelt : names_fit (element_in shape s r) ≡ true = sym (names-by f) ∙ q in
          record {
            unrefused = rw (tabled, types.0, spelt);
            placed = record {
              kind = mod-lt shape.octet {m = 32} (omega arith);
              object = small;
              whole = w;
              identifier = counted-placed f.gathers.identifier;
              logical = counted-placed f.gathers.logical;
              portions = counted-placed f.gathers.portions;
              content = content;
            };
            passes = passes-by f whole object types.1 q;
          }
