-- The rules of an entry, one after another, as code finds them.
use mathlib.Core.Path.{◌≡◌, refl, ap, sym, ◌∙◌}
use mathlib.Core.Bool.{Bool, true, false, false≢true, true≢false, and-eq-true_iff}
use mathlib.Core.List.{List, [], ◌∷◌}
use Prim.Native.Nat.{ℕ, suc, ◌+◌, ◌-◌, ◌<◌, ◌≤◌}
use native.Mathlib.Omega.{arith}
use lib.Dec.{leb}
use lib.ListN.{length, take, drop, length-append}
use lib.Seq.{slice}
use borrow.Author.Tests.{lt-ltb, le-ltb, leb-true}
use Rattle.std.proofs.lemmas.List.{drop-take}
use Rattle.elements.specs.ElementRows.{bytes_in}
use Rattle.names.specs.Names.{space_byte, longest_identifier, is_identifier, is_portion}
use Rattle.contents.specs.declared.Span.{Span}
use Rattle.portions.specs.Portions.{all}
use Rattle.elements.specs.Judge.{most_elements}
use Rattle.making.specs.declared.Entry.{Entry}
use Rattle.making.specs.Entries.{Said, said_by, inside, parts_inside, unit_name, all_spelt, used, elements_for, entry_refusal}
use Rattle.making.specs.Lent.{PartLies, EntryLies}
use Rattle.making.proofs.Sizes.{part-size}

-- three tests, of which the last, the second or the first tells
pub third-tells : (a b c : Bool) → a ≡ true → b ≡ true → c ≡ all (a ∷ b ∷ c ∷ [])
third-tells true true true e f = refl
third-tells true true false e f = refl
third-tells true false c e f = absurd (false≢true f)
third-tells false b c e f = absurd (false≢true e)

pub second-tells : (a b c : Bool) → a ≡ true → b ≡ false → false ≡ all (a ∷ b ∷ c ∷ [])
second-tells true true c e f = absurd (true≢false f)
second-tells true false c e f = refl
second-tells false b c e f = absurd (false≢true e)

pub first-tells : (a b c : Bool) → a ≡ false → false ≡ all (a ∷ b ∷ c ∷ [])
first-tells true b c e = absurd (true≢false e)
first-tells false b c e = refl

all_pass : (a b c : Bool) → all (a ∷ b ∷ c ∷ []) ≡ true → (a ≡ true) × (b ≡ true) × (c ≡ true)
all_pass true true true e = (refl, refl, refl)
all_pass true true false e = absurd (false≢true e)
all_pass true false c e = absurd (false≢true e)
all_pass false b c e = absurd (false≢true e)

module _ (buffer : List ℕ) where
  -- a part of the buffer that is lent has the octets of the part
  pub part-is : (part : Span) → part.first ≤ part.past → take (part.past - part.first) (drop part.first buffer) ≡ bytes_in buffer part
  part-is part order =
      let e : part.past ≡ part.first + (part.past - part.first) = omega arith in
      sym (ap (λ (k : ℕ). slice part.first k buffer) e ∙ drop-take part.first (part.past - part.first) buffer)

  part_lies : (part : Span) → inside buffer part ≡ true → PartLies buffer part
  part_lies part e =
      let p = (and-eq-true_iff (leb part.first part.past) (leb part.past (length buffer))).0 e in
      record { order = leb-true part.first part.past p.0; inside = leb-true part.past (length buffer) p.1 }

  -- how long a unit identifier is, by the bounds of its parts
  pub unit-length : (entry : Entry) → PartLies buffer entry.identifier → PartLies buffer entry.portion
      → length (unit_name (said_by buffer entry)) ≡ entry.identifier.past - entry.identifier.first + 1 + (entry.portion.past - entry.portion.first)
  unit-length entry i p =
      let said = said_by buffer entry in
      omega (arith, length-append said.identifier (space_byte ∷ said.portion), part-size buffer entry.identifier i, part-size buffer entry.portion p)

  module _ (entry : Entry) (parts : parts_inside buffer entry ≡ true) where
    lie : (inside buffer entry.identifier ≡ true) × (inside buffer entry.portion ≡ true) × (inside buffer entry.text ≡ true)
    unfolding parts_inside
    lie = all_pass (inside buffer entry.identifier) (inside buffer entry.portion) (inside buffer entry.text) parts

    pub identifier-lies : PartLies buffer entry.identifier
    identifier-lies = part_lies entry.identifier lie.0

    pub portion-lies : PartLies buffer entry.portion
    portion-lies = part_lies entry.portion lie.1

    -- what 27 and 14 leave of an entry
    pub entry-lies : all_spelt (said_by buffer entry) ≡ true → EntryLies buffer entry
    unfolding all_spelt
    entry-lies w =
        let said = said_by buffer entry in
        let p = all_pass (is_identifier said.identifier) (is_portion said.portion) (leb (length (unit_name said)) longest_identifier) w in
        record {
          identifier = identifier-lies;
          portion = portion-lies;
          text = part_lies entry.text lie.2;
          short = omega (arith, leb-true (length (unit_name said)) longest_identifier p.2, unit-length entry identifier-lies portion-lies);
        }

  -- each number by its own test, if those before it pass
  module _ (done : List Said) (entry : Entry) where
    pub refuses-27 : parts_inside buffer entry ≡ false → entry_refusal buffer done entry ≡ 27
    unfolding entry_refusal
    refuses-27 i = rw i

    module _ (i : parts_inside buffer entry ≡ true) where
      pub refuses-14 : all_spelt (said_by buffer entry) ≡ false → entry_refusal buffer done entry ≡ 14
      unfolding entry_refusal
      refuses-14 w = rw (i, w)

      module _ (w : all_spelt (said_by buffer entry) ≡ true) where
        pub refuses-15 : used done (said_by buffer entry) ≡ true → entry_refusal buffer done entry ≡ 15
        unfolding entry_refusal
        refuses-15 u = rw (i, w, u)

        pub refuses-9 : used done (said_by buffer entry) ≡ false → 2047 ≤ length done → entry_refusal buffer done entry ≡ 9
        unfolding entry_refusal
        refuses-9 u l =
            let most : most_elements < elements_for (suc (length done)) = omega arith in
            rw (i, w, u, lt-ltb most_elements (elements_for (suc (length done))) most)

        pub refuses-none : used done (said_by buffer entry) ≡ false → length done < 2047 → entry_refusal buffer done entry ≡ 0
        unfolding entry_refusal
        refuses-none u l =
            let most : elements_for (suc (length done)) ≤ most_elements = omega arith in
            rw (i, w, u, le-ltb most_elements (elements_for (suc (length done))) most)
