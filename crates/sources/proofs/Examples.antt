-- Two letters, with the numbers that the question puts for a side, worked out by hand: all is computed.
use mathlib.Core.Path.{◌≡◌, refl}
use mathlib.Core.Bool.{xor}
use mathlib.Core.List.{List, [], ◌∷◌, map}
use Prim.Native.Nat.{ℕ}
use Rattle.headers.specs.Head.{permits, form_allowed, big_endian_from, misfits, definite_at, indefinite_at, long_at, by_first, length_at, item_at, closing_at, head_at}
use Rattle.octets.specs.Walk.{run_for, run, walk_of}
use Rattle.names.specs.Names.{is_identifier, grouped, is_digit, is_portion, all_digits, same}
use Rattle.rows.specs.Rows.{name_space_of}
use Rattle.contents.specs.Search.{amount, first_value, first_run, bounds_of, items_in, in_order}
use Rattle.pieces.specs.Pieces.{only_pieces}
use Rattle.portions.specs.Portions.{all_portions, values, well_spelt, repeats, among}
use Rattle.elements.specs.declared.Edition.TheVariants.{Of1988}
use Rattle.elements.specs.Shape.{shape_of}
use Rattle.elements.specs.Judge.{body_of, content_of, element_of, items_in_order, as_tabled, names_fit, clash, twice, refusal_of, judge_one, judge_from, judge}
use Rattle.elements.specs.ElementRows.{content_octet}
use Rattle.letters.specs.Letter.{letter_in}
use Rattle.reading.specs.declared.Side.TheVariants.{Layout}
use Rattle.reading.specs.Match.{joins, for_each, portion_matches, element_matches, matches}
use Rattle.sources.specs.Places.{places_of}
use Rattle.sources.specs.Units.{places_with, content_places, places_of_each, places_in}
use Rattle.sources.specs.Sources.{line_sources, sources_from, sources_in, source_numbers}

-- samples/letters/in-pieces.odif: a profile; a page "1 0 2" with the portion 0; and its unit, whose content is a 24 with "H" and "i"
abbrev in_pieces : List ℕ
in_pieces =
    0xA0 ∷ 0x00
    ∷ 0xA2 ∷ 0x11 ∷ 0x02 ∷ 0x01 ∷ 0x04 ∷ 0x31 ∷ 0x0C ∷ 0x41 ∷ 0x05 ∷ 0x31 ∷ 0x20 ∷ 0x30 ∷ 0x20 ∷ 0x32 ∷ 0xA1 ∷ 0x03 ∷ 0x12 ∷ 0x01 ∷ 0x30
    ∷ 0xA3 ∷ 0x13 ∷ 0x31 ∷ 0x09 ∷ 0x40 ∷ 0x07 ∷ 0x31 ∷ 0x20 ∷ 0x30 ∷ 0x20 ∷ 0x32 ∷ 0x20 ∷ 0x30
    ∷ 0x24 ∷ 0x06 ∷ 0x04 ∷ 0x01 ∷ 0x48 ∷ 0x04 ∷ 0x01 ∷ 0x69 ∷ []

-- line 0 shows the octet 38, and then the octet 41
abbrev in_pieces_records : List ℕ
in_pieces_records = 0 ∷ 38 ∷ 39 ∷ 0 ∷ 41 ∷ 42 ∷ []

-- A profile; a page "1" with the portions 0 and 1; the unit of the second, whose content is one 04, "c"; and the unit of the first, whose content is an
-- indefinite 24 with "a", an empty 04, and a 24 with "b".
abbrev turned : List ℕ
turned =
    0xA0 ∷ 0x00
    ∷ 0xA2 ∷ 0x10 ∷ 0x02 ∷ 0x01 ∷ 0x02 ∷ 0x31 ∷ 0x0B ∷ 0x41 ∷ 0x01 ∷ 0x31 ∷ 0xA1 ∷ 0x06 ∷ 0x12 ∷ 0x01 ∷ 0x30 ∷ 0x12 ∷ 0x01 ∷ 0x31
    ∷ 0xA3 ∷ 0x0A ∷ 0x31 ∷ 0x05 ∷ 0x40 ∷ 0x03 ∷ 0x31 ∷ 0x20 ∷ 0x31 ∷ 0x04 ∷ 0x01 ∷ 0x63
    ∷ 0xA3 ∷ 0x15 ∷ 0x31 ∷ 0x05 ∷ 0x40 ∷ 0x03 ∷ 0x31 ∷ 0x20 ∷ 0x30
    ∷ 0x24 ∷ 0x80 ∷ 0x04 ∷ 0x01 ∷ 0x61 ∷ 0x04 ∷ 0x00 ∷ 0x24 ∷ 0x03 ∷ 0x04 ∷ 0x01 ∷ 0x62 ∷ 0x00 ∷ 0x00 ∷ []

-- line 0 is portion 0, the later unit: its "a" and its "b"; line 1 is portion 1, the earlier one
abbrev turned_records : List ℕ
turned_records = 0 ∷ 45 ∷ 46 ∷ 0 ∷ 52 ∷ 53 ∷ 1 ∷ 31 ∷ 32 ∷ []

-- a stream with the numbers of its layout side
pub record Example : Type 0 where
  pub stream : List ℕ
  pub records : List ℕ

abbrev pub examples : List Example
examples = record { stream = in_pieces; records = in_pieces_records } ∷ record { stream = turned; records = turned_records } ∷ []

-- their layout sides
pub as-told : map (λ (e : Example). source_numbers (sources_in Of1988 Layout e.stream)) examples ≡ map (λ (e : Example). e.records) examples
unfolding permits form_allowed big_endian_from misfits definite_at indefinite_at long_at by_first length_at item_at closing_at head_at run_for run walk_of amount first_value first_run bounds_of items_in in_order only_pieces all_portions values well_spelt repeats name_space_of shape_of body_of content_of element_of items_in_order as_tabled names_fit clash twice refusal_of judge_one judge_from judge content_octet letter_in joins for_each portion_matches element_matches matches places_of places_with content_places places_of_each places_in line_sources sources_from source_numbers sources_in is_identifier grouped is_digit is_portion all_digits same among xor
as-told = refl
