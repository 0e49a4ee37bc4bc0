-- The whole output for document 01's whole input is the one that it prints: all is computed.
use mathlib.Core.Path.{◌≡◌, refl}
use mathlib.Core.Bool.{xor}
use mathlib.Core.List.{flatten}
use Rattle.lister_text.specs.Ascii.{ascii}
use Rattle.lister_text.specs.Decimal.{decimal_in, decimal}
use Rattle.lister_text.specs.Lines.{spaced}
use Rattle.lister_text.specs.Printed.{printed}
use Rattle.lister_hex.specs.Lines.{digit_value, pairs, lines, reads_from}
use Rattle.lister_hex.specs.Examples.{input}
use Rattle.headers.specs.Head.{permits, form_allowed, big_endian_from, misfits, definite_at, indefinite_at, long_at, by_first, length_at, item_at, closing_at, head_at}
use Rattle.octets.specs.Walk.{run_for, run, walk_of}
use Rattle.names.specs.Names.{is_digit, grouped, is_identifier, all_digits, is_portion, same}
use Rattle.rows.specs.Rows.{name_space_of}
use Rattle.contents.specs.Search.{amount, first_value, first_run, items_in, bounds_of, in_order}
use Rattle.portions.specs.Portions.{all_portions, values, well_spelt, among, repeats}
use Rattle.elements.specs.Shape.{shape_of}
use Rattle.elements.specs.Judge.{body_of, content_of, element_of, items_in_order, as_tabled, names_fit, clash, twice, refusal_of, judge_one, judge_from, judge}
use Rattle.elements.specs.ShapeRefusal.{shape_refusal}
use Rattle.elements.specs.ElementRows.{body_in, content_octet, row_of, rows_of, place_of}
use Rattle.letters.specs.Letter.{letter_in}
use Rattle.reading.specs.Match.{joins, for_each, portion_matches, element_matches, matches}
use Rattle.answers.specs.Answers.{checked}
use Rattle.hexlister.specs.Output.{element_lines, match_lines, accepted_lines, stream_lines, output}

pub as-printed : output (ascii input) ≡ printed
unfolding decimal decimal_in spaced flatten digit_value pairs lines reads_from permits form_allowed big_endian_from misfits definite_at indefinite_at long_at by_first length_at item_at closing_at head_at run_for run walk_of is_digit grouped is_identifier all_digits is_portion same amount first_value first_run items_in bounds_of in_order name_space_of all_portions values well_spelt among repeats shape_of body_of content_of element_of items_in_order as_tabled names_fit clash twice shape_refusal refusal_of judge_one judge_from judge place_of body_in content_octet row_of rows_of letter_in joins for_each portion_matches element_matches matches checked element_lines match_lines accepted_lines stream_lines xor
as-printed = refl
