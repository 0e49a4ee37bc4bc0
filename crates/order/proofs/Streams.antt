-- Streams are answered as the table of them says: all is computed, from octets to number and place. So the rules accept streams in both
-- orders, in either and in neither.
use mathlib.Core.Path.{◌≡◌, refl}
use mathlib.Core.Bool.{xor}
use mathlib.Core.List.{map}
use Rattle.headers.specs.Head.{permits, form_allowed, big_endian_from, misfits, definite_at, indefinite_at, long_at, by_first, length_at, item_at, closing_at, head_at}
use Rattle.octets.specs.Walk.{run_for, run, walk_of}
use Rattle.names.specs.Names.{is_digit, grouped, is_identifier, all_digits, is_portion, same}
use Rattle.rows.specs.Rows.{name_space_of}
use Rattle.contents.specs.Search.{amount, first_value, first_run, in_order}
use Rattle.pieces.specs.Pieces.{only_pieces, joined}
use Rattle.portions.specs.Portions.{all_portions, values, well_spelt, repeats, among}
use Rattle.elements.specs.declared.Edition.TheVariants.{Of1988}
use Rattle.elements.specs.Shape.{shape_of}
use Rattle.elements.specs.Judge.{body_of, content_of, element_of, items_in_order, as_tabled, names_fit, clash, twice, refusal_of, judge_one, judge_from, judge}
use Rattle.elements.specs.ElementRows.{place_of}
use Rattle.letters.specs.Letter.{letter_in}
use Rattle.reading.specs.Match.{joins}
use Rattle.order.specs.Represents.{represents, is_associated, is_represented, all_represented, everything, keep}
use Rattle.order.specs.Ranks.{rank_in}
use Rattle.order.specs.ClassA.{represents_some, rank_a, ordered_by, listed_of, in_step}
use Rattle.order.specs.ClausesB.{next_b, scan_b, may_go_on, begins_b, ordered_b}
use Rattle.order.specs.ClausesA.{profile_first, ascends, awaited, may_come, placed_a, begins_a, ordered_a}
use Rattle.order.specs.declared.Class.TheVariants.{A, B}
use Rattle.order.specs.Fault.{fault_from}
use Rattle.order.specs.Computed.{order_in}
use Rattle.order.specs.Streams.{Stream, streams}

pub by-class-a : map (λ (x : Stream). order_in Of1988 A x.stream) streams ≡ map (λ (x : Stream). x.a) streams
unfolding permits form_allowed big_endian_from misfits definite_at indefinite_at long_at by_first length_at item_at closing_at head_at run_for run walk_of amount first_value first_run in_order only_pieces joined all_portions values well_spelt repeats among is_digit grouped is_identifier all_digits is_portion same name_space_of shape_of body_of content_of element_of items_in_order as_tabled names_fit clash twice refusal_of judge_one judge_from judge place_of letter_in xor fault_from begins_a ordered_a placed_a profile_first ascends rank_a rank_in in_step listed_of ordered_by keep represents_some everything may_come awaited all_represented is_represented is_associated represents joins order_in
by-class-a = refl

pub by-class-b : map (λ (x : Stream). order_in Of1988 B x.stream) streams ≡ map (λ (x : Stream). x.b) streams
unfolding permits form_allowed big_endian_from misfits definite_at indefinite_at long_at by_first length_at item_at closing_at head_at run_for run walk_of amount first_value first_run in_order only_pieces joined all_portions values well_spelt repeats among is_digit grouped is_identifier all_digits is_portion same name_space_of shape_of body_of content_of element_of items_in_order as_tabled names_fit clash twice refusal_of judge_one judge_from judge place_of letter_in xor fault_from begins_b ordered_b scan_b next_b may_go_on rank_in all_represented is_represented is_associated represents joins order_in
by-class-b = refl
