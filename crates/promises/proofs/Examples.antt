-- Each starred example comes out as document 01 says, and content in pieces as W-201 says: all is computed.
use mathlib.Core.Path.{◌≡◌, refl}
use mathlib.Core.Bool.{xor}
use mathlib.Core.List.{map}
use Rattle.headers.specs.Head.{permits, form_allowed, big_endian_from, misfits, definite_at, indefinite_at, long_at, by_first, length_at, item_at, closing_at, head_at}
use Rattle.octets.specs.Walk.{run_for, run, walk_of}
use Rattle.normal.specs.Normal.{number_octets, normal_of}
use Rattle.rows.specs.Rows.{name_space_of}
use Rattle.contents.specs.Search.{amount, first_value, first_run, in_order}
use Rattle.pieces.specs.Pieces.{only_pieces, joined}
use Rattle.portions.specs.Portions.{all_portions, values, well_spelt, repeats}
use Rattle.elements.specs.Shape.{shape_of}
use Rattle.elements.specs.Judge.{body_of, content_of, element_of, items_in_order, as_tabled, names_fit, clash, twice, refusal_of, judge_one, judge_from, judge}
use Rattle.elements.specs.ElementRows.{place_of}
use Rattle.letters.specs.Letter.{letter_in}
use Rattle.answers.specs.Answers.{checked, written, written_output, joined_in, copied, copied_output}
use Rattle.promises.specs.Examples.{Example, outcome, examples, JoinedExample, joined_outcome, joined_examples}

pub all_hold : map (λ (e : Example). outcome e.stream) examples ≡ examples
unfolding permits form_allowed big_endian_from misfits definite_at indefinite_at long_at by_first length_at item_at closing_at head_at run_for run walk_of number_octets normal_of amount first_value first_run all_portions values well_spelt repeats shape_of body_of content_of element_of items_in_order as_tabled names_fit clash twice refusal_of judge_one judge_from judge place_of letter_in checked written written_output xor
all_hold = refl

pub joined-hold : map (λ (e : JoinedExample). joined_outcome e.stream e.asked) joined_examples ≡ joined_examples
unfolding permits form_allowed big_endian_from misfits definite_at indefinite_at long_at by_first length_at item_at closing_at head_at run_for run walk_of amount first_value first_run in_order only_pieces joined all_portions values well_spelt repeats name_space_of shape_of body_of content_of element_of items_in_order as_tabled names_fit clash twice refusal_of judge_one judge_from judge place_of letter_in joined_in copied copied_output xor
joined-hold = refl
