-- The examples come out as they say: all is computed.
use mathlib.Core.Path.{◌≡◌, refl}
use mathlib.Core.List.{map}
use Rattle.names.specs.Names.{is_digit, grouped, is_identifier, all_digits, is_portion, same}
use Rattle.normal.specs.Normal.{number_octets, normal_of}
use Rattle.making.specs.Entries.{parts_inside, all_spelt, used, entry_refusal, judge_entries_from}
use Rattle.making.specs.Stream.{entries_tree}
use Rattle.making.specs.Answers.{made_of, made_output}
use Rattle.promises_made.specs.Examples.{outcome, examples}

pub all_hold : map outcome examples ≡ examples
unfolding is_digit grouped is_identifier all_digits is_portion same number_octets normal_of parts_inside all_spelt used entry_refusal judge_entries_from entries_tree made_of made_output
all_hold = refl
