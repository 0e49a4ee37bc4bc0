-- The writer gives of each example what it should.
use mathlib.Core.Path.{◌≡◌, refl}
use mathlib.Core.List.{map}
use Rattle.headers.specs.Head.{permits, form_allowed, big_endian_from, misfits, definite_at, indefinite_at, long_at, by_first, length_at, item_at, closing_at, head_at}
use Rattle.octets.specs.Walk.{run_for, run}
use Rattle.normal.specs.Normal.{number_octets, normal_of}
use Rattle.normal.specs.Writes.{answer_of}
use Rattle.normal.specs.Examples.{Example, examples, given}

pub all_hold : map (λ (e : Example). given e.stream) examples ≡ examples
unfolding permits form_allowed big_endian_from misfits definite_at indefinite_at long_at by_first length_at item_at closing_at head_at run_for run number_octets normal_of answer_of
all_hold = refl
