-- The walk tells of each example what document 01 says, and of type numbers above 30 what W-202 says.
use mathlib.Core.Path.{◌≡◌, refl}
use mathlib.Core.List.{map}
use Rattle.headers.specs.Head.{permits, form_allowed, big_endian_from, misfits, definite_at, indefinite_at, long_at, by_first, length_at, item_at, closing_at, head_at}
use Rattle.octets.specs.Walk.{run_for, run, walk_of}
use Rattle.octets.specs.Told.{told}
use Rattle.octets.specs.Examples.{Example, examples, type_examples}

pub all_hold : map (λ (e : Example). told (walk_of e.stream)) examples ≡ map (λ (e : Example). e.told) examples
unfolding permits form_allowed big_endian_from misfits definite_at indefinite_at long_at by_first length_at item_at closing_at head_at run_for run walk_of
all_hold = refl

pub types-hold : map (λ (e : Example). told (walk_of e.stream)) type_examples ≡ map (λ (e : Example). e.told) type_examples
unfolding permits form_allowed big_endian_from misfits definite_at indefinite_at long_at by_first length_at item_at closing_at head_at run_for run walk_of
types-hold = refl
