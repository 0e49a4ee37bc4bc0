-- The close tells of each example what it must.
use mathlib.Core.Path.{◌≡◌, refl}
use mathlib.Core.List.{map}
use Rattle.headers.specs.Head.{permits, form_allowed, big_endian_from, misfits, definite_at, indefinite_at, long_at, by_first, length_at, item_at, closing_at, head_at}
use Rattle.blocks.specs.Engine.{wanted, whole, in_header, step, fresh}
use Rattle.blocks.specs.Blocks.{start, take_block, take_blocks, close}
use Rattle.blocks.specs.Examples.{Example, examples}

pub all_hold : map (λ (e : Example). close (take_blocks (start e.total).state e.blocks)) examples ≡ map (λ (e : Example). e.told) examples
unfolding permits form_allowed big_endian_from misfits definite_at indefinite_at long_at by_first length_at item_at closing_at head_at wanted whole in_header step fresh start take_block close
all_hold = refl
