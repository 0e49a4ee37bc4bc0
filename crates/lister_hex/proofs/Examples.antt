-- Each example reads as it says: it is computed.
use mathlib.Core.Path.{◌≡◌, refl}
use mathlib.Core.List.{map}
use Rattle.lister_text.specs.Ascii.{ascii}
use Rattle.lister_hex.specs.Lines.{digit_value, pairs, lines, reads_from, reads}
use Rattle.lister_hex.specs.Examples.{examples}

pub as_said : map (λ e. reads (ascii e.0)) examples ≡ map (λ e. e.1) examples
unfolding digit_value pairs lines reads_from
as_said = refl
