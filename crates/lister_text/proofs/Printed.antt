-- What document 01 prints is what the lines make: it is computed.
use mathlib.Core.Path.{◌≡◌, refl}
use mathlib.Core.List.{flatten}
use Rattle.lister_text.specs.Decimal.{decimal_in, decimal}
use Rattle.lister_text.specs.Lines.{spaced}
use Rattle.lister_text.specs.Printed.{printed, written_lines}

pub as-printed : written_lines ≡ printed
unfolding decimal decimal_in spaced flatten
as-printed = refl
