-- The examples are shown as they say.
use mathlib.Core.Path.{◌≡◌, refl}
use mathlib.Core.List.{map}
use Rattle.characters.specs.Utf8.{utf8, utf8s}
use Rattle.characters.specs.Sets.{supplement, left_point, right_point, point_of}
use Rattle.characters.specs.Pairs.{composed, combining}
use Rattle.characters.specs.Signs.{alone, first_sign, signs, utf8_of, text_of}
use Rattle.promises_characters.specs.Examples.{Example, codes, examples}

pub all-examples : map (λ (e : Example). text_of e.set e.octets) examples ≡ map (λ (e : Example). utf8s (codes e.text)) examples
unfolding utf8 utf8s supplement left_point right_point point_of composed combining alone first_sign signs utf8_of
all-examples = refl
