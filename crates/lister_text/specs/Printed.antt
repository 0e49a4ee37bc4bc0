-- The whole output that document 01 prints ("Checked examples"), and the lines that it is made of.
use Rattle.std.specs.Prelude.{ℕ}
use mathlib.Core.List.{List, [], ◌∷◌, flatten}
use Rattle.lister_text.specs.Ascii.{ascii}
use Rattle.lister_text.specs.Lines.{accepted, element, layout}

abbrev pub printed : List ℕ
printed = ascii "accepted 3 11\n0 0 2 0\n1 2 21 2\n2 21 38 3\nlayout 1 0 2\n"

abbrev pub written_lines : List ℕ
written_lines = flatten (accepted 3 11 ∷ element 0 0 2 0 ∷ element 1 2 21 2 ∷ element 2 21 38 3 ∷ layout 1 0 2 ∷ [])
