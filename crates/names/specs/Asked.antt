-- A name that is looked for: the bytes of its front, or its front and its back with one space between them. The latter is compared and hashed
-- in its parts, and never written out. Both are lent from whatever stream they stand in, so nothing else bounds them.
use Rattle.std.specs.Prelude.{ℕ, List, ◌∷◌, ◌++◌, Option, Some, None}
use Rattle.std.specs.Borrow.{Bor}
use Rattle.names.specs.Names.{space_byte}
use Rattle.names.specs.declared.Asked.{Asked}

-- "the element's identifier, one space, the portion"; or the first part alone
abbrev pub joined : List ℕ → Option (Bor (List ℕ)) → List ℕ
joined front None = front
joined front (Some back) = front ++ space_byte ∷ back.now

-- the bytes of a name that is looked for
abbrev pub spelling : Asked → List ℕ
spelling asked = joined asked.front.now asked.back
