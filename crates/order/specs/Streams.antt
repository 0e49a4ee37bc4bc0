-- Streams, and what is answered of each by class A and by class B. All but the last are accepted: some are in both orders, some in one, some
-- in neither.
use Rattle.std.specs.Prelude.{ℕ, ◌+◌, List, [], ◌∷◌, ◌++◌}
use Rattle.order.specs.declared.Ordered.{Ordered}
use Rattle.order.specs.Question.{verdict}

pub record Stream : Type 0 where
  pub a : Ordered
  pub b : Ordered
  pub stream : List ℕ

abbrev pub asked : (a b : Ordered) → List ℕ → Stream
asked a b stream = record { a = a; b = b; stream = stream }

abbrev pub profile : List ℕ
profile = 0xA0 ∷ 0x00 ∷ []

-- a class or an object with the identifier "a b" that lists portion 0
abbrev pub lists : (octet object a b : ℕ) → List ℕ
lists octet object a b =
    octet ∷ 0x0F ∷ 0x02 ∷ 0x01 ∷ object ∷ 0x31 ∷ 0x0A ∷ 0x41 ∷ 0x03 ∷ (48 + a) ∷ 0x20 ∷ (48 + b) ∷ 0xA1 ∷ 0x03 ∷ 0x12 ∷ 0x01 ∷ 0x30 ∷ []

abbrev pub block : (a b : ℕ) → List ℕ
block a b = lists 0xA2 4 a b

-- a layout style
abbrev pub style : List ℕ
style = 0xA8 ∷ 0x05 ∷ 0x45 ∷ 0x03 ∷ 0x34 ∷ 0x20 ∷ 0x30 ∷ []

-- the text unit of portion 0 of the element "a b", by its layout identifier; and of two elements, by both its identifiers
abbrev pub of_layout : (a b : ℕ) → List ℕ
of_layout a b =
    0xA3 ∷ 0x0C ∷ 0x31 ∷ 0x07 ∷ 0x40 ∷ 0x05 ∷ (48 + a) ∷ 0x20 ∷ (48 + b) ∷ 0x20 ∷ 0x30 ∷ 0x04 ∷ 0x01 ∷ 0x78 ∷ []

abbrev pub of_both : (a b c d : ℕ) → List ℕ
of_both a b c d =
    0xA3 ∷ 0x13 ∷ 0x31 ∷ 0x0E ∷ 0x40 ∷ 0x05 ∷ (48 + a) ∷ 0x20 ∷ (48 + b) ∷ 0x20 ∷ 0x30
    ∷ 0x84 ∷ 0x05 ∷ (48 + c) ∷ 0x20 ∷ (48 + d) ∷ 0x20 ∷ 0x30 ∷ 0x04 ∷ 0x01 ∷ 0x78 ∷ []

abbrev pub streams : List Stream
streams =
    -- in both orders: the profile alone; a block and its unit
    asked (verdict 0 0) (verdict 0 0) profile
    ∷ asked (verdict 0 0) (verdict 0 0) (profile ++ block 1 0 ++ of_layout 1 0)
    -- in the order of class A: two blocks, then their units; a layout style
    ∷ asked (verdict 0 0) (verdict 26 19) (profile ++ block 1 0 ++ block 1 1 ++ of_layout 1 0 ++ of_layout 1 1)
    ∷ asked (verdict 0 0) (verdict 26 2) (profile ++ style)
    -- in that of class B: two blocks, each with its unit
    ∷ asked (verdict 26 33) (verdict 0 0) (profile ++ block 1 0 ++ of_layout 1 0 ++ block 1 1 ++ of_layout 1 1)
    -- in neither: a unit before its block; a unit missing, at the stream's length; a generic unit that a later object lists too
    ∷ asked (verdict 26 2) (verdict 26 2) (profile ++ of_layout 1 0 ++ block 1 0)
    ∷ asked (verdict 26 19) (verdict 26 19) (profile ++ block 1 0)
    ∷ asked (verdict 26 40) (verdict 26 40) (profile ++ lists 0xA1 4 0 0 ++ of_both 0 0 3 0 ++ lists 0xA6 2 3 0)
    -- refused by 11: no profile
    ∷ asked (verdict 11 0) (verdict 11 0) (block 1 0)
    ∷ []
