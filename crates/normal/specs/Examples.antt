-- Examples of the writer that are proved, document 01's starred one first: a stream that the walk accepts, and what the writer gives with an output of
-- eight octets.
use Rattle.std.specs.Prelude.{ℕ, List, [], ◌∷◌}
use Rattle.normal.specs.Normal.{normal_form}
use Rattle.normal.specs.Writes.{Answer, written, refused, answer_of, output_of}

pub record Example : Type 0 where
  pub stream : List ℕ
  pub answer : Answer
  pub output : List ℕ

-- the output as it is lent
abbrev pub lent : List ℕ
lent = 9 ∷ 9 ∷ 9 ∷ 9 ∷ 9 ∷ 9 ∷ 9 ∷ 9 ∷ []

-- an item of every form of length; a normal form that is one octet too long
abbrev pub examples : List Example
examples =
    record { stream = 0xA0 ∷ 0x80 ∷ 0x00 ∷ 0x00 ∷ []; answer = written 2; output = 0xA0 ∷ 0x00 ∷ 9 ∷ 9 ∷ 9 ∷ 9 ∷ 9 ∷ 9 ∷ [] }
    ∷ record { stream = 0xA0 ∷ 0x00 ∷ []; answer = written 2; output = 0xA0 ∷ 0x00 ∷ 9 ∷ 9 ∷ 9 ∷ 9 ∷ 9 ∷ 9 ∷ [] }
    ∷ record {
      stream = 0xA0 ∷ 0x80 ∷ 0x04 ∷ 0x82 ∷ 0x00 ∷ 0x01 ∷ 0x07 ∷ 0x00 ∷ 0x00 ∷ [];
      answer = written 5;
      output = 0xA0 ∷ 0x03 ∷ 0x04 ∷ 0x01 ∷ 0x07 ∷ 9 ∷ 9 ∷ 9 ∷ [];
    }
    ∷ record { stream = 0xA0 ∷ 0x07 ∷ 0x04 ∷ 0x05 ∷ 1 ∷ 2 ∷ 3 ∷ 4 ∷ 5 ∷ []; answer = refused 18 0; output = lent }
    ∷ []

-- what the writer gives
abbrev pub given : List ℕ → Example
given s =
    let a = answer_of (normal_form s) lent in
    record { stream = s; answer = a; output = output_of a (normal_form s) lent }
