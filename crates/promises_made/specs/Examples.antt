-- Examples of what is made, that are computed: the hex lister's example of document 01 first, made of one buffer, then A000, and a refusal by
-- each number but 9 and 17.
use Rattle.std.specs.Prelude.{ℕ, List, [], ◌∷◌, replicate}
use Rattle.contents.specs.declared.Span.{Span}
use Rattle.answers.specs.declared.Written.{Written}
use Rattle.making.specs.declared.Entry.{Entry}
use Rattle.making.specs.Answers.{not_made, made_of, made_output}

pub record Example : Type 0 where
  pub entries : List Entry
  pub out : List ℕ
  pub answer : Written
  pub after : List ℕ

-- "1 0 2", "0" and "Hi", one after another
abbrev pub buffer : List ℕ
buffer = 0x31 ∷ 0x20 ∷ 0x30 ∷ 0x20 ∷ 0x32 ∷ 0x30 ∷ 0x48 ∷ 0x69 ∷ []

abbrev pub span : (first past : ℕ) → Span
span first past = record { first = first; past = past }

-- an entry with an identifier from a to b, the portion "0" and a text up to past
abbrev pub entry_of : (a b past : ℕ) → Entry
entry_of a b past = record { identifier = span a b; portion = span 5 6; text = span 6 past }

abbrev pub made_so : (length : ℕ) → Written
made_so length = record { number = 0; place = 0; length = length }

abbrev pub lister : List ℕ
lister =
    0xA0 ∷ 0x00
    ∷ 0xA2 ∷ 0x11 ∷ 0x02 ∷ 0x01 ∷ 0x04 ∷ 0x31 ∷ 0x0C ∷ 0x41 ∷ 0x05 ∷ 0x31 ∷ 0x20 ∷ 0x30 ∷ 0x20 ∷ 0x32 ∷ 0xA1 ∷ 0x03 ∷ 0x12 ∷ 0x01 ∷ 0x30
    ∷ 0xA3 ∷ 0x0F ∷ 0x31 ∷ 0x09 ∷ 0x40 ∷ 0x07 ∷ 0x31 ∷ 0x20 ∷ 0x30 ∷ 0x20 ∷ 0x32 ∷ 0x20 ∷ 0x30 ∷ 0x04 ∷ 0x02 ∷ 0x48 ∷ 0x69 ∷ []

abbrev pub examples : List Example
examples =
    record { entries = entry_of 0 5 8 ∷ []; out = replicate 38 9; answer = made_so 38; after = lister }
    ∷ record { entries = entry_of 0 5 8 ∷ []; out = replicate 37 9; answer = not_made 18 0; after = replicate 37 9 }
    ∷ record { entries = []; out = replicate 4 9; answer = made_so 2; after = 0xA0 ∷ 0x00 ∷ 9 ∷ 9 ∷ [] }
    ∷ record { entries = entry_of 0 5 9 ∷ []; out = []; answer = not_made 27 0; after = [] }
    ∷ record { entries = entry_of 0 5 5 ∷ []; out = []; answer = not_made 27 0; after = [] }
    ∷ record { entries = entry_of 0 5 8 ∷ entry_of 0 4 8 ∷ []; out = []; answer = not_made 14 1; after = [] }
    ∷ record { entries = entry_of 0 3 8 ∷ entry_of 0 1 8 ∷ entry_of 0 3 6 ∷ entry_of 0 4 8 ∷ []; out = []; answer = not_made 15 2; after = [] }
    ∷ []

-- what comes out
abbrev pub outcome : Example → Example
outcome e = record { entries = e.entries; out = e.out; answer = made_of buffer e.entries e.out; after = made_output buffer e.entries e.out }
