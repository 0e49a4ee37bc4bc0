-- `reading::unit_of` meets its contract: the hash goes on over the portion, and the name is looked up in its parts.
use mathlib.Core.Path.{refl}
use Rattle.names.proofs.Hashing.{hash-joined}
use Rattle.reading.proofs.unit_of.Goals as goal

pub find-requires : goal.find-requires
find-requires c =
    let a = c.args in
    record {
      bounded = c.requires.bounded;
      filed = c.requires.filed;
      hashed_value = hash-joined a.name.now a.portion.now refl c.requires.hashed_value.0 c.hash_over-whole.ensures.0;
    }
