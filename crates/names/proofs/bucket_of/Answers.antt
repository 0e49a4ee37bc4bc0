-- `names::bucket_of` meets its contract: the same mask.
use mathlib.Core.Path.{refl}
use Rattle.names.specs.Hash.{bucket}
use Rattle.names.proofs.Hashing.{bucket-below}
use Rattle.names.proofs.bucket_of.Goals as goal

pub returns : goal.returns
unfolding bucket
returns c = (refl, bucket-below c.args.buckets c.args.h c.requires.0)
