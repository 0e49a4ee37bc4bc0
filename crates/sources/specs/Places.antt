-- Where the octets of a content stand: of each piece that has octets, the bounds of its value in the stream. `joined` (crate pieces) has the octets and no
-- places; `read-places` (proofs/Places) shows that these are the places of those octets. An empty piece shows nothing and has no place.
use Rattle.std.specs.Prelude.{cond, List, [], ◌∷◌, ◌++◌, ℕ, ◌+◌, ◌-◌, ◌<◌, ◌≤◌, ltb}
use Rattle.std.proofs.Math.Seq.{slice}
use Rattle.headers.specs.Head.{constructed}
use Rattle.octets.specs.Walk.{Items, no_items, item}
use Rattle.contents.specs.declared.Span.{Span}

-- the place of a piece, if it has octets
abbrev pub piece_at : (first past : ℕ) → List Span
piece_at first past = cond (ltb first past) (record { first = first; past = past } ∷ []) []

-- the places of the pieces of a run, in order: a primitive item is a piece, and a constructed one holds pieces
unfoldable pub places_of : Items → List Span
places_of no_items = []
places_of (item at code first past inside after) = cond (constructed code) (places_of inside) (piece_at first past) ++ places_of after

-- the octets that stand at some places, one after another
unfoldable pub octets_at : (s : List ℕ) → List Span → List ℕ
octets_at s [] = []
octets_at s (p ∷ ps) = slice p.first p.past s ++ octets_at s ps

-- where the octet k of these stands in the stream
unfoldable pub origin_of : List Span → (k : ℕ) → ℕ
origin_of [] k = 0
origin_of (p ∷ ps) k =
    let size = p.past - p.first in
    cond (ltb k size) (p.first + k) (origin_of ps (k - size))

-- places between `from` and `to` that ascend: each has an octet, and begins where the one before it ends or later
abbrev pub Ascend : (from to : ℕ) → List Span → Type 0
Ascend from to [] = from ≤ to
Ascend from to (p ∷ ps) = (from ≤ p.first) × (p.first < p.past) × Ascend p.past to ps
