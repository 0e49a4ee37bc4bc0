-- The records of the places of a run are put one after another, item by item.
use mathlib.Core.Path.{◌≡◌, refl, ap, sym, ◌∙◌, subst}
use mathlib.Core.List.{List, [], ◌∷◌, ◌++◌}
use Prim.Native.Nat.{ℕ, ◌+◌, ◌*◌, ◌≤◌}
use native.Mathlib.Omega.{arith}
use lib.ListN.{length, drop, length-append}
use lib.Seq.{sets}
use Rattle.octets.specs.Walk.{no_items}
use Rattle.contents.specs.declared.Span.{Span}
use Rattle.runs.specs.declared.Run.{Run}
use Rattle.runs.specs.Runs.{items_of, Fine}
use Rattle.pieces.proofs.Putting.{part_from, back_with}
use Rattle.sources.specs.Places.{places_of}
use Rattle.sources.specs.Sources.{line_sources, source_numbers, place_numbers}
use Rattle.sources.proofs.Places.{Gives, places-none}
use Rattle.sources.proofs.Filling.{Filling, none_filled, filled, room-left, more-filled, more-set}

-- three numbers a record, and those of more places follow
pub numbers-length : (line : ℕ) (ps : List Span) → length (place_numbers line ps) ≡ 3 * length ps
unfolding source_numbers line_sources
numbers-length line [] = refl
numbers-length line (p ∷ ps) = let l = numbers-length line ps in omega arith

pub numbers-append : (line : ℕ) (ps qs : List Span) → place_numbers line (ps ++ qs) ≡ place_numbers line ps ++ place_numbers line qs
unfolding source_numbers line_sources
numbers-append line [] qs = refl
numbers-append line (p ∷ ps) qs = ap (λ (z : List ℕ). line ∷ p.first ∷ p.past ∷ z) (numbers-append line ps qs)

pub no_record : (line : ℕ) → place_numbers line [] ≡ []
unfolding source_numbers line_sources
no_record line = refl

pub one-record : (line first past : ℕ) → place_numbers line (record { first = first; past = past } ∷ []) ≡ line ∷ first ∷ past ∷ []
unfolding source_numbers line_sources
one-record line first past = refl

-- the numbers of the places of a run
abbrev numbers_of : (s : List ℕ) → (line : ℕ) → Run → List ℕ
numbers_of s line r = place_numbers line (places_of (items_of s r))

-- the places of the run `from` that are before the run `to` are put, n numbers in all
pub record PutSoFar (s : List ℕ) (line : ℕ) (from : Run) (list₀ : List ℕ) (to : Run) (n : ℕ) (list : List ℕ) : Type 0 where
  pub fine : Fine s to
  pub room : to.room ≡ from.room
  pub filling : Filling (numbers_of s line from) list₀ (numbers_of s line to) n list

pub none-put : {s : List ℕ} {line : ℕ} {from : Run} {list₀ : List ℕ} → Fine s from → PutSoFar s line from list₀ from 0 list₀
none-put f = record { fine = f; room = refl; filling = none_filled }

module _ {s : List ℕ} {line : ℕ} {from : Run} {list₀ : List ℕ} {to : Run} {n : ℕ} {list : List ℕ} (p : PutSoFar s line from list₀ to n list) where
  -- at the end of the run all are put
  pub all-put : items_of s to ≡ no_items → (n ≡ 3 * length (places_of (items_of s from))) × (list ≡ numbers_of s line from ++ drop n list₀)
  all-put e =
      let all = filled p.filling (ap (place_numbers line) (places-none s to e) ∙ no_record line) in
      (all.0 ∙ numbers-length line (places_of (items_of s from)), all.1)

  module _ {own : List Span} {rest : Run} (g : Gives s to own rest) where
    given : numbers_of s line to ≡ place_numbers line own ++ numbers_of s line rest
    given = ap (place_numbers line) g.gives ∙ numbers-append line own (places_of (items_of s rest))

    -- there is room for the next
    pub fits : 3 * length (places_of (items_of s from)) ≤ length list₀ → n + 3 * length own ≤ length list
    fits l =
        let all = numbers-length line (places_of (items_of s from)) in
        let left = room-left p.filling (omega arith) in
        let size = ap length given ∙ length-append (place_numbers line own) (numbers_of s line rest) in
        omega (arith, numbers-length line own)

    on : {k : ℕ} {after : List ℕ} → Filling (numbers_of s line from) list₀ (numbers_of s line rest) k after → PutSoFar s line from list₀ rest k after
    on f = record { fine = g.fine; room = g.room ∙ p.room; filling = f }

    -- by a call
    pub more-put : (k : ℕ) (ys : List ℕ) → k ≡ 3 * length own → n + k ≤ length list → ys ≡ place_numbers line own ++ drop k (part_from list n)
        → PutSoFar s line from list₀ rest (n + k) (back_with list n ys)
    more-put k ys m l y =
        on (more-filled p.filling (place_numbers line own) (numbers_of s line rest) given k (m ∙ sym (numbers-length line own)) l ys y)

  -- by stores
  pub one-put : {first past : ℕ} {rest : Run} → Gives s to (record { first = first; past = past } ∷ []) rest → n + 3 ≤ length list
      → (after : List ℕ) → after ≡ sets list n (line ∷ first ∷ past ∷ []) → PutSoFar s line from list₀ rest (n + 3) after
  one-put {first} {past} {rest} g l after e =
      on g (more-set p.filling (line ∷ first ∷ past ∷ []) (numbers_of s line rest)
      (given g ∙ ap (λ (z : List ℕ). z ++ numbers_of s line rest) (one-record line first past)) 3 refl l after e)

  -- a piece with no octets is passed
  pub none_more : {rest : Run} → Gives s to [] rest → PutSoFar s line from list₀ rest n list
  none_more {rest} g =
      let same : numbers_of s line to ≡ numbers_of s line rest = ap (place_numbers line) g.gives in
      record {
        fine = g.fine;
        room = g.room ∙ p.room;
        filling = subst (λ (z : List ℕ). Filling (numbers_of s line from) list₀ z n list) same p.filling;
      }
