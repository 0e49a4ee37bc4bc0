-- What the contract of the list rules out: no list of two answers, none with no record though there is a match, none with one though
-- there are two.
use mathlib.Core.Path.{◌≡◌, ap, sym, ◌∙◌}
use mathlib.Core.List.Memᴰ
use mathlib.Core.List.{List, [], ◌∷◌, ◌++◌, Memᴰ}
use Prim.Native.Nat.{ℕ, ◌*◌, ◌<◌}
use native.Mathlib.Omega.{arith}
use lib.ListN.{length, drop}
use Rattle.elements.specs.Judge.{Element}
use Rattle.reading.specs.declared.Match.{Match}
use Rattle.reading.specs.declared.Side.{Side}
use Rattle.reading.specs.Match.{matches, IsMatch}
use Rattle.reading.specs.Records.{numbers_of, ListsMatches}
use Rattle.reading.proofs.Matches.{matches-all}

module _ {side : Side} {elements : List Element} {before after : List ℕ} {count : ℕ} (lists : ListsMatches side elements before after count) where
  -- the list and its count are determined
  pub determined : {after' : List ℕ} {count' : ℕ} → ListsMatches side elements before after' count' → (after ≡ after') × (count ≡ count')
  determined other =
      let same : count ≡ _ = lists.counted ∙ sym other.counted in
      (lists.stored ∙ ap (λ (k : ℕ). numbers_of (matches side elements) ++ drop (3 * k) before) same ∙ sym other.stored, same)

  some-record : (ms : List Match) (m : Match) → Memᴰ m ms → 0 < length ms
  some-record [] m i = absurd (Memᴰ.not-nil i)
  some-record (x ∷ ms) m i = omega arith

  -- a lister that writes nothing and answers 0 is wrong wherever there is a match
  pub not-nothing : (m : Match) → IsMatch side elements m → count ≡ 0 → ⊥
  not-nothing m is e = omega (arith, lists.counted, some-record (matches side elements) m (matches-all side elements m is))

  two_records : (ms : List Match) (m n : Match) → (m ≡ n → ⊥) → Memᴰ m ms → Memᴰ n ms → 1 < length ms
  two_records [] m n d i j = absurd (Memᴰ.not-nil i)
  two_records (x ∷ []) m n d i j = absurd (d (Memᴰ.eq_of_singleton i ∙ sym (Memᴰ.eq_of_singleton j)))
  two_records (x ∷ y ∷ ms) m n d i j = omega arith

  -- one that stops after the first is wrong wherever there are two
  pub not-one : (m n : Match) → (m ≡ n → ⊥) → IsMatch side elements m → IsMatch side elements n → count ≡ 1 → ⊥
  not-one m n d is also e =
      omega (arith, lists.counted, two_records (matches side elements) m n d (matches-all side elements m is) (matches-all side elements n also))
