-- Records are put one after another, three numbers each, so what is put in two goes is put in one; and the records are read back from
-- their numbers.
use Rattle.std.specs.Prelude.{Some}
use mathlib.Core.Path.{◌≡◌, refl, ap, sym, ◌∙◌}
use mathlib.Core.List.{List, [], ◌∷◌, ◌++◌}
use Prim.Native.Nat.{ℕ, zero, suc, ◌+◌, ◌-◌, ◌*◌, ◌<◌, ◌≤◌}
use native.Mathlib.Omega.{arith}
use lib.ListN.{length, get_or, take, drop, length-append}
use lib.Seq.{sets-eq, length-sets, take-suc, take_all}
use borrow.Rule.Slice.PartMut.{put_mid}
use Rattle.reading.specs.declared.Match.{Match}
use Rattle.reading.specs.Records.{numbers_of, record_at, records, PutsRecords}
use Rattle.reading.specs.Ready.{found_matches}
use Rattle.reading.proofs.Made.{no_match}
use Rattle.laws.proofs.Parts.{part-set}
use Rattle.laws.proofs.Writes.{sets-append}

pub length-numbers : (ms : List Match) → length (numbers_of ms) ≡ 3 * length ms
unfolding numbers_of
length-numbers [] = refl
length-numbers (m ∷ ms) = let l = length-numbers ms in omega arith

numbers-append : (ms ns : List Match) → numbers_of (ms ++ ns) ≡ numbers_of ms ++ numbers_of ns
unfolding numbers_of
numbers-append [] ns = refl
numbers-append (m ∷ ms) ns = rw (numbers-append ms ns)

-- nothing is put
pub puts_none : (l : List ℕ) (count : ℕ) → PutsRecords l count [] l count
unfolding numbers_of
puts_none l count = record { counted = omega arith; stored = refl }

-- one record is put where three numbers were
pub puts_one : (l copied : List ℕ) (k e p u : ℕ) → 3 * k + 3 ≤ length l → copied ≡ e ∷ p ∷ u ∷ [] → PutsRecords l k (found_matches e p (Some u))
    (put_mid (3 * k) (3 * k + 3 - 3 * k) l copied) (k + 1)
unfolding numbers_of
puts_one l copied k e p u h is = record {
  counted = refl;
  stored = part-set (3 * k) (3 * k + 3 - 3 * k) l copied (e ∷ p ∷ u ∷ []) is (omega arith) h;
}

-- some are put, and then others
pub puts_then : {a b d : List ℕ} {i j k : ℕ} (ms ns : List Match) → PutsRecords a i ms b j → PutsRecords b j ns d k → PutsRecords a i (ms ++ ns) d k
puts_then {a} {b} {d} {i} {j} {k} ms ns p q =
    let at : 3 * j ≡ 3 * i + length (numbers_of ms) = omega (arith, p.counted, length-numbers ms) in
    record {
      counted = simp length-append (omega (arith, p.counted, q.counted));
      stored = q.stored ∙ rw (at, p.stored, numbers-append ms ns) (sym (sets-append a (3 * i) (numbers_of ms) (numbers_of ns)));
    }

pub puts-length : {a b : List ℕ} {i j : ℕ} {ms : List Match} → PutsRecords a i ms b j → length b ≡ length a
puts-length {a} {i = i} {ms = ms} p = ap length p.stored ∙ length-sets a (3 * i) (numbers_of ms)

-- all are put, from the start: their numbers, and then what was there
module _ {a b : List ℕ} {count : ℕ} (ms : List Match) (p : PutsRecords a 0 ms b count) (room : 3 * length ms ≤ length a) where
  pub puts-count : count ≡ length ms
  puts-count = omega (arith, p.counted)

  pub puts-all : b ≡ numbers_of ms ++ drop (3 * length ms) a
  puts-all =
      let l = length-numbers ms in
      let e : 0 + length (numbers_of ms) ≡ 3 * length ms = omega arith in
      p.stored ∙ sets-eq (numbers_of ms) a 0 (omega arith) ∙ ap (λ (n : ℕ). numbers_of ms ++ drop n a) e

-- the records that stand at the front of numbers
record_there : (ms : List Match) (rest : List ℕ) (k : ℕ) → k < length ms → record_at (numbers_of ms ++ rest) k ≡ get_or ms k no_match
unfolding numbers_of
record_there [] rest k l = absurd (omega arith)
record_there (m ∷ ms) rest zero l = refl
record_there (m ∷ ms) rest (suc k) l =
    let e : 3 * suc k ≡ suc (suc (suc (3 * k))) = omega arith in
    let f : suc (suc (suc (3 * k))) + 1 ≡ suc (suc (suc (3 * k + 1))) = omega arith in
    let g : suc (suc (suc (3 * k))) + 2 ≡ suc (suc (suc (3 * k + 2))) = omega arith in
    rw (e, f, g) (record_there ms rest k (omega arith))

some-records : (ms : List Match) (rest : List ℕ) (k : ℕ) → k ≤ length ms → records (numbers_of ms ++ rest) k ≡ take k ms
unfolding records
some-records ms rest zero l = refl
some-records ms rest (suc k) l =
    let a = some-records ms rest k (omega arith) in
    let b = record_there ms rest k (omega arith) in
    rw (a, b) (sym (take-suc ms k no_match (omega arith)))

-- the records of the numbers of records are these
pub records-back : (ms : List Match) (rest : List ℕ) → records (numbers_of ms ++ rest) (length ms) ≡ ms
records-back ms rest = some-records ms rest (length ms) (omega arith) ∙ take_all (length ms) ms (omega arith)
