-- The list that `fill` has made after k turns: the first k records, and then what was there.
use mathlib.Core.Path.{◌≡◌, refl, sym, ap, ◌∙◌}
use mathlib.Core.List.{List, [], ◌∷◌, ◌++◌}
use Prim.Native.Nat.{ℕ, zero, suc, ◌+◌, ◌<◌}
use native.Mathlib.Omega.{arith}
use native.Mathlib.Numerals.{add-one}
use lib.ListN.{length, set, drop, get_or, length-append}
use lib.Seq.{drop-cons, set_at, append_snoc}
use Rattle.reading.specs.declared.Match.{Match}
use Rattle.reading.specs.Records.{record_at, records}

-- what is read past the end of a list
abbrev pub no_match : Match
no_match = record { element = 0; portion = 0; unit = 0 }

abbrev pub made : List ℕ → List Match → ℕ → List Match
made numbers list k = records numbers k ++ drop k list

pub length-records : (numbers : List ℕ) (k : ℕ) → length (records numbers k) ≡ k
unfolding records
length-records numbers zero = refl
length-records numbers (suc k) = simp (length-append, length-records numbers k) (omega arith)

pub made_none : (numbers : List ℕ) (list : List Match) → made numbers list 0 ≡ list
unfolding records
made_none numbers list = refl

pub made_more : (numbers : List ℕ) (list : List Match) (k : ℕ) → k < length list
    → set (made numbers list k) k (record_at numbers k) ≡ made numbers list (k + 1)
unfolding records
made_more numbers list k h =
    let p = records numbers k in
    let next : records numbers (k + 1) ≡ p ++ (record_at numbers k ∷ []) = ap (records numbers) (add-one k) in
    ap (λ (l : List Match). set (p ++ l) k (record_at numbers k)) (drop-cons list k no_match h)
    ∙ set_at p (get_or list k no_match) (drop (suc k) list) (record_at numbers k) k (length-records numbers k)
    ∙ sym (append_snoc p (record_at numbers k) (drop (suc k) list)) ∙ sym (rw (next, add-one k))
