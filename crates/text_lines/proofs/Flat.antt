-- Matches and lines from numbers in scratch: what is left to be taken shrinks by one a turn, and all of it is the matches of the numbers, and their
-- lines.
use mathlib.Core.Path.{◌≡◌, refl, ap, sym, ◌∙◌}
use mathlib.Core.List.{List, [], ◌∷◌, ◌++◌}
use Prim.Native.Nat.{ℕ, zero, suc, ◌+◌, ◌-◌, ◌*◌, ◌<◌, ◌≤◌}
use native.Mathlib.Omega.{arith}
use native.Mathlib.Numerals.{add-one}
use lib.ListN.{length, get_or, set, length-set}
use lib.Seq.{sets, get_or-set_same, get_or-set_other}
use Rattle.reading.specs.declared.Match.{Match}
use Rattle.reading.specs.Records.{record_at, records}
use Rattle.reading.proofs.Made.{no_match}
use Rattle.text_lines.specs.Text.{TextOf, lines_from, line_numbers}
use Rattle.text_lines.specs.Flat.{records_from, pasts, lines_left}

-- what is left of count, before number k and after it
left_one : (k count : ℕ) → k < count → count - k ≡ suc (count - (k + 1))
left_one k count l = omega arith

-- the next match, and those after it
pub records-step : (numbers : List ℕ) (k count : ℕ) → k < count
    → records_from numbers k (count - k) ≡ record_at numbers k ∷ records_from numbers (k + 1) (count - (k + 1))
unfolding records_from
records-step numbers k count l = ap (records_from numbers k) (left_one k count l) ∙ rw (add-one k)

pub records-none : (numbers : List ℕ) (k count : ℕ) → count ≤ k → records_from numbers k (count - k) ≡ []
unfolding records_from
records-none numbers k count l = let e : count - k ≡ 0 = omega arith in ap (records_from numbers k) e

-- the next line is put, and those after it are left
pub left_step : (numbers : List ℕ) (count k first : ℕ) (lines after : List ℕ) → k < count
    → after ≡ sets lines (5 * k) (get_or numbers (3 * k) 0 ∷ get_or numbers (3 * k + 1) 0 ∷ get_or numbers (3 * k + 2) 0 ∷ first ∷ get_or numbers
    (3 * count + k) 0 ∷ [])
    → sets after (5 * (k + 1)) (lines_left numbers count (k + 1) (count - (k + 1)) (get_or numbers (3 * count + k) 0))
    ≡ sets lines (5 * k) (lines_left numbers count k (count - k) first)
unfolding lines_left
left_step numbers count k first lines after l e =
    let at : 5 * (k + 1) ≡ suc (suc (suc (suc (suc (5 * k))))) = omega arith in
    rw (e, at, add-one k) (sym (ap (λ (n : ℕ). sets lines (5 * k) (lines_left numbers count k n first)) (left_one k count l) ∙ rw (add-one k)))

pub left-none : (numbers : List ℕ) (count k first : ℕ) → count ≤ k → lines_left numbers count k (count - k) first ≡ []
unfolding lines_left
left-none numbers count k first l = let e : count - k ≡ 0 = omega arith in ap (λ (n : ℕ). lines_left numbers count k n first) e

-- the lines of the matches that numbers have from number k on, told one by one
lines_are : (numbers : List ℕ) (count : ℕ) (text : TextOf) (ms : List Match) (k first : ℕ)
    → ((i : ℕ) → i < length ms → record_at numbers (k + i) ≡ get_or ms i no_match)
    → ((i : ℕ) → i < length ms → get_or numbers (3 * count + (k + i)) 0 ≡ get_or (pasts text first ms) i 0)
    → lines_left numbers count k (length ms) first ≡ line_numbers (lines_from text first ms)
unfolding lines_left line_numbers lines_from pasts
lines_are numbers count text [] k first recs ends = refl
lines_are numbers count text (m ∷ ms) k first recs ends =
    let z : k ≡ k + 0 = omega arith in
    let r : record_at numbers k ≡ m = ap (record_at numbers) z ∙ recs 0 (omega arith) in
    let e : get_or numbers (3 * k) 0 ≡ m.element = ap (λ (x : Match). x.element) r in
    let p : get_or numbers (3 * k + 1) 0 ≡ m.portion = ap (λ (x : Match). x.portion) r in
    let u : get_or numbers (3 * k + 2) 0 ≡ m.unit = ap (λ (x : Match). x.unit) r in
    let past : get_or numbers (3 * count + k) 0 ≡ first + length (text m.unit) = ap (λ (i : ℕ). get_or numbers (3 * count + i) 0) z ∙ ends 0 (omega arith) in
    let more = lines_are numbers count text ms (suc k) (first + length (text m.unit))
    (λ i l. let f : suc k + i ≡ k + suc i = omega arith in ap (record_at numbers) f ∙ recs (suc i) (omega arith))
    (λ i l. let f : suc k + i ≡ k + suc i = omega arith in ap (λ (j : ℕ). get_or numbers (3 * count + j) 0) f ∙ ends (suc i) (omega arith)) in
    rw (e, p, u, past, more)

-- of the numbers, those that were there, and those that were put
put-before : (l vs : List ℕ) (i j : ℕ) → j < i → get_or (sets l i vs) j 0 ≡ get_or l j 0
put-before l [] i j b = refl
put-before l (v ∷ vs) i j b = put-before (set l i v) vs (suc i) j (omega arith) ∙ get_or-set_other l i j v 0 (λ e. omega arith)

put-within : (l vs : List ℕ) (i k : ℕ) → i + length vs ≤ length l → k < length vs → get_or (sets l i vs) (i + k) 0 ≡ get_or vs k 0
put-within l [] i k room b = absurd (omega arith)
put-within l (v ∷ vs) i zero room b =
    let e : i + 0 ≡ i = omega arith in
    rw e (put-before (set l i v) vs (suc i) i (omega arith) ∙ get_or-set_same l i v 0 (omega arith))
put-within l (v ∷ vs) i (suc k) room b =
    let e : i + suc k ≡ suc i + k = omega arith in
    let size = length-set l i v in
    rw e (put-within (set l i v) vs (suc i) k (omega arith) (omega arith))

-- the match in each place
record_there : (numbers : List ℕ) (k n i : ℕ) → i < n → record_at numbers (k + i) ≡ get_or (records_from numbers k n) i no_match
unfolding records_from
record_there numbers k zero i l = absurd (omega arith)
record_there numbers k (suc n) zero l = let e : k + 0 ≡ k = omega arith in ap (record_at numbers) e
record_there numbers k (suc n) (suc i) l =
    let e : k + suc i ≡ suc k + i = omega arith in
    ap (record_at numbers) e ∙ record_there numbers (suc k) n i (omega arith)

length-pasts : (text : TextOf) (first : ℕ) (ms : List Match) → length (pasts text first ms) ≡ length ms
unfolding pasts
length-pasts text first [] = refl
length-pasts text first (m ∷ ms) = ap suc (length-pasts text (first + length (text m.unit)) ms)

-- matches from the first on, as `reading` has them
one_more : (numbers : List ℕ) (k n : ℕ) → records_from numbers k (suc n) ≡ records_from numbers k n ++ (record_at numbers (k + n) ∷ [])
unfolding records_from
one_more numbers k zero = let e : k + 0 ≡ k = omega arith in rw e
one_more numbers k (suc n) = let e : k + suc n ≡ suc k + n = omega arith in rw e (ap (λ (l : List Match). record_at numbers k ∷ l) (one_more numbers (suc k) n))

pub records-all : (numbers : List ℕ) (n : ℕ) → records_from numbers 0 n ≡ records numbers n
unfolding records_from records
records-all numbers zero = refl
records-all numbers (suc n) = let e : 0 + n ≡ n = omega arith in one_more numbers 0 n ∙ rw (records-all numbers n, e)

-- matches with the ends of their texts after them have their lines
pub lines-all : (text : TextOf) (before numbers : List ℕ) (count : ℕ) (ms : List Match) → records_from before 0 count ≡ ms → length ms ≡ count
    → 4 * count ≤ length before → numbers ≡ sets before (3 * count) (pasts text 0 ms) → lines_left numbers count 0 count 0 ≡ line_numbers (lines_from text 0 ms)
lines-all text before numbers count ms records-are-ms size room e =
    let ends = pasts text 0 ms in
    let long = length-pasts text 0 ms in
    ap (λ (n : ℕ). lines_left numbers count 0 n 0) (sym size) ∙ lines_are numbers count text ms 0 0
    (λ i l.
    let z : 0 + i ≡ i = omega arith in
    let inside : i < count = omega arith in
    let el : get_or numbers (3 * i) 0 ≡ get_or before (3 * i) 0 = ap (λ (n : List ℕ). get_or n (3 * i) 0) e
    ∙ put-before before ends (3 * count) (3 * i) (omega arith) in
    let po : get_or numbers (3 * i + 1) 0 ≡ get_or before (3 * i + 1) 0 = ap (λ (n : List ℕ). get_or n (3 * i + 1) 0) e
    ∙ put-before before ends (3 * count) (3 * i + 1) (omega arith) in
    let un : get_or numbers (3 * i + 2) 0 ≡ get_or before (3 * i + 2) 0 = ap (λ (n : List ℕ). get_or n (3 * i + 2) 0) e
    ∙ put-before before ends (3 * count) (3 * i + 2) (omega arith) in
    let same : record_at numbers i ≡ record_at before i = rw (el, po, un) in
    let there : record_at before (0 + i) ≡ get_or (records_from before 0 count) i no_match = record_there before 0 count i inside in
    ap (record_at numbers) z ∙ same ∙ sym (ap (record_at before) z) ∙ there ∙ ap (λ (r : List Match). get_or r i no_match) records-are-ms)
    (λ i l.
    let z : 3 * count + (0 + i) ≡ 3 * count + i = omega arith in
    ap (λ (j : ℕ). get_or numbers j 0) z ∙ ap (λ (n : List ℕ). get_or n (3 * count + i) 0) e ∙ put-within before ends (3 * count) i (omega arith) (omega arith))
