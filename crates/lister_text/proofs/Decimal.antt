-- A decimal number is its tenth and then its last digit, since turns past the number's own change nothing; the rest follows by going down the tenths.
use Prim.Native.Nat.{ℕ, zero, suc, ◌+◌, ◌-◌, ◌*◌, ◌/◌, ◌%◌, ◌^◌, ◌≤◌, ◌<◌}
use native.Mathlib.Nat.{pow-suc}
use native.Mathlib.Omega.{arith}
use mathlib.Core.Path.{◌≡◌, refl, sym, ◌∙◌}
use mathlib.Core.Bool.{Bool, true, false}
use mathlib.Core.List.{List, [], ◌∷◌, ◌++◌}
use lib.Dec.{ltb}
use lib.ListN.{length, length-append}
use borrow.Author.Tests.{lt-ltb, le-ltb, ltb-true, ltb-false}
use Rattle.lister_text.specs.Decimal.{digit, turn, decimal_in, decimal, number_spelt}

-- two ways to go on with the tenth that agree on it
same_turn : (n : ℕ) (p q : ℕ → List ℕ) → (10 ≤ n → p (n / 10) ≡ q (n / 10)) → turn (ltb n 10) n p ≡ turn (ltb n 10) n q
same_turn n p q same = go (ltb n 10) refl
  where
    go : (small : Bool) → ltb n 10 ≡ small → turn small n p ≡ turn small n q
    go true e = refl
    go false e = rw (same (ltb-false n 10 e))

-- turns past the number's own change nothing
enough : (f g n : ℕ) → n < f → n < g → decimal_in f n ≡ decimal_in g n
unfolding decimal_in
enough zero g n hf hg = absurd (omega arith)
enough (suc f) zero n hf hg = absurd (omega arith)
enough (suc f) (suc g) n hf hg =
    same_turn n (decimal_in f) (decimal_in g) (λ large. enough f g (n / 10) (omega arith) (omega arith))

pub decimal-small : (n : ℕ) → n < 10 → decimal n ≡ digit n ∷ []
unfolding decimal decimal_in
decimal-small n h = rw (lt-ltb n 10 h)

pub decimal-large : (n : ℕ) → 10 ≤ n → decimal n ≡ decimal (n / 10) ++ (digit (n % 10) ∷ [])
unfolding decimal decimal_in
decimal-large n h = rw (le-ltb n 10 h, enough n (suc (n / 10)) (n / 10) (omega arith) (omega arith))

-- what holds of a number below 10, and of any other if it holds of its tenth, holds of every number
by-tenths : (P : ℕ → Type 0) → ((n : ℕ) → n < 10 → P n) → ((n : ℕ) → 10 ≤ n → P (n / 10) → P n) → (n : ℕ) → P n
by-tenths P small large n = go (suc n) n (omega arith)
  where
    step : (n : ℕ) (b : Bool) → ltb n 10 ≡ b → (10 ≤ n → P (n / 10)) → P n
    step n true e tenth = small n (ltb-true n 10 e)
    step n false e tenth = large n (ltb-false n 10 e) (tenth (ltb-false n 10 e))

    go : (bound n : ℕ) → n < bound → P n
    go zero n h = absurd (omega arith)
    go (suc bound) n h = step n (ltb n 10) refl (λ many. go bound (n / 10) (omega arith))

spelt-last : (n : ℕ) (ds : List ℕ) (d : ℕ) → number_spelt n (ds ++ (d ∷ [])) ≡ number_spelt n ds * 10 + (d - 48)
unfolding number_spelt
spelt-last n [] d = refl
spelt-last n (c ∷ ds) d = spelt-last (n * 10 + (c - 48)) ds d

-- the digits of a number spell it
pub reads-back : (n : ℕ) → number_spelt 0 (decimal n) ≡ n
unfolding number_spelt
reads-back =
    by-tenths (λ n. number_spelt 0 (decimal n) ≡ n)
    (λ n h. rw (decimal-small n h) (omega arith))
    (λ n h same. rw (decimal-large n h, spelt-last 0 (decimal (n / 10)) (digit (n % 10)), same) (omega arith))

-- a number has digits
pub decimal-some : (n : ℕ) → 0 < length (decimal n)
decimal-some =
    by-tenths (λ n. 0 < length (decimal n))
    (λ n h. rw (decimal-small n h) (omega arith))
    (λ n h some. rw (decimal-large n h, length-append) (omega arith))

front : (xs ys ds : List ℕ) (d : ℕ) → 0 < length xs → xs ++ ys ≡ d ∷ ds → (rest : List ℕ) × (xs ≡ d ∷ rest)
front [] ys ds d h e = absurd (omega arith)
front (x ∷ xs) ys ds d h e = (xs, cc)

-- a zero in front is that of 0
pub no-zero-in-front : (n : ℕ) (ds : List ℕ) → decimal n ≡ digit 0 ∷ ds → n ≡ 0
no-zero-in-front =
    by-tenths (λ n. (ds : List ℕ) → decimal n ≡ digit 0 ∷ ds → n ≡ 0)
    (λ n h ds e. let same : digit n ≡ digit 0 = cc (decimal-small n h) in omega arith)
    (λ n h none ds e.
    let f = front (decimal (n / 10)) _ ds (digit 0) (decimal-some (n / 10)) (sym (decimal-large n h) ∙ e) in
    let z : n / 10 ≡ 0 = none f.0 f.1 in
    omega arith)

-- a number below 10 ^ k has at most k digits, if k is not 0
pub decimal-short : (k n : ℕ) → n < 10 ^ suc k → length (decimal n) ≤ suc k
decimal-short zero n h = rw (decimal-small n h) (omega arith)
decimal-short (suc k) n h =
    go (ltb n 10) refl (decimal-short k (n / 10) (omega (arith, pow-suc 10 (suc k))))
  where
    go : (small : Bool) → ltb n 10 ≡ small → length (decimal (n / 10)) ≤ suc k → length (decimal n) ≤ suc (suc k)
    go true e tenth = rw (decimal-small n (ltb-true n 10 e)) (omega arith)
    go false e tenth = rw (decimal-large n (ltb-false n 10 e), length-append) (omega arith)
