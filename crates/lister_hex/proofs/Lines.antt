-- How the reading of lines begins: a newline ends a line of whole pairs, a pair with room for it is an octet of the stream, and all else makes the
-- line unreadable.
use Prim.Native.Nat.{ℕ, ◌+◌, ◌≤◌, ◌<◌}
use native.Mathlib.Omega.{arith}
use mathlib.Core.Path.{◌≡◌, refl, sym, ◌∙◌, ap}
use mathlib.Core.Bool.{Bool, true, false, ◌&&◌, true≢false, and-eq-true_iff}
use mathlib.Core.List.{List, [], ◌∷◌, ◌++◌, append-nil}
use mathlib.Core.Option.{Option, none, some, map}
use lib.Dec.{eqb}
use lib.ListN.{length, length-append}
use lib.Seq.{append_snoc}
use borrow.Author.Tests.{ne_eqb, le-leb, lt-leb}
use Rattle.lister_text.specs.Ascii.{newline}
use Rattle.lister_hex.specs.Lines.{input_limit, digit_value, is_hex_digit, octet, pairs, begin, lines, TextMeaning, stream, unreadable, with_line, reads_from}

-- a newline is no digit
pub digit-in-line : (b : ℕ) → is_hex_digit b ≡ true → eqb b newline ≡ false
unfolding digit_value
digit-in-line b d = ne_eqb b newline (λ e. true≢false (sym d ∙ ap is_hex_digit e))

-- a newline ends a line of whole pairs
pub reads-newline : (done : List ℕ) (number b : ℕ) (bs : List ℕ) → eqb b newline ≡ true → length done ≤ input_limit
    → reads_from done number (lines (b ∷ bs)) ≡ reads_from done (number + 1) (lines bs)
unfolding lines reads_from pairs
reads-newline done number b bs e h = rw (e, append-nil done, le-leb (length done) input_limit h)

-- half a pair at the end of a text
pub reads-half : (done : List ℕ) (number b : ℕ) → eqb b newline ≡ false → reads_from done number (lines (b ∷ [])) ≡ unreadable number
unfolding lines reads_from pairs
reads-half done number b e = rw e

module _ (done : List ℕ) (number a b : ℕ) where
  -- a line that begins with two bytes of which one is no digit
  broken : (ls : List (List ℕ)) → is_hex_digit a && is_hex_digit b ≡ false → reads_from done number (begin a (begin b ls)) ≡ unreadable number
  unfolding reads_from pairs
  broken [] e = rw e
  broken (l ∷ ls) e = rw e

  -- whatever else the line holds, a pair more in it is an octet more of the stream
  join-pair : (rest : Option (List ℕ)) (go : List ℕ → TextMeaning) → with_line done number (map (λ os. octet a b ∷ os) rest) go ≡ with_line
      (done ++ (octet a b ∷ [])) number rest go
  join-pair none go = refl
  join-pair (some os) go = rw append_snoc

  -- and past the limit it makes the line unreadable
  join-past : (rest : Option (List ℕ)) (go : List ℕ → TextMeaning) → input_limit ≤ length done → with_line done number
      (map (λ os. octet a b ∷ os) rest) go ≡ unreadable number
  join-past none go h = refl
  join-past (some os) go h =
      let past : input_limit < length (done ++ octet a b ∷ os) = simp length-append (omega arith) in
      rw (lt-leb (length (done ++ octet a b ∷ os)) input_limit past)

  -- a line that begins with the pair reads as its octet and the rest
  begin-pair : (ls : List (List ℕ)) → is_hex_digit a && is_hex_digit b ≡ true → length done < input_limit → reads_from done number
      (begin a (begin b ls)) ≡ reads_from (done ++ (octet a b ∷ [])) number ls
  unfolding reads_from pairs
  begin-pair [] e h =
      let room : length (done ++ octet a b ∷ []) ≤ input_limit = simp length-append (omega arith) in
      rw (e, le-leb (length (done ++ octet a b ∷ [])) input_limit room)
  begin-pair (l ∷ ls) e h = rw e (join-pair (pairs l) (λ more. reads_from more (number + 1) ls))

  begin-past : (ls : List (List ℕ)) → is_hex_digit a && is_hex_digit b ≡ true → input_limit ≤ length done → reads_from done number
      (begin a (begin b ls)) ≡ unreadable number
  unfolding reads_from pairs
  begin-past [] e h = rw e (join-past (some []) (λ more. stream more) h)
  begin-past (l ∷ ls) e h = rw e (join-past (pairs l) (λ more. reads_from more (number + 1) ls) h)

  module _ (bs : List ℕ) where
    -- two digits stand in one line
    lines-pair : is_hex_digit a && is_hex_digit b ≡ true → lines (a ∷ b ∷ bs) ≡ begin a (begin b (lines bs))
    unfolding lines
    lines-pair e =
        let digits = (and-eq-true_iff (is_hex_digit a) (is_hex_digit b)).0 e in
        rw (digit-in-line a digits.0, digit-in-line b digits.1)

    pub reads-pair : is_hex_digit a && is_hex_digit b ≡ true → length done < input_limit → reads_from done number (lines (a ∷ b ∷ bs)) ≡ reads_from
        (done ++ (octet a b ∷ [])) number (lines bs)
    reads-pair e h = rw (lines-pair e) (begin-pair (lines bs) e h)

    pub reads-past : is_hex_digit a && is_hex_digit b ≡ true → input_limit ≤ length done → reads_from done number (lines (a ∷ b ∷ bs)) ≡ unreadable number
    reads-past e h = rw (lines-pair e) (begin-past (lines bs) e h)

    -- two bytes of a line of which one is no digit, or a byte and the line's end
    pub reads-broken : eqb a newline ≡ false → is_hex_digit a && is_hex_digit b ≡ false → reads_from done number (lines (a ∷ b ∷ bs)) ≡ unreadable number
    unfolding lines reads_from pairs
    reads-broken i e = go (eqb b newline) refl
      where
        go : (ends : Bool) → eqb b newline ≡ ends → reads_from done number (lines (a ∷ b ∷ bs)) ≡ unreadable number
        go true n = rw (i, n)
        go false n = rw (i, n) (broken (lines bs) e)
