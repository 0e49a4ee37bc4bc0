-- Octets that are spelt as pairs read back, as many as the limit allows: each pair is read as one octet more.
use Prim.Native.Nat.{ℕ, ◌+◌, ◌/◌, ◌%◌, ◌≤◌, ◌<◌}
use native.Mathlib.Omega.{arith}
use mathlib.Core.Path.{◌≡◌, refl, ◌∙◌}
use mathlib.Core.Bool.{Bool, true, false, cond, ◌&&◌}
use mathlib.Core.List.{List, [], ◌∷◌, ◌++◌, append-nil}
use lib.Dec.{ltb, leb}
use lib.ListN.{length, length-append}
use lib.Seq.{append_snoc}
use borrow.Author.Tests.{ltb-true, ltb-false, lt-ltb, le-leb, lt-leb}
use Rattle.lister_hex.specs.Lines.{input_limit, digit_value, is_hex_digit, octet, lines, TextMeaning, stream, unreadable, reads_from, reads}
use Rattle.lister_hex.specs.Spelling.{Octets, digit_of, spelling}
use Rattle.lister_hex.proofs.Lines.{reads-pair, reads-past}

value-digit : (v : ℕ) → v < 16 → digit_value (digit_of v) ≡ v
unfolding digit_value
value-digit v h = go (ltb v 10) refl
  where
    go : (small : Bool) → ltb v 10 ≡ small → digit_value (cond small (48 + v) (55 + v)) ≡ v
    go true e =
        let few : v < 10 = ltb-true v 10 e in
        rw (le-leb 48 (48 + v) (omega arith), le-leb (48 + v) 57 (omega arith)) (omega arith)
    go false e =
        let many : 10 ≤ v = ltb-false v 10 e in
        rw (
          le-leb 48 (55 + v) (omega arith),
          lt-leb (55 + v) 57 (omega arith),
          le-leb 65 (55 + v) (omega arith),
          le-leb (55 + v) 70 (omega arith),
        ) (omega arith)

-- the two digits of an octet are digits, and its own
octet-digits : (o : ℕ) → o < 256 → (is_hex_digit (digit_of (o / 16)) && is_hex_digit (digit_of (o % 16)) ≡ true) × (octet (digit_of (o / 16)) (digit_of (o % 16)) ≡ o)
octet-digits o h =
    let high = value-digit (o / 16) (omega arith) in
    let low = value-digit (o % 16) (omega arith) in (
      rw (high, low, lt-ltb (o / 16) 16 (omega arith), lt-ltb (o % 16) 16 (omega arith)),
      rw (high, low) (omega arith),
    )

-- what one line of octets reads as, past the stream so far
abbrev after : List ℕ → ℕ → List ℕ → TextMeaning
after done number os = cond (leb (length (done ++ os)) input_limit) (stream (done ++ os)) (unreadable number)

after-octet :
    (o : ℕ) (os done : List ℕ) (number : ℕ) → o < 256 →
    ((more : List ℕ) → length more ≤ input_limit → reads_from more number (lines (spelling os)) ≡ after more number os) →
    (room : Bool) → ltb (length done) input_limit ≡ room → reads_from done number (lines (spelling (o ∷ os))) ≡ after done number (o ∷ os)
unfolding spelling
after-octet o os done number h go true r =
    let two = octet-digits o h in
    let room : length done < input_limit = ltb-true (length done) input_limit r in
    let longer : length (done ++ (o ∷ [])) ≤ input_limit = simp length-append (omega arith) in
    rw (reads-pair done number (digit_of (o / 16)) (digit_of (o % 16)) (spelling os) two.0 room, two.1) (go (done ++ (o ∷ [])) longer ∙ rw append_snoc)
after-octet o os done number h go false r =
    let full : input_limit ≤ length done = ltb-false (length done) input_limit r in
    let past : input_limit < length (done ++ o ∷ os) = simp length-append (omega arith) in
    rw (lt-leb (length (done ++ o ∷ os)) input_limit past) (reads-past done number (digit_of (o / 16)) (digit_of (o % 16)) (spelling os)
    (octet-digits o h).0 full)

reads-spelling : (os : List ℕ) → Octets os → (number : ℕ) (done : List ℕ) → length done ≤ input_limit
    → reads_from done number (lines (spelling os)) ≡ after done number os
unfolding spelling lines reads_from
reads-spelling [] all number done h = rw (append-nil done, le-leb (length done) input_limit h)
reads-spelling (o ∷ os) all number done h =
    after-octet o os done number all.0 (reads-spelling os all.1 number) (ltb (length done) input_limit) refl

-- as many octets as the limit allows read back
pub reads-back : (os : List ℕ) → Octets os → length os ≤ input_limit → reads (spelling os) ≡ stream os
reads-back os all h = reads-spelling os all 1 [] (omega arith) ∙ rw (le-leb (length os) input_limit h)

-- one more makes their line unreadable
pub reads-not : (os : List ℕ) → Octets os → input_limit < length os → reads (spelling os) ≡ unreadable 1
reads-not os all h = reads-spelling os all 1 [] (omega arith) ∙ rw (lt-leb (length os) input_limit h)
