-- A text fed in any cutting is answered as the whole text reads: the blocks are their join, and along one text each pair and each newline moves the
-- standing and the reading of lines alike.
use Prim.Native.Nat.{ℕ, suc, ◌+◌, ◌≤◌, ◌<◌, min}
use native.Mathlib.Omega.{arith}
use mathlib.Core.Path.{◌≡◌, refl, sym, ◌∙◌}
use mathlib.Core.Bool.{Bool, true, false, ◌&&◌}
use mathlib.Core.List.{List, [], ◌∷◌, ◌++◌, flatten}
use lib.Dec.{eqb, ltb}
use lib.ListN.{length, drop, set, length-append}
use lib.Seq.{drop-cons, set-append_seam, take-append_seam, drop-append_seam, append_snoc}
use borrow.Author.Tests.{ltb-true, ltb-false}
use Rattle.lister_hex.specs.declared.State.TheVariants.{Pairs, Half, Stopped}
use Rattle.lister_text.specs.Ascii.{newline}
use Rattle.lister_hex.specs.Lines.{input_limit, is_hex_digit, octet, lines, TextMeaning, stream, unreadable, reads_from}
use Rattle.lister_hex.specs.Blocks.{Standing, standing, last_line, on_byte, fed, finished, read_as}
use Rattle.lister_hex.specs.Promise.{Answers, AnyCutting}
use Rattle.lister_hex.proofs.Blocks.{fed-flatten, fed-stopped}
use Rattle.lister_hex.proofs.Lines.{reads-newline, reads-half, reads-pair, reads-past, reads-broken}

-- the lent array with a stream at its front
abbrev holding : List ℕ → List ℕ → List ℕ
holding lent done = done ++ drop (length done) lent

-- an octet more
holding-more : (lent done : List ℕ) (o : ℕ) → length done < length lent → set (holding lent done) (length done) o ≡ holding lent (done ++ (o ∷ []))
holding-more lent done o h =
    let longer : length (done ++ (o ∷ [])) ≡ suc (length done) = simp length-append (omega arith) in
    rw (drop-cons lent (length done) 0, set-append_seam, longer, append_snoc)

no_stream : (number : ℕ) (s : List ℕ) → unreadable number ≡ stream s → ⊥
no_stream number s e = let never : ◌≡◌ {A = ℕ} 0 1 = cc in omega arith

module _ (lent : List ℕ) (full : length lent ≡ input_limit) where
  -- a line that cannot be read, and what is told of it
  unread : (outcome : TextMeaning) (number : ℕ) (end : Standing) → outcome ≡ unreadable number → finished end.state ≡ read_as
      (unreadable number) → Answers outcome lent end
  unread outcome number end u e =
      record { answer = rw u e; part = λ s o. absurd (no_stream number s (sym u ∙ o)); past = λ s o. absurd (no_stream number s (sym u ∙ o)) }

  -- wherever in it reading stopped
  stopped : (outcome : TextMeaning) (number : ℕ) (out bs : List ℕ) → outcome ≡ unreadable number → Answers outcome lent
      (fed (standing (Stopped (min number last_line)) out) bs)
  stopped outcome number out bs u = rw fed-stopped (unread outcome number _ u refl)

  -- in a line, after whole pairs
  abbrev at : List ℕ → ℕ → Standing
  at done number = standing (Pairs (length done) (min number last_line)) (holding lent done)

  -- what is to be shown of the text to come
  abbrev Answered : List ℕ → Type 0
  Answered text = (done : List ℕ) (number : ℕ) → length done ≤ input_limit → Answers (reads_from done number (lines text)) lent (fed (at done number) text)

  at-end : Answered []
  unfolding fed lines reads_from
  at-end done number h =
      record {
        answer = refl;
        part = λ s e. let same : done ≡ s = cc in rw (← same, take-append_seam);
        past = λ s e. let same : done ≡ s = cc in rw (← same, drop-append_seam);
      }

  at-newline : (b : ℕ) (bs : List ℕ) → eqb b newline ≡ true → Answered bs → Answered (b ∷ bs)
  unfolding fed on_byte
  at-newline b bs e go done number h =
      let next : min (min number last_line + 1) last_line ≡ min (number + 1) last_line = omega arith in
      rw (reads-newline done number b bs e h, e, next) (go done (number + 1) h)

  at-half : (b : ℕ) → eqb b newline ≡ false → Answered (b ∷ [])
  unfolding fed on_byte
  at-half b e done number h = rw e (unread _ number _ (reads-half done number b e) refl)

  -- after the first byte of a pair, by what the second makes of it
  judged :
      (a b : ℕ) (bs : List ℕ) → eqb a newline ≡ false → Answered bs → (done : List ℕ) (number : ℕ) → length done ≤ input_limit →
      (digits room : Bool) → is_hex_digit a && is_hex_digit b ≡ digits → ltb (length done) input_limit ≡ room →
      Answers (reads_from done number (lines (a ∷ b ∷ bs))) lent (fed (standing (Half (length done) (min number last_line) a) (holding lent done)) (b ∷ bs))
  unfolding fed on_byte
  judged a b bs e go done number h false room d r = rw d (stopped _ number (holding lent done) bs (reads-broken done number a b bs e d))
  judged a b bs e go done number h true false d r =
      rw (d, r) (stopped _ number (holding lent done) bs (reads-past done number a b bs d (ltb-false _ _ r)))
  judged a b bs e go done number h true true d r =
      let room : length done < input_limit = ltb-true (length done) input_limit r in
      let within : length done < length lent = omega arith in
      let longer : length (done ++ (octet a b ∷ [])) ≡ length done + 1 = simp length-append in
      let more = go (done ++ (octet a b ∷ [])) number (rw longer (omega arith)) in
      rw (d, r, reads-pair done number a b bs d room, holding-more lent done (octet a b), ← longer) more

  at_pair : (a b : ℕ) (bs : List ℕ) → eqb a newline ≡ false → Answered bs → Answered (a ∷ b ∷ bs)
  unfolding fed on_byte
  at_pair a b bs e go done number h = rw e (judged a b bs e go done number h _ _ refl refl)

  -- a first byte that is a newline or is none
  by-newline : (b : ℕ) (bs : List ℕ) (ends : Bool) → eqb b newline ≡ ends → Answered bs → (eqb b newline ≡ false → Answered (b ∷ bs)) → Answered (b ∷ bs)
  by-newline b bs true e after else = at-newline b bs e after
  by-newline b bs false e after else = else e

  whole : (text : List ℕ) → Answered text
  whole [] = at-end
  whole (b ∷ []) = by-newline b [] (eqb b newline) refl at-end (at-half b)
  whole (a ∷ b ∷ bs) = by-newline a (b ∷ bs) (eqb a newline) refl (whole (b ∷ bs)) (λ e. at_pair a b bs e (whole bs))

pub any-cutting : AnyCutting
any-cutting blocks lent full = rw fed-flatten (whole lent full (flatten blocks) [] 1 (omega arith))
