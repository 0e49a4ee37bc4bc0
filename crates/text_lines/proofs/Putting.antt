-- The texts of matches are put one after another, and where each ends is noted after the matches: what is put, and what is left, is all, and a turn
-- keeps that. A turn lends the output from where the next text begins.
use mathlib.Core.Path.{◌≡◌, refl, ap, sym, ◌∙◌}
use mathlib.Core.List.{List, [], ◌∷◌, ◌++◌, append_assoc, append-nil}
use Prim.Native.Nat.{ℕ, suc, ◌+◌, ◌-◌, ◌*◌, ◌<◌, ◌≤◌}
use native.Mathlib.Omega.{arith}
use lib.ListN.{length, get_or, set, take, drop, length-append, length-drop, length-set, drop_of_length-le}
use lib.Seq.{sets, sets-eq, length-sets, drop-drop, take_all, get_or-set_other}
use Rattle.laws.proofs.Writes.{sets-append}
use Rattle.pieces.proofs.Putting.{part_from, back_with}
use Rattle.reading.specs.Records.{record_at}
use Rattle.text_lines.specs.Text.{TextOf, texts_of}
use Rattle.text_lines.specs.Flat.{records_from, pasts, PutsTexts}
use Rattle.text_lines.proofs.Flat.{records-step, records-none}

-- octets at the start of a part that was lent are octets in that place
part-put : (out own ys : List ℕ) (n : ℕ) → n + length own ≤ length out → ys ≡ own ++ drop (length own) (part_from out n) → back_with out n ys ≡ sets out n own
part-put out own ys n room e =
    let l = length-drop n out in
    let all : part_from out n ≡ drop n out = take_all (length out - n) (drop n out) (omega arith) in
    let none_after : drop (length out - n) (drop n out) ≡ [] = drop_of_length-le (drop n out) {i = length out - n} (omega arith) in
    let new : ys ≡ own ++ drop (n + length own) out = e ∙ rw all (ap (λ (z : List ℕ). own ++ z) (drop-drop (length own) n out)) in
    rw (none_after, append-nil ys, new, ← (append_assoc (take n out) own (drop (n + length own) out))) (sym (sets-eq own out n room))

-- how long the texts are that are left
pub size-left : (text : TextOf) (numbers : List ℕ) (k count : ℕ) → k < count
    → length (texts_of text (records_from numbers k (count - k)))
    ≡ length (text (get_or numbers (3 * k + 2) 0)) + length (texts_of text (records_from numbers (k + 1) (count - (k + 1))))
unfolding texts_of
size-left text numbers k count l =
    rw (records-step numbers k count l) (length-append (text (get_or numbers (3 * k + 2) 0)) (texts_of text (records_from numbers (k + 1) (count - (k + 1)))))

pub size_none : (text : TextOf) (numbers : List ℕ) (k count : ℕ) → count ≤ k → length (texts_of text (records_from numbers k (count - k))) ≡ 0
unfolding texts_of
size_none text numbers k count l = rw (records-none numbers k count l)

-- the texts of the matches before number k are put, and where they end
pub record PutSoFar (text : TextOf) (numbers₀ : List ℕ) (count : ℕ) (out₀ : List ℕ) (k done : ℕ) (numbers out : List ℕ) : Type 0 where
  pub within : k ≤ count
  pub long : length numbers ≡ length numbers₀
  pub wide : length out ≡ length out₀
  pub same : (i : ℕ) → i < 3 * count → get_or numbers i 0 ≡ get_or numbers₀ i 0
  pub all : done + length (texts_of text (records_from numbers₀ k (count - k))) ≡ length (texts_of text (records_from numbers₀ 0 count))
  pub put : sets out done (texts_of text (records_from numbers₀ k (count - k))) ≡ sets out₀ 0 (texts_of text (records_from numbers₀ 0 count))
  pub ended : sets numbers (3 * count + k) (pasts text done (records_from numbers₀ k (count - k))) ≡ sets numbers₀ (3 * count)
      (pasts text 0 (records_from numbers₀ 0 count))

module _ (text : TextOf) (numbers₀ : List ℕ) (count : ℕ) (out₀ : List ℕ) where
  pub none-put : PutSoFar text numbers₀ count out₀ 0 0 numbers₀ out₀
  none-put =
      let z : count - 0 ≡ count = omega arith in
      let at : 3 * count + 0 ≡ 3 * count = omega arith in
      record { within = omega arith; long = refl; wide = refl; same = λ i l. refl; all = rw z (omega arith); put = rw z; ended = rw (z, at) }

  module _ {k done : ℕ} {numbers out : List ℕ} (p : PutSoFar text numbers₀ count out₀ k done numbers out) where
    -- at the end all are
    pub all-put : count ≤ k → PutsTexts text numbers₀ count out₀ numbers out
    unfolding texts_of pasts
    all-put l =
        let none = records-none numbers₀ k count l in
        let put = p.put in
        let ended = p.ended in
        record { put = rw none at put; ended = rw none at ended }

    module _ (l : k < count) where
      unit-of : (record_at numbers₀ k).unit ≡ get_or numbers (3 * k + 2) 0
      unit-of = sym (p.same (3 * k + 2) (omega arith))

      texts-step : texts_of text (records_from numbers₀ k (count - k)) ≡ text (get_or numbers (3 * k + 2) 0) ++ texts_of text
          (records_from numbers₀ (k + 1) (count - (k + 1)))
      unfolding texts_of
      texts-step = rw (records-step numbers₀ k count l, unit-of)

      pasts-step : pasts text done (records_from numbers₀ k (count - k))
          ≡ (done + length (text (get_or numbers (3 * k + 2) 0))) ∷ pasts text (done + length (text (get_or numbers (3 * k + 2) 0)))
          (records_from numbers₀ (k + 1) (count - (k + 1)))
      unfolding pasts
      pasts-step = rw (records-step numbers₀ k count l, unit-of)

      size_step : done + length (text (get_or numbers (3 * k + 2) 0)) + length (texts_of text (records_from numbers₀ (k + 1) (count - (k + 1))))
          ≡ length (texts_of text (records_from numbers₀ 0 count))
      size_step =
          let own = text (get_or numbers (3 * k + 2) 0) in
          let rest = texts_of text (records_from numbers₀ (k + 1) (count - (k + 1))) in
          let n = ap length texts-step ∙ length-append own rest in
          omega (arith, n, p.all)

      -- there is room for the next text
      pub room-left : length (texts_of text (records_from numbers₀ 0 count)) ≤ length out₀ → done + length (text (get_or numbers (3 * k + 2) 0)) ≤ length out
      room-left room = omega (arith, size_step, p.wide)

      -- and where it ends is within all
      pub end-within : done + length (text (get_or numbers (3 * k + 2) 0)) ≤ length (texts_of text (records_from numbers₀ 0 count))
      end-within = omega (arith, size_step)

      -- a turn puts it, and notes where it ends
      pub more-put : length (texts_of text (records_from numbers₀ 0 count)) ≤ length out₀ → (n : ℕ) (ys : List ℕ) → n ≡ length (text (get_or numbers (3 * k + 2) 0))
          → ys ≡ text (get_or numbers (3 * k + 2) 0) ++ drop n (part_from out done)
          → PutSoFar text numbers₀ count out₀ (k + 1) (done + n) (set numbers (3 * count + k) (done + n)) (back_with out done ys)
      more-put room n ys size y =
          let own = text (get_or numbers (3 * k + 2) 0) in
          let rest = records_from numbers₀ (k + 1) (count - (k + 1)) in
          let form : back_with out done ys ≡ sets out done own = part-put out own ys done (room-left room) (y ∙ rw size) in
          let at : 3 * count + (k + 1) ≡ suc (3 * count + k) = omega arith in
          rw (size, form) (record {
            within = omega arith;
            long = length-set numbers (3 * count + k) (done + length own) ∙ p.long;
            wide = length-sets out done own ∙ p.wide;
            same = λ i j. get_or-set_other numbers (3 * count + k) i (done + length own) 0 (λ e. omega arith) ∙ p.same i j;
            all = size_step;
            put = sym (sets-append out done own (texts_of text rest)) ∙ ap (sets out done) (sym texts-step) ∙ p.put;
            ended = rw at (ap (sets numbers (3 * count + k)) (sym pasts-step) ∙ p.ended);
          })
