-- Where one line stands among all lines, and its text among all texts: what is before it, itself, and what is after it.
use mathlib.Core.Path.{◌≡◌, refl, ap, sym, ◌∙◌}
use mathlib.Core.List.{List, [], ◌∷◌, ◌++◌, append_assoc}
use mathlib.Core.Option.{some}
use Prim.Native.Nat.{ℕ, zero, suc, ◌+◌, ◌-◌, ◌*◌}
use native.Mathlib.Omega.{arith}
use lib.ListN.{length, get_elem?, length-append}
use lib.Seq.{slice, take_at, drop_at}
use Rattle.pieces.proofs.Putting.{part_slice}
use Rattle.reading.specs.declared.Match.{Match}
use Rattle.text_lines.specs.Text.{TextOf, texts_of, line_of, lines_from, line_cells, line_numbers}

-- a part of a list with so many before it
pub part_of : (before own after : List ℕ) (n : ℕ) → length before ≡ n → slice n (n + length own) (before ++ (own ++ after)) ≡ own
part_of before own after n e =
    let l : n + length own - n ≡ length own = omega arith in
    sym (part_slice n (n + length own) (before ++ (own ++ after)) (omega arith))
    ∙ rw (l, drop_at before (own ++ after) n e) (take_at own after (length own) refl)

-- the text of one match among all
pub record TextAt (text : TextOf) (first : ℕ) (ms : List Match) (k : ℕ) (m : Match) : Type 0 where
  pub before : List ℕ
  pub after : List ℕ
  pub texts : texts_of text ms ≡ before ++ (text m.unit ++ after)
  pub numbers_before : List ℕ
  pub numbers_after : List ℕ
  pub numbers : line_numbers (lines_from text first ms) ≡ numbers_before ++ (line_cells (line_of text (first + length before) m) ++ numbers_after)
  pub placed : length numbers_before ≡ 5 * k

pub text_at : (text : TextOf) (first : ℕ) (ms : List Match) (k : ℕ) (m : Match) → get_elem? ms k ≡ some m → TextAt text first ms k m
unfolding texts_of lines_from line_numbers
text_at text first [] k m e = let z : ◌≡◌ {A = ℕ} 0 1 = cc in absurd (omega arith)
text_at text first (x ∷ ms) zero m e =
    let same : x ≡ m = cc in
    let z : first + 0 ≡ first = omega arith in
    rw same (record {
      before = [];
      after = texts_of text ms;
      texts = refl;
      numbers_before = [];
      numbers_after = line_numbers (lines_from text (line_of text first m).past ms);
      numbers = rw z;
      placed = refl;
    })
text_at text first (x ∷ ms) (suc k) m e =
    let t = text_at text (line_of text first x).past ms k m e in
    let size : first + length (text x.unit ++ t.before) ≡ (line_of text first x).past + length t.before = omega
    (arith, length-append (text x.unit) t.before) in
    record {
      before = text x.unit ++ t.before;
      after = t.after;
      texts = ap (λ (l : List ℕ). text x.unit ++ l) t.texts ∙ sym (append_assoc (text x.unit) t.before (text m.unit ++ t.after));
      numbers_before = line_cells (line_of text first x) ++ t.numbers_before;
      numbers_after = t.numbers_after;
      numbers = rw size (ap (λ (l : List ℕ). line_cells (line_of text first x) ++ l) t.numbers
          ∙ sym (append_assoc (line_cells (line_of text first x)) t.numbers_before
          (line_cells (line_of text ((line_of text first x).past + length t.before) m) ++ t.numbers_after)));
      placed = omega (arith, t.placed);
    }
