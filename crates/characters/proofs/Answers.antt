-- What was measured decides the answer: the text at the front of the output, or 18.
use Prim.Native.Nat.{ℕ, ◌+◌, ◌≤◌, ◌<◌}
use native.Mathlib.Nat.{zero-add}
use native.Mathlib.Omega.{arith}
use mathlib.Core.Path.{◌≡◌, refl, sym, ap, ◌∙◌}
use mathlib.Core.Bool.{Bool, true, false, cond}
use mathlib.Core.List.{List, ◌++◌}
use lib.Dec.{leb}
use lib.ListN.{length, drop}
use lib.Seq.{sets, sets-eq}
use borrow.Author.Tests.{le-leb, lt-leb, leb-true, leb-false}
use Rattle.std.specs.Prelude.{Option, Some, None}
use Rattle.characters.specs.declared.Sign.{Sign}
use Rattle.characters.specs.declared.Size.{Size}
use Rattle.characters.specs.Signs.{utf8_of, numbers_in, text_of, numbers_of}
use Rattle.characters.specs.Answers.{most, room_of, size, measured, shown, shown_as, shown_output, ShownOutcome}

-- what was measured, told
pub measured-fits : (xs : List Sign) (room here numbers : ℕ) → here ≡ length (utf8_of xs) → numbers ≡ numbers_in xs → here ≤ room →
    Some (size here numbers) ≡ measured xs room
measured-fits xs room here numbers ea eb h =
    let fits : length (utf8_of xs) ≤ room = omega arith in
    rw (le-leb (length (utf8_of xs)) room fits) (ap (λ n. Some (size n numbers)) ea ∙ ap (λ n. Some (size (length (utf8_of xs)) n)) eb)

module _ (xs : List Sign) (room : ℕ) (m : Option Size) (e : m ≡ measured xs room) where
  pub fits-means : (n : Size) → m ≡ Some n → (length (utf8_of xs) ≤ room) × (n.length ≡ length (utf8_of xs)) × (n.numbers ≡ numbers_in xs)
  fits-means n f = go (leb (length (utf8_of xs)) room) refl
    where
      go : (b : Bool) → leb (length (utf8_of xs)) room ≡ b → (length (utf8_of xs) ≤ room) × (n.length ≡ length (utf8_of xs)) × (n.numbers ≡ numbers_in xs)
      go true t =
          let same : Some n ≡ Some (size (length (utf8_of xs)) (numbers_in xs)) = sym f ∙ (e ∙ rw t) in
          let it : n ≡ size (length (utf8_of xs)) (numbers_in xs) = cc in
          (leb-true (length (utf8_of xs)) room t, ap (λ (k : Size). k.length) it, ap (λ (k : Size). k.numbers) it)
      go false t =
          let none : Some n ≡ None = sym f ∙ (e ∙ rw t) in
          absurd cc

  pub not-fits : m ≡ None → room < length (utf8_of xs)
  not-fits f = go (leb (length (utf8_of xs)) room) refl
    where
      go : (b : Bool) → leb (length (utf8_of xs)) room ≡ b → room < length (utf8_of xs)
      go true t =
          let some : None ≡ Some (size (length (utf8_of xs)) (numbers_in xs)) = sym f ∙ (e ∙ rw t) in
          absurd cc
      go false t = leb-false (length (utf8_of xs)) room t

-- the room is no more than the output, and than what the answer counts
pub room_most : (long : ℕ) → (room_of long ≤ long) × (room_of long ≤ most)
room_most long = go (leb long most) refl
  where
    go : (b : Bool) → leb long most ≡ b → (cond b long most ≤ long) × (cond b long most ≤ most)
    go true e = (omega arith, leb-true long most e)
    go false e = (omega (arith, leb-false long most e), omega arith)

front : (xs l : List ℕ) → length xs ≤ length l → sets l 0 xs ≡ xs ++ drop (length xs) l
front xs l h =
    let room : 0 + length xs ≤ length l = omega arith in
    sets-eq xs l 0 room ∙ rw zero-add

module _ (set : ℕ) (xs out : List ℕ) where
  pub fitting : (long numbers : ℕ) (after : List ℕ) → length (text_of set xs) ≤ room_of (length out) →
      long ≡ length (text_of set xs) → numbers ≡ numbers_of set xs →
      after ≡ sets out 0 (text_of set xs) → ShownOutcome set xs out (shown 0 long numbers) after
  unfolding shown_as shown_output
  fitting long numbers after h el en eo = record {
    answered = rw (le-leb (length (text_of set xs)) (room_of (length out)) h) (ap (λ n. shown 0 n numbers) el ∙ ap (λ n. shown 0 (length (text_of set xs)) n) en);
    put = rw (le-leb (length (text_of set xs)) (room_of (length out)) h) (eo ∙ front (text_of set xs) out (omega (arith, (room_most (length out)).0)));
  }

  pub refusing : room_of (length out) < length (text_of set xs) → ShownOutcome set xs out (shown 18 0 0) out
  unfolding shown_as shown_output
  refusing h = record {
    answered = rw (lt-leb (length (text_of set xs)) (room_of (length out)) h);
    put = rw (lt-leb (length (text_of set xs)) (room_of (length out)) h);
  }
