-- The pieces of a run are put one after another: those that are put, and those of what is left of the run, are all of them, and a turn
-- keeps that. A turn lends the output from where the next pieces begin.
use mathlib.Core.Path.{◌≡◌, refl, ap, sym, ◌∙◌}
use mathlib.Core.List.{List, [], ◌++◌, append_assoc, append-nil}
use Prim.Native.Nat.{ℕ, ◌+◌, ◌-◌, ◌≤◌}
use native.Mathlib.Omega.{arith}
use lib.ListN.{length, take, drop, length-append, length-drop, drop_of_length-le, take-append-drop}
use lib.Seq.{take_all, take_at, drop_at, drop-drop, length-take-le, slice}
use Rattle.octets.specs.Walk.{no_items}
use Rattle.tree.proofs.Here.{slice_is}
use Rattle.runs.specs.declared.Run.{Run}
use Rattle.runs.specs.Runs.{items_of, tree_in, Fine}
use Rattle.pieces.specs.Pieces.{joined}
use Rattle.pieces.proofs.Joined.{Gives, gives-length, joined-none}

-- the part of the output from n on, and the output after that part came back as ys
abbrev pub part_from : (out : List ℕ) → (n : ℕ) → List ℕ
part_from out n = take (length out - n) (drop n out)

abbrev pub back_with : (out : List ℕ) → (n : ℕ) → (ys : List ℕ) → List ℕ
back_with out n ys = take n out ++ (ys ++ drop (length out - n) (drop n out))

part-all : (out : List ℕ) (n : ℕ) → part_from out n ≡ drop n out
part-all out n = let l = length-drop n out in take_all (length out - n) (drop n out) (omega arith)

pub part_length : (out : List ℕ) (n : ℕ) → length (part_from out n) ≡ length out - n
part_length out n = ap length (part-all out n) ∙ length-drop n out

-- octets are put at the start of that part, and the rest of it stays
put-part : (out own ys : List ℕ) (n : ℕ) → ys ≡ own ++ drop (length own) (part_from out n)
    → back_with out n ys ≡ (take n out ++ own) ++ drop (n + length own) out
put-part out own ys n e =
    let l = length-drop n out in
    let none_after : drop (length out - n) (drop n out) ≡ [] = drop_of_length-le (drop n out) {i = length out - n} (omega arith) in
    let new : ys ≡ own ++ drop (n + length own) out = e ∙ rw (part-all out n) (ap (λ (z : List ℕ). own ++ z) (drop-drop (length own) n out)) in
    rw (none_after, append-nil ys, new, append_assoc (take n out) own (drop (n + length own) out))

-- a value, as a part of the stream
pub part_slice : (first past : ℕ) (s : List ℕ) → first ≤ past → take (past - first) (drop first s) ≡ slice first past s
part_slice first past s l =
    let e : first + (past - first) ≡ past = omega arith in
    sym (slice_is first (past - first) s) ∙ rw e

-- it is copied there
pub copied : (src own part ys : List ℕ) (k : ℕ) → src ≡ own → k ≡ length src → ys ≡ src ++ drop (length src) part
    → (k ≡ length own) × (ys ≡ own ++ drop k part)
copied src own part ys k e l y = (l ∙ ap length e, y ∙ rw (← l, e))

-- the pieces of the run `from` that are before the run `to` are put, n octets in all
pub record PutSoFar (s : List ℕ) (from : Run) (out₀ : List ℕ) (to : Run) (n : ℕ) (out : List ℕ) : Type 0 where
  pub fine : Fine s to
  pub room : to.room ≡ from.room
  pub kept : length out ≡ length out₀
  pub within : n ≤ length out
  pub done : joined (tree_in s from) ≡ take n out ++ joined (tree_in s to)
  pub stays : drop n out ≡ drop n out₀

pub none-put : {s : List ℕ} {from : Run} {out₀ : List ℕ} → Fine s from → PutSoFar s from out₀ from 0 out₀
none-put f = record { fine = f; room = refl; kept = refl; within = omega arith; done = refl; stays = refl }

module _ {s : List ℕ} {from : Run} {out₀ : List ℕ} {to : Run} {n : ℕ} {out : List ℕ} (p : PutSoFar s from out₀ to n out) where
  -- at the end of the run all are put
  pub all-put : items_of s to ≡ no_items → (n ≡ length (joined (tree_in s from))) × (out ≡ joined (tree_in s from) ++ drop n out₀)
  all-put e =
      let d : joined (tree_in s from) ≡ take n out = p.done ∙ rw (joined-none s to e) (append-nil (take n out)) in
      (sym (ap length d ∙ length-take-le n out p.within), sym (rw (d, ← p.stays) (take-append-drop n out)))

  module _ {own : List ℕ} {rest : Run} (g : Gives s to own rest) where
    -- there is room for the next
    pub fits : length (joined (tree_in s from)) ≤ length out₀ → n + length own ≤ length out
    fits l =
        let a = ap length p.done ∙ length-append (take n out) (joined (tree_in s to)) in
        omega (arith, gives-length g, length-take-le n out p.within, p.kept)

    -- a turn puts them
    pub more-put : n + length own ≤ length out → (k : ℕ) (ys : List ℕ) → k ≡ length own
        → ys ≡ own ++ drop k (part_from out n) → PutSoFar s from out₀ rest (n + k) (back_with out n ys)
    more-put l k ys m y =
        let front = take n out ++ own in
        let after = drop (n + length own) out in
        let form : back_with out n ys ≡ front ++ after = put-part out own ys n (y ∙ rw m) in
        let long : length front ≡ n + length own = length-append (take n out) own ∙ rw (length-take-le n out p.within) in
        let same : length (front ++ after) ≡ length out = length-append front after ∙ omega (arith, length-drop (n + length own) out) in
        rw (m, form) (record {
          fine = g.fine;
          room = g.room ∙ p.room;
          kept = same ∙ p.kept;
          within = omega arith;
          done = rw (take_at front after (n + length own) long)
              (p.done ∙ ap (λ (z : List ℕ). take n out ++ z) g.joins ∙ sym (append_assoc (take n out) own (joined (tree_in s rest))));
          stays = drop_at front after (n + length own) long ∙ sym (drop-drop (length own) n out)
              ∙ ap (drop (length own)) p.stays ∙ drop-drop (length own) n out₀;
        })
