-- Numbers are put to a lent list from its start, some at a time: those that are put, and those that are left, are all of them, and past them the list is as
-- it was. A call puts some to the rest of the list, or they are stored one by one.
use mathlib.Core.Path.{◌≡◌, refl, ap, sym, ◌∙◌}
use mathlib.Core.List.{List, [], ◌++◌, append_assoc, append-nil}
use Prim.Native.Nat.{ℕ, ◌+◌, ◌-◌, ◌≤◌}
use native.Mathlib.Omega.{arith}
use lib.ListN.{length, take, drop, length-append, length-drop, drop_of_length-le, take-append-drop}
use lib.Seq.{take_all, take_at, drop_at, drop-drop, length-take-le, sets, sets-eq}
use Rattle.pieces.proofs.Putting.{part_from, back_with}

pub record Filling (all list₀ rest : List ℕ) (n : ℕ) (list : List ℕ) : Type 0 where
  pub kept : length list ≡ length list₀
  pub within : n ≤ length list
  pub done : all ≡ take n list ++ rest
  pub stays : drop n list ≡ drop n list₀

pub none_filled : {all list₀ : List ℕ} → Filling all list₀ all 0 list₀
none_filled = record { kept = refl; within = omega arith; done = refl; stays = refl }

-- numbers are put at the start of a part of the list, and the rest of it stays
put-part : (list own ys : List ℕ) (n : ℕ) → ys ≡ own ++ drop (length own) (part_from list n)
    → back_with list n ys ≡ (take n list ++ own) ++ drop (n + length own) list
put-part list own ys n e =
    let l = length-drop n list in
    let all : part_from list n ≡ drop n list = take_all (length list - n) (drop n list) (omega arith) in
    let none_after : drop (length list - n) (drop n list) ≡ [] = drop_of_length-le (drop n list) {i = length list - n} (omega arith) in
    let new : ys ≡ own ++ drop (n + length own) list = e ∙ rw all (ap (λ (z : List ℕ). own ++ z) (drop-drop (length own) n list)) in
    rw (none_after, append-nil ys, new, append_assoc (take n list) own (drop (n + length own) list))

module _ {all list₀ rest : List ℕ} {n : ℕ} {list : List ℕ} (f : Filling all list₀ rest n list) where
  -- nothing is left
  pub filled : rest ≡ [] → (n ≡ length all) × (list ≡ all ++ drop n list₀)
  filled e =
      let d : all ≡ take n list = f.done ∙ rw e (append-nil (take n list)) in
      (sym (ap length d ∙ length-take-le n list f.within), sym (rw (d, ← f.stays) (take-append-drop n list)))

  -- there is room for what is left
  pub room-left : length all ≤ length list₀ → n + length rest ≤ length list
  room-left l =
      let a = ap length f.done ∙ length-append (take n list) rest in
      omega (arith, length-take-le n list f.within, f.kept)

  -- the next are put
  module _ (own others : List ℕ) (next : rest ≡ own ++ others) (k : ℕ) (size : k ≡ length own) (fits : n + k ≤ length list) where
    turned : (after : List ℕ) → after ≡ (take n list ++ own) ++ drop (n + length own) list → Filling all list₀ others (n + k) after
    turned after form =
        let front = take n list ++ own in
        let behind = drop (n + length own) list in
        let long : length front ≡ n + length own = length-append (take n list) own ∙ rw (length-take-le n list f.within) in
        let same : length (front ++ behind) ≡ length list = length-append front behind ∙ omega (arith, length-drop (n + length own) list) in
        rw (size, form) (record {
          kept = same ∙ f.kept;
          within = omega arith;
          done = rw (take_at front behind (n + length own) long)
              (f.done ∙ ap (λ (z : List ℕ). take n list ++ z) next ∙ sym (append_assoc (take n list) own others));
          stays = drop_at front behind (n + length own) long ∙ sym (drop-drop (length own) n list)
              ∙ ap (drop (length own)) f.stays ∙ drop-drop (length own) n list₀;
        })

    -- by a call that is lent the list from there on
    pub more-filled : (ys : List ℕ) → ys ≡ own ++ drop k (part_from list n) → Filling all list₀ others (n + k) (back_with list n ys)
    more-filled ys y = turned (back_with list n ys) (put-part list own ys n (y ∙ rw size))

    -- by stores
    pub more-set : (after : List ℕ) → after ≡ sets list n own → Filling all list₀ others (n + k) after
    more-set after e = turned after (e ∙ sets-eq own list n (omega arith))
