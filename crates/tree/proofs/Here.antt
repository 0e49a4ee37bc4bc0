-- That octets stand at a place of a stream, and what can be read there.
use mathlib.Core.Path.{◌≡◌, refl, ap, sym, ◌∙◌, subst}
use mathlib.Core.List.{List, [], ◌∷◌, ◌++◌, append_assoc, append-nil}
use Prim.Native.Nat.{ℕ, zero, suc, ◌+◌, ◌<◌, ◌≤◌}
use native.Mathlib.Omega.{arith}
use native.Mathlib.Nat.{add-zero, zero-add, suc-add}
use lib.ListN.{length, get_or, take, drop, length-append, length-drop, take-append-drop}
use lib.Seq.{drop-drop, drop-append_seam, take-append_seam, length-take-le, take-nil, get_or-drop, drop-cons, slice}

-- xs stands at `at`
abbrev pub Here : List ℕ → ℕ → List ℕ → Type 0
Here s at xs = (rest : List ℕ) × (drop at s ≡ xs ++ rest)

-- a part of a stream, by its place and its length
pub slice_is : (at n : ℕ) (s : List ℕ) → slice at (at + n) s ≡ take n (drop at s)
slice_is zero n s = rw zero-add
slice_is (suc at) n [] = rw (take-nil n, take-nil (suc at + n))
slice_is (suc at) n (x ∷ s) = rw suc-add (slice_is at n s)

module _ (s : List ℕ) (at : ℕ) where
  pub first : (xs ys : List ℕ) → Here s at (xs ++ ys) → Here s at xs
  first xs ys (rest, e) = (ys ++ rest, e ∙ append_assoc xs ys rest)

  pub second : (xs ys : List ℕ) → Here s at (xs ++ ys) → Here s (at + length xs) ys
  second xs ys (rest, e) =
      (rest, sym (drop-drop (length xs) at s) ∙ ap (drop (length xs)) (e ∙ append_assoc xs ys rest) ∙ drop-append_seam xs (ys ++ rest))

  pub joined : (xs ys : List ℕ) → Here s at xs → Here s (at + length xs) ys → Here s at (xs ++ ys)
  joined xs ys (r, e) (q, f) =
      let d : r ≡ ys ++ q = sym (sym (drop-drop (length xs) at s) ∙ ap (drop (length xs)) e ∙ drop-append_seam xs r) ∙ f in
      (q, e ∙ ap (λ (l : List ℕ). xs ++ l) d ∙ sym (append_assoc xs ys q))

  pub octet-at : (x : ℕ) (xs : List ℕ) → Here s at (x ∷ xs) → get_or s at 0 ≡ x
  octet-at x xs (rest, e) =
      ap (λ (k : ℕ). get_or s k 0) (sym (add-zero at)) ∙ sym (get_or-drop at s 0 0) ∙ ap (λ (l : List ℕ). get_or l 0 0) e

  pub taken : (xs : List ℕ) → Here s at xs → take (length xs) (drop at s) ≡ xs
  taken xs (rest, e) = ap (take (length xs)) e ∙ take-append_seam xs rest

  pub sliced : (xs : List ℕ) (past : ℕ) → past ≡ at + length xs → Here s at xs → slice at past s ≡ xs
  sliced xs past e h = ap (λ (k : ℕ). slice at k s) e ∙ slice_is at (length xs) s ∙ taken xs h

  pub one : at < length s → Here s at (get_or s at 0 ∷ [])
  one l = (drop (suc at) s, drop-cons s at 0 l)

  pub tail : (x : ℕ) (xs : List ℕ) → Here s at (x ∷ xs) → Here s (at + 1) xs
  tail x xs h = second (x ∷ []) xs h

  pub some : (k : ℕ) → at + k ≤ length s → Here s at (take k (drop at s)) × (length (take k (drop at s)) ≡ k)
  some k l =
      let d : k ≤ length (drop at s) = simp length-drop (omega arith) in
      ((drop k (drop at s), sym (take-append-drop k (drop at s))), length-take-le k (drop at s) d)

  pub part : (past k : ℕ) → past ≡ at + k → past ≤ length s → Here s at (slice at past s) × (length (slice at past s) ≡ k)
  part past k e l =
      let p : take k (drop at s) ≡ slice at past s = sym (ap (λ (n : ℕ). slice at n s) e ∙ slice_is at k s) in
      subst (λ (xs : List ℕ). Here s at xs × (length xs ≡ k)) p (some k (omega arith))

pub moved : (s xs : List ℕ) {a b : ℕ} → a ≡ b → Here s a xs → Here s b xs
moved s xs e h = subst (λ (k : ℕ). Here s k xs) e h

-- an item: what stands before its value, the value, and what follows the item
module _ (s : List ℕ) (at : ℕ) (head value rest : List ℕ) (start bound : ℕ) (p : start ≡ at + length head) (q : bound ≡ start + length value) where
  pub three : Here s at head → Here s start value → Here s bound rest → Here s at (head ++ (value ++ rest))
  three a b c = joined s at head (value ++ rest) a (moved s (value ++ rest) p (joined s start value rest b (moved s rest q c)))

  pub three-length : at + length (head ++ (value ++ rest)) ≡ bound + length rest
  three-length = simp length-append (omega arith)

-- an item whose value stands after a type field and length octets
module _ (s : List ℕ) (at : ℕ) (type len value rest : List ℕ) (start bound : ℕ)
    (p : start ≡ at + length (type ++ len)) (q : bound ≡ start + length value) where
  pub item-here : Here s at (type ++ len) → Here s start value → Here s bound rest → Here s at (type ++ (len ++ (value ++ rest)))
  item-here a b c = subst (Here s at) (append_assoc type len (value ++ rest)) (three s at (type ++ len) value rest start bound p q a b c)

  pub item-length : at + length (type ++ (len ++ (value ++ rest))) ≡ bound + length rest
  item-length = ap (λ (l : List ℕ). at + length l) (sym (append_assoc type len (value ++ rest))) ∙ three-length s at (type ++ len) value rest start bound p q

  -- what stands before it, it, and what follows
  pub apart : Here s at (type ++ (len ++ (value ++ rest))) → Here s at (type ++ len) × Here s start value × Here s bound rest
  apart h =
      let all = subst (Here s at) (sym (append_assoc type len (value ++ rest))) h in
      let there = moved s (value ++ rest) (sym p) (second s at (type ++ len) (value ++ rest) all) in
      (first s at (type ++ len) (value ++ rest) all, first s start value rest there, moved s rest (sym q) (second s start value rest there))

-- octets that are all of a stream
pub all : (s xs : List ℕ) → Here s 0 xs → length xs ≡ length s → xs ≡ s
all s xs (rest, e) l = sym (e ∙ ap (λ (r : List ℕ). xs ++ r) (nil rest (omega (arith, ap length e ∙ length-append xs rest))) ∙ append-nil xs)
  where
    nil : (r : List ℕ) → length r ≡ 0 → r ≡ []
    nil [] z = refl
    nil (x ∷ r) z = absurd (omega arith)
