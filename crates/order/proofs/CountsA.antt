-- Class A: how many portions of classes, or of objects, a unit represents is told by whether it represents one of each kind, for it represents at most
-- one on a side. With `some-match` (AsMatches) that is told by the records of the unit. And the number of the portion by which it is ordered is
-- how many are listed before it, and one.
use mathlib.Core.Path.{◌≡◌, refl, ap, sym, ◌∙◌, subst}
use mathlib.Core.Bool.{Bool, true, false}
use mathlib.Core.List.Memᴰ
use mathlib.Core.List.{List, [], ◌∷◌, ◌++◌, append_assoc}
use Prim.Native.Nat.{ℕ, suc, ◌+◌, ◌≤◌}
use native.Mathlib.Omega.{arith}
use lib.Dec.{eqb}
use lib.ListN.{length, length-append, length-map}
use borrow.Author.Tests.{eqb-true, eq-eqb, ltb-true, ltb-false}
use borrow.Table.Steps.{cases}
use Rattle.headers.specs.Head.{is_in}
use Rattle.elements.specs.Judge.{Element}
use Rattle.order.specs.Represents.{◌∈◌, side_of, represents, LimitsAside, Listed, listing_of, everything, keep}
use Rattle.order.specs.ClassA.{class_kinds, object_kinds, represents_some, listed_of}
use Rattle.order.specs.PassA.{listed_in, represents_of, slot_in, count_if}
use Rattle.order.proofs.Lacking.{keep-in, Apart, AllApart, apart-keep, apart-everything}
use Rattle.order.proofs.Keeping.{keep_append, keep-none, keep_all, everything-append}
use Rattle.order.proofs.FrontA.{of-kind}
use Rattle.order.proofs.OrderA.{apart-unit, kind-side}
use Rattle.order.proofs.SightsA.{listed-in-told, some-count}

-- of listed portions of which no two pass a test, at most one is kept
at_most_one : (test : Listed → Bool) (ls : List Listed)
    → ((l k : Listed) → l ∈ ls → k ∈ ls → Apart l k → test l ≡ true → test k ≡ true → ⊥) → AllApart ls → length (keep test ls) ≤ 1
unfolding keep
at_most_one test [] differ a = omega arith
at_most_one test (l ∷ ls) differ a =
    cases (test l)
    (λ t. let none : keep test ls ≡ [] = keep-none test ls (λ k m. not_both k m t) in rw (t, none) (omega arith))
    (λ t. rw t (at_most_one test ls (λ j k m n. differ j k (tail m) (tail n)) a.1))
  where
    tail : {k : Listed} → k ∈ ls → k ∈ l ∷ ls
    tail m = Memᴰ.tail m

    not_both : (k : Listed) → k ∈ ls → test l ≡ true → test k ≡ false
    not_both k m t = cases (test k) (λ u. absurd (differ l k (Memᴰ.head refl) (tail m) (a.0 k m) t u)) (λ u. u)

module _ (front : List Element) (aside : LimitsAside front) (x : Element) where
  abbrev represented : Listed → Bool
  represented l = represents l.by l.portion x

  -- elements of one kind are of one side
  one-of-kind : (kind : ℕ) → represents_of (listed_in (kind ∷ []) front) x ≤ 1
  unfolding represents_of listed_in
  one-of-kind kind =
      at_most_one represented (listed_in (kind ∷ []) front)
      (λ l k m n a t u. apart-unit l k x a (kind-side l.by k.by (kind-told l m ∙ sym (kind-told k n))) t u)
      apart
    where
      kind-told : (l : Listed) → l ∈ listed_in (kind ∷ []) front → l.by.kind ≡ kind
      kind-told l m = of-kind l.by kind (listed-in-told (kind ∷ []) front l m).0

      apart : AllApart (listed_in (kind ∷ []) front)
      apart = apart-keep (λ (l : Listed). is_in l.by.kind (kind ∷ [])) (everything front) (apart-everything front aside)

  count-of-kind : (kind : ℕ) → represents_of (listed_in (kind ∷ []) front) x ≡ count_if (represents_some (kind ∷ []) front x) 1
  count-of-kind kind =
      let few = one-of-kind kind in
      cases (represents_some (kind ∷ []) front x)
      (λ t. let l = ltb-true 0 (represents_of (listed_in (kind ∷ []) front) x) (sym (some-count (kind ∷ []) front x) ∙ t) in rw t (omega arith))
      (λ t. let l = ltb-false 0 (represents_of (listed_in (kind ∷ []) front) x) (sym (some-count (kind ∷ []) front x) ∙ t) in rw t (omega arith))

  both-kinds : (a b : ℕ) → (a ≡ b → ⊥) → (ls : List Listed)
      → length (keep represented (keep (λ (l : Listed). is_in l.by.kind (a ∷ b ∷ [])) ls))
      ≡ length (keep represented (keep (λ (l : Listed). is_in l.by.kind (a ∷ [])) ls)) + length
      (keep represented (keep (λ (l : Listed). is_in l.by.kind (b ∷ [])) ls))
  unfolding keep
  both-kinds a b differ [] = refl
  both-kinds a b differ (l ∷ ls) =
      let more = both-kinds a b differ ls in
      cases (eqb l.by.kind a)
      (λ p. cases (eqb l.by.kind b)
      (λ q. absurd (differ (sym (eqb-true l.by.kind a p) ∙ eqb-true l.by.kind b q)))
      (λ q. cases (represented l) (λ t. rw (p, q, t) (omega arith)) (λ t. rw (p, q, t) more)))
      (λ p. cases (eqb l.by.kind b)
      (λ q. cases (represented l) (λ t. rw (p, q, t) (omega arith)) (λ t. rw (p, q, t) more))
      (λ q. rw (p, q) more))

  of_two : (a b : ℕ) → (a ≡ b → ⊥)
      → represents_of (listed_in (a ∷ b ∷ []) front) x ≡ count_if (represents_some (a ∷ []) front x) 1 + count_if (represents_some (b ∷ []) front x) 1
  unfolding represents_of listed_in
  of_two a b differ = parts ∙ sum (count-of-kind a) (count-of-kind b)
    where
      parts : represents_of (listed_in (a ∷ b ∷ []) front) x ≡ represents_of (listed_in (a ∷ []) front) x + represents_of (listed_in (b ∷ []) front) x
      parts = both-kinds a b differ (everything front)

      sum : {i j k m : ℕ} → i ≡ j → k ≡ m → i + k ≡ j + m
      sum p q = rw (p, q)

  -- what is counted of classes, and of objects
  pub generic-count : represents_of (listed_in class_kinds front) x ≡ count_if (represents_some (1 ∷ []) front x) 1 + count_if (represents_some (5 ∷ []) front x) 1
  generic-count = of_two 1 5 (λ e. omega arith)

  pub specific-count : represents_of (listed_in object_kinds front) x ≡ count_if (represents_some (2 ∷ []) front x) 1 + count_if (represents_some (6 ∷ []) front x) 1
  specific-count = of_two 2 6 (λ e. omega arith)

abbrev listed : Element → List ℕ → Listed
listed e p = record { by = e; portion = p }

-- the number of the one portion that a unit represents, among portions of one side
slot_at : (n : ℕ) (ls ks : List Listed) (l : Listed) (x : Element) → AllApart (ls ++ l ∷ ks) → ((k : Listed) → k ∈ ls → side_of k.by ≡ side_of l.by)
    → represents l.by l.portion x ≡ true → slot_in n (ls ++ l ∷ ks) x ≡ suc (n + length ls)
unfolding slot_in
slot_at n [] ks l x a side t = let z : suc n ≡ suc (n + 0) = omega arith in rw t z
slot_at n (k ∷ ls) ks l x a side t =
    let more = slot_at (suc n) ls ks l x a.1 (λ j m. side j (Memᴰ.tail m)) t in
    let z : suc (suc n + length ls) ≡ suc (n + suc (length ls)) = omega arith in
    cases (represents k.by k.portion x)
    (λ u. absurd (apart-unit k l x (a.0 l (Memᴰ.append_right ls (Memᴰ.head refl))) (side k (Memᴰ.head refl)) u t))
    (λ u. rw u (more ∙ z))

module _ (pre : List Element) (e : Element) (post : List Element) (ps : List (List ℕ)) (p : List ℕ) (qs : List (List ℕ))
    (lists : e.portions ≡ ps ++ p ∷ qs) where
  abbrev of_kind : Listed → Bool
  of_kind l = eqb l.by.kind e.kind

  listed-parts : (rs : List (List ℕ)) → listing_of e (rs ++ p ∷ qs) ≡ listing_of e rs ++ listed e p ∷ listing_of e qs
  listed-parts [] = refl
  listed-parts (r ∷ rs) = ap (λ (l : List Listed). listed e r ∷ l) (listed-parts rs)

  own-kind : (l : Listed) → l ∈ listing_of e e.portions → of_kind l ≡ true
  own-kind l m =
      let (q, n, r) = Memᴰ.of_map (λ (q : List ℕ). listed e q) e.portions m in
      ap of_kind (sym r) ∙ eq-eqb e.kind e.kind refl

  -- what is listed before it, it, and what is listed after it
  parts : listed_of e.kind (pre ++ e ∷ post) ≡ (listed_of e.kind pre ++ listing_of e ps) ++ listed e p ∷ (listing_of e qs ++ keep of_kind (everything post))
  unfolding listed_of everything
  parts =
      ap (keep of_kind) (everything-append pre (e ∷ post))
      ∙ keep_append of_kind (everything pre) (listing_of e e.portions ++ everything post)
      ∙ ap (λ (r : List Listed). keep of_kind (everything pre) ++ r)
      (keep_append of_kind (listing_of e e.portions) (everything post)
      ∙ ap (λ (r : List Listed). r ++ keep of_kind (everything post)) (keep_all of_kind (listing_of e e.portions) own-kind ∙ ap (listing_of e) lists
      ∙ listed-parts ps)
      ∙ append_assoc (listing_of e ps) (listed e p ∷ listing_of e qs) (keep of_kind (everything post)))
      ∙ sym (append_assoc (keep of_kind (everything pre)) (listing_of e ps) (listed e p ∷ (listing_of e qs ++ keep of_kind (everything post))))

  -- the number that the pass looks at: the portions that elements of the kind list before, the place of the portion, and one
  pub slot_is : LimitsAside (pre ++ e ∷ post) → (x : Element) → represents e p x ≡ true
      → slot_in 0 (listed_of e.kind (pre ++ e ∷ post)) x ≡ suc (length (listed_of e.kind pre) + length ps)
  unfolding listed_of
  slot_is aside x t =
      ap (λ (l : List Listed). slot_in 0 l x) parts
      ∙ slot_at 0 before (listing_of e qs ++ keep of_kind (everything post)) (listed e p) x (subst AllApart parts apart) side t
      ∙ ap suc count
    where
      before : List Listed
      before = listed_of e.kind pre ++ listing_of e ps

      apart : AllApart (listed_of e.kind (pre ++ e ∷ post))
      apart = apart-keep of_kind (everything (pre ++ e ∷ post)) (apart-everything (pre ++ e ∷ post) aside)

      side : (k : Listed) → k ∈ before → side_of k.by ≡ side_of e
      side k m =
          let n = subst (λ (ls : List Listed). k ∈ ls) (sym parts) (Memᴰ.append_left (listed e p ∷ (listing_of e qs ++ keep of_kind (everything post))) m) in
          kind-side k.by e (eqb-true k.by.kind e.kind (keep-in of_kind (everything (pre ++ e ∷ post)) k n).1)

      count : 0 + length before ≡ length (listed_of e.kind pre) + length ps
      count =
          let a : length before ≡ length (listed_of e.kind pre) + length (listing_of e ps) = length-append (listed_of e.kind pre) (listing_of e ps) in
          let b : length (listing_of e ps) ≡ length ps = length-map ps (listed e) in
          omega arith
