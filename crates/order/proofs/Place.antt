-- The place of 26: it is determined, it is there exactly when the elements are not in order, and it is what is computed.
use Rattle.std.specs.Prelude.{Option, None, Some}
use mathlib.Core.Path.{◌≡◌, refl, ap, sym, ◌∙◌, subst}
use mathlib.Core.Logic.{◌⊎◌, inl, inr, ◌↔◌}
use mathlib.Core.Bool.{Bool, true, false, true≢false}
use mathlib.Core.List.Memᴰ
use mathlib.Core.List.{List, [], ◌∷◌, ◌++◌, append_assoc, append-nil}
use Prim.Native.Nat.{ℕ, zero, suc, ◌+◌, ◌<◌, ◌≤◌}
use native.Mathlib.Omega.{arith}
use lib.ListN.{length, take, length-append}
use lib.Dec.{ltb}
use borrow.Author.Tests.{ltb-true, ltb-false}
use borrow.Table.Steps.{cases}
use Rattle.elements.specs.Judge.{Element}
use Rattle.order.specs.Represents.{NoClash, LimitsAside}
use Rattle.order.specs.declared.Class.{Class}
use Rattle.order.specs.declared.Class.TheVariants.{A, B}
use Rattle.order.specs.Begins.{InOrder, Begins, FaultAt}
use Rattle.order.specs.Fault.{begins, ordered, fault_from, fault_of}
use Rattle.order.proofs.Fronts.{begins-front, whole-begins}
use Rattle.order.proofs.OrderA as OfA
use Rattle.order.proofs.OrderB as OfB

-- THE THEOREM, for both classes: what is computed is what it is to begin a run in order, and to be in order
pub begins-exactly : (class : Class) (front : List Element) → LimitsAside front → (begins class front ≡ true) ↔ Begins class front
begins-exactly A front a = OfA.begins-exactly front a
begins-exactly B front a = OfB.begins-exactly front a

pub ordered-exactly : (class : Class) (elements : List Element) → (ordered class elements ≡ true) ↔ InOrder class elements
ordered-exactly A elements = OfA.ordered-exactly elements
ordered-exactly B elements = OfB.ordered-exactly elements

-- there is one place at most
pub place-determined : (class : Class) (elements : List Element) (m n : ℕ) → FaultAt class elements m → FaultAt class elements n → m ≡ n
place-determined class elements m n a b =
    let below : m < n → ⊥ = λ l. not-before m n a b l in
    let above : n < m → ⊥ = λ l. not-before n m b a l in
    omega arith
  where
    end : (n : ℕ) → FaultAt class elements n → n ≤ length elements
    end n b = which b.here
      where
        which : ((n < length elements) × (Begins class (take (suc n) elements) → ⊥))
            ⊎ ((n ≡ length elements) × (InOrder class elements → ⊥)) → n ≤ length elements
        which (inl p) = omega arith
        which (inr p) = omega arith

    not-before : (m n : ℕ) → FaultAt class elements m → FaultAt class elements n → m < n → ⊥
    not-before m n a b l = which a.here
      where
        which : ((m < length elements) × (Begins class (take (suc m) elements) → ⊥)) ⊎ ((m ≡ length elements) × (InOrder class elements → ⊥)) → ⊥
        which (inl p) = p.1 (b.before m l)
        which (inr p) = let e = end n b in omega arith

-- a front is as the whole, limits aside
pub no-clash-left : (xs ys : List Element) → NoClash (xs ++ ys) → NoClash xs
no-clash-left [] ys a = tt
no-clash-left (x ∷ xs) ys a = (λ e m. a.0 e (Memᴰ.append_left ys m), no-clash-left xs ys a.1)

pub aside-left : (xs ys : List Element) → LimitsAside (xs ++ ys) → LimitsAside xs
aside-left xs ys a = record { fit = λ e m. a.fit e (Memᴰ.append_left ys m); apart = no-clash-left xs ys a.apart }

take-front : (n : ℕ) (xs : List Element) → (ys : List Element) × (take n xs ++ ys ≡ xs)
take-front zero xs = (xs, refl)
take-front (suc n) [] = ([], refl)
take-front (suc n) (x ∷ xs) = let r = take-front n xs in (r.0, ap (λ (l : List Element). x ∷ l) r.1)

-- what is in order has no place of 26
pub in-order-none : (class : Class) (elements : List Element) → LimitsAside elements → InOrder class elements → (n : ℕ) → FaultAt class elements n → ⊥
in-order-none class elements a o n f = which f.here
  where
    which : ((n < length elements) × (Begins class (take (suc n) elements) → ⊥)) ⊎ ((n ≡ length elements) × (InOrder class elements → ⊥)) → ⊥
    which (inl p) =
        let r = take-front (suc n) elements in
        p.1 (begins-front class (take (suc n) elements) r.0 (subst (Begins class) (sym r.1) (whole-begins class elements a o)))
    which (inr p) = p.1 o

-- the front through the element after a front
take-through : (front : List Element) (x : Element) (xs : List Element) → take (suc (length front)) (front ++ x ∷ xs) ≡ front ++ x ∷ []
take-through [] x xs = refl
take-through (y ∷ front) x xs = ap (λ (l : List Element). y ∷ l) (take-through front x xs)

-- what is found, after a front all of whose fronts begin
abbrev Tells : Class → List Element → Option ℕ → Type 0
Tells class elements None = InOrder class elements
Tells class elements (Some n) = FaultAt class elements n

module _ (class : Class) where
  tells-from : (front rest : List Element) → LimitsAside (front ++ rest) → ((k : ℕ) → k < length front → Begins class (take (suc k) (front ++ rest)))
      → Tells class (front ++ rest) (fault_from class front rest)
  unfolding fault_from
  tells-from front [] a b =
      cases (ordered class front)
      (λ t. rw t (subst (InOrder class) (sym (append-nil front)) ((ordered-exactly class front).0 t)))
      (λ t. rw t (record {
        before = b;
        here = inr (
          ap length (sym (append-nil front)),
          λ o. true≢false (sym ((ordered-exactly class front).1 (subst (InOrder class) (append-nil front) o)) ∙ t),
        );
      }))
  tells-from front (x ∷ xs) a b =
      let e : (front ++ x ∷ []) ++ xs ≡ front ++ x ∷ xs = append_assoc front (x ∷ []) xs in
      let aside : LimitsAside (front ++ x ∷ []) = aside-left (front ++ x ∷ []) xs (subst LimitsAside (sym e) a) in
      cases (begins class (front ++ x ∷ []))
      (λ t. rw t (subst (λ (l : List Element). Tells class l (fault_from class (front ++ x ∷ []) xs)) e
      (tells-from (front ++ x ∷ []) xs (subst LimitsAside (sym e) a)
      (λ k l. subst (λ (es : List Element). Begins class (take (suc k) es)) (sym e)
      (through k ((begins-exactly class (front ++ x ∷ []) aside).0 t) (shorter k l))))))
      (λ t. rw t (record {
        before = b;
        here = inl (longer, λ c. true≢false (sym ((begins-exactly class (front ++ x ∷ []) aside).1 (subst (Begins class) (take-through front x xs) c)) ∙ t));
      }))
    where
      longer : length front < length (front ++ x ∷ xs)
      longer = simp length-append (omega arith)

      shorter : (k : ℕ) → k < length (front ++ x ∷ []) → (k < length front) ⊎ (k ≡ length front)
      shorter k l =
          let m : k < length front + 1 = simp length-append at l in
          by (ltb k (length front)) refl m
        where
          by : (c : Bool) → ltb k (length front) ≡ c → k < length front + 1 → (k < length front) ⊎ (k ≡ length front)
          by true t m = inl (ltb-true k (length front) t)
          by false t m = let n = ltb-false k (length front) t in inr (omega arith)

      through : (k : ℕ) → Begins class (front ++ x ∷ []) → (k < length front) ⊎ (k ≡ length front) → Begins class (take (suc k) (front ++ x ∷ xs))
      through k c (inl l) = b k l
      through k c (inr i) = subst (λ (n : ℕ). Begins class (take (suc n) (front ++ x ∷ xs))) (sym i) (subst (Begins class) (sym (take-through front x xs)) c)

  -- what is found is so
  pub found-tells : (elements : List Element) → LimitsAside elements → Tells class elements (fault_of class elements)
  found-tells elements a = tells-from [] elements a (λ k l. absurd (omega arith))

  found-told : (elements : List Element) → LimitsAside elements → (f : Option ℕ) → fault_of class elements ≡ f → Tells class elements f
  found-told elements a f e = subst (Tells class elements) e (found-tells elements a)

  -- 26 at a place exactly when that is the place, and in order exactly when it is
  pub fault_exactly : (elements : List Element) → LimitsAside elements → (n : ℕ) → (fault_of class elements ≡ Some n) ↔ FaultAt class elements n
  fault_exactly elements a n = (found-told elements a (Some n), λ f. from (fault_of class elements) (found-tells elements a) f)
    where
      from : (g : Option ℕ) → Tells class elements g → FaultAt class elements n → g ≡ Some n
      from None o f = absurd (in-order-none class elements a o n f)
      from (Some m) h f = ap Some (place-determined class elements m n h f)

  pub in_order_exactly : (elements : List Element) → LimitsAside elements → (fault_of class elements ≡ None) ↔ InOrder class elements
  in_order_exactly elements a = (found-told elements a None, λ o. from (fault_of class elements) (found-tells elements a) o)
    where
      from : (g : Option ℕ) → Tells class elements g → InOrder class elements → g ≡ None
      from None p o = refl
      from (Some m) h o = absurd (in-order-none class elements a o m h)
