-- A letter that is made is in the order of class B, whatever its entries say: each block is followed by its one unit. It is in the order of
-- class A only if there is at most one entry, for there no block follows a unit.
use mathlib.Core.Path.{◌≡◌, refl, ap}
use mathlib.Core.Logic.{◌⊎◌, inl, inr}
use mathlib.Core.Bool.{true, false, ◌&&◌}
use mathlib.Core.List.Memᴰ
use mathlib.Core.List.{List, [], ◌∷◌, map}
use Prim.Native.Nat.{◌<◌, ◌≤◌}
use native.Mathlib.Omega.{arith}
use Rattle.headers.specs.Head.{is_in}
use Rattle.names.proofs.Same.{same_refl}
use Rattle.portions.specs.Portions.{any}
use Rattle.elements.specs.Judge.{Element}
use Rattle.reading.specs.Match.{joins}
use Rattle.order.specs.Represents.{◌∈◌, Ascending, ProfileFirst, profile_kind, represents, is_associated, is_represented, all_represented, everything, keep}
use Rattle.order.specs.ClassA.{class_kinds, object_kinds, represents_some, rank_a, ordered_by, listed_of, units_of, in_step, InOrderA}
use Rattle.order.specs.Ranks.{rank_in}
use Rattle.order.specs.ClassB.{rank_b, Group, laid, Together, InOrderB}
use Rattle.making.specs.Entries.{Said, unit_name}
use Rattle.promises_made.specs.Reads.{profile_element, block_element, unit_element, entry_elements, elements_of}

-- the unit of a block represents its portion
unit-represents : (x : Said) → represents (block_element x) x.portion (unit_element x) ≡ true
unfolding represents joins
unit-represents x = same_refl (unit_name x)

block-associated : (x : Said) → is_associated (block_element x) (unit_element x) ≡ true
unfolding is_associated
block-associated x = rw (unit-represents x)

block-represented : (x : Said) → all_represented (unit_element x ∷ []) (block_element x) ≡ true
unfolding all_represented is_represented
block-represented x = rw (unit-represents x)

-- the kinds of blocks and units
pub data Either (e : Element) : Type 0 where
  block : (x : Said) → e ≡ block_element x → Either e
  unit : (x : Said) → e ≡ unit_element x → Either e

entry-kinds : (said : List Said) (e : Element) → e ∈ entry_elements said → Either e
unfolding entry_elements
entry-kinds [] e m = absurd (Memᴰ.not-nil m)
entry-kinds (x ∷ said) e m = first (entry-kinds said e) (Memᴰ.cases_cons m)
  where
    second : (e ∈ entry_elements said → Either e) → (e ≡ unit_element x) ⊎ (e ∈ entry_elements said) → Either e
    second below (inl p) = unit x p
    second below (inr n) = below n

    first : (e ∈ entry_elements said → Either e) → (e ≡ block_element x) ⊎ (e ∈ unit_element x ∷ entry_elements said) → Either e
    first below (inl p) = block x p
    first below (inr n) = second below (Memᴰ.cases_cons n)

no_profile : (e : Element) → Either e → e.kind ≡ profile_kind → ⊥
no_profile e (block x p) k = let q = ap (λ (d : Element). d.kind) p in omega arith
no_profile e (unit x p) k = let q = ap (λ (d : Element). d.kind) p in omega arith

profile-first : (said : List Said) → ProfileFirst (elements_of said)
profile-first said = (refl, λ y m. no_profile y (entry-kinds said y m))

-- the groups of class B
abbrev group_of : Said → Group
group_of x = record { head = block_element x; units = unit_element x ∷ [] }

abbrev profile_group : Group
profile_group = record { head = profile_element; units = [] }

laid-entries : (said : List Said) → entry_elements said ≡ laid (map group_of said)
unfolding entry_elements
laid-entries [] = refl
laid-entries (x ∷ said) = rw (laid-entries said)

group-of : (said : List Said) (g : Group) → g ∈ map group_of said → (x : Said) × (g ≡ group_of x)
group-of [] g m = absurd (Memᴰ.not-nil m)
group-of (x ∷ said) g m = either (Memᴰ.cases_cons m) (group-of said g)
  where
    either : (g ≡ group_of x) ⊎ (g ∈ map group_of said) → (g ∈ map group_of said → (y : Said) × (g ≡ group_of y)) → (y : Said) × (g ≡ group_of y)
    either (inl p) below = (x, p)
    either (inr n) below = below n

together-profile : Together profile_group
unfolding rank_in all_represented
together-profile = record { tabled = omega arith; own = λ u m. absurd (Memᴰ.not-nil m); whole = refl }

only-unit : (x : Said) (u : Element) → u ∈ unit_element x ∷ [] → is_associated (block_element x) u ≡ true
only-unit x u m = either (Memᴰ.cases_cons m)
  where
    either : (u ≡ unit_element x) ⊎ (u ∈ []) → is_associated (block_element x) u ≡ true
    either (inl p) = rw p (block-associated x)
    either (inr n) = absurd (Memᴰ.not-nil n)

together-group : (x : Said) → Together (group_of x)
unfolding rank_in
together-group x = record { tabled = omega arith; own = only-unit x; whole = block-represented x }

ascending-groups : (said : List Said) → Ascending (λ (g : Group). rank_b g.head) (map group_of said)
unfolding rank_in
ascending-groups [] = tt
ascending-groups (x ∷ said) = (λ g m. let (y, p) = group-of said g m in rw p (omega arith), ascending-groups said)

-- A letter that is made is in the order of class B.
pub made-class-b : (said : List Said) → InOrderB (elements_of said)
unfolding rank_in
made-class-b said = record {
  profile = profile-first said;
  groups = profile_group ∷ map group_of said;
  laid_out = ap (λ (l : List Element). profile_element ∷ l) (laid-entries said);
  together = λ g m. each g (Memᴰ.cases_cons m);
  ascending = (λ g m. omega arith, ascending-groups said);
}
  where
    each : (g : Group) → (g ≡ profile_group) ⊎ (g ∈ map group_of said) → Together g
    each g (inl p) = rw p together-profile
    each g (inr n) = let (x, p) = group-of said g n in rw p (together-group x)

-- In class A: no element that is made is a class, and the unit of a block represents a portion of an object.
no-class : (said : List Said) (u : Element) → any (map (λ (e : Element). is_in e.kind class_kinds && is_associated e u) (entry_elements said)) ≡ false
unfolding entry_elements
no-class [] u = refl
no-class (x ∷ said) u = no-class said u

unit-generic : (said : List Said) (u : Element) → represents_some class_kinds (elements_of said) u ≡ false
unfolding represents_some
unit-generic said u = no-class said u

unit-specific : (x : Said) (more : List Said) → represents_some object_kinds (elements_of (x ∷ more)) (unit_element x) ≡ true
unfolding represents_some entry_elements
unit-specific x more = rw (block-associated x)

-- the first unit comes after all objects
unit-rank : (x : Said) (more : List Said) → rank_a (elements_of (x ∷ more)) (unit_element x) ≡ 8
unfolding rank_a
unit-rank x more = rw (unit-generic (x ∷ more) (unit_element x), unit-specific x more)

block-rank : (elements : List Element) (x : Said) → rank_a elements (block_element x) ≡ 6
unfolding rank_a rank_in
block-rank elements x = refl

profile-rank : (elements : List Element) → rank_a elements profile_element ≡ 0
unfolding rank_a rank_in
profile-rank elements = refl

-- With two entries or more, a letter that is made is not in the order of class A.
pub made-class-a-not : (x y : Said) (more : List Said) → InOrderA (elements_of (x ∷ y ∷ more)) → ⊥
unfolding entry_elements
made-class-a-not x y more o =
    let l = o.ascending.1.1.0 (block_element y) (Memᴰ.head refl) in
    let p = unit-rank x (y ∷ more) in
    let q = block-rank (elements_of (x ∷ y ∷ more)) y in
    omega arith

-- With no entry it is,
pub made-class-a-none : InOrderA (elements_of [])
unfolding entry_elements rank_a rank_in listed_of everything keep ordered_by in_step all_represented represents_some
made-class-a-none = record {
  profile = profile-first [];
  tabled = λ e m. single e (Memᴰ.cases_cons m);
  ascending = (λ y m. absurd (Memᴰ.not-nil m), tt);
  all_in_step = refl;
  whole = λ e m. represented e (Memᴰ.cases_cons m);
}
  where
    single : (e : Element) → (e ≡ profile_element) ⊎ (e ∈ []) → rank_a (elements_of []) e < 13
    single e (inl p) = rw p (omega arith)
    single e (inr n) = absurd (Memᴰ.not-nil n)

    represented : (e : Element) → (e ≡ profile_element) ⊎ (e ∈ []) → all_represented (elements_of []) e ≡ true
    represented e (inl p) = rw p
    represented e (inr n) = absurd (Memᴰ.not-nil n)

-- and with one.
pub data OneOf (x : Said) (e : Element) : Type 0 where
  is_profile : e ≡ profile_element → OneOf x e
  is_block : e ≡ block_element x → OneOf x e
  is_unit : e ≡ unit_element x → OneOf x e

one_of : (x : Said) (e : Element) → e ∈ elements_of (x ∷ []) → OneOf x e
unfolding entry_elements
one_of x e m = first (Memᴰ.cases_cons m)
  where
    third : (e ≡ unit_element x) ⊎ (e ∈ []) → OneOf x e
    third (inl p) = is_unit p
    third (inr n) = absurd (Memᴰ.not-nil n)

    second : (e ≡ block_element x) ⊎ (e ∈ unit_element x ∷ []) → OneOf x e
    second (inl p) = is_block p
    second (inr n) = third (Memᴰ.cases_cons n)

    first : (e ≡ profile_element) ⊎ (e ∈ block_element x ∷ unit_element x ∷ []) → OneOf x e
    first (inl p) = is_profile p
    first (inr n) = second (Memᴰ.cases_cons n)

module _ (x : Said) where
  abbrev three : List Element
  three = elements_of (x ∷ [])

  rank-of : (e : Element) → OneOf x e → (rank_a three e < 13) × (rank_a three e ≤ 8)
  rank-of e (is_profile p) = let q = profile-rank three in rw p (omega arith)
  rank-of e (is_block p) = let q = block-rank three x in rw p (omega arith)
  rank-of e (is_unit p) = let q = unit-rank x [] in rw p (omega arith)

  represented : (e : Element) → OneOf x e → all_represented three e ≡ true
  unfolding all_represented is_represented represents joins entry_elements
  represented e (is_profile p) = rw p
  represented e (is_block p) = rw (p, same_refl (unit_name x))
  represented e (is_unit p) = rw p

  all_in_step : in_step (listed_of (ordered_by three) three) (units_of (ordered_by three) three) ≡ true
  unfolding entry_elements listed_of everything keep ordered_by in_step represents_some is_associated represents joins
  all_in_step = rw (same_refl (unit_name x)) (rw (same_refl (unit_name x)))

  pub made-class-a-one : InOrderA three
  unfolding entry_elements
  made-class-a-one =
      let u = unit-rank x [] in
      let b = block-rank three x in
      let p = profile-rank three in
      record {
        profile = profile-first (x ∷ []);
        tabled = λ e m. (rank-of e (one_of x e m)).0;
        ascending = (
          λ e m. omega arith,
          (λ e m. after_block e (Memᴰ.cases_cons m), (λ e m. absurd (Memᴰ.not-nil m), tt)),
        );
        all_in_step = all_in_step;
        whole = λ e m. represented e (one_of x e m);
      }
    where
      after_block : (e : Element) → (e ≡ unit_element x) ⊎ (e ∈ []) → rank_a three (block_element x) ≤ rank_a three e
      after_block e (inl p) = let q = unit-rank x [] in let r = block-rank three x in rw p (omega arith)
      after_block e (inr n) = absurd (Memᴰ.not-nil n)
