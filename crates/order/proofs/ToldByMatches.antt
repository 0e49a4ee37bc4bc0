-- The rule is over kinds and matches: elements of the same kinds, with identifiers where the others have them, as many portions and the same
-- matches on both sides, have the same fault. For all that the passes look at is told by whether a unit represents a portion, and that by the
-- record of the two (AsMatches).
use mathlib.Core.Path.{◌≡◌, refl, ap, ap₂, sym, ◌∙◌, subst}
use mathlib.Core.Bool.{Bool, true, cond}
use mathlib.Core.Option.{some}
use mathlib.Core.List.{List, [], ◌∷◌, ◌++◌, map}
use Prim.Native.Nat.{ℕ, suc}
use native.Mathlib.Omega.{arith}
use lib.Dec.{eqb}
use lib.ListN.{length, get_elem?}
use borrow.Table.Steps.{cases}
use Rattle.headers.specs.Head.{is_in}
use Rattle.portions.specs.Portions.{any}
use Rattle.elements.specs.Judge.{Element}
use Rattle.reading.specs.declared.Match.{Match}
use Rattle.reading.specs.declared.Side.{Side}
use Rattle.reading.specs.declared.Side.TheVariants.{Layout, Logical}
use Rattle.reading.specs.Match.{kinds_of, matches}
use Rattle.order.specs.declared.Class.{Class}
use Rattle.order.specs.declared.Class.TheVariants.{A, B}
use Rattle.order.specs.Represents.{◌∈◌, named, side_of, represents, is_associated, Listed, listing_of, everything, keep}
use Rattle.order.specs.ClassA.{class_kinds, object_kinds, ordered_by, listed_of}
use Rattle.order.specs.PassB.{layout_owner, Sight, sight_of, place_b}
use Rattle.order.specs.PassA.{listed_in, represents_of, slot_in, SightA, sight_a, sights_a, place_a}
use Rattle.order.specs.Promises.{Look, look}
use Rattle.order.specs.Computed.{pass_of}
use Rattle.order.proofs.AsMatches.{represents-match}

-- two lists of one length, of which those at one place are related
module _ {A : Type 0} (R : A → A → Type 0) where
  abbrev pub Along : (xs ys : List A) → Type 0
  Along [] [] = Unit {0}
  Along [] (y ∷ ys) = ⊥
  Along (x ∷ xs) [] = ⊥
  Along (x ∷ xs) (y ∷ ys) = R x y × Along xs ys

  along-append : (xs ys ms ns : List A) → Along xs ys → Along ms ns → Along (xs ++ ms) (ys ++ ns)
  along-append [] [] ms ns r t = t
  along-append [] (y ∷ ys) ms ns r t = absurd r
  along-append (x ∷ xs) [] ms ns r t = absurd r
  along-append (x ∷ xs) (y ∷ ys) ms ns r t = (r.0, along-append xs ys ms ns r.1 t)

  along-length : (xs ys : List A) → Along xs ys → length xs ≡ length ys
  along-length [] [] r = refl
  along-length [] (y ∷ ys) r = absurd r
  along-length (x ∷ xs) [] r = absurd r
  along-length (x ∷ xs) (y ∷ ys) r = ap suc (along-length xs ys r.1)

  module _ (f g : A → Bool) (same : (x y : A) → R x y → f x ≡ g y) where
    along-any : (xs ys : List A) → Along xs ys → any (map f xs) ≡ any (map g ys)
    along-any [] [] r = refl
    along-any [] (y ∷ ys) r = absurd r
    along-any (x ∷ xs) [] r = absurd r
    along-any (x ∷ xs) (y ∷ ys) r = rw (same x y r.0, along-any xs ys r.1)

    along-keep : (xs ys : List A) → Along xs ys → Along (keep f xs) (keep g ys)
    unfolding keep
    along-keep [] [] r = tt
    along-keep [] (y ∷ ys) r = absurd r
    along-keep (x ∷ xs) [] r = absurd r
    along-keep (x ∷ xs) (y ∷ ys) r =
        let s = same x y r.0 in
        cases (g y) (λ t. rw (s, t) (r.0, along-keep xs ys r.1)) (λ t. rw (s, t) (along-keep xs ys r.1))

both_ways : (a b : Bool) → (a ≡ true → b ≡ true) → (b ≡ true → a ≡ true) → a ≡ b
both_ways a b to from = cases a (λ t. t ∙ sym (to t)) (λ t. cases b (λ u. from u ∙ sym u) (λ u. t ∙ sym u))

module _ (es fs : List Element) where
  -- elements at one place of the two
  abbrev Opposite : (u v : Element) → Type 0
  Opposite u v = (j : ℕ) × (get_elem? es j ≡ some u) × (get_elem? fs j ≡ some v)

  -- portions that units at one place represent alike
  abbrev SameUnits : (e f : Element) → (p q : List ℕ) → Type 0
  SameUnits e f p q = (u v : Element) → Opposite u v → represents e p u ≡ represents f q v

  record Alike (e f : Element) : Type 0 where
    kind : e.kind ≡ f.kind
    is_named : named e ≡ named f
    portions : Along (SameUnits e f) e.portions f.portions
    opposite : Opposite e f

  associated-alike : (e f : Element) → Alike e f → (u v : Element) → Opposite u v → is_associated e u ≡ is_associated f v
  unfolding is_associated
  associated-alike e f a u v o =
      along-any (SameUnits e f) (λ p. represents e p u) (λ q. represents f q v) (λ p q s. s u v o) e.portions f.portions a.portions

  -- what they list
  record AlikeListed (l m : Listed) : Type 0 where
    kind : l.by.kind ≡ m.by.kind
    units : SameUnits l.by m.by l.portion m.portion

  listed-by-alike : (e f : Element) → e.kind ≡ f.kind → (ps qs : List (List ℕ)) → Along (SameUnits e f) ps qs → Along AlikeListed (listing_of e ps)
      (listing_of f qs)
  listed-by-alike e f k [] [] r = tt
  listed-by-alike e f k [] (q ∷ qs) r = absurd r
  listed-by-alike e f k (p ∷ ps) [] r = absurd r
  listed-by-alike e f k (p ∷ ps) (q ∷ qs) r = (record { kind = k; units = r.0 }, listed-by-alike e f k ps qs r.1)

  everything-alike : (xs ys : List Element) → Along Alike xs ys → Along AlikeListed (everything xs) (everything ys)
  unfolding everything
  everything-alike [] [] r = tt
  everything-alike [] (y ∷ ys) r = absurd r
  everything-alike (x ∷ xs) [] r = absurd r
  everything-alike (x ∷ xs) (y ∷ ys) r =
      along-append AlikeListed (listing_of x x.portions) (listing_of y y.portions) (everything xs) (everything ys)
      (listed-by-alike x y r.0.kind x.portions y.portions r.0.portions) (everything-alike xs ys r.1)

  -- the numbers that the pass for class A looks at
  count-alike : (ls ms : List Listed) → Along AlikeListed ls ms → (u v : Element) → Opposite u v → represents_of ls u ≡ represents_of ms v
  unfolding represents_of
  count-alike ls ms r u v o =
      along-length AlikeListed (keep (λ (l : Listed). represents l.by l.portion u) ls) (keep (λ (m : Listed). represents m.by m.portion v) ms)
      (along-keep AlikeListed (λ l. represents l.by l.portion u) (λ m. represents m.by m.portion v) (λ l m a. a.units u v o) ls ms r)

  slot-alike : (n : ℕ) (ls ms : List Listed) → Along AlikeListed ls ms → (u v : Element) → Opposite u v → slot_in n ls u ≡ slot_in n ms v
  unfolding slot_in
  slot-alike n [] [] r u v o = refl
  slot-alike n [] (m ∷ ms) r u v o = absurd r
  slot-alike n (l ∷ ls) [] r u v o = absurd r
  slot-alike n (l ∷ ls) (m ∷ ms) r u v o = rw (r.0.units u v o, slot-alike (suc n) ls ms r.1 u v o)

  module _ (xs ys : List Element) (r : Along Alike xs ys) where
    early-alike : (x y : Element) → Alike x y → any (map (is_associated x) xs) ≡ any (map (is_associated y) ys)
    early-alike x y a = along-any Alike (is_associated x) (is_associated y) (λ u v b. associated-alike x y a u v b.opposite) xs ys r

    listed-in-alike : (kinds : List ℕ) → Along AlikeListed (listed_in kinds xs) (listed_in kinds ys)
    unfolding listed_in
    listed-in-alike kinds =
        along-keep AlikeListed (λ l. is_in l.by.kind kinds) (λ m. is_in m.by.kind kinds) (λ l m a. ap (λ (k : ℕ). is_in k kinds) a.kind)
        (everything xs) (everything ys) (everything-alike xs ys r)

    ordered-by-alike : ordered_by xs ≡ ordered_by ys
    unfolding ordered_by
    ordered-by-alike =
        ap (λ (b : Bool). cond b 2 6) (along-any Alike (λ e. eqb e.kind 2) (λ f. eqb f.kind 2) (λ e f a. ap (λ (k : ℕ). eqb k 2) a.kind) xs ys r)

    listed-of-alike : (kind : ℕ) → Along AlikeListed (listed_of kind xs) (listed_of kind ys)
    unfolding listed_of
    listed-of-alike kind =
        along-keep AlikeListed (λ l. eqb l.by.kind kind) (λ m. eqb m.by.kind kind) (λ l m a. ap (λ (k : ℕ). eqb k kind) a.kind)
        (everything xs) (everything ys) (everything-alike xs ys r)

    slots-alike : (x y : Element) → Alike x y → slot_in 0 (listed_of (ordered_by xs) xs) x ≡ slot_in 0 (listed_of (ordered_by ys) ys) y
    slots-alike x y a =
        ap (λ (k : ℕ). slot_in 0 (listed_of k xs) x) ordered-by-alike
        ∙ slot-alike 0 (listed_of (ordered_by ys) xs) (listed_of (ordered_by ys) ys) (listed-of-alike (ordered_by ys)) x y a.opposite

    sight-alike : (x y : Element) → Alike x y → sight_a xs x ≡ sight_a ys y
    sight-alike x y a =
        rw (
          a.is_named,
          along-length (SameUnits x y) x.portions y.portions a.portions,
          early-alike x y a,
          count-alike (listed_in class_kinds xs) (listed_in class_kinds ys) (listed-in-alike class_kinds) x y a.opposite,
          count-alike (listed_in object_kinds xs) (listed_in object_kinds ys) (listed-in-alike object_kinds) x y a.opposite,
          slots-alike x y a,
          a.kind,
        )

  sights-alike : (xs ys ms ns : List Element) → Along Alike xs ys → Along Alike ms ns → sights_a xs ms ≡ sights_a ys ns
  sights-alike xs ys [] [] r t = refl
  sights-alike xs ys [] (b ∷ ns) r t = absurd t
  sights-alike xs ys (a ∷ ms) [] r t = absurd t
  sights-alike xs ys (a ∷ ms) (b ∷ ns) r t =
      ap₂ (λ (x : SightA) (l : List SightA). x ∷ l) (sight-alike xs ys r a b t.0)
      (sights-alike (xs ++ a ∷ []) (ys ++ b ∷ []) ms ns (along-append Alike xs ys (a ∷ []) (b ∷ []) r (t.0, tt)) t.1)

  -- and that for class B
  owner-alike : (n : ℕ) (xs ys : List Element) → Along Alike xs ys → (u v : Element) → Opposite u v → layout_owner n xs u ≡ layout_owner n ys v
  unfolding layout_owner
  owner-alike n [] [] r u v o = refl
  owner-alike n [] (y ∷ ys) r u v o = absurd r
  owner-alike n (x ∷ xs) [] r u v o = absurd r
  owner-alike n (x ∷ xs) (y ∷ ys) r u v o = rw (associated-alike x y r.0 u v o, r.0.kind, owner-alike (suc n) xs ys r.1 u v o)

  seen_alike : Along Alike es fs → (xs ys : List Element) → Along Alike xs ys → map (sight_of es) xs ≡ map (sight_of fs) ys
  seen_alike all [] [] r = refl
  seen_alike all [] (y ∷ ys) r = absurd r
  seen_alike all (x ∷ xs) [] r = absurd r
  seen_alike all (x ∷ xs) (y ∷ ys) r =
      ap₂ (λ (s : Sight) (l : List Sight). s ∷ l) (one x y r.0) (seen_alike all xs ys r.1)
    where
      one : (x y : Element) → Alike x y → sight_of es x ≡ sight_of fs y
      one x y a =
          rw (a.is_named, along-length (SameUnits x y) x.portions y.portions a.portions, owner-alike 0 es fs all x y a.opposite, a.kind)

  pass-alike : (class : Class) → Along Alike es fs → pass_of class es ≡ pass_of class fs
  pass-alike A r = ap place_a (sights-alike [] [] es fs tt r)
  pass-alike B r = ap place_b (seen_alike r es fs r)

  -- two letters with equal matches have equal verdicts
  module _ (listed : (side : Side) → matches side es ≡ matches side fs) where
    module _ (i : ℕ) (e f : Element) (at-e : get_elem? es i ≡ some e) (at_f : get_elem? fs i ≡ some f) (kind : e.kind ≡ f.kind) where
      same_lists : matches (side_of e) es ≡ matches (side_of f) fs
      same_lists = ap (λ (k : ℕ). matches (cond (is_in k (kinds_of Layout)) Layout Logical) es) kind ∙ listed (side_of f)

      same_units : (k : ℕ) (p q : List ℕ) → get_elem? e.portions k ≡ some p → get_elem? f.portions k ≡ some q → SameUnits e f p q
      same_units k p q at_p at-q u v (j, at-u, at-v) =
          let here = represents-match es i k j e p u at-e at_p at-u in
          let there = represents-match fs i k j f q v at_f at-q at-v in
          both_ways (represents e p u) (represents f q v)
          (λ t. there.1 (subst (λ (ms : List Match). record { element = i; portion = k; unit = j } ∈ ms) same_lists (here.0 t)))
          (λ t. here.1 (subst (λ (ms : List Match). record { element = i; portion = k; unit = j } ∈ ms) (sym same_lists) (there.0 t)))

      portions-alike : (place : ℕ → ℕ) (ps qs : List (List ℕ)) → length ps ≡ length qs
          → ((k : ℕ) (p : List ℕ) → get_elem? ps k ≡ some p → get_elem? e.portions (place k) ≡ some p)
          → ((k : ℕ) (q : List ℕ) → get_elem? qs k ≡ some q → get_elem? f.portions (place k) ≡ some q) → Along (SameUnits e f) ps qs
      portions-alike place [] [] n at_p at-q = tt
      portions-alike place [] (q ∷ qs) n at_p at-q = absurd (omega arith)
      portions-alike place (p ∷ ps) [] n at_p at-q = absurd (omega arith)
      portions-alike place (p ∷ ps) (q ∷ qs) n at_p at-q = (
        same_units (place 0) p q (at_p 0 p refl) (at-q 0 q refl),
        portions-alike (λ k. place (suc k)) ps qs (omega arith) (λ k r t. at_p (suc k) r t) (λ k r t. at-q (suc k) r t),
      )

    alike_from : (place : ℕ → ℕ) (xs ys : List Element) → map look xs ≡ map look ys
        → ((k : ℕ) (x : Element) → get_elem? xs k ≡ some x → get_elem? es (place k) ≡ some x)
        → ((k : ℕ) (y : Element) → get_elem? ys k ≡ some y → get_elem? fs (place k) ≡ some y) → Along Alike xs ys
    alike_from place [] [] l at_x at_y = tt
    alike_from place [] (y ∷ ys) l at_x at_y = let n : length (map look []) ≡ length (map look (y ∷ ys)) = ap length l in absurd (omega arith)
    alike_from place (x ∷ xs) [] l at_x at_y = let n : length (map look (x ∷ xs)) ≡ length (map look []) = ap length l in absurd (omega arith)
    alike_from place (x ∷ xs) (y ∷ ys) l at_x at_y =
        let here : look x ≡ look y = cc in
        let rest : map look xs ≡ map look ys = cc in
        let kinds : x.kind ≡ y.kind = ap (λ (k : Look). k.kind) here in (
          record {
            kind = kinds;
            is_named = ap (λ (k : Look). k.named) here;
            portions = portions-alike (place 0) x y (at_x 0 x refl) (at_y 0 y refl) kinds (λ k. k) x.portions y.portions
                (ap (λ (k : Look). k.lists) here) (λ k p t. t) (λ k q t. t);
            opposite = (place 0, at_x 0 x refl, at_y 0 y refl);
          },
          alike_from (λ k. place (suc k)) xs ys rest (λ k z t. at_x (suc k) z t) (λ k z t. at_y (suc k) z t),
        )

-- THE THEOREM: the same looks and the same matches, the same fault
pub pass-told : (class : Class) (es fs : List Element) → map look es ≡ map look fs → ((side : Side) → matches side es ≡ matches side fs)
    → pass_of class es ≡ pass_of class fs
pass-told class es fs looks listed =
    pass-alike es fs class (alike_from es fs listed (λ k. k) es fs looks (λ k x t. t) (λ k y t. t))
