-- An identifier without its last group: what is before the last space, wherever it was found; and of a well spelt one, that a space and digits are
-- what is taken off.
use mathlib.Core.Path.{◌≡◌, refl, ap, sym, ◌∙◌}
use mathlib.Core.Bool.{Bool, true, false, ◌&&◌, false≢true, and-eq-true_iff}
use mathlib.Core.List.{List, [], ◌∷◌, ◌++◌}
use Prim.Native.Nat.{ℕ, ◌<◌, ◌≤◌}
use native.Mathlib.Omega.{arith}
use lib.Dec.{eqb, ltb}
use lib.ListN.{length}
use lib.Seq.{slice}
use borrow.Author.Tests.{eqb-true, lt-ltb}
use borrow.Table.Steps.{cases}
use Rattle.names.specs.Names.{space_byte, is_digit, grouped, all_digits}
use Rattle.contents.specs.Search.{Value, absent, octets}
use Rattle.letters.specs.Telling.{name_in}
use Rattle.parents.specs.Parent.{in_front, shorter, shorter_of}
use Rattle.parents.specs.Lookup.{CutAt}

-- what is before the last space
pub shorter-at : (xs ys : List ℕ) → shorter ys ≡ absent → shorter (xs ++ space_byte ∷ ys) ≡ octets xs
unfolding shorter
shorter-at [] ys e = rw e
shorter-at (x ∷ xs) ys e = rw (shorter-at xs ys e)

-- no space here, and none after
pub shorter-none : (byte : ℕ) (ys : List ℕ) → eqb byte space_byte ≡ false → shorter ys ≡ absent → shorter (byte ∷ ys) ≡ absent
unfolding shorter
shorter-none byte ys t e = rw (e, t)

pub shorter-empty : shorter [] ≡ absent
unfolding shorter
shorter-empty = refl

-- a digit is no space
digit-space : (byte : ℕ) → is_digit byte ≡ true → eqb byte space_byte ≡ true → ⊥
unfolding is_digit
digit-space byte d t = let q : byte ≡ space_byte = eqb-true byte space_byte t in false≢true (ap is_digit (sym q) ∙ d)

-- digits have no space
pub digits-whole : (ys : List ℕ) → all_digits ys ≡ true → shorter ys ≡ absent
unfolding shorter all_digits
digits-whole [] d = refl
digits-whole (y ∷ ys) d =
    let a = (and-eq-true_iff (is_digit y) (all_digits ys)).0 d in
    let rest : shorter ys ≡ absent = digits-whole ys a.1 in
    let no : eqb y space_byte ≡ false = cases (eqb y space_byte) (λ t. absurd (digit-space y a.0 t)) (λ t. t) in
    rw (rest, no)

-- of a name that a pair bounds, by where its last space stands, if it has one
pub name-cut : {s : List ℕ} {first past at : ℕ} → CutAt s first past at
    → shorter_of (name_in s (record { first = first; past = past })) ≡ octets (slice first at s)
name-cut {s} {first} {past} l = let some : first < past = omega (arith, l.after, l.before) in rw (lt-ltb _ _ some) l.cuts

pub name-whole : (s : List ℕ) (first past : ℕ) → shorter (slice first past s) ≡ absent
    → shorter_of (name_in s (record { first = first; past = past })) ≡ absent
name-whole s first past e = cases (ltb first past) (λ t. rw t e) (λ t. rw t)

-- what is taken off a well spelt identifier
pub record Off (whole front : List ℕ) : Type 0 where
  pub digits : List ℕ
  pub spelt : whole ≡ front ++ space_byte ∷ digits
  pub only_digits : all_digits digits ≡ true
  pub some_digits : 1 ≤ length digits

-- what follows a byte is grouped too, and after a space begins a group
record Following (byte : ℕ) (rest : List ℕ) : Type 0 where
  in_group : Bool
  in_groups : grouped in_group rest ≡ true
  new_group : eqb byte space_byte ≡ true → in_group ≡ false

following : (in_group : Bool) (x : ℕ) (xs : List ℕ) → grouped in_group (x ∷ xs) ≡ true → Following x xs
unfolding grouped
following in_group x xs g =
    cases (is_digit x)
    (λ d. record { in_group = true; in_groups = rw d at g; new_group = λ t. absurd (digit-space x d t) })
    (λ d.
    let h : (eqb x space_byte && in_group && grouped false xs) ≡ true = rw d at g in
    record { in_group = false; in_groups = ((and-eq-true_iff (eqb x space_byte && in_group) (grouped false xs)).0 h).1; new_group = λ t. refl })

-- in groups, what is no space is a digit
grouped-is_digit : (in_group : Bool) (x : ℕ) (xs : List ℕ) → grouped in_group (x ∷ xs) ≡ true → eqb x space_byte ≡ false → is_digit x ≡ true
unfolding grouped
grouped-is_digit in_group x xs g n = cases (is_digit x) (λ d. d) (λ d. absurd (false≢true (rw (d, n) at g)))

-- a byte that is no last space
no_front : (x : ℕ) (v : Value) → in_front x v ≡ absent → (v ≡ absent) × (eqb x space_byte ≡ false)
no_front x absent e =
    cases (eqb x space_byte)
    (λ t. let f : octets [] ≡ absent = rw t at e in let z : ◌≡◌ {A = ℕ} 0 1 = cc in absurd (omega arith))
    (λ t. (refl, t))
no_front x (octets bytes) e = let z : ◌≡◌ {A = ℕ} 0 1 = cc in absurd (omega arith)

-- where no space is taken off, there are digits alone
one-group : (in_group : Bool) (xs : List ℕ) → grouped in_group xs ≡ true → shorter xs ≡ absent → all_digits xs ≡ true
unfolding shorter all_digits
one-group in_group [] g e = refl
one-group in_group (x ∷ xs) g e =
    let n = no_front x (shorter xs) e in
    let f = following in_group x xs g in
    rw (grouped-is_digit in_group x xs g n.1) (one-group f.in_group xs f.in_groups n.0)

-- a group that begins has a digit
pub not-empty : (in_group : Bool) (xs : List ℕ) → grouped in_group xs ≡ true → in_group ≡ false → 1 ≤ length xs
unfolding grouped
not-empty in_group [] g f = absurd (false≢true (sym f ∙ g))
not-empty in_group (x ∷ xs) g f = omega arith

-- a space and digits are taken off, by what is taken off the rest
off-front : (in_group : Bool) (x : ℕ) (xs front : List ℕ) → grouped in_group (x ∷ xs) ≡ true → (v : Value) → shorter xs ≡ v
    → ((bytes : List ℕ) → v ≡ octets bytes → Off xs bytes) → in_front x v ≡ octets front → Off (x ∷ xs) front
off-front in_group x xs front g absent p rest e =
    let r = following in_group x xs g in
    cases (eqb x space_byte)
    (λ t.
    let q : x ≡ space_byte = eqb-true x space_byte t in
    let f : octets [] ≡ octets front = rw t at e in
    let w : front ≡ [] = cc in
    rw w (record {
      digits = xs;
      spelt = rw q;
      only_digits = one-group r.in_group xs r.in_groups p;
      some_digits = not-empty r.in_group xs r.in_groups (r.new_group t);
    }))
    (λ t. let f : absent ≡ octets front = rw t at e in let z : ◌≡◌ {A = ℕ} 0 1 = cc in absurd (omega arith))
off-front in_group x xs front g (octets bytes) p rest e =
    let o = rest bytes refl in
    let w : front ≡ x ∷ bytes = cc in
    rw w (record { digits = o.digits; spelt = ap (λ (l : List ℕ). x ∷ l) o.spelt; only_digits = o.only_digits; some_digits = o.some_digits })

pub group-off : (in_group : Bool) (xs front : List ℕ) → grouped in_group xs ≡ true → shorter xs ≡ octets front → Off xs front
unfolding shorter
group-off in_group [] front g e = let z : ◌≡◌ {A = ℕ} 0 1 = cc in absurd (omega arith)
group-off in_group (x ∷ xs) front g e =
    let r = following in_group x xs g in
    off-front in_group x xs front g (shorter xs) refl (λ bytes p. group-off r.in_group xs bytes r.in_groups p) e
