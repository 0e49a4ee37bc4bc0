-- A set is told by its number, and what is a point or a pair by a number that is not 0.
use Prim.Native.Nat.{ℕ}
use mathlib.Core.Path.{◌≡◌, refl, ap}
use mathlib.Core.Bool.{Bool, true, false, cond}
use lib.Dec.{eqb}
use Rattle.std.specs.Prelude.{Some, None}
use Rattle.characters.specs.declared.Set.{Set}
use Rattle.characters.specs.declared.Set.TheVariants.{Iso6937, T61, Latin1}
use Rattle.characters.specs.declared.Points.{Points}
use Rattle.characters.specs.declared.Points.TheVariants.{One, Number}
use Rattle.characters.specs.declared.Sign.{Sign}
use Rattle.characters.specs.Sets.{latin1, number_of, point_in}
use Rattle.characters.specs.Signs.{sign, pair_in, accented}

pub no-latin1 : (s : Set) → (s ≡ Latin1 → ⊥) → eqb (number_of s) latin1 ≡ false
no-latin1 Iso6937 n = refl
no-latin1 T61 n = refl
no-latin1 Latin1 n = absurd (n refl)

-- an octet alone, by whether it has a point
pub alone-some : (c o p : ℕ) → point_in c ≡ Some p → One p ≡ cond (eqb c 0) (Number o) (One c)
alone-some c o p = go (eqb c 0)
  where
    go : (x : Bool) → cond x None (Some c) ≡ Some p → One p ≡ cond x (Number o) (One c)
    go true e = absurd cc
    go false e = cc

pub alone-none : (c o : ℕ) → point_in c ≡ None → Number o ≡ cond (eqb c 0) (Number o) (One c)
alone-none c o = go (eqb c 0)
  where
    go : (x : Bool) → cond x None (Some c) ≡ None → Number o ≡ cond x (Number o) (One c)
    go true e = refl
    go false e = absurd cc

-- two octets, by whether they are a pair
pub pair-some : (c a b : ℕ) (x : Points) (y : Sign) → pair_in c a b ≡ Some x → sign x 2 ≡ cond (eqb c 0) y (sign (accented c a b) 2)
pair-some c a b x y = go (eqb c 0)
  where
    go : (z : Bool) → cond z None (Some (accented c a b)) ≡ Some x → sign x 2 ≡ cond z y (sign (accented c a b) 2)
    go true e = absurd cc
    go false e =
        let same : x ≡ accented c a b = cc in
        ap (λ (p : Points). sign p 2) same

pub pair-none : (c a b : ℕ) (y : Sign) → pair_in c a b ≡ None → y ≡ cond (eqb c 0) y (sign (accented c a b) 2)
pair-none c a b y = go (eqb c 0)
  where
    go : (z : Bool) → cond z None (Some (accented c a b)) ≡ None → y ≡ cond z y (sign (accented c a b) 2)
    go true e = refl
    go false e = absurd cc
