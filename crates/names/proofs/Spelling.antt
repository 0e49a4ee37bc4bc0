-- What the length of a name decides of its spelling, and what its next byte does.
use mathlib.Core.Path.{◌≡◌, ap}
use mathlib.Core.Bool.{Bool, true, false, cond, ◌&&◌}
use mathlib.Core.List.{List}
use mathlib.Core.Logic.{◌⊎◌, inl, inr}
use Prim.Native.Nat.{ℕ, ◌+◌, ◌<◌, ◌≤◌}
use native.Mathlib.Omega.{arith}
use borrow.Author.Tests.{eq-eqb, ne_eqb, le-leb, lt-leb}
use lib.Dec.{eqb}
use lib.ListN.{length, get_or, drop}
use Rattle.std.proofs.lemmas.List.{drop_more}
use Rattle.names.specs.Names.{space_byte, longest_identifier, longest_portion, is_digit, grouped, is_identifier, all_digits, is_portion}

module _ (name : List ℕ) where
  pub identifier-long : longest_identifier < length name → is_identifier name ≡ false
  unfolding is_identifier
  identifier-long l = rw (lt-leb _ _ l)

  pub identifier-short : length name ≤ longest_identifier → is_identifier name ≡ grouped false name
  unfolding is_identifier
  identifier-short l = rw (le-leb _ _ l)

  pub portion-empty : length name ≡ 0 → is_portion name ≡ false
  unfolding is_portion
  portion-empty e = rw e

  pub portion-long : longest_portion < length name → is_portion name ≡ false
  unfolding is_portion
  portion-long l = let some : 1 ≤ length name = omega (arith, l) in rw (le-leb _ _ some, lt-leb _ _ l)

  pub portion-short : (length name ≡ 0 → ⊥) → length name ≤ longest_portion → is_portion name ≡ all_digits name
  unfolding is_portion
  portion-short n l = let some : 1 ≤ length name = omega (arith, n) in rw (le-leb _ _ some, le-leb _ _ l)

  module _ (at : ℕ) (some : at < length name) where
    abbrev byte : ℕ
    byte = get_or name at 0

    abbrev rest : List ℕ
    rest = drop (at + 1) name

    pub grouped-more : (in_group : Bool) → grouped in_group (drop at name)
        ≡ cond (is_digit byte) (grouped true rest) (eqb byte space_byte && in_group && grouped false rest)
    unfolding grouped
    grouped-more in_group = ap (grouped in_group) (drop_more name at 0 some)

    pub digits_more : all_digits (drop at name) ≡ (is_digit byte && all_digits rest)
    unfolding all_digits
    digits_more = ap all_digits (drop_more name at 0 some)

-- a byte that ends a group, or does not: one that is no space, or has no digit before it, does not
pub no_end : (b : ℕ) (in_group after : Bool) → (b ≡ space_byte → ⊥) ⊎ ((b ≡ space_byte) × (in_group ≡ false))
    → (eqb b space_byte && in_group && after) ≡ false
no_end b in_group after (inl n) = rw (ne_eqb _ _ n)
no_end b in_group after (inr (e, f)) = rw (eq-eqb _ _ e, f)
