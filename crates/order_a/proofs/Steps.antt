-- A step over what is seen is the step of the definition: test by test.
use mathlib.Core.Path.{◌≡◌, refl, sym}
use mathlib.Core.Bool.{Bool, true, false, not, ◌&&◌}
use mathlib.Core.List.{[], ◌∷◌}
use Prim.Native.Nat.{ℕ, ◌≤◌}
use native.Mathlib.Omega.{arith}
use borrow.Table.Steps.{cases}
use Rattle.std.specs.Int.{from_bool}
use Rattle.headers.specs.Head.{is_in}
use lib.Dec.{eqb, leb, ltb}
use Rattle.order.specs.Represents.{profile_kind}
use Rattle.order.specs.ClassA.{end_a}
use Rattle.portions.specs.Portions.{all}
use Rattle.order.specs.PassA.{SightA, rank_seen, tests_a, next_a}
use Rattle.order_a.specs.declared.ranks.Sight.{Sight}
use Rattle.order_a.specs.declared.ranks.State.{State}
use Rattle.order_a.specs.Step.{rank_of, tabled, complete, settled, comes, stands, one, count_of, next, as_state, Sees}

and-true : (b : Bool) → b && true ≡ b
and-true true = refl
and-true false = refl

and-deep : (a b c d e : Bool) → (a && (b && (c && d))) && e ≡ a && (b && (c && (d && e)))
and-deep true true true d e = refl
and-deep true true false d e = refl
and-deep true false c d e = refl
and-deep false b c d e = refl

module _ (s : State) (seen : SightA) (x : Sight) (sees : Sees s seen x) where
  pub rank-seen : rank_seen seen ≡ rank_of x
  unfolding rank_of
  rank-seen = rw (sees.kind, sees.generic, sees.specific)

  -- the tests
  pub stands-exactly : all (tests_a (as_state s) seen) ≡ stands s x
  unfolding stands tabled complete settled comes
  stands-exactly =
      rw (rank-seen, sees.kind, sees.named, sees.lists, sees.early, sees.turn, and-true x.turn)
      (sym (and-deep (not x.early) (not (eqb x.kind profile_kind)) (ltb (rank_of x) end_a) (leb s.rank (rank_of x)) (complete s x (rank_of x))))

  -- the next state
  pub next-exactly : next_a (as_state s) seen ≡ as_state (next s x)
  unfolding next count_of
  next-exactly = rw (rank-seen, sees.kind, sees.lists, sees.generic, sees.specific, sees.ordered)

-- what is counted of an element is what it lists, or nothing
pub count-few : (kind a b lists : ℕ) → count_of kind a b lists ≤ lists
unfolding count_of
count-few kind a b lists = cases (is_in kind (a ∷ b ∷ [])) (λ t. rw t (omega arith)) (λ t. rw t (omega arith))

pub one-few : (test : Bool) → one test ≤ 1
one-few true = omega arith
one-few false = omega arith

-- a test as a number is what is counted of it
pub one-is : (test : Bool) → from_bool test ≡ one test
one-is true = refl
one-is false = refl
