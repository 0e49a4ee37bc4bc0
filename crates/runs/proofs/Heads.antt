-- What reading at a position tells: the code of an item is not 0, and small, and a closing mark is only where an indefinite item is
-- innermost. Each test of `head_at` is taken apart in turn.
use mathlib.Core.Path.{◌≡◌, refl, subst}
use mathlib.Core.Bool.{Bool, true}
use mathlib.Core.List.{List}
use Prim.Native.Nat.{ℕ, ◌+◌, ◌-◌, ◌<◌}
use native.Mathlib.Omega.{arith}
use lib.Dec.{leb, ltb, eqb}
use borrow.Author.Tests.{eqb-false}
use Rattle.headers.specs.declared.Header.{Header}
use Rattle.headers.specs.declared.Head.{Head}
use Rattle.headers.specs.declared.Head.TheVariants.{Item, ClosingMark, Refusal}
use Rattle.headers.specs.Head.{constructed, misfits, octet_at, definite_at, indefinite_at, long_at, by_first, length_at, closing_at, item_at, head_at}
use Rattle.headers.proofs.Lies.{FieldRead, in_one, in_two, in_three, item-holds}
use Rattle.headers.proofs.Fields.{above-thirty}
use Rattle.laws.proofs.Tests.{cond-holds}

-- an item with this code, or a refusal
abbrev Has : (octet : ℕ) → Head → Type 0
Has octet (Item h) = h.code ≡ octet
Has octet ClosingMark = ⊥
Has octet (Refusal number place) = Unit {0}

-- the code of a type field that begins with this octet is not 0, and small if that is an octet
abbrev pub CodeOk : (octet code : ℕ) → Type 0
CodeOk octet code = (code ≡ 0 → ⊥) × (octet < 256 → code < 16777216)

-- what is read tells of the code, by the octet that stands there, and of whether the innermost open item is indefinite
abbrev pub Tells : (octet : ℕ) → (marked : Bool) → Head → Type 0
Tells octet marked (Item h) = CodeOk octet h.code
Tells octet marked ClosingMark = marked ≡ true
Tells octet marked (Refusal number place) = Unit {0}

module _ (s : List ℕ) (code at from limit : ℕ) where
  definite-has : (start len : ℕ) → Has code (definite_at code at start len limit)
  unfolding definite_at
  definite-has start len =
      cond-holds (Has code) (leb (start + len) limit) (λ _. cond-holds (Has code) (misfits code len) (λ _. tt) (λ _. refl)) (λ _. tt)

  first-has : (first : ℕ) → Has code (by_first s code at from first limit)
  unfolding by_first indefinite_at long_at
  first-has first =
      cond-holds (Has code) (ltb first 0x80) (λ _. definite-has (from + 1) first)
      (λ _. cond-holds (Has code) (eqb first 0x80) (λ _. cond-holds (Has code) (constructed code) (λ _. refl) (λ _. tt))
      (λ _. cond-holds (Has code) (ltb first 0x85)
      (λ _. cond-holds (Has code) (leb (from + 1 + (first - 0x80)) limit) (λ _. definite-has (from + 1 + (first - 0x80)) _) (λ _. tt))
      (λ _. tt)))

  length_has : Has code (length_at s code at from limit)
  unfolding length_at
  length_has = cond-holds (Has code) (ltb from limit) (λ _. first-has _) (λ _. tt)

code_ok : {s : List ℕ} {octet at limit code past : ℕ} → (octet ≡ 0 → ⊥) → FieldRead s octet at limit code past → CodeOk octet code
code_ok z (in_one low tabled) = (z, λ l. omega arith)
code_ok {octet = octet} z (in_two n k p a b) = let (o, l, _) = above-thirty octet k in (λ e. omega arith, λ _. omega arith)
code_ok {octet = octet} z (in_three n k p a b c) = let (o, l, _) = above-thirty octet k in (λ e. omega arith, λ _. omega arith)

tells : (octet code : ℕ) (marked : Bool) → CodeOk octet code → (head : Head) → Has code head → Tells octet marked head
tells octet code marked k (Item h) e = rw e k
tells octet code marked k ClosingMark e = absurd e
tells octet code marked k (Refusal number place) e = tt

item-tells : (s : List ℕ) (octet at limit room : ℕ) (marked : Bool) → (octet ≡ 0 → ⊥) → Tells octet marked (item_at s octet at limit room)
item-tells s octet at limit room marked z =
    item-holds (Tells octet marked) s octet at limit room (λ _ _ _. tt)
    (λ _ code past read. tells octet code marked (code_ok z read) (length_at s code at past limit) (length_has s code at past limit))

closing-tells : (s : List ℕ) (at limit octet : ℕ) (marked : Bool) → Tells octet marked (closing_at s at limit marked)
unfolding closing_at
closing-tells s at limit octet marked =
    cond-holds (Tells octet marked) marked
    (λ m. cond-holds (Tells octet marked) (ltb (at + 1) limit)
    (λ _. cond-holds (Tells octet marked) (eqb (octet_at s (at + 1)) 0) (λ _. m) (λ _. tt))
    (λ _. tt))
    (λ _. tt)

head-tells : (s : List ℕ) (at limit : ℕ) (marked : Bool) (room : ℕ) → Tells (octet_at s at) marked (head_at s at limit marked room)
unfolding head_at
head-tells s at limit marked room =
    cond-holds (Tells (octet_at s at) marked) (eqb (octet_at s at) 0) (λ _. closing-tells s at limit (octet_at s at) marked)
    (λ z. item-tells s (octet_at s at) at limit room marked (eqb-false _ _ z))

module _ (s : List ℕ) (at limit : ℕ) (marked : Bool) (room : ℕ) where
  -- an item's code is not 0, and it is small
  pub item-octet : (h : Header) → head_at s at limit marked room ≡ Item h → CodeOk (octet_at s at) h.code
  item-octet h e = subst (Tells (octet_at s at) marked) e (head-tells s at limit marked room)

  -- a closing mark ends a marked run
  pub mark-marked : head_at s at limit marked room ≡ ClosingMark → marked ≡ true
  mark-marked e = subst (Tells (octet_at s at) marked) e (head-tells s at limit marked room)
