-- The normal form codes the tree that it is made of: its lengths say what they should, and nothing else of an item changes.
use mathlib.Core.Path.{◌≡◌, ◌∙◌, subst}
use mathlib.Core.List.{List, ◌∷◌}
use Prim.Native.Nat.{ℕ, zero, suc, ◌+◌, ◌*◌, ◌^◌, ◌/◌, ◌%◌, ◌<◌, ◌≤◌}
use native.Mathlib.Omega.{arith}
use native.Mathlib.Nat.{pow-suc}
use lib.Dec.{ltb}
use lib.ListN.{length, length-append}
use borrow.Author.Tests.{ltb-true}
use Rattle.headers.specs.Head.{big_endian, big_endian_from}
use Rattle.headers.proofs.Lengths.{be-snoc}
use Rattle.laws.proofs.Tests.{cond-holds}
use Rattle.tree.specs.Tree.{Tree, Length, short, long, Codes, nothing, primitive, definite, indefinite}
use Rattle.tree.proofs.Types.{field-some}
use Rattle.normal.specs.Normal.{further_octets, number_octets, length_by, length_octets, coded, normal_of}
use Rattle.normal.specs.Forms.{Definite}
use Rattle.normal.proofs.Lengths.{length_digits, length-length, further-le}

digits-say : (k n : ℕ) → n < 256 ^ k → big_endian (number_octets k n) ≡ n
unfolding number_octets big_endian_from
digits-say zero n l = let z : n < 1 = l in omega arith
digits-say (suc k) n l =
    let m : n < 256 ^ k * 256 = rw (pow-suc 256 k) at l in
    be-snoc 0 (number_octets k (n / 256)) (n % 256) ∙ rw (digits-say k (n / 256) (omega arith)) (omega arith)

long-length : (k n : ℕ) → k ≤ 3 → n < 256 ^ suc k → Length n (length_by (suc k) n)
long-length k n a l =
    let ds = number_octets (suc k) n in
    let d = length_digits (suc k) n in
    let f : Length (big_endian ds) ((0x80 + length ds) ∷ ds) = long {octets = ds} (omega arith) (omega arith) in
    subst (λ (j : ℕ). Length j ((0x80 + suc k) ∷ ds)) (digits-say (suc k) n l)
    (subst (λ (j : ℕ). Length (big_endian ds) ((0x80 + j) ∷ ds)) d f)

-- the length octets of the normal form are length octets
pub shortest : (n : ℕ) → n < 256 ^ 4 → Length n (length_octets n)
shortest n l =
    let P : ℕ → Type 0 = λ k. Length n (length_by k n) in
    cond-holds P (ltb n 0x80) (λ e. short (ltb-true n 0x80 e))
    (λ _. cond-holds P (ltb n 0x100) (λ e. long-length 0 n (omega arith) (ltb-true n 0x100 e))
    (λ _. cond-holds P (ltb n 0x10000) (λ e. long-length 1 n (omega arith) (ltb-true n 0x10000 e))
    (λ _. cond-holds P (ltb n 0x1000000) (λ e. long-length 2 n (omega arith) (ltb-true n 0x1000000 e))
    (λ _. long-length 3 n (omega arith) l))))

pub coded-length : (type value after : List ℕ)
    → length (coded type value after) ≡ length type + (1 + further_octets (length value)) + length value + length after
coded-length type value after = simp length-append (omega (arith, length-length (length value)))

-- The normal form codes the same tree, and no item of it is indefinite.
pub normal-definite : {room : ℕ} {t : Tree} {xs : List ℕ} → Codes room t xs → length (normal_of t) < 256 ^ 4
    → (form : Codes room t (normal_of t)) × Definite form
unfolding normal_of
normal-definite nothing l = (nothing, tt)
normal-definite (primitive {type = type} {value = value} {after = after} g m _ c) l =
    let e = coded-length type value (normal_of after) in
    let (rest, d) = normal-definite c (omega arith) in
    (primitive g m (shortest (length value) (omega arith)) rest, d)
normal-definite (definite {type = type} {inside = inside} {after = after} g _ i c) l =
    let e = coded-length type (normal_of inside) (normal_of after) in
    let (run, f) = normal-definite i (omega arith) in
    let (rest, d) = normal-definite c (omega arith) in
    (definite g (shortest (length (normal_of inside)) (omega arith)) run rest, (f, d))
normal-definite (indefinite {type = type} {inside = inside} {after = after} g i c) l =
    let e = coded-length type (normal_of inside) (normal_of after) in
    let (run, f) = normal-definite i (omega arith) in
    let (rest, d) = normal-definite c (omega arith) in
    (definite g (shortest (length (normal_of inside)) (omega arith)) run rest, (f, d))

pub normal-codes : {room : ℕ} {t : Tree} {xs : List ℕ} → Codes room t xs → length (normal_of t) < 256 ^ 4 → Codes room t (normal_of t)
normal-codes c l = (normal-definite c l).0

-- A normal form is never more than three times as long as what codes the same tree.
some-length : {n : ℕ} {len : List ℕ} → Length n len → 1 ≤ length len
some-length (short l) = omega arith
some-length (long a b) = omega arith

pub small : {room : ℕ} {t : Tree} {xs : List ℕ} → Codes room t xs → length (normal_of t) ≤ 3 * length xs
unfolding normal_of
small nothing = omega arith
small (primitive {type = type} {len} {value} {rest} {after} g m l c) =
    simp length-append (omega (arith, length-length (length value), further-le (length value), field-some g, some-length l, small c))
small (definite {type = type} {len} {value} {rest} {inside} {after} g l j c) =
    simp length-append (omega (
      arith,
      length-length (length (normal_of inside)),
      further-le (length (normal_of inside)),
      field-some g,
      some-length l,
      small c,
      small j,
    ))
small (indefinite {type = type} {value} {rest} {inside} {after} g j c) =
    simp length-append (omega (arith, length-length (length (normal_of inside)), further-le (length (normal_of inside)), field-some g, small c, small j))
