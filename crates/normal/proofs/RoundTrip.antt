-- The normal form reads as the same tree, and is a normal form itself. It codes the tree (`normal-codes`), and what codes a tree is accepted
-- with it (`accepts` of the crate tree).
use mathlib.Core.Path.{◌≡◌, refl, ap, sym, ◌∙◌}
use mathlib.Core.List.{List}
use Prim.Native.Nat.{ℕ, ◌≤◌}
use native.Mathlib.Omega.{arith}
use lib.ListN.{length}
use Rattle.octets.specs.Walk.{stream_limit, deepest}
use Rattle.tree.specs.Tree.{Tree, tree_of, Codes, nothing, primitive, definite, indefinite}
use Rattle.tree.specs.Accepts.{Accepts}
use Rattle.tree.proofs.Meaning.{means, coded-walk, accepts}
use Rattle.normal.specs.Normal.{normal_of, normal_form}
use Rattle.normal.specs.Forms.{Definite, Shortest}
use Rattle.normal.proofs.Normals.{normal-definite, normal-codes, small}

-- The normal form of an accepted stream, if within the limit, is accepted, with the same tree.
pub round_trip : (s : List ℕ) (t : Tree) → Accepts s t → length (normal_of t) ≤ stream_limit → Accepts (normal_of t) t
round_trip s t a l = accepts (normal_of t) t (normal-codes (means s t a).0 (omega arith)) l

-- It codes the tree with definite items alone, and over the limit too: it is at most three times as long as the stream, so that no length
-- takes five octets.
pub form-definite : (s : List ℕ) (t : Tree) → Accepts s t → (form : Codes deepest t (normal_of t)) × Definite form
form-definite s t a =
    let (c, l) = means s t a in
    let few = small c in
    normal-definite c (omega arith)

pub form-tree : (s : List ℕ) (t : Tree) → Accepts s t → tree_of (normal_of t) ≡ t
form-tree s t a = (coded-walk (normal_of t) t (form-definite s t a).0).1

-- The normal form of a normal form is itself.
pub again : (s : List ℕ) (t : Tree) → Accepts s t → normal_form (normal_form s) ≡ normal_form s
again s t a =
    let e : normal_form s ≡ normal_of t = ap normal_of a.tree in
    rw e (ap normal_of (form-tree s t a))

-- Two accepted streams with the same normal form have the same tree.
pub same-form : (s r : List ℕ) (t u : Tree) → Accepts s t → Accepts r u → normal_of t ≡ normal_of u → t ≡ u
same-form s r t u a b e = sym (form-tree s t a) ∙ ap tree_of e ∙ form-tree r u b

-- Octets whose items are all definite with the fewest length octets are the normal form.
pub own_form : {room : ℕ} {t : Tree} {xs : List ℕ} (c : Codes room t xs) → Shortest c → normal_of t ≡ xs
unfolding normal_of
own_form nothing s = refl
own_form (primitive g m l c) (e, s) = rw (e, own_form c s)
own_form (definite g l i c) (e, s, r) = rw (e, own_form i s, own_form c r)
own_form (indefinite g i c) s = absurd s
