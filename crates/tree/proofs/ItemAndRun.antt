-- Items and runs apart say what `Codes` says: an item is coded with whatever follows it, by induction on both.
use mathlib.Core.Path.{◌≡◌, refl, ap, sym, ◌∙◌}
use mathlib.Core.List.{List, [], ◌∷◌, ◌++◌, append_assoc}
use Prim.Native.Nat.{ℕ}
use Rattle.tree.specs.Tree.{Tree, empty, leaf, branch, Codes, nothing as no_items, primitive as leaf-coding, definite, indefinite}
use Rattle.tree.specs.ItemAndRun.{Item, Run, primitive, constructed, none, more, ItemCodes, RunCodes, primitively, definitely, indefinitely, nothing}
use Rattle.tree.specs.ItemAndRun.{further}

-- the tree of a run, and of an item with what follows it
abbrev mutual
  pub tree_then : Item → Tree → Tree
  tree_then (primitive type value) after = leaf type value after
  tree_then (constructed type inside) after = branch type (tree_of_run inside) after

  pub tree_of_run : Run → Tree
  tree_of_run none = empty
  tree_of_run (more i r) = tree_then i (tree_of_run r)

mutual
  item-codes : {room : ℕ} {i : Item} {xs : List ℕ} → ItemCodes room i xs → (after : Tree) (rest : List ℕ) → Codes room after rest
      → Codes room (tree_then i after) (xs ++ rest)
  item-codes (primitively g m l e) after rest c = rw e (simp append_assoc (leaf-coding g m l c))
  item-codes (definitely g l r e) after rest c = rw e (simp append_assoc (definite g l (run-codes r) c))
  item-codes (indefinitely g r e) after rest c = rw e (simp append_assoc (indefinite g (run-codes r) c))

  pub run-codes : {room : ℕ} {r : Run} {xs : List ℕ} → RunCodes room r xs → Codes room (tree_of_run r) xs
  run-codes (nothing e) = rw e no_items
  run-codes (further {r = r} {zs = zs} a b e) = rw e (item-codes a (tree_of_run r) zs (run-codes b))

-- the run of a tree
abbrev pub run_of_tree : Tree → Run
run_of_tree empty = none
run_of_tree (leaf type value after) = more (primitive type value) (run_of_tree after)
run_of_tree (branch type inside after) = more (constructed type (run_of_tree inside)) (run_of_tree after)

apart : (type len value rest : List ℕ) → type ++ (len ++ (value ++ rest)) ≡ (type ++ (len ++ value)) ++ rest
apart type len value rest = simp append_assoc

pub codes-run : {room : ℕ} {t : Tree} {xs : List ℕ} → Codes room t xs → RunCodes room (run_of_tree t) xs
codes-run no_items = nothing refl
codes-run (leaf-coding {type = type} {len} {value} {rest} g m l c) =
    further (primitively g m l refl) (codes-run c) (apart type len value rest)
codes-run (definite {type = type} {len} {value} {rest} g l i c) =
    further (definitely g l (codes-run i) refl) (codes-run c) (apart type len value rest)
codes-run (indefinite {type = type} {value} {rest} g i c) =
    let mark : List ℕ = 0 ∷ 0 ∷ [] in
    further (indefinitely g (codes-run i) refl) (codes-run c)
    (ap (λ (l : List ℕ). type ++ (0x80 ∷ l)) (sym (append_assoc value mark rest)) ∙ sym (append_assoc type (0x80 ∷ (value ++ mark)) rest))

mutual
  item-and-back : (i : Item) (after : Tree) → run_of_tree (tree_then i after) ≡ more i (run_of_tree after)
  item-and-back (primitive type value) after = refl
  item-and-back (constructed type inside) after = rw (run-and-back inside)

  pub run-and-back : (r : Run) → run_of_tree (tree_of_run r) ≡ r
  run-and-back none = refl
  run-and-back (more i r) = item-and-back i (tree_of_run r) ∙ rw (run-and-back r)
