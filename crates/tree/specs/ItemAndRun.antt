-- X.209's account a second time and in its own shape, items and runs apart: an item is its type field, its length octets and its contents,
-- and a run is item after item. `run-codes` and `codes-run` (proofs/ItemAndRun) show that it says what `Codes` says.
use Rattle.std.specs.Prelude.{ℕ, suc, ◌≡◌, true, false, List, [], ◌∷◌, ◌++◌, length}
use Rattle.headers.specs.Head.{code_of, misfits}
use Rattle.tree.specs.Tree.{TypeField, Length}

-- "An item is a header with a value; a constructed value is a run of items, each with a value of its own."
mutual
  pub data Item : Type 0 where
    primitive : (type value : List ℕ) → Item
    constructed : (type : List ℕ) → (value : Run) → Item

  pub data Run : Type 0 where
    none : Run
    more : Item → Run → Run

-- the octets xs of an item, and of a run of items, with so many levels
mutual
  pub data ItemCodes : (room : ℕ) → Item → List ℕ → Type 0 where
    primitively : {room : ℕ} {type len value xs : List ℕ} → TypeField type false → misfits (code_of type) (length value) ≡ false
        → Length (length value) len → xs ≡ type ++ (len ++ value) → ItemCodes (suc room) (primitive type value) xs
    definitely : {room : ℕ} {type len value xs : List ℕ} {inside : Run} → TypeField type true → Length (length value) len
        → RunCodes room inside value → xs ≡ type ++ (len ++ value) → ItemCodes (suc room) (constructed type inside) xs
    indefinitely : {room : ℕ} {type value xs : List ℕ} {inside : Run} → TypeField type true → RunCodes room inside value
        → xs ≡ type ++ (0x80 ∷ (value ++ (0 ∷ 0 ∷ []))) → ItemCodes (suc room) (constructed type inside) xs

  pub data RunCodes : (room : ℕ) → Run → List ℕ → Type 0 where
    nothing : {room : ℕ} {xs : List ℕ} → xs ≡ [] → RunCodes room none xs
    further : {room : ℕ} {i : Item} {r : Run} {xs ys zs : List ℕ} → ItemCodes room i ys → RunCodes room r zs → xs ≡ ys ++ zs
        → RunCodes room (more i r) xs
