-- Sizes: how long the parts of an entry are by their bounds, and sums of sizes that stop growing past the limit.
use mathlib.Core.Path.{◌≡◌, ap, sym, ◌∙◌}
use mathlib.Core.List.{List, [], ◌∷◌, ◌++◌}
use Prim.Native.Nat.{ℕ, ◌+◌, ◌-◌, ◌<◌, ◌≤◌}
use native.Mathlib.Omega.{arith}
use lib.Dec.{ltb}
use lib.ListN.{length, length-append}
use lib.Seq.{length-slice}
use borrow.Author.Tests.{lt-ltb, le-ltb, ltb-true, ltb-false}
use borrow.Table.Steps.{cases}
use Rattle.names.specs.Names.{space_byte}
use Rattle.octets.specs.Walk.{stream_limit}
use Rattle.contents.specs.declared.Span.{Span}
use Rattle.elements.specs.ElementRows.{bytes_in}
use Rattle.making.specs.declared.Entry.{Entry}
use Rattle.making.specs.Entries.{Said, said_by}
use Rattle.making.specs.Octets.{name_size, unit_size, entry_size_by, entry_size, header, block_front, portion_front, unit_front, block_octets, unit_octets, capped}
use Rattle.making.specs.Lent.{PartLies, names_of, text_of, EntryLies}
use Rattle.making.proofs.Putting.{block-pieces, unit-pieces}

-- a size within the limit, and one over it
pub capped-within : (n : ℕ) → n ≤ stream_limit → capped n ≡ n
unfolding capped
capped-within n l = rw (le-ltb stream_limit n l)

pub capped-over : (n : ℕ) → stream_limit < n → capped n ≡ stream_limit + 1
unfolding capped
capped-over n l = rw (lt-ltb stream_limit n l)

-- it is the smaller of the two
pub capped-cases : (n : ℕ) → (P : ℕ → Type 0) → (n ≤ stream_limit → P n) → (stream_limit < n → P (stream_limit + 1)) → P (capped n)
unfolding capped
capped-cases n P f g =
    cases (ltb stream_limit n) (λ t. rw t (g (ltb-true stream_limit n t))) (λ t. rw t (f (ltb-false stream_limit n t)))

pub capped-most : (n : ℕ) → capped n ≤ stream_limit + 1
capped-most n = capped-cases n (λ k. k ≤ stream_limit + 1) (λ l. omega arith) (λ l. omega arith)

-- a sum of such sizes is the size of the sum
pub capped-sum : (m n : ℕ) → capped (capped m + capped n) ≡ capped (m + n)
capped-sum m n =
    cases (ltb stream_limit m)
    (λ t.
    let over = ltb-true stream_limit m t in
    let e = capped-over m over in
    capped-over (capped m + capped n) (omega arith) ∙ sym (capped-over (m + n) (omega arith)))
    (λ t.
    let e = capped-within m (ltb-false stream_limit m t) in
    cases (ltb stream_limit n)
    (λ u.
    let over = ltb-true stream_limit n u in
    let f = capped-over n over in
    capped-over (capped m + capped n) (omega arith) ∙ sym (capped-over (m + n) (omega arith)))
    (λ u.
    let f = capped-within n (ltb-false stream_limit n u) in
    ap capped (let g : capped m + capped n ≡ m + n = omega arith in g)))

-- a text over the limit is enough
pub text-over : (names text : ℕ) → stream_limit < text → capped (entry_size_by names text) ≡ stream_limit + 1
text-over names text l = capped-over (entry_size_by names text) (omega arith)

-- a part has as many octets as its bounds say
pub part-size : (buffer : List ℕ) (part : Span) → PartLies buffer part → length (bytes_in buffer part) ≡ part.past - part.first
part-size buffer part lies = length-slice part.first part.past buffer lies.inside

module _ (buffer : List ℕ) (entry : Entry) (lies : EntryLies buffer entry) where
  pub names-size : name_size (said_by buffer entry) ≡ names_of entry
  names-size = let i = part-size buffer entry.identifier lies.identifier in let p = part-size buffer entry.portion lies.portion in omega arith

  pub text-size : length (said_by buffer entry).text ≡ text_of entry
  text-size = part-size buffer entry.text lies.text

  pub entry-size-by : entry_size (said_by buffer entry) ≡ entry_size_by (names_of entry) (text_of entry)
  entry-size-by =
      ap (λ (n : ℕ). entry_size_by n (length (said_by buffer entry).text)) names-size ∙ ap (entry_size_by (names_of entry)) text-size

-- how long a block is
pub block_size : (said : Said) → length (block_octets said []) ≡ name_size said + 13
unfolding block_octets
block_size said = simp length-append (omega arith)

-- the pieces of a block and of a text unit, by sizes that are those of their parts
pub block-by : (said : Said) (i p : ℕ) → i ≡ length said.identifier → p ≡ length said.portion
    → block_front (i + p) i ++ (said.identifier ++ (portion_front p ++ said.portion)) ≡ block_octets said []
block-by said i p e f =
    ap (λ (k : ℕ). block_front (k + p) k ++ (said.identifier ++ (portion_front p ++ said.portion))) e
    ∙ ap (λ (k : ℕ). block_front (length said.identifier + k) (length said.identifier) ++ (said.identifier ++ (portion_front k ++ said.portion))) f
    ∙ block-pieces said

pub unit-by : (said : Said) (u n t : ℕ) → u ≡ unit_size said → n ≡ name_size said → t ≡ length said.text
    → header 0xA3 u ++ ((unit_front n ++ (said.identifier ++ ((space_byte ∷ []) ++ said.portion))) ++ (header 0x04 t ++ said.text)) ≡ unit_octets said []
unit-by said u n t e f g =
    ap (λ (k : ℕ). header 0xA3 k ++ ((unit_front n ++ (said.identifier ++ ((space_byte ∷ []) ++ said.portion))) ++ (header 0x04 t ++ said.text))) e
    ∙ ap (λ (k : ℕ). header 0xA3 (unit_size said) ++ ((unit_front k ++ (said.identifier ++ ((space_byte ∷ []) ++ said.portion))) ++
    (header 0x04 t ++ said.text))) f
    ∙ ap (λ (k : ℕ). header 0xA3 (unit_size said) ++ ((unit_front (name_size said) ++ (said.identifier ++ ((space_byte ∷ []) ++ said.portion))) ++
    (header 0x04 k ++ said.text))) g
    ∙ unit-pieces said
