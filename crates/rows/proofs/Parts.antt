-- An index in its two parts: where they lie, what a store into the one leaves of the other, and the links lent and given back.
use mathlib.Core.Path.{◌≡◌, sym, ap, ◌∙◌, subst}
use mathlib.Core.List.{List, ◌++◌, append-nil}
use Prim.Native.Nat.{ℕ, ◌+◌, ◌-◌, ◌<◌, ◌≤◌}
use native.Mathlib.Omega.{arith}
use lib.Bits.{and_le_r}
use lib.ListN.{length, get_or, set, take, drop, length-set, length-append, length-drop, drop_of_length-le}
use lib.Seq.{length-take-le, take_all, take_at, drop_at, take-set-le, take-set-lt, drop-set-lt, drop-set-add, get_or-take, get_or-drop}
use Rattle.names.specs.Hash.{hashes, hash, bucket}
use Rattle.names.proofs.Hashing.{hash-below}
use Rattle.rows.specs.Columns.{value_at, Present}
use Rattle.rows.specs.Chains.{Indexed, Links}
use Rattle.rows.specs.Lookup.{Ordered, mark_of, AtMost, Around}
use Rattle.rows.specs.Index.{links_begin, heads_of, links_of, Filed}
use Rattle.rows.proofs.ChainGrow.{added, links-added}
use Rattle.rows.proofs.Filing.{filed-in-order, filed-by-hash, filed-first}

-- the heads are not all: two numbers at least are left
pub links-inside : (size : ℕ) → links_begin size ≤ size - 2
unfolding links_begin
links-inside size = and_le_r (size - 1) (size - 2)

pub heads-size : (index : List ℕ) → length (heads_of index) ≡ links_begin (length index)
heads-size index = length-take-le (links_begin (length index)) index (omega (arith, links-inside (length index)))

pub some_links : (index : List ℕ) → 0 < length (heads_of index) → 2 ≤ length index
some_links index some = omega (arith, heads-size index, links-inside (length index))

pub links-size : (index : List ℕ) → length (links_of index) ≡ length index - links_begin (length index)
links-size index = length-drop (links_begin (length index)) index

-- an index as long as another has parts as long
pub heads-alike : (index index' : List ℕ) → length index' ≡ length index → length (heads_of index') ≡ length (heads_of index)
heads-alike index index' e = heads-size index' ∙ ap links_begin e ∙ sym (heads-size index)

pub links-alike : (index index' : List ℕ) → length index' ≡ length index → length (links_of index') ≡ length (links_of index)
links-alike index index' e = links-size index' ∙ ap (λ (l : ℕ). l - links_begin l) e ∙ sym (links-size index)

-- the mark is the last number of the whole
pub mark-last : (index : List ℕ) → 0 < length (links_of index) → get_or index (length index - 1) 0 ≡ mark_of (links_of index)
mark-last index some =
    let size = links-size index in
    let e : length index - 1 ≡ links_begin (length index) + (length (links_of index) - 1) = omega (arith, size) in
    ap (λ (i : ℕ). get_or index i 0) e ∙ sym (get_or-drop (links_begin (length index)) index (length (links_of index) - 1) 0)

module _ (index : List ℕ) {at : ℕ} (is : at ≡ links_begin (length index)) where
  pub head_at : (b : ℕ) → b < at → get_or index b 0 ≡ get_or (heads_of index) b 0
  head_at b l = sym (get_or-take (links_begin (length index)) index b 0 (omega arith))

  -- the parts as they are lent
  pub heads-part : take at index ≡ heads_of index
  heads-part = ap (λ (k : ℕ). take k index) is

  pub links-part : take (length index - at) (drop at index) ≡ links_of index
  links-part = take_all (length index - at) (drop at index) (omega (arith, length-drop at index)) ∙ ap (λ (k : ℕ). drop k index) is

  pub heads-count : at ≡ length (take at index)
  heads-count = sym (length-take-le at index (omega (arith, links-inside (length index))))

  -- what holds of heads and links holds of the parts as they are lent, and the other way round
  pub to-parts : (P : (heads links : List ℕ) → Type 0) → P (heads_of index) (links_of index) → P (take at index) (take (length index - at) (drop at index))
  to-parts P x =
      subst (λ (xs : List ℕ). P xs (take (length index - at) (drop at index))) (sym heads-part) (subst (P (heads_of index)) (sym links-part) x)

  pub of_parts : (P : (heads links : List ℕ) → Type 0) → P (take at index) (take (length index - at) (drop at index)) → P (heads_of index) (links_of index)
  of_parts P x =
      subst (λ (xs : List ℕ). P xs (links_of index)) heads-part (subst (P (take at index)) links-part x)

  -- a store into the links
  pub link-set-heads : (i v : ℕ) → heads_of (set index (at + i) v) ≡ heads_of index
  link-set-heads i v =
      ap (λ (l : ℕ). take (links_begin l) (set index (at + i) v)) (length-set index (at + i) v)
      ∙ take-set-le (links_begin (length index)) index (at + i) v (omega arith)

  pub link-set-links : (i v : ℕ) → links_of (set index (at + i) v) ≡ set (links_of index) i v
  link-set-links i v =
      ap (λ (l : ℕ). drop (links_begin l) (set index (at + i) v)) (length-set index (at + i) v)
      ∙ ap (λ (k : ℕ). drop (links_begin (length index)) (set index (k + i) v)) is
      ∙ drop-set-add (links_begin (length index)) index i v

  -- a store into the heads
  pub head-set-heads : (b v : ℕ) → b < at → heads_of (set index b v) ≡ set (heads_of index) b v
  head-set-heads b v l =
      ap (λ (k : ℕ). take (links_begin k) (set index b v)) (length-set index b v) ∙ take-set-lt (links_begin (length index)) index b v (omega arith)

  pub head-set-links : (b v : ℕ) → b < at → links_of (set index b v) ≡ links_of index
  head-set-links b v l =
      ap (λ (k : ℕ). drop (links_begin k) (set index b v)) (length-set index b v) ∙ drop-set-lt (links_begin (length index)) index b v (omega arith)

  -- the links given back as others
  module _ (links : List ℕ) (size : length links ≡ length (take (length index - at) (drop at index))) where
    abbrev back : List ℕ
    back = take at index ++ (links ++ drop (length index - at) (drop at index))

    front : length (take at index) ≡ at
    front = length-take-le at index (omega (arith, links-inside (length index)))

    links-long : length links ≡ length index - at
    links-long = size ∙ length-take-le (length index - at) (drop at index) (omega (arith, length-drop at index))

    pub back-size : length back ≡ length index
    back-size =
        length-append (take at index) (links ++ drop (length index - at) (drop at index))
        ∙ omega (
          arith,
          front,
          links-inside (length index),
          links-long,
          length-append links (drop (length index - at) (drop at index)),
          length-drop (length index - at) (drop at index),
          length-drop at index,
        )

    pub back-heads : heads_of back ≡ heads_of index
    back-heads =
        ap (λ (l : ℕ). take (links_begin l) back) back-size ∙ take_at (take at index) (links ++ drop (length index - at) (drop at index))
        (links_begin (length index)) (front ∙ is) ∙ heads-part

    pub back-links : links_of back ≡ links
    back-links =
        ap (λ (l : ℕ). drop (links_begin l) back) back-size
        ∙ drop_at (take at index) (links ++ drop (length index - at) (drop at index)) (links_begin (length index)) (front ∙ is)
        ∙ ap (λ (rest : List ℕ). links ++ rest) (drop_of_length-le (drop at index) {i = length index - at} (omega (arith, length-drop at index)))
        ∙ append-nil links

-- what is asked of the buckets
pub bucket-asked : {s rows : List ℕ} {column n : ℕ} (index : List ℕ) {at hashed : ℕ} (bytes : List ℕ) → at ≡ links_begin (length index)
    → Indexed s rows column (heads_of index) (links_of index) n → hashed ≡ hash bytes → (0 < at) × (at ≤ hashes) × (hashed < hashes)
bucket-asked index bytes is x e =
    let low : hash bytes < hashes = hash-below 0 bytes (omega arith) in
    (omega (arith, x.some_buckets, heads-size index), omega (arith, x.few_buckets, heads-size index), omega arith)

-- the bucket is one of the heads
pub bucket-in : (index : List ℕ) (hashed : ℕ) {at b : ℕ} → at ≡ links_begin (length index) → b ≡ bucket at hashed → b ≡ bucket (length (heads_of index)) hashed
bucket-in index hashed is e = e ∙ ap (λ (k : ℕ). bucket k hashed) (is ∙ sym (heads-size index))

-- the two stores by which a chain takes a row more
module _ (index : List ℕ) {at : ℕ} (is : at ≡ links_begin (length index)) (n b : ℕ) where
  abbrev grown : List ℕ
  grown = set (set index (at + n) (get_or index b 0)) b (n + 1)

  grown-size : length grown ≡ length index
  grown-size = length-set (set index (at + n) (get_or index b 0)) b (n + 1) ∙ length-set index (at + n) (get_or index b 0)

  module _ (low : b < at) where
    here : at ≡ links_begin (length (set index (at + n) (get_or index b 0)))
    here = is ∙ sym (ap links_begin (length-set index (at + n) (get_or index b 0)))

    grown-heads : heads_of grown ≡ set (heads_of index) b (n + 1)
    grown-heads =
        head-set-heads (set index (at + n) (get_or index b 0)) here b (n + 1) low
        ∙ ap (λ (xs : List ℕ). set xs b (n + 1)) (link-set-heads index is n (get_or index b 0))

    grown-links : links_of grown ≡ set (links_of index) n (get_or (heads_of index) b 0)
    grown-links =
        head-set-links (set index (at + n) (get_or index b 0)) here b (n + 1) low
        ∙ link-set-links index is n (get_or index b 0) ∙ ap (set (links_of index) n) (head_at index is b low)

pub chain-grown : {s rows : List ℕ} {column n : ℕ} (index : List ℕ) {at hashed b : ℕ} → at ≡ links_begin (length index)
    → Indexed s rows column (heads_of index) (links_of index) n → n < length (links_of index) → b ≡ bucket at hashed → b < at
    → hashed ≡ hash (value_at s rows column n) → Present rows column n
    → let index' = set (set index (at + n) (get_or index b 0)) b (n + 1) in
    Indexed s rows column (heads_of index') (links_of index') (n + 1) × ((length index' ≡ length index)
    × Links (heads_of index) (links_of index) (heads_of index') (links_of index') (bucket (links_begin (length index)) hashed) n)
chain-grown {s} {rows} {column} {n} index {at} {hashed} {b} is x room e low same present =
    let own = bucket-in index hashed is e in
    let below : b < length (heads_of index) = omega (arith, heads-size index) in
    rw (grown-heads index is n b low, grown-links index is n b low) (
      added x room (own ∙ ap (bucket (length (heads_of index))) same) below present,
      (
        grown-size index is n b,
        links-added (heads_of index) (links_of index) (e ∙ ap (λ (k : ℕ). bucket k hashed) is) below room,
      ),
    )

-- a row more: the chain of its bucket has it, or it is the first in order
pub filed-grown : {s rows : List ℕ} {column n mark b : ℕ} (index index' : List ℕ) (x : Filed s rows column index n) (hashed : ℕ) {at : ℕ}
    → mark ≡ mark_of (links_of index) → n + 1 < length (links_of index) → mark ≡ 0 → Indexed s rows column (heads_of index') (links_of index') (n + 1)
    → length index' ≡ length index
    → Links (heads_of index) (links_of index) (heads_of index') (links_of index') (bucket (links_begin (length index)) hashed) n
    → at ≡ links_begin (length index) → b ≡ bucket at hashed → b < at → AtMost (links_of index) 7 (get_or (heads_of index) b 0)
    → Filed s rows column index' (n + 1)
filed-grown index index' x hashed is room unmarked y size links at e low few =
    filed-by-hash x is room unmarked y (heads-alike index index' size) (links-alike index index' size) links
    (e ∙ ap (λ (k : ℕ). bucket k hashed) at) (omega (arith, heads-size index)) few

module _ {s rows : List ℕ} {column n mark : ℕ} (index : List ℕ) (x : Filed s rows column index n) {at : ℕ} (is : at ≡ links_begin (length index))
    (marks : mark ≡ mark_of (links_of index)) (room : n + 1 < length (links_of index)) where
  pub filed-back : (mark ≡ 0 → ⊥) → (links : List ℕ) → Ordered s rows column links (mark - 1) (n + 1)
      → Around (take (length index - at) (drop at index)) links (mark - 1) n
      → let index' = take at index ++ (links ++ drop (length index - at) (drop at index)) in
      Filed s rows column index' (n + 1) × (length index' ≡ length index)
  filed-back marked links o around =
      let size = around.size in
      let a : Around (links_of index) links (mark - 1) n =
      subst (λ (xs : List ℕ). Around xs links (mark - 1) n) (links-part index is) around in
      (rw (back-heads index is links size, back-links index is links size) (filed-in-order x marks room marked o a), back-size index is links size)

  pub filed-marked : mark ≡ 0 → let index' = set (set index (at + n) n) (length index - 1) (n + 1) in
      Filed s rows column index' (n + 1) × (length index' ≡ length index)
  filed-marked unmarked =
      let size : length (set index (at + n) n) ≡ length index = length-set index (at + n) n in
      let here : at ≡ links_begin (length (set index (at + n) n)) = is ∙ sym (ap links_begin size) in
      let last : length index - 1 ≡ at + (length (links_of index) - 1) = omega (arith, links-size index) in
      let heads : heads_of (set (set index (at + n) n) (length index - 1) (n + 1)) ≡ heads_of index =
      ap (λ (i : ℕ). heads_of (set (set index (at + n) n) i (n + 1))) last
      ∙ link-set-heads (set index (at + n) n) here (length (links_of index) - 1) (n + 1) ∙ link-set-heads index is n n in
      let links : links_of (set (set index (at + n) n) (length index - 1) (n + 1)) ≡ set (set (links_of index) n n) (length (links_of index) - 1) (n + 1) =
      ap (λ (i : ℕ). links_of (set (set index (at + n) n) i (n + 1))) last
      ∙ link-set-links (set index (at + n) n) here (length (links_of index) - 1) (n + 1)
      ∙ ap (λ (xs : List ℕ). set xs (length (links_of index) - 1) (n + 1)) (link-set-links index is n n) in
      (rw (heads, links) (filed-first x marks room unmarked), length-set (set index (at + n) n) (length index - 1) (n + 1) ∙ size)
