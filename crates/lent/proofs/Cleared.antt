-- An index that was lent and cleared, and rows, are the scratch that the judge of a stream asks for.
use mathlib.Core.Path.{◌≡◌, refl, ap, ◌∙◌}
use mathlib.Core.Bool.{cond}
use mathlib.Core.List.{List}
use Prim.Native.Nat.{ℕ, ◌+◌, ◌-◌, ◌*◌, ◌<◌, ◌≤◌}
use native.Mathlib.Omega.{arith}
use lib.Dec.{leb}
use lib.ListN.{length, take, drop, length-drop, replicate, length-replicate}
use lib.Seq.{length-take-le, get_or-take, get_or-drop}
use borrow.Author.Tests.{leb-true, leb-false}
use borrow.Table.Steps.{cases}
use Rattle.rows.specs.Chains.{Empty}
use Rattle.rows.specs.Index.{links_begin, heads_of, links_of, half_of, identifier_index, logical_index, Unused}
use Rattle.elements.specs.Judge.{most_elements}
use Rattle.letters.specs.Lent.{rows_needed, Lent}
use Rattle.lent.specs.Lent.{rows_for, size_for, index_for}

-- an index is made for no fewer elements than there are, and for no more than a letter may have; two heads for each
pub record IndexSize (n size : ℕ) : Type 0 where
  pub enough : n ≤ size
  pub some : 64 ≤ size
  pub most : size ≤ most_elements
  pub heads : links_begin (3 * size + 1) ≡ 2 * size

size-by : (k : ℕ) (n rest : ℕ) → 64 ≤ k → k ≤ most_elements → links_begin (3 * k + 1) ≡ 2 * k → (k < n → IndexSize n rest)
    → IndexSize n (cond (leb n k) k rest)
size-by k n rest l m h other =
    cases (leb n k)
    (λ t. rw t (record { enough = leb-true n k t; some = l; most = m; heads = h }))
    (λ t. rw t (other (leb-false n k t)))

pub size-for : (n : ℕ) → n ≤ most_elements → IndexSize n (size_for n)
unfolding links_begin
size-for n l =
    size-by 64 n _ (omega arith) (omega arith) refl
    (λ _. size-by 128 n _ (omega arith) (omega arith) refl
    (λ _. size-by 256 n _ (omega arith) (omega arith) refl
    (λ _. size-by 512 n _ (omega arith) (omega arith) refl
    (λ _. size-by 1024 n _ (omega arith) (omega arith) refl
    (λ _. size-by 2048 n _ (omega arith) (omega arith) refl
    (λ _. record { enough = l; some = omega arith; most = omega arith; heads = refl }))))))

-- a part of zeros is zeros
empty-take : (k : ℕ) (xs : List ℕ) → k ≤ length xs → Empty xs → Empty (take k xs)
empty-take k xs l empty b below =
    let size = length-take-le k xs l in
    get_or-take k xs b 0 (omega (arith, below, size)) ∙ empty b (omega (arith, below, size))

empty-drop : (k : ℕ) (xs : List ℕ) → Empty xs → Empty (drop k xs)
empty-drop k xs empty b below = get_or-drop k xs b 0 ∙ empty (k + b) (omega (arith, below, length-drop k xs))

-- an index of zeros that is one longer than three times the elements it is made for
module _ (index : List ℕ) {n size : ℕ} (fits : IndexSize n size) (long : length index ≡ 3 * size + 1) (empty : Empty index) where
  begins : links_begin (length index) ≡ 2 * size
  begins = ap links_begin long ∙ fits.heads

  heads-long : length (heads_of index) ≡ 2 * size
  heads-long = length-take-le (links_begin (length index)) index (omega (arith, begins, long)) ∙ begins

  pub links-long : length (links_of index) ≡ size + 1
  links-long = length-drop (links_begin (length index)) index ∙ omega (arith, begins, long)

  pub unused : Unused index
  unused = record {
    some_heads = omega (arith, heads-long, fits.some);
    few_heads = omega (arith, heads-long, fits.most);
    empty_heads = empty-take (links_begin (length index)) index (omega (arith, begins, long)) empty;
    unmarked = empty-drop (links_begin (length index)) index empty (length (links_of index) - 1) (omega (arith, links-long));
  }

pub cleared : (s rows index : List ℕ) → rows_for (rows_needed s) ≤ length rows → length index ≡ index_for (rows_needed s) → Empty index
    → Lent s rows index (replicate 128 0)
cleared s rows index room long empty =
    let fits = size-for (rows_needed s) (omega arith) in
    let size : ℕ = size_for (rows_needed s) in
    let first : length (identifier_index index) ≡ 3 * size + 1 = length-take-le (half_of (length index)) index (omega arith) ∙ omega (arith, long) in
    let second : length (logical_index index) ≡ 3 * size + 1 = length-drop (half_of (length index)) index ∙ omega (arith, long) in
    let front = empty-take (half_of (length index)) index (omega arith) empty in
    let back = empty-drop (half_of (length index)) index empty in
    record {
      identifiers = unused (identifier_index index) fits first front;
      logicals = unused (logical_index index) fits second back;
      rows = room;
      links = record {
        identifiers = omega (arith, fits.enough, links-long (identifier_index index) fits first front);
        logicals = omega (arith, fits.enough, links-long (logical_index index) fits second back);
      };
      portions = omega (arith, length-replicate {A = ℕ} 128 0);
    }
