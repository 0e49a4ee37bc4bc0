-- Entries that lie in the buffer: their sizes by their bounds are those of what they say, and each entry more adds its own.
use mathlib.Core.Path.{◌≡◌, refl, ap, sym, ◌∙◌, subst}
use mathlib.Core.List.{List, [], ◌∷◌, ◌++◌, map-append}
use Prim.Native.Nat.{ℕ, zero, suc, ◌+◌, ◌*◌, ◌/◌, ◌<◌, ◌≤◌}
use native.Mathlib.Numerals.{add-one}
use native.Mathlib.Omega.{arith}
use lib.Dec.{eqb}
use lib.ListN.{length, length-append}
use borrow.Author.Tests.{eqb-true, eqb-false}
use borrow.Table.Steps.{cases}
use Rattle.names.specs.Names.{space_byte, longest_identifier}
use Rattle.normal.specs.Passes.{PutsOctets}
use Rattle.making.specs.declared.Entry.{Entry}
use Rattle.making.specs.Entries.{Said, said_by, unit_name}
use Rattle.making.specs.Flat.{entry_width, entry_at, entries_in, said_up_to}
use Rattle.making.specs.Octets.{entry_size_by, entry_octets, entries_octets, entries_size, capped}
use Rattle.making.specs.Lent.{names_of, text_of, EntryLies, Ordered, AllLie, AllOrdered, size_up_to}
use Rattle.making.proofs.Octets.{Short, entries-size}
use Rattle.making.proofs.Steps.{written-more, measured-more}
use Rattle.making.proofs.Putting.{puts_then}
use Rattle.making.proofs.Sizes.{capped-sum, names-size, entry-size-by}

-- an entry that lies in the buffer, by itself
pub ordered_of : {buffer : List ℕ} {entry : Entry} → EntryLies buffer entry → Ordered entry
ordered_of lies = record {
  identifier = lies.identifier.order;
  portion = lies.portion.order;
  text = lies.text.order;
  short = lies.short;
}

pub all-ordered : (buffer numbers : List ℕ) → AllLie buffer numbers → AllOrdered numbers
all-ordered buffer numbers lie k l = ordered_of (lie k l)

-- the numbers of an entry are there
pub entry-there : (numbers k : ℕ) → k < numbers / entry_width → k * entry_width + entry_width ≤ numbers
entry-there numbers k l = omega arith

-- the size with an entry more
pub measured-next : (numbers : List ℕ) (k size more whole : ℕ) (entry : Entry) → size ≡ capped (size_up_to numbers k) → entry ≡ entry_at numbers k
    → more ≡ capped (entry_size_by (names_of entry) (text_of entry)) → whole ≡ capped (size + more) → whole ≡ capped (size_up_to numbers (k + 1))
unfolding size_up_to
measured-next numbers k size more whole entry s e m w =
    let here = entry_at numbers k in
    w ∙ ap (λ (n : ℕ). capped (n + more)) s ∙ ap (λ (n : ℕ). capped (capped (size_up_to numbers k) + n)) m
    ∙ ap (λ (x : Entry). capped (capped (size_up_to numbers k) + capped (entry_size_by (names_of x) (text_of x)))) e
    ∙ capped-sum (size_up_to numbers k) (entry_size_by (names_of here) (text_of here))
    ∙ ap (λ (n : ℕ). capped (size_up_to numbers n)) (sym (add-one k))

-- it only grows
pub size-next : (numbers : List ℕ) (k : ℕ)
    → size_up_to numbers (suc k) ≡ size_up_to numbers k + entry_size_by (names_of (entry_at numbers k)) (text_of (entry_at numbers k))
unfolding size_up_to
size-next numbers k = refl

pub size-on : (numbers : List ℕ) (k m : ℕ) → k ≤ m → size_up_to numbers k ≤ size_up_to numbers m
size-on numbers k zero l = let e : k ≡ 0 = omega arith in rw e (omega arith)
size-on numbers k (suc m) l =
    cases (eqb k (suc m))
    (λ t. rw (eqb-true k (suc m) t) (omega arith))
    (λ t.
    let below : k ≤ m = omega (arith, eqb-false k (suc m) t) in
    omega (arith, size-on numbers k m below, size-next numbers m))

pub size-some : (numbers : List ℕ) (k : ℕ) → 2 ≤ size_up_to numbers k
unfolding size_up_to
size-some numbers k = size-on numbers 0 k (omega arith)

-- what the first entries say, with one more
pub said-next : (buffer numbers : List ℕ) (k : ℕ) → said_up_to buffer numbers (suc k) ≡ said_up_to buffer numbers k ++ (said_by buffer (entry_at numbers k) ∷ [])
unfolding entries_in
said-next buffer numbers k = map-append (said_by buffer) (entries_in numbers k) (entry_at numbers k ∷ [])

module _ (buffer numbers : List ℕ) where
  -- entries up to some lie in the buffer
  abbrev pub LieUpTo : (m : ℕ) → Type 0
  LieUpTo m = (k : ℕ) → k < m → EntryLies buffer (entry_at numbers k)

  name-short : (entry : Entry) → EntryLies buffer entry → length (unit_name (said_by buffer entry)) ≤ longest_identifier
  name-short entry lies =
      let said = said_by buffer entry in
      omega (arith, length-append said.identifier (space_byte ∷ said.portion), names-size buffer entry lies, lies.short)

  short-more : (said : List Said) (x : Said) → Short said → length (unit_name x) ≤ longest_identifier → Short (said ++ (x ∷ []))
  short-more [] x s l = (l, tt)
  short-more (y ∷ said) x (m, s) l = (m, short-more said x s l)

  pub all_short : (m : ℕ) → LieUpTo m → Short (said_up_to buffer numbers m)
  unfolding entries_in
  all_short zero lie = tt
  all_short (suc m) lie =
      subst Short (sym (said-next buffer numbers m))
      (short-more (said_up_to buffer numbers m) (said_by buffer (entry_at numbers m)) (all_short m (λ k l. lie k (omega arith)))
      (name-short (entry_at numbers m) (lie m (omega arith))))

  sizes-are : (m : ℕ) → LieUpTo m → 2 + entries_size (said_up_to buffer numbers m) ≡ size_up_to numbers m
  unfolding entries_in entries_size size_up_to
  sizes-are zero lie = refl
  sizes-are (suc m) lie =
      let e = ap entries_size (said-next buffer numbers m) ∙ measured-more (said_up_to buffer numbers m) (said_by buffer (entry_at numbers m)) in
      let f = entry-size-by buffer (entry_at numbers m) (lie m (omega arith)) in
      let g = sizes-are m (λ k l. lie k (omega arith)) in
      omega arith

  -- the octets of the first entries are as many as their bounds say
  pub octets-up-to : (m : ℕ) → LieUpTo m → 2 + length (entries_octets (said_up_to buffer numbers m)) ≡ size_up_to numbers m
  octets-up-to m lie = ap (λ (n : ℕ). 2 + n) (entries-size (said_up_to buffer numbers m) (all_short m lie)) ∙ sizes-are m lie

  -- nothing is written of no entries, and with an entry more its octets are
  pub written_none : (out : List ℕ) (at : ℕ) → PutsOctets out at (entries_octets (said_up_to buffer numbers 0)) at out
  unfolding entries_in entries_octets
  written_none out at = record { to = omega arith; written = refl }

  pub written_next : {before out after : List ℕ} {begin at past : ℕ} (k : ℕ) (entry : Entry) → entry ≡ entry_at numbers k
      → PutsOctets before begin (entries_octets (said_up_to buffer numbers k)) at out → PutsOctets out at (entry_octets (said_by buffer entry)) past after
      → PutsOctets before begin (entries_octets (said_up_to buffer numbers (k + 1))) past after
  written_next {before} {out} {after} {begin} {at} {past} k entry e p q =
      let octets = ap (λ (x : Entry). entries_octets (said_up_to buffer numbers k) ++ entry_octets (said_by buffer x)) e
      ∙ sym (written-more (said_up_to buffer numbers k) (said_by buffer (entry_at numbers k)))
      ∙ ap entries_octets (sym (said-next buffer numbers k)) ∙ ap (λ (n : ℕ). entries_octets (said_up_to buffer numbers n)) (sym (add-one k)) in
      subst (λ (xs : List ℕ). PutsOctets before begin xs past after) octets (puts_then p q)
