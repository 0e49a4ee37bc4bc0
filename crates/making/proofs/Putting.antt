-- One entry as code writes it: octets, length octets and parts of the buffer, one after another.
use mathlib.Core.Path.{◌≡◌, refl, ap, sym, ◌∙◌}
use mathlib.Core.List.{List, [], ◌∷◌, ◌++◌, append_assoc, append-nil}
use Prim.Native.Nat.{ℕ, suc, ◌+◌}
use native.Mathlib.Omega.{arith}
use lib.ListN.{length, set, length-append}
use lib.Seq.{sets}
use Rattle.names.specs.Names.{space_byte}
use Rattle.normal.specs.Normal.{length_octets}
use Rattle.normal.specs.Passes.{PutsOctets}
use Rattle.laws.proofs.Writes.{sets-append}
use Rattle.making.specs.Entries.{Said}
use Rattle.making.specs.Octets.{name_size, unit_size, block_octets, unit_octets, block_front, portion_front, unit_front, header, entry_octets}

-- what is written after something else
pub puts_then : {before mid last xs ys : List ℕ} {begin past end : ℕ} → PutsOctets before begin xs past mid → PutsOctets mid past ys end last
    → PutsOctets before begin (xs ++ ys) end last
puts_then {before} {mid} {last} {xs} {ys} {begin} {past} {end} p q =
    record {
      to = let e = length-append xs ys in omega (arith, p.to, q.to);
      written = q.written ∙ ap (λ (l : List ℕ). sets l past ys) p.written
          ∙ ap (λ (k : ℕ). sets (sets before begin xs) k ys) p.to ∙ sym (sets-append before begin xs ys);
    }

-- one octet is written
pub put_one : (out : List ℕ) (at octet : ℕ) → PutsOctets out at (octet ∷ []) (at + 1) (set out at octet)
put_one out at octet = record { to = refl; written = refl }

-- four octets are
pub put_four : (out : List ℕ) (at a b c d : ℕ)
    → PutsOctets out at (a ∷ b ∷ c ∷ d ∷ []) (at + 4) (set (set (set (set out at a) (at + 1) b) (at + 2) c) (at + 3) d)
put_four out at a b c d =
    let one : at + 1 ≡ suc at = omega arith in
    let two : at + 2 ≡ suc (suc at) = omega arith in
    let three : at + 3 ≡ suc (suc (suc at)) = omega arith in
    record { to = refl; written = rw (one, two, three) }

grouped : (i p h t : List ℕ) → (i ++ ((space_byte ∷ []) ++ p)) ++ (h ++ t) ≡ i ++ space_byte ∷ (p ++ (h ++ (t ++ [])))
grouped i p h t = simp (append_assoc, append-nil)

module _ (said : Said) where
  abbrev n : ℕ
  n = name_size said

  -- a block in its pieces
  pub block-pieces : block_front n (length said.identifier) ++
      (said.identifier ++ (portion_front (length said.portion) ++ said.portion)) ≡ block_octets said []
  unfolding block_octets
  block-pieces = rw (append-nil said.portion)

  -- a text unit in its pieces
  pub unit-pieces : header 0xA3 (unit_size said)
      ++ ((unit_front n ++ (said.identifier ++ ((space_byte ∷ []) ++ said.portion))) ++ (header 0x04 (length said.text) ++ said.text))
      ≡ unit_octets said []
  unfolding unit_octets
  unit-pieces =
      ap (λ (l : List ℕ). 0xA3 ∷ (length_octets (unit_size said) ++ 0x31 ∷ (n + 3) ∷ 0x40 ∷ (n + 1) ∷ l))
      (grouped said.identifier said.portion (0x04 ∷ length_octets (length said.text)) said.text)

  block-then : (after : List ℕ) → block_octets said after ≡ block_octets said [] ++ after
  unfolding block_octets
  block-then after = simp append_assoc

  -- an entry is its block and its text unit
  pub entry-pieces : block_octets said [] ++ unit_octets said [] ≡ entry_octets said
  entry-pieces = sym (block-then (unit_octets said []))
