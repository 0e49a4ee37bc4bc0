-- Octets that are as few as those of the normal form, are those of the normal form: length octets of one number and one count are the same.
use mathlib.Core.Path.{◌≡◌, refl, ap, sym, ◌∙◌, subst}
use mathlib.Core.Bool.{Bool, true, false}
use mathlib.Core.List.{List, [], ◌∷◌, ◌++◌, append_assoc, append-nil}
use Prim.Native.Nat.{ℕ, suc, ◌+◌, ◌-◌, ◌*◌, ◌/◌, ◌%◌, ◌<◌, ◌≤◌}
use native.Mathlib.Omega.{arith}
use native.Mathlib.Nat.{zero-add}
use lib.Dec.{ltb}
use lib.ListN.{length, take, drop, length-append, get_or-append, get_or-eq_default}
use lib.Seq.{get_or-drop, get_or-append-add, take-add, drop-drop, slice}
use borrow.Author.Tests.{ltb-true, ltb-false, lt-ltb}
use Rattle.headers.specs.declared.Header.{Header}
use Rattle.headers.specs.Head.{type_field, big_endian, big_endian_from, octet_at}
use Rattle.tree.specs.Tree.{Length, short, long}
use Rattle.tree.proofs.Here.{Here, slice_is, sliced}
use Rattle.tree.proofs.Heads.{Sized, ReadFrom}
use Rattle.normal.specs.Normal.{further_octets, number_octets, length_by, length_octets, Octets}
use Rattle.normal.specs.Passes.{header_size}
use Rattle.normal.proofs.Lengths.{by-some}

-- an octet of the first of two lists, or past it
octet-in : (xs ys : List ℕ) → Octets (xs ++ ys) → (i : ℕ) (b : Bool) → ltb i (length xs) ≡ b → octet_at xs i < 256
octet-in xs ys o i true e = rw (← get_or-append xs ys 0 i (ltb-true i (length xs) e)) (o i)
octet-in xs ys o i false e = rw (get_or-eq_default xs 0 (ltb-false i (length xs) e)) (omega arith)

pub octets-first : (xs ys : List ℕ) → Octets (xs ++ ys) → Octets xs
octets-first xs ys o i = octet-in xs ys o i (ltb i (length xs)) refl

pub octets-second : (xs ys : List ℕ) → Octets (xs ++ ys) → Octets ys
octets-second xs ys o i = rw (← get_or-append-add xs ys i 0) (o (length xs + i))

-- what stands somewhere in octets, is octets
octets-here : (s : List ℕ) (at : ℕ) (xs : List ℕ) → Octets s → Here s at xs → Octets xs
octets-here s at xs o (rest, e) =
    octets-first xs rest (λ i. subst (λ (l : List ℕ). octet_at l i < 256) e (rw (get_or-drop at s i 0) (o (at + i))))

-- the type field of an item is octets
pub octets-field : (s : List ℕ) (at limit room : ℕ) (h : Header) → Octets s → ReadFrom s at limit room h → Octets (type_field h.code)
octets-field s at limit room h o r = octets-first (type_field h.code) r.len (octets-here s at (type_field h.code ++ r.len) o r.here)

-- the digits of a number that octets say, are these octets
digits_of : (k n : ℕ) (ds : List ℕ) → Octets ds → number_octets (k + length ds) (big_endian_from n ds) ≡ number_octets k n ++ ds
unfolding number_octets big_endian_from
digits_of k n [] o = let e : k + 0 ≡ k = omega arith in rw (e, append-nil)
digits_of k n (d ∷ ds) o =
    let small : d < 256 = o 0 in
    let e : k + suc (length ds) ≡ suc k + length ds = omega arith in
    let q : (n * 256 + d) / 256 ≡ n = omega arith in
    let r : (n * 256 + d) % 256 ≡ d = omega arith in
    rw e (digits_of (suc k) (n * 256 + d) ds (λ i. o (suc i)) ∙ rw (q, r, append_assoc))

digits-all : (ds : List ℕ) → Octets ds → number_octets (length ds) (big_endian ds) ≡ ds
unfolding number_octets
digits-all ds o = ap (λ (k : ℕ). number_octets k (big_endian ds)) (sym (zero-add (length ds))) ∙ digits_of 0 0 ds o

-- length octets that are as few as they can be
only : {n : ℕ} {len : List ℕ} → Length n len → Octets len → length len ≡ further_octets n + 1 → len ≡ length_octets n
only (short {n} l) o e = rw (lt-ltb n 0x80 l)
only (long {octets} a b) o e =
    let n = big_endian octets in
    let k : length octets ≡ further_octets n = omega arith in
    let d : number_octets (length octets) n ≡ octets = digits-all octets (octets-second ((0x80 + length octets) ∷ []) octets o) in
    ap (λ (l : List ℕ). (0x80 + length octets) ∷ l) (sym d) ∙ sym (by-some (length octets) n (λ z. omega arith)) ∙ ap (λ (j : ℕ). length_by j n) k

-- a definite header that is as short as it can be
pub own-header : (s : List ℕ) (at limit room : ℕ) (h : Header) → Octets s → ReadFrom s at limit room h → h.marked ≡ false
    → (size : ℕ) → h.bound ≡ h.start + size → h.start ≡ at + header_size h.code size
    → slice at h.start s ≡ type_field h.code ++ length_octets size
own-header s at limit room h o r m size b p =
    let (n, w, l, _) = subst (λ (x : Bool). Sized x h.code h.start h.bound limit r.len) m r.sized in
    let e : n ≡ size = omega arith in
    let type = type_field h.code in
    let k = octets-second type r.len (octets-here s at (type ++ r.len) o r.here) in
    let count : length r.len ≡ further_octets size + 1 = omega (arith, r.past, length-append type r.len) in
    sliced s at (type ++ r.len) h.start r.past r.here
    ∙ ap (λ (l : List ℕ). type ++ l) (only (subst (λ (j : ℕ). Length j r.len) e l) k count)

-- two parts that meet are one
pub slice-join : (s : List ℕ) (a b c : ℕ) → a ≤ b → b ≤ c → slice a b s ++ slice b c s ≡ slice a c s
slice-join s a b c p q =
    let i = b - a in
    let j = c - b in
    let eb : b ≡ a + i = omega arith in
    let ec : c ≡ b + j = omega arith in
    let ed : c ≡ a + (i + j) = omega arith in
    let first : slice a b s ≡ take i (drop a s) = ap (λ (k : ℕ). slice a k s) eb ∙ slice_is a i s in
    let rest : drop b s ≡ drop i (drop a s) = ap (λ (k : ℕ). drop k s) eb ∙ sym (drop-drop i a s) in
    let second : slice b c s ≡ take j (drop i (drop a s)) = ap (λ (k : ℕ). slice b k s) ec ∙ slice_is b j s ∙ ap (take j) rest in
    let whole : slice a c s ≡ take (i + j) (drop a s) = ap (λ (k : ℕ). slice a k s) ed ∙ slice_is a (i + j) s in
    rw (first, second) (sym (whole ∙ take-add i j (drop a s)))
