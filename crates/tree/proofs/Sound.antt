-- What the walk accepts is coded so: by induction on the rules of the walk, each of which is a case of `Codes` (`sound`).
use mathlib.Core.Path.{◌≡◌, refl, ap, sym, ◌∙◌, subst}
use mathlib.Core.Bool.{Bool, true, false, false≢true}
use mathlib.Core.List.{List, [], ◌∷◌, ◌++◌}
use Prim.Native.Nat.{ℕ, zero, suc, ◌+◌, ◌-◌, ◌<◌, ◌≤◌}
use native.Mathlib.Omega.{arith}
use lib.ListN.{length, drop}
use lib.Seq.{slice}
use Rattle.headers.specs.declared.Header.{Header}
use Rattle.headers.specs.declared.Head.TheVariants.{Item}
use Rattle.headers.specs.Head.{constructed, code_of, type_field, misfits, head_at}
use Rattle.octets.specs.Walk.{Items, End, ends, stops, past_of}
use Rattle.octets.specs.Rules.{Runs, at_limit, unclosed, closes, refuses, primitive, passes, breaks}
use Rattle.headers.proofs.Fields.{code-field}
use Rattle.octets.proofs.Turns.{header_ok}
use Rattle.tree.specs.Tree.{Tree, empty, leaf, branch, plain, TypeField, Length, Codes, nothing, primitive as leaf-coding, definite, indefinite}
use Rattle.tree.proofs.Here.{Here, part, joined, moved, item-here, item-length}
use Rattle.tree.proofs.Heads.{ReadFrom, Tells, head-tells}

-- where a run ends whose octets end at `to`: there, or past its closing mark
abbrev pub Past : List ℕ → (limit to next : ℕ) → (marked : Bool) → Type 0
Past s limit to next false = (to ≡ limit) × (next ≡ limit)
Past s limit to next true = (next ≡ to + 2) × Here s to (0 ∷ 0 ∷ [])

-- a run that ends is coded by the octets up to there
abbrev pub Coded : List ℕ → (room at limit : ℕ) → (marked : Bool) → Tree → End → Type 0
Coded s room at limit marked t (ends next) = (xs : List ℕ) × Codes room t xs × Here s at xs × Past s limit (at + length xs) next marked
Coded s room at limit marked t (stops number place) = Unit {0}

-- the cases of `Codes` with the levels as the walk counts them
leaf-codes : (room : ℕ) (type len value rest : List ℕ) (after : Tree) → 0 < room → TypeField type false
    → misfits (code_of type) (length value) ≡ false → Length (length value) len
    → Codes room after rest → Codes room (leaf type value after) (type ++ (len ++ (value ++ rest)))
leaf-codes zero type len value rest after r g m l c = absurd (omega arith)
leaf-codes (suc room) type len value rest after r g m l c = leaf-coding g m l c

definite-codes : (room : ℕ) (type len value rest : List ℕ) (inside after : Tree) → 0 < room → TypeField type true → Length (length value) len
    → Codes (room - 1) inside value → Codes room after rest → Codes room (branch type inside after) (type ++ (len ++ (value ++ rest)))
definite-codes zero type len value rest inside after r g l i c = absurd (omega arith)
definite-codes (suc room) type len value rest inside after r g l i c =
    let e : suc room - 1 ≡ room = omega arith in
    definite g l (subst (λ (k : ℕ). Codes k inside value) e i) c

indefinite-codes : (room : ℕ) (type value rest : List ℕ) (inside after : Tree) → 0 < room → TypeField type true
    → Codes (room - 1) inside value → Codes room after rest → Codes room (branch type inside after) (type ++ (0x80 ∷ (value ++ (0 ∷ 0 ∷ rest))))
indefinite-codes zero type value rest inside after r g i c = absurd (omega arith)
indefinite-codes (suc room) type value rest inside after r g i c =
    let e : suc room - 1 ≡ room = omega arith in
    indefinite g (subst (λ (k : ℕ). Codes k inside value) e i) c

module _ (s : List ℕ) (room at limit : ℕ) (marked : Bool) (f : limit ≤ length s) (code number start bound : ℕ) where
  abbrev header : Bool → Header
  header m = record { code = code; number = number; start = start; bound = bound; marked = m }

  -- a primitive item, and then what follows it
  leaf-coded : (m : Bool) → bound ≤ limit → ReadFrom s at limit room (header m)
      → constructed code ≡ false → (after : Tree) (e : End) → Coded s room bound limit marked after e
      → Coded s room at limit marked (leaf (type_field code) (slice start (past_of m bound) s) after) e
  leaf-coded m b r q after (stops n place) c = tt
  leaf-coded true b r q after (ends next) c = absurd (false≢true (sym q ∙ r.sized.1))
  leaf-coded false b r q after (ends next) (rest, cr, hr, p) =
      let (n, w, l, m) = r.sized in
      let value = slice start bound s in
      let (hv, lv) = part s start bound n w (omega arith) in
      let e : n ≡ length value = sym lv in
      let k : bound ≡ start + length value = omega arith in
      let type = type_field code in
      let fits : misfits (code_of type) (length value) ≡ false = rw (code-field code) (subst (λ (k : ℕ). misfits code k ≡ false) e m) in (
        type ++ (r.len ++ (value ++ rest)),
        leaf-codes room type r.len value rest after r.deep (subst (TypeField type) q r.type) fits (subst (λ (k : ℕ). Length k r.len) e l) cr,
        item-here s at type r.len value rest start bound r.past k r.here hv hr,
        subst (λ (to : ℕ). Past s limit to next marked) (sym (item-length s at type r.len value rest start bound r.past k)) p,
      )

  -- a constructed item whose run is coded, and then what follows it: one with a length, and one that ends by a closing mark
  definite-coded : ReadFrom s at limit room (header false)
      → constructed code ≡ true → (next : ℕ) (inside : Tree) → Coded s (room - 1) start bound false inside (ends next)
      → (after : Tree) (to : ℕ) → Coded s room next limit marked after (ends to)
      → Coded s room at limit marked (branch (type_field code) inside after) (ends to)
  definite-coded r q next inside (value, cv, hv, (x, y)) after to (rest, cr, hr, p) =
      let (n, w, l, m) = r.sized in
      let e : n ≡ length value = omega arith in
      let k : next ≡ start + length value = omega arith in
      let type = type_field code in (
        type ++ (r.len ++ (value ++ rest)),
        definite-codes room type r.len value rest inside after r.deep (subst (TypeField type) q r.type)
            (subst (λ (k : ℕ). Length k r.len) e l) cv cr,
        item-here s at type r.len value rest start next r.past k r.here hv hr,
        subst (λ (j : ℕ). Past s limit j to marked) (sym (item-length s at type r.len value rest start next r.past k)) p,
      )

  marked-coded : ReadFrom s at limit room (header true)
      → constructed code ≡ true → (next : ℕ) (inside : Tree) → Coded s (room - 1) start bound true inside (ends next)
      → (after : Tree) (to : ℕ) → Coded s room next limit marked after (ends to)
      → Coded s room at limit marked (branch (type_field code) inside after) (ends to)
  marked-coded r q next inside (value, cv, hv, (x, mark)) after to (rest, cr, hr, p) =
      let w = r.sized.0 in
      let type = type_field code in
      let open-length : List ℕ = 0x80 ∷ [] in
      let here : Here s at (type ++ open-length) = subst (λ (l : List ℕ). Here s at (type ++ l)) w r.here in
      let past : start ≡ at + length (type ++ open-length) = r.past ∙ ap (λ (l : List ℕ). at + length (type ++ l)) w in
      let stop = start + length value in
      let rest-here = joined s stop (0 ∷ 0 ∷ []) rest mark (moved s rest x hr) in
      let len : at + length (type ++ (0x80 ∷ (value ++ (0 ∷ 0 ∷ rest)))) ≡ next + length rest =
      item-length s at type open-length value (0 ∷ 0 ∷ rest) start stop past refl ∙ omega arith in (
        type ++ (0x80 ∷ (value ++ (0 ∷ 0 ∷ rest))),
        indefinite-codes room type value rest inside after r.deep (subst (TypeField type) q r.type) cv cr,
        item-here s at type open-length value (0 ∷ 0 ∷ rest) start stop past refl here hv rest-here,
        subst (λ (j : ℕ). Past s limit j to marked) (sym len) p,
      )

  branch-coded : (m : Bool) → ReadFrom s at limit room (header m)
      → constructed code ≡ true → (next : ℕ) (inside : Tree) → Coded s (room - 1) start bound m inside (ends next)
      → (after : Tree) (e : End) → Coded s room next limit marked after e → Coded s room at limit marked (branch (type_field code) inside after) e
  branch-coded m r q next inside i after (stops n place) c = tt
  branch-coded false r q next inside i after (ends to) c = definite-coded r q next inside i after to c
  branch-coded true r q next inside i after (ends to) c = marked-coded r q next inside i after to c

-- what the header of an item was read from
pub read-from : (s : List ℕ) (at limit room : ℕ) (marked : Bool) → at < limit → limit ≤ length s → (h : Header)
    → head_at s at limit marked room ≡ Item h → ReadFrom s at limit room h
read-from s at limit room marked l f h e = subst (Tells s at limit room marked) e (head-tells s at limit room marked f l)

closed : (s : List ℕ) (room at limit : ℕ) (marked : Bool) → marked ≡ true → Here s at (0 ∷ 0 ∷ []) → Coded s room at limit marked empty (ends (at + 2))
closed s room at limit false e h = absurd (false≢true e)
closed s room at limit true e h =
    let z : at + 0 ≡ at = omega arith in
    ([], nothing, (drop at s, refl), (omega arith, moved s (0 ∷ 0 ∷ []) (sym z) h))

pub sound : {s : List ℕ} {room at limit : ℕ} {marked : Bool} {i : Items} {e : End} → Runs s room at limit marked i e
    → limit ≤ length s → Coded s room at limit marked (plain s i) e
sound {s} (at_limit {room} {at} {limit} p) f = ([], nothing, (drop at s, refl), (omega arith, refl))
sound (unclosed p) f = tt
sound {s} (closes {room} {at} {limit} {marked} l h) f =
    let (m, z) = subst (Tells s at limit room marked) h (head-tells s at limit room marked f l) in
    closed s room at limit marked m z
sound (refuses l h) f = tt
sound {s} (primitive {room} {at} {limit} {marked} {h} {after} {e} l p q r) f =
    let o = header_ok s at limit room marked h p in
    rw q (leaf-coded s room at limit marked f h.code h.number h.start h.bound h.marked o.within (read-from s at limit room marked l f h p) q
    (plain s after) e (sound r f))
sound {s} (passes {room} {at} {limit} {marked} {h} {inside} {after} {next} {e} l p q v r) f =
    let o = header_ok s at limit room marked h p in
    rw q (branch-coded s room at limit marked f h.code h.number h.start h.bound h.marked (read-from s at limit room marked l f h p) q next
    (plain s inside) (sound v (omega arith)) (plain s after) e (sound r f))
sound (breaks l p q v) f = tt
