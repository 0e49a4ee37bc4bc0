-- Each item of a run that ends stands alone between its place and that of the next: the octets there code it, and nothing else.
use mathlib.Core.Path.{◌≡◌, refl, ap, sym, ◌∙◌, subst}
use mathlib.Core.Bool.{Bool, true, false, false≢true}
use mathlib.Core.List.{List, [], ◌∷◌, ◌++◌}
use Prim.Native.Nat.{ℕ, ◌+◌, ◌-◌, ◌≤◌}
use native.Mathlib.Omega.{arith}
use lib.ListN.{length, drop}
use lib.Seq.{slice}
use Rattle.headers.specs.declared.Header.{Header}
use Rattle.headers.specs.Head.{constructed, code_of, type_field, misfits}
use Rattle.headers.proofs.Fields.{code-field}
use Rattle.octets.specs.Walk.{Items, no_items, item, End, ends, past_of, deepest, start_of}
use Rattle.octets.specs.Rules.{Runs, at_limit, unclosed, closes, refuses, primitive, passes, breaks}
use Rattle.octets.proofs.Turns.{header_ok}
use Rattle.tree.specs.Tree.{Tree, empty, leaf, branch, plain, TypeField, Length, Codes, nothing, primitive as flat, definite, indefinite}
use Rattle.tree.specs.Accepts.{Whole}
use Rattle.tree.proofs.Here.{Here, part, sliced, item-here, item-length}
use Rattle.tree.proofs.Heads.{ReadFrom}
use Rattle.tree.proofs.Sound.{Coded, sound, read-from}
use Rattle.runs.proofs.Laws.{starts-at}

-- each item of a run alone, up to the next one or to the limit
abbrev pub Alone : List ℕ → (limit : ℕ) → Items → Type 0
Alone s limit no_items = Unit {0}
Alone s limit (item at code start past inside after) =
    Codes deepest (plain s (item at code start past inside no_items)) (slice at (start_of limit after) s) × Alone s limit after

module _ (s : List ℕ) (at limit code number start bound : ℕ) where
  abbrev header : Bool → Header
  header m = record { code = code; number = number; start = start; bound = bound; marked = m }

  abbrev type : List ℕ
  type = type_field code

  leaf-alone : (m : Bool) → ReadFrom s at limit deepest (header m) → constructed code ≡ false → bound ≤ length s
      → Codes deepest (leaf type (slice start (past_of m bound) s) empty) (slice at bound s)
  leaf-alone true r q b = absurd (false≢true (sym q ∙ r.sized.1))
  leaf-alone false r q b =
      let (n, w, l, m) = r.sized in
      let value = slice start bound s in
      let (hv, lv) = part s start bound n w b in
      let e : n ≡ length value = sym lv in
      let k : bound ≡ start + length value = omega arith in
      let fits : misfits (code_of type) (length value) ≡ false = rw (code-field code) (subst (λ (k : ℕ). misfits code k ≡ false) e m) in
      let here = item-here s at type r.len value [] start bound r.past k r.here hv (drop bound s, refl) in
      let size = item-length s at type r.len value [] start bound r.past k in
      let xs = type ++ (r.len ++ (value ++ [])) in
      let codes : Codes deepest (leaf type value empty) xs = flat (subst (TypeField type) q r.type) fits
      (subst (λ (k : ℕ). Length k r.len) e l) nothing in
      subst (Codes deepest (leaf type value empty)) (sym (sliced s at xs bound (omega arith) here)) codes

  branch_alone : (m : Bool) → ReadFrom s at limit deepest (header m) → constructed code ≡ true → (next : ℕ) (inside : Tree)
      → Coded s (deepest - 1) start bound m inside (ends next) → Codes deepest (branch type inside empty) (slice at next s)
  branch_alone false r q next inside (value, cv, hv, (x, y)) =
      let (n, w, l, m) = r.sized in
      let e : n ≡ length value = omega arith in
      let k : next ≡ start + length value = omega arith in
      let here = item-here s at type r.len value [] start next r.past k r.here hv (drop next s, refl) in
      let size = item-length s at type r.len value [] start next r.past k in
      let xs = type ++ (r.len ++ (value ++ [])) in
      let codes : Codes deepest (branch type inside empty) xs = definite (subst (TypeField type) q r.type)
      (subst (λ (k : ℕ). Length k r.len) e l) cv nothing in
      subst (Codes deepest (branch type inside empty)) (sym (sliced s at xs next (omega arith) here)) codes
  branch_alone true r q next inside (value, cv, hv, (x, mark)) =
      let w = r.sized.0 in
      let open-length : List ℕ = 0x80 ∷ [] in
      let head : Here s at (type ++ open-length) = subst (λ (l : List ℕ). Here s at (type ++ l)) w r.here in
      let past : start ≡ at + length (type ++ open-length) = r.past ∙ ap (λ (l : List ℕ). at + length (type ++ l)) w in
      let stop = start + length value in
      let here = item-here s at type open-length value (0 ∷ 0 ∷ []) start stop past refl head hv mark in
      let size = item-length s at type open-length value (0 ∷ 0 ∷ []) start stop past refl in
      let xs = type ++ (0x80 ∷ (value ++ (0 ∷ 0 ∷ []))) in
      let codes : Codes deepest (branch type inside empty) xs = indefinite (subst (TypeField type) q r.type) cv nothing in
      subst (Codes deepest (branch type inside empty)) (sym (sliced s at xs next (omega arith) here)) codes

pub alone : {s : List ℕ} {at limit : ℕ} {marked : Bool} {i : Items} {e : End} → Runs s deepest at limit marked i e → marked ≡ false → Whole e
    → limit ≤ length s → Alone s limit i
alone (at_limit p) m w f = tt
alone (unclosed p) m w f = absurd w
alone (closes l h) m w f = tt
alone (refuses l h) m w f = absurd w
alone {s} (primitive {at = at} {limit = limit} {marked = marked} {h = h} {after = after} l p q r) m w f =
    let o = header_ok s at limit deepest marked h p in
    let next : start_of limit after ≡ h.bound = starts-at r m w in
    let read = read-from s at limit deepest marked l f h p in
    (rw (q, next) (leaf-alone s at limit h.code h.number h.start h.bound h.marked read q (omega (arith, o.within))), alone r m w f)
alone {s} (passes {at = at} {limit = limit} {marked = marked} {h = h} {inside = inside} {after = after} {next = to} l p q v r) m w f =
    let o = header_ok s at limit deepest marked h p in
    let next : start_of limit after ≡ to = starts-at r m w in
    let read = read-from s at limit deepest marked l f h p in
    let run = sound v (omega (arith, o.within)) in
    (rw (q, next) (branch_alone s at limit h.code h.number h.start h.bound h.marked read q to (plain s inside) run), alone r m w f)
alone (breaks l p q v) m w f = absurd w
