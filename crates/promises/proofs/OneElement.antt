-- One element read by both editions: their shapes are the same but for those that 1993 adds, and of a text unit with content in a 04 or a 24
-- they ask the same. The order of items, and how many there are, depend on the codes of their type fields alone.
use mathlib.Core.Path.{◌≡◌, refl, sym, ap, ◌∙◌, subst}
use mathlib.Core.Bool.{Bool, true, false, cond, not, ◌&&◌, ◌||◌, xor, true≢false, false≢true}
use mathlib.Core.List.{List, [], ◌∷◌}
use Prim.Native.Nat.{ℕ, ◌+◌}
use native.Mathlib.Omega.{arith}
use lib.Dec.{eqb, leb}
use lib.ListN.{length}
use borrow.Author.Tests.{eqb-true, eq-eqb, not-false}
use borrow.Table.Steps.{cases}
use Rattle.laws.proofs.Tests.{cond-holds}
use Rattle.headers.specs.Head.{code_of}
use Rattle.tree.specs.Tree.{Tree, empty, leaf, branch}
use Rattle.contents.specs.declared.Slot.{Slot}
use Rattle.contents.specs.Search.{is, amount, is_empty, slot, in_order}
use Rattle.elements.specs.declared.Edition.{Edition}
use Rattle.elements.specs.declared.Edition.TheVariants.{Of1988, Of1993}
use Rattle.elements.specs.Shape.{entry, unit, Shape, shape_of}
use Rattle.elements.specs.Judge.{required, optional, none_of, body_of, content_of, Element, element_of, items_in_order, as_tabled, names_fit, clash, twice}
use Rattle.elements.specs.Judge.{most_elements, profile_octet, refusal_of}
use Rattle.promises.specs.Editions.{is_protected}

-- the codes of a run's items
abbrev codes : Tree → List ℕ
codes empty = []
codes (leaf type value after) = code_of type ∷ codes after
codes (branch type inside after) = code_of type ∷ codes after

-- how many of them are an octet's
abbrev tally : ℕ → List ℕ → ℕ
tally octet [] = 0
tally octet (c ∷ cs) = cond (eqb c octet) 1 0 + tally octet cs

amount-codes : (octet : ℕ) (t : Tree) → amount octet t ≡ tally octet (codes t)
unfolding amount
amount-codes octet empty = refl
amount-codes octet (leaf type value after) = ap (λ (n : ℕ). cond (is octet type) 1 0 + n) (amount-codes octet after)
amount-codes octet (branch type inside after) = ap (λ (n : ℕ). cond (is octet type) 1 0 + n) (amount-codes octet after)

-- two items in order, by their codes
abbrev over : List ℕ → Bool
over [] = true
over (c ∷ cs) = false

abbrev begun : ℕ → (List ℕ → Bool) → List ℕ → Bool
begun octet rest [] = false
begun octet rest (c ∷ cs) = eqb c octet && rest cs

abbrev filled : Slot → (List ℕ → Bool) → List ℕ → Bool
filled x rest cs = begun x.octet rest cs || not x.needed && rest cs

abbrev in_row : (one two : Slot) → List ℕ → Bool
in_row one two = filled one (filled two over)

slot-codes : (x : Slot) (rest : Tree → Bool) (same : List ℕ → Bool) → ((t : Tree) → rest t ≡ same (codes t)) → (t : Tree)
    → slot x rest t ≡ filled x same (codes t)
slot-codes x rest same e empty = rw (e empty)
slot-codes x rest same e (leaf type value after) = rw (e after, e (leaf type value after))
slot-codes x rest same e (branch type inside after) = rw (e after, e (branch type inside after))

ends-codes : (t : Tree) → is_empty t ≡ over (codes t)
ends-codes empty = refl
ends-codes (leaf type value after) = refl
ends-codes (branch type inside after) = refl

order-codes : (one two : Slot) (t : Tree) → in_order one two t ≡ in_row one two (codes t)
unfolding in_order
order-codes one two t = slot-codes one (slot two is_empty) (filled two over) (slot-codes two is_empty over ends-codes) t

and-false : (b : Bool) → b && false ≡ false
and-false true = refl
and-false false = refl

-- the items of a text unit in each edition
abbrev row1988 : List ℕ → Bool
row1988 cs = in_row (optional 0x31) (required 0x24) cs || (in_row (optional 0x31) (required 0x04) cs || false)

abbrev row1993 : List ℕ → Bool
row1993 cs = in_row (optional 0x31) (optional 0x24) cs || (in_row (optional 0x31) (optional 0x30) cs || (in_row (optional 0x31) (optional 0x04) cs || false))

-- an item that may hold content in 1988 is there
abbrev Held : List ℕ → Type 0
Held cs = tally 0x04 cs + tally 0x24 cs ≡ 0 → ⊥

-- then both editions say the same of their order
rows_agree : (cs : List ℕ) → Held cs → row1993 cs ≡ row1988 cs
rows_agree [] h = absurd (h refl)
rows_agree (x ∷ []) h =
    cases (eqb x 0x04)
    (λ t. subst (λ (y : ℕ). row1993 (y ∷ []) ≡ row1988 (y ∷ [])) (sym (eqb-true x 0x04 t)) refl)
    (λ t.
    cases (eqb x 0x24)
    (λ u. subst (λ (y : ℕ). row1993 (y ∷ []) ≡ row1988 (y ∷ [])) (sym (eqb-true x 0x24 u)) refl)
    (λ u. absurd (h (rw (t, u)))))
rows_agree (x ∷ y ∷ []) h =
    cases (eqb y 0x30)
    (λ t.
    cases (eqb x 0x31)
    (λ u.
    let a : x ≡ 0x31 = eqb-true x 0x31 u in
    let b : y ≡ 0x30 = eqb-true y 0x30 t in
    absurd (h (subst (λ (i : ℕ). tally 0x04 (i ∷ y ∷ []) + tally 0x24 (i ∷ y ∷ []) ≡ 0) (sym a)
    (subst (λ (i : ℕ). tally 0x04 (0x31 ∷ i ∷ []) + tally 0x24 (0x31 ∷ i ∷ []) ≡ 0) (sym b) refl))))
    (λ u. rw (u, and-false (eqb x 0x24), and-false (eqb x 0x30), and-false (eqb x 0x04))))
    (λ t.
    cases (eqb x 0x31)
    (λ u. rw (t, u, and-false (eqb x 0x24), and-false (eqb x 0x30), and-false (eqb x 0x04)))
    (λ u. rw (u, and-false (eqb x 0x24), and-false (eqb x 0x30), and-false (eqb x 0x04))))
rows_agree (x ∷ y ∷ z ∷ cs) h =
    rw (
      and-false (eqb y 0x24),
      and-false (eqb y 0x30),
      and-false (eqb y 0x04),
      and-false (eqb x 0x31),
      and-false (eqb x 0x24),
      and-false (eqb x 0x30),
      and-false (eqb x 0x04),
    )

-- three or more items stand in no order
never-three : (x y z : ℕ) (cs : List ℕ) → row1988 (x ∷ y ∷ z ∷ cs) ≡ false
never-three x y z cs =
    rw (and-false (eqb y 0x24), and-false (eqb y 0x04), and-false (eqb x 0x31), and-false (eqb x 0x24), and-false (eqb x 0x04))

none_here : (b : Bool) (n : ℕ) → cond {A = ℕ} b 1 0 + n ≡ 0 → (b ≡ false) × (n ≡ 0)
none_here true n e = absurd (omega arith)
none_here false n e = (refl, omega arith)

-- where the items of a text unit stand as in 1988, one holds content,
row-held : (cs : List ℕ) → row1988 cs ≡ true → Held cs
row-held [] o z = false≢true o
row-held (x ∷ []) o z =
    let a = none_here (eqb x 0x04) 0 (omega arith) in
    let b = none_here (eqb x 0x24) 0 (omega arith) in
    let w : row1988 (x ∷ []) ≡ false = rw (a.0, b.0, and-false (eqb x 0x31)) in
    false≢true (sym w ∙ o)
row-held (x ∷ y ∷ []) o z =
    let a = none_here (eqb x 0x04) (tally 0x04 (y ∷ [])) (omega arith) in
    let b = none_here (eqb x 0x24) (tally 0x24 (y ∷ [])) (omega arith) in
    let c = none_here (eqb y 0x04) 0 (omega (arith, a.1)) in
    let d = none_here (eqb y 0x24) 0 (omega (arith, b.1)) in
    let w : row1988 (x ∷ y ∷ []) ≡ false = rw (c.0, d.0, and-false (eqb x 0x31), a.0, b.0) in
    false≢true (sym w ∙ o)
row-held (x ∷ y ∷ z ∷ cs) o e = false≢true (sym (never-three x y z cs) ∙ o)

-- and none tiles
row-untiled : (cs : List ℕ) → row1988 cs ≡ true → tally 0x30 cs ≡ 0
row-untiled [] o = refl
row-untiled (x ∷ []) o =
    cases (eqb x 0x30)
    (λ t. absurd (false≢true (subst (λ (i : ℕ). row1988 (i ∷ []) ≡ true) (eqb-true x 0x30 t) o)))
    (λ t. rw t)
row-untiled (x ∷ y ∷ []) o =
    cases (eqb x 0x30)
    (λ t. absurd (false≢true (subst (λ (i : ℕ). row1988 (i ∷ y ∷ []) ≡ true) (eqb-true x 0x30 t) o)))
    (λ t.
    cases (eqb y 0x30)
    (λ u.
    let w : row1988 (x ∷ 0x30 ∷ []) ≡ false = rw (and-false (eqb x 0x31), and-false (eqb x 0x24), and-false (eqb x 0x04)) in
    absurd (false≢true (sym w ∙ subst (λ (i : ℕ). row1988 (x ∷ i ∷ []) ≡ true) (eqb-true y 0x30 u) o)))
    (λ u. rw (t, u)))
row-untiled (x ∷ y ∷ z ∷ cs) o = absurd (false≢true (sym (never-three x y z cs) ∙ o))

-- a run that holds a 04 or a 24
pub record Holds (run : Tree) : Type 0 where
  pub some_item : amount 0x04 run + amount 0x24 run ≡ 0 → ⊥

held-codes : {run : Tree} → Holds run → Held (codes run)
held-codes {run} h z = h.some_item (omega (arith, amount-codes 0x04 run, amount-codes 0x24 run))

ordered-agree : (run : Tree) → Holds run → items_in_order (unit false true) run ≡ items_in_order (unit true false) run
unfolding items_in_order
ordered-agree run h =
    rw (
      order-codes (optional 0x31) (optional 0x24) run,
      order-codes (optional 0x31) (optional 0x30) run,
      order-codes (optional 0x31) (optional 0x04) run,
      order-codes (optional 0x31) (required 0x24) run,
      order-codes (optional 0x31) (required 0x04) run,
    )
    (rows_agree (codes run) (held-codes h))

in-row : (run : Tree) → items_in_order (unit true false) run ≡ true → row1988 (codes run) ≡ true
unfolding items_in_order
in-row run o = rw (order-codes (optional 0x31) (required 0x24) run, order-codes (optional 0x31) (required 0x04) run) at o

pub ordered-holds : (run : Tree) → items_in_order (unit true false) run ≡ true → Holds run
ordered-holds run o = record { some_item = λ z. row-held (codes run) (in-row run o) (omega (arith, amount-codes 0x04 run, amount-codes 0x24 run)) }

pub ordered-untiled : (run : Tree) → items_in_order (unit true false) run ≡ true → none_of 0x30 run ≡ true
ordered-untiled run o = eq-eqb (amount 0x30 run) 0 (amount-codes 0x30 run ∙ row-untiled (codes run) (in-row run o))

content-agrees : (run : Tree) → none_of 0x30 run ≡ true → content_of (unit false true) run ≡ content_of (unit true false) run
unfolding content_of
content-agrees run n = rw n

-- of tests that hold the first does
first-test : (a b : Bool) → a && b ≡ true → a ≡ true
first-test true b e = refl
first-test false b e = absurd (false≢true e)

pub tabled-ordered : (run : Tree) → as_tabled (unit true false) run ≡ true → items_in_order (unit true false) run ≡ true
unfolding as_tabled
tabled-ordered run e = first-test (items_in_order (unit true false) run) _ e

tabled-agrees : (run : Tree) → Holds run → as_tabled (unit false true) run ≡ as_tabled (unit true false) run
unfolding as_tabled body_of
tabled-agrees run h =
    cases (items_in_order (unit true false) run)
    (λ o. rw (ordered-agree run h, o, content-agrees run (ordered-untiled run o)))
    (λ o. rw (ordered-agree run h, o))

-- an element that no rule refuses has its contents as tabled
tabled : (edition : Edition) (done : List Element) (type : List ℕ) (run : Tree) → refusal_of edition done type run ≡ 0
    → as_tabled (shape_of edition type).contents run ≡ true
unfolding refusal_of
tabled edition done type run =
    let shape = shape_of edition type in
    let P : ℕ → Type 0 = λ n. n ≡ 0 → as_tabled shape.contents run ≡ true in
    cond-holds P (leb most_elements (length done)) (λ _ z. absurd (omega arith)) (λ _.
    cond-holds P (not (is shape.octet type)) (λ _ z. absurd (omega arith)) (λ _.
    cond-holds P (xor (eqb (length done) 0) (is profile_octet type)) (λ _ z. absurd (omega arith)) (λ _.
    cond-holds P (not (as_tabled shape.contents run)) (λ _ z. absurd (omega arith)) (λ t _. not-false (as_tabled shape.contents run) t))))

-- the shape of a text unit of 1988
text-unit : (type : List ℕ) → is 0xA3 type ≡ true → shape_of Of1988 type ≡ entry 0xA3 (unit true false)
unfolding shape_of
text-unit type t = let e : code_of type ≡ 0xA3 = eqb-true (code_of type) 0xA3 t in rw e

pub unit-tabled : (done : List Element) (type : List ℕ) (run : Tree) → is 0xA3 type ≡ true → refusal_of Of1988 done type run ≡ 0
    → as_tabled (unit true false) run ≡ true
unit-tabled done type run t z = subst (λ (shape : Shape). as_tabled shape.contents run ≡ true) (text-unit type t) (tabled Of1988 done type run z)

-- both editions read an element alike
pub record Alike (type : List ℕ) (run : Tree) : Type 0 where
  pub unprotected : is_protected type ≡ false
  pub held : is 0xA3 type ≡ true → Holds run

either-false : (a b : Bool) → a || b ≡ false → (a ≡ false) × (b ≡ false)
either-false false false e = (refl, refl)
either-false false true e = absurd (true≢false e)
either-false true b e = absurd (true≢false e)

-- where neither adds a shape of its own, the shapes are the same
pub shapes-agree : (type : List ℕ) → is 0xA3 type ≡ false → is_protected type ≡ false → shape_of Of1993 type ≡ shape_of Of1988 type
unfolding shape_of
shapes-agree type other free =
    let (a, abc) = either-false (is 0xA9 type) _ free in
    let (b, bc) = either-false (is 0xAA type) _ abc in
    let (c, d) = either-false (is 0xAB type) _ bc in
    let (e, _) = either-false (is 0xAC type) _ d in
    rw (other, a, b, c, e)

pub refusals-agree : (done : List Element) (type : List ℕ) (run : Tree) → Alike type run → refusal_of Of1993 done type run ≡ refusal_of Of1988 done type run
unfolding refusal_of shape_of element_of body_of names_fit twice clash
refusals-agree done type run h =
    cases (is 0xA3 type)
    (λ t. let e : code_of type ≡ 0xA3 = eqb-true (code_of type) 0xA3 t in rw (e, tabled-agrees run (h.held t)))
    (λ t. let same = shapes-agree type t h.unprotected in rw same)

pub elements-agree : (done : List Element) (type : List ℕ) (run : Tree) → Alike type run → refusal_of Of1988 done type run ≡ 0
    → element_of (shape_of Of1993 type) run ≡ element_of (shape_of Of1988 type) run
unfolding shape_of element_of body_of
elements-agree done type run h z =
    cases (is 0xA3 type)
    (λ t.
    let e : code_of type ≡ 0xA3 = eqb-true (code_of type) 0xA3 t in
    let fits = unit-tabled done type run t z in
    rw (e, content-agrees run (ordered-untiled run (tabled-ordered run fits))))
    (λ t. let same = shapes-agree type t h.unprotected in rw same)
