-- Demand 2, the content: what the two questions of the content answer of a letter, by what its elements say; and joined, pieces are no
-- longer than octets that code them.
use mathlib.Core.Path.{◌≡◌, refl, ap, sym, ◌∙◌}
use mathlib.Core.Logic.{◌↔◌}
use mathlib.Core.Bool.{true, false}
use mathlib.Core.List.{List, ◌∷◌, ◌++◌}
use mathlib.Core.Option.{Option, none, some}
use Prim.Native.Nat.{ℕ, ◌<◌, ◌≤◌}
use native.Mathlib.Omega.{arith}
use lib.Dec.{eqb, ltb}
use lib.ListN.{length, get_elem?, length-append}
use lib.Seq.{slice_empty}
use borrow.Author.Tests.{ltb-true, ltb-false, eq-eqb, eqb-true}
use borrow.Table.Steps.{cases}
use Rattle.tree.specs.Tree.{Tree, Codes, nothing, primitive, definite, indefinite}
use Rattle.contents.specs.declared.Span.{Span}
use Rattle.contents.specs.Search.{Value, absent, octets}
use Rattle.pieces.specs.Pieces.{joined}
use Rattle.elements.specs.ElementRows.{bytes_in}
use Rattle.elements.specs.declared.Edition.{Edition}
use Rattle.elements.specs.Judge.{bytes_of, Content, single, in_pieces, joined_content, Element}
use Rattle.letters.specs.Letter.{letter, letter_in}
use Rattle.reading.specs.Match.{unit_kind}
use Rattle.answers.specs.Answers.{onto, Fetched, handed, fetched_of, part_of, fetched, all_of, joined_in, copied_from, copied, copied_output}
use Rattle.answers.proofs.Fetching.{one_piece, of_unit}
use Rattle.answers.proofs.Copying.{copies-all, joins-unit}
use Rattle.promises.specs.Demands.{TellsValue, TellsContent, UnitAt, PiecesAt}

-- joined, pieces are no longer than octets that code them
codes-joined : {room : ℕ} {t : Tree} {xs : List ℕ} → Codes room t xs → length (joined t) ≤ length xs
unfolding joined
codes-joined nothing = omega arith
codes-joined (primitive {room} {type} {len} {value} {rest} {after} f m l c) =
    let k = codes-joined c in
    rw (
      length-append value (joined after),
      length-append type (len ++ (value ++ rest)),
      length-append len (value ++ rest),
      length-append value rest,
    ) (omega arith)
codes-joined (definite {room} {type} {len} {value} {rest} {inside} {after} f l v c) =
    let k = codes-joined v in
    let m = codes-joined c in
    rw (
      length-append (joined inside) (joined after),
      length-append type (len ++ (value ++ rest)),
      length-append len (value ++ rest),
      length-append value rest,
    ) (omega arith)
codes-joined (indefinite {room} {type} {value} {rest} {inside} {after} f v c) =
    let k = codes-joined v in
    let m = codes-joined c in
    rw (length-append (joined inside) (joined after), length-append type (0x80 ∷ (value ++ (0 ∷ 0 ∷ rest))), length-append value (0 ∷ 0 ∷ rest)) (omega arith)

-- the octets of a value that a pair tells
pub told-bytes : (s : List ℕ) (pair : Span) (value : Value) → TellsValue s pair value → bytes_in s pair ≡ bytes_of value
told-bytes s pair absent e = ap (bytes_in s) e ∙ slice_empty 0 s
told-bytes s pair (octets bytes) (e, there) = e

pub told-within : (s : List ℕ) (pair : Span) (content : Content) → TellsContent s pair content → length (joined_content content) ≤ length (bytes_in s pair)
told-within s pair (single value) told = let p = ap length (one_piece value ∙ sym (told-bytes s pair value told)) in omega arith
told-within s pair (in_pieces run) (codes, there) = codes-joined codes

-- 20 is given for what is no text unit, whatever is wanted of a content
no-unit : (wanted : Content → Fetched) → ((c : Content) → (wanted c).number ≡ 20 → ⊥) → (found_at : Option Element)
    → ((fetched_of wanted found_at).number ≡ 20) ↔ ((unit : Element) → found_at ≡ some unit → unit.kind ≡ unit_kind → ⊥)
no-unit wanted other none = (λ _ unit p k. let z : ◌≡◌ {A = ℕ} 0 1 = cc in omega arith, λ _. refl)
no-unit wanted other (some own) =
    cases (eqb own.kind unit_kind)
    (λ t. rw t (λ p. absurd (other own.content p), λ n. absurd (n own refl (eqb-true own.kind unit_kind t))))
    (λ t. rw t (
      λ _ unit p k.
          let q : own ≡ unit = cc in
          let y : eqb own.kind unit_kind ≡ true = eq-eqb own.kind unit_kind (ap (λ (x : Element). x.kind) q ∙ k) in
          let z : true ≡ false = sym y ∙ t in
          let o : ◌≡◌ {A = ℕ} 0 1 = cc in
          omega arith,
      λ _. refl,
    ))

part-not-20 : (c : Content) → (part_of c).number ≡ 20 → ⊥
part-not-20 (single value) e = omega arith
part-not-20 (in_pieces run) e = omega arith

copied-20 : (f : Fetched) (out : List ℕ) → ((copied_from f out).number ≡ 20) ↔ (f.number ≡ 20)
copied-20 f out =
    cases (eqb f.number 0)
    (λ t.
    let z = eqb-true f.number 0 t in
    cases (ltb (length out) (length f.part))
    (λ u. rw (t, u) (λ p. absurd (omega arith), λ p. absurd (omega arith)))
    (λ u. rw (t, u) (λ p. absurd (omega arith), λ p. absurd (omega arith))))
    (λ t. rw t (λ p. p, λ p. p))

module _ (elements : List Element) (j : ℕ) where
  pieces_of : (own : Element) → UnitAt elements j own → (c : Content) → own.content ≡ c → (part_of c).number ≡ 21 → PiecesAt elements j
  pieces_of own at (single value) e p = absurd (omega arith)
  pieces_of own at (in_pieces run) e p = record { unit = own; is_unit = at; run = run; content = e }

  pieces-at : (found_at : Option Element) → get_elem? elements j ≡ found_at → (fetched_of part_of found_at).number ≡ 21 → PiecesAt elements j
  pieces-at none e p = absurd (omega arith)
  pieces-at (some own) e p =
      cases (eqb own.kind unit_kind)
      (λ t. pieces_of own (record { there = e; kind = eqb-true own.kind unit_kind t }) own.content refl (rw t at p))
      (λ t. let q : ◌≡◌ {A = ℕ} 20 21 = rw t at p in absurd (omega arith))

part-is-all : (c : Content) → (part_of c).number ≡ 0 → all_of c ≡ part_of c
part-is-all (single value) e = ap handed (one_piece value)
part-is-all (in_pieces run) e = absurd (omega arith)

all-fetched : (found_at : Option Element) → (fetched_of part_of found_at).number ≡ 0 → fetched_of all_of found_at ≡ fetched_of part_of found_at
all-fetched none e = absurd (omega arith)
all-fetched (some own) e =
    cases (eqb own.kind unit_kind)
    (λ t. let p : (part_of own.content).number ≡ 0 = rw t at e in rw t (part-is-all own.content p))
    (λ t. let p : ◌≡◌ {A = ℕ} 20 0 = rw t at e in absurd (omega arith))

module _ (edition : Edition) (s : List ℕ) (headers : ℕ) (elements : List Element) (e : letter_in edition s ≡ letter headers elements) (j : ℕ) where
  pub content : (unit : Element) → UnitAt elements j unit → (value : Value) → unit.content ≡ single value → fetched edition s j ≡ handed (bytes_of value)
  unfolding fetched
  content unit at value is = of_unit edition s j e at.there at.kind part_of ∙ ap part_of is

  pub content_20 : ((fetched edition s j).number ≡ 20) ↔ ((unit : Element) → UnitAt elements j unit → ⊥)
  unfolding fetched
  content_20 =
      let (there, back) = no-unit part_of part-not-20 (get_elem? elements j) in
      rw e (λ p unit at. there p unit at.there at.kind, λ n. back (λ unit p k. n unit (record { there = p; kind = k })))

  pub content_21 : ((fetched edition s j).number ≡ 21) ↔ PiecesAt elements j
  unfolding fetched
  content_21 = (
    λ p. pieces-at elements j (get_elem? elements j) refl (rw e at p),
    λ at. ap (λ (f : Fetched). f.number) (of_unit edition s j e at.is_unit.there at.is_unit.kind part_of ∙ ap part_of at.content),
  )

  -- what is to be copied
  joined-unit : (unit : Element) → UnitAt elements j unit → joined_in edition s j ≡ handed (joined_content unit.content)
  unfolding joined_in
  joined-unit unit at = of_unit edition s j e at.there at.kind all_of

  pub joins : (unit : Element) → UnitAt elements j unit → (out : List ℕ) → length (joined_content unit.content) ≤ length out
      → (copied edition s j out ≡ record { number = 0; place = 0; length = length (joined_content unit.content) })
      × (copied_output edition s j out ≡ onto (joined_content unit.content) out)
  joins unit at out room =
      let r = joins-unit edition s j out (joined-unit unit at) (copies-all (joined_content unit.content) out room refl refl) in
      (sym r.answered, sym r.put)

  pub joins_20 : (out : List ℕ) → ((copied edition s j out).number ≡ 20) ↔ ((unit : Element) → UnitAt elements j unit → ⊥)
  unfolding copied joined_in
  joins_20 out =
      let (there, back) = no-unit all_of (λ c p. omega arith) (get_elem? elements j) in
      let (to, from) = copied-20 (fetched_of all_of (get_elem? elements j)) out in
      rw e (λ p unit at. there (to p) unit at.there at.kind, λ n. from (back (λ unit p k. n unit (record { there = p; kind = k }))))

  pub joins_22 : (unit : Element) → UnitAt elements j unit → (out : List ℕ) → ((copied edition s j out).number ≡ 22) ↔
      (length out < length (joined_content unit.content))
  unfolding copied
  joins_22 unit at out =
      let all = joined_content unit.content in
      let is = joined-unit unit at in
      cases (ltb (length out) (length all))
      (λ t. rw (is, t) (λ _. ltb-true (length out) (length all) t, λ _. refl))
      (λ t. rw (is, t) (λ p. absurd (omega arith), λ l. absurd (omega (arith, ltb-false (length out) (length all) t))))

  pub part_joined : (fetched edition s j).number ≡ 0 → joined_in edition s j ≡ fetched edition s j
  unfolding fetched joined_in
  part_joined p = rw e (all-fetched (get_elem? elements j) (rw e at p))

-- two streams with the same elements have the same joined contents
pub same-joined : (edition : Edition) (s t : List ℕ) {headers : ℕ} {elements : List Element} → letter_in edition s ≡ letter headers elements
    → letter_in edition t ≡ letter headers elements
    → (j : ℕ) → joined_in edition t j ≡ joined_in edition s j
unfolding joined_in
same-joined edition s t e f j = rw (e, f)
