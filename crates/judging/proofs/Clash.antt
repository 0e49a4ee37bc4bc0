-- Rule 15 by the index: a row with the same name in the same name space is found exactly when its element clashes, for rows say what
-- their elements say and no identifier is empty.
use Rattle.std.specs.Prelude.{Option, Some, None, is_some}
use mathlib.Core.Path.{◌≡◌, refl, ap, sym, ◌∙◌}
use mathlib.Core.Bool.{Bool, true, false, ◌&&◌, ◌||◌, false≢true}
use mathlib.Core.List.{List, [], map}
use mathlib.Core.Option.{some}
use Prim.Native.Nat.{ℕ, ◌+◌, ◌-◌, ◌<◌}
use native.Mathlib.Omega.{arith}
use borrow.Author.Tests.{eq-eqb, eqb-true}
use lib.Dec.{eqb}
use lib.ListN.{length, get_or, get_elem?}
use lib.Seq.{slice, slice_empty, length-slice}
use Rattle.names.proofs.Same.{same-eq, same_refl}
use Rattle.contents.specs.declared.Span.{Span}
use Rattle.contents.specs.Search.{Value, absent, octets}
use Rattle.portions.specs.Portions.{any, repeats}
use Rattle.rows.specs.Rows.{scratch_width, name_space_of}
use Rattle.rows.specs.Columns.{identifier_column, logical_column, kind_at, first_at, past_at, value_at, Bounded}
use Rattle.rows.specs.Chains.{Has, FindsRow}
use Rattle.elements.specs.declared.Row.{Row}
use Rattle.elements.specs.Judge.{Element, shares, clash, twice}
use Rattle.elements.specs.ElementRows.{cells, bytes_in}
use Rattle.elements.specs.Says.{Names, Says}
use Rattle.judging.specs.Done.{DoneRows}
use Rattle.judging.specs.Judges.{Taken}
use Rattle.judging.proofs.Lists.{below_length, at-below, any-true, any_false, any-or}
use Rattle.judging.proofs.Rows.{RowOf, row-of, kind-at, first-at, past-at}

-- what a look-up answers
pub taken : (s scratch : List ℕ) (column n name_space : ℕ) (bytes : List ℕ) (found : Option ℕ) → FindsRow s scratch column n name_space bytes found
    → Taken s scratch column n name_space bytes (is_some found)
taken s scratch column n name_space bytes (Some j) finds = (j, finds.0)
taken s scratch column n name_space bytes None finds = finds

-- no row has an empty name
pub empty-untaken : {s scratch : List ℕ} {column n name_space : ℕ} (pair : Span) → Bounded s scratch column n → pair.first ≡ pair.past
    → Taken s scratch column n name_space (bytes_in s pair) false
empty-untaken {s} {scratch} {column} pair bounded e j has =
    let none : length (bytes_in s pair) ≡ 0 = ap (λ (i : ℕ). length (slice i pair.past s)) e ∙ ap length (slice_empty pair.past s) in
    omega (arith, length-slice (first_at scratch column j) (past_at scratch column j) s (bounded.inside j has.below), ap length has.of_bytes, has.present)

-- two identifiers are shared exactly when the first is there and their pairs bound the same bytes
module _ (s : List ℕ) (v w : Span) where
  shares-bytes : (x y : Value) → Names s v x → Names s w y → shares x y ≡ true → (v.first < v.past) × (bytes_in s v ≡ bytes_in s w)
  shares-bytes absent y a b t = absurd (false≢true t)
  shares-bytes (octets xs) absent a b t = absurd (false≢true t)
  shares-bytes (octets xs) (octets ys) a b t = (a.1, a.0.value ∙ same-eq xs ys t ∙ sym b.0.value)

  bytes-share : (x y : Value) → Names s v x → Names s w y → v.first < v.past → bytes_in s v ≡ bytes_in s w → shares x y ≡ true
  bytes-share absent y a b p e = absurd (omega (arith, ap (λ (z : Span). z.past) a))
  bytes-share (octets xs) absent a b p e =
      let some_bytes : length (bytes_in s v) ≡ v.past - v.first = length-slice v.first v.past s a.0.placed.inside in
      let no_bytes : bytes_in s w ≡ [] = ap (bytes_in s) b ∙ slice_empty 0 s in
      absurd (omega (arith, ap length (e ∙ no_bytes)))
  bytes-share (octets xs) (octets ys) a b p e =
      let same_bytes : xs ≡ ys = sym a.0.value ∙ e ∙ b.0.value in rw same_bytes (same_refl ys)

and-true : (a b : Bool) → a && b ≡ true → (a ≡ true) × (b ≡ true)
and-true true b t = (refl, t)
and-true false b t = absurd (false≢true t)

and-or : (a b c : Bool) → a && (b || c) ≡ (a && b || a && c)
and-or true b c = refl
and-or false b c = refl

not-true : (b : Bool) → (b ≡ true → ⊥) → b ≡ false
not-true true n = absurd (n refl)
not-true false n = refl

module _ {s scratch : List ℕ} {n : ℕ} {table : List Row} {done : List Element}
    (holds : DoneRows s scratch n table done) {row : Row} {e : Element} (says : Says s row e) where
  -- a column of the rows, the value that elements have there, and how the one bounds the other
  module _ (column : ℕ) (in_row : column + 1 < scratch_width) (pair : Row → Span) (value : Element → Value)
      (first-is : (r : Row) → get_or (cells r) column 0 ≡ (pair r).first) (past_is : (r : Row) → get_or (cells r) (column + 1) 0 ≡ (pair r).past)
      (names : (r : Row) (d : Element) → Says s r d → Names s (pair r) (value d)) where
    abbrev hit : Element → Bool
    hit d = eqb (name_space_of d.kind) (name_space_of e.kind) && shares (value d) (value e)

    module _ (j : ℕ) (d : Element) (stands : get_elem? done j ≡ some d) where
      abbrev own : RowOf s table j d
      own = row-of holds.saying j d stands

      first-own : first_at scratch column j ≡ (pair own.row).first
      first-own = first-at holds j own.row own.stands column (omega arith) ∙ first-is own.row

      past-own : past_at scratch column j ≡ (pair own.row).past
      past-own = past-at holds j own.row own.stands column in_row ∙ past_is own.row

      value-own : value_at s scratch column j ≡ bytes_in s (pair own.row)
      value-own = rw (first-own, past-own)

      space-own : name_space_of (kind_at scratch j) ≡ name_space_of d.kind
      space-own = ap name_space_of (kind-at holds j own.row own.stands ∙ own.says.kind)

      has-hit : Has s scratch column n (name_space_of row.kind) (bytes_in s (pair row)) j → hit d ≡ true
      has-hit has =
          let same-space : name_space_of d.kind ≡ name_space_of e.kind = sym space-own ∙ has.of_space ∙ ap name_space_of says.kind in
          rw (eq-eqb (name_space_of d.kind) (name_space_of e.kind) same-space)
          (bytes-share s (pair own.row) (pair row) (value d) (value e) (names own.row d own.says) (names row e says)
          (omega (arith, first-own, past-own, has.present)) (sym value-own ∙ has.of_bytes))

      hit-has : hit d ≡ true → Has s scratch column n (name_space_of row.kind) (bytes_in s (pair row)) j
      hit-has t =
          let both = and-true (eqb (name_space_of d.kind) (name_space_of e.kind)) (shares (value d) (value e)) t in
          let shared = shares-bytes s (pair own.row) (pair row) (value d) (value e) (names own.row d own.says) (names row e says) both.1 in
          record {
            below = omega (arith, below_length done j d stands, holds.counted);
            present = omega (arith, first-own, past-own, shared.0);
            of_space = space-own ∙ eqb-true (name_space_of d.kind) (name_space_of e.kind) both.0 ∙ ap name_space_of (sym says.kind);
            of_bytes = value-own ∙ shared.1;
          }

    hits : (b : Bool) → Taken s scratch column n (name_space_of row.kind) (bytes_in s (pair row)) b → any (map hit done) ≡ b
    hits true taken =
        let d = at-below done taken.0 (omega (arith, taken.1.below, holds.counted)) in
        any-true hit done taken.0 d.0 d.1 (has-hit taken.0 d.0 d.1 taken.1)
    hits false taken = any_false hit done (λ j d stands. not-true (hit d) (λ t. taken j (hit-has j d stands t)))

  abbrev shares_identifier : Element → Bool
  shares_identifier d = eqb (name_space_of d.kind) (name_space_of e.kind) && shares d.identifier e.identifier

  abbrev shares_logical : Element → Bool
  shares_logical d = eqb (name_space_of d.kind) (name_space_of e.kind) && shares d.logical e.logical

  by-identifier : (b : Bool) → Taken s scratch identifier_column n (name_space_of row.kind) (bytes_in s row.identifier) b → any
      (map shares_identifier done) ≡ b
  by-identifier = hits identifier_column (omega arith) (λ r. r.identifier) (λ d. d.identifier) (λ r. refl) (λ r. refl) (λ r d w. w.identifier)

  by-logical : (b : Bool) → Taken s scratch logical_column n (name_space_of row.kind) (bytes_in s row.logical) b → any (map shares_logical done) ≡ b
  by-logical = hits logical_column (omega arith) (λ r. r.logical) (λ d. d.logical) (λ r. refl) (λ r. refl) (λ r d w. w.logical)

  clashes : any (map (λ d. clash d e) done) ≡ (any (map shares_identifier done) || any (map shares_logical done))
  unfolding clash
  clashes = simp and-or (any-or shares_identifier shares_logical done)

  pub identifier-twice : Taken s scratch identifier_column n (name_space_of row.kind) (bytes_in s row.identifier) true → twice done e ≡ true
  unfolding twice
  identifier-twice p = rw (clashes, by-identifier true p)

  module _ (p : Taken s scratch identifier_column n (name_space_of row.kind) (bytes_in s row.identifier) false) where
    pub logical-twice : Taken s scratch logical_column n (name_space_of row.kind) (bytes_in s row.logical) true → twice done e ≡ true
    unfolding twice
    logical-twice q = rw (clashes, by-identifier false p, by-logical true q)

    pub portions-twice : Taken s scratch logical_column n (name_space_of row.kind) (bytes_in s row.logical) false → twice done e ≡ repeats e.portions
    unfolding twice
    portions-twice q = rw (clashes, by-identifier false p, by-logical false q)
