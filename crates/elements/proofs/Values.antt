-- What a pair tells of the value that it bounds: the object type, and how an identifier is spelt.
use mathlib.Core.Path.{◌≡◌, refl, sym, ap, ◌∙◌}
use mathlib.Core.Bool.{Bool, true, false, false≢true}
use mathlib.Core.List.{List, [], ◌∷◌}
use Prim.Native.Nat.{ℕ, suc, ◌-◌, ◌<◌, ◌≤◌}
use native.Mathlib.Omega.{arith}
use borrow.Author.Tests.{lt-ltb, le-ltb}
use lib.ListN.{length, get_or}
use lib.Seq.{slice, slice-cons, slice_empty, length-slice}
use Rattle.std.specs.Prelude.{Some, None}
use Rattle.contents.specs.declared.Span.{Span}
use Rattle.contents.specs.Search.{Value, absent, octets}
use Rattle.names.specs.Names.{is_identifier, grouped}
use Rattle.elements.specs.Judge.{no_type, type_fits, spelt}
use Rattle.elements.specs.Says.{Covers, Bounds, Names}
use Rattle.elements.specs.Frames.{Types}

-- a value of another length than one octet is no object type
not-one : (types : ℕ) (bytes : List ℕ) → (length bytes ≡ 1 → ⊥) → type_fits types (octets bytes) ≡ false
not-one types [] n = refl
not-one types (x ∷ []) n = absurd (n refl)
not-one types (x ∷ y ∷ ys) n = refl

one_byte : (s : List ℕ) (first past : ℕ) → past - first ≡ 1 → past ≤ length s → slice first past s ≡ get_or s first 0 ∷ []
one_byte s first past e l =
    let lt : first < past = omega arith in
    let next : suc first ≡ past = omega arith in
    slice-cons first past s 0 lt l ∙ ap (λ (xs : List ℕ). get_or s first 0 ∷ xs) (ap (λ (n : ℕ). slice n past s) next ∙ slice_empty past s)

-- no bytes are no identifier
some_bytes : (bytes : List ℕ) → is_identifier bytes ≡ true → 0 < length bytes
unfolding is_identifier grouped
some_bytes [] t = absurd (false≢true t)
some_bytes (x ∷ xs) t = omega arith

module _ (s : List ℕ) (v : Span) where
  covers-length : (bytes : List ℕ) → Covers s v bytes → length bytes ≡ v.past - v.first
  covers-length bytes b = ap length (sym b.value) ∙ length-slice v.first v.past s b.placed.inside

  module _ (types : ℕ) where
    pub type-absent : v.past ≡ 0 → (value : Value) → Bounds s v value → Types types value (Some no_type)
    type-absent z absent b = (refl, refl)
    type-absent z (octets bytes) b = absurd (omega (arith, b.there))

    pub type-long : (v.past ≡ 0 → ⊥) → (v.past - v.first ≡ 1 → ⊥)
        → (value : Value) → Bounds s v value → Types types value None
    type-long some n absent b = absurd (some (ap (λ (x : Span). x.past) b))
    type-long some n (octets bytes) b = not-one types bytes (λ e. n (sym (covers-length bytes b) ∙ e))

    module _ (some : v.past ≡ 0 → ⊥) (one : v.past - v.first ≡ 1) where
      bytes-are : (bytes : List ℕ) → Covers s v bytes → bytes ≡ get_or s v.first 0 ∷ []
      bytes-are bytes b = sym b.value ∙ one_byte s v.first v.past one b.placed.inside

      pub type-one : get_or s v.first 0 < types → (value : Value) → Bounds s v value → Types types value (Some (get_or s v.first 0))
      type-one l absent b = absurd (some (ap (λ (x : Span). x.past) b))
      type-one l (octets bytes) b = (rw (bytes-are bytes b, lt-ltb _ _ l), rw (bytes-are bytes b))

      pub type-beyond : types ≤ get_or s v.first 0 → (value : Value) → Bounds s v value → Types types value None
      type-beyond l absent b = absurd (some (ap (λ (x : Span). x.past) b))
      type-beyond l (octets bytes) b = rw (bytes-are bytes b, le-ltb _ _ l)

  pub spelt-absent : v.past ≡ 0 → (value : Value) → Bounds s v value → true ≡ spelt value
  spelt-absent z absent b = refl
  spelt-absent z (octets bytes) b = absurd (omega (arith, b.there))

  pub spelt-there : (v.past ≡ 0 → ⊥) → (b : Bool) → b ≡ is_identifier (slice v.first v.past s)
      → (value : Value) → Bounds s v value → b ≡ spelt value
  spelt-there some b e absent k = absurd (some (ap (λ (x : Span). x.past) k))
  spelt-there some b e (octets bytes) k = e ∙ ap is_identifier k.value

  -- a well spelt identifier is not empty
  pub named : (value : Value) → Bounds s v value → spelt value ≡ true → Names s v value
  named absent b t = b
  named (octets bytes) b t = (b, let some = some_bytes bytes t in omega (arith, covers-length bytes b))
