-- The portions of an element can be read again by the bounds of their value alone: they are primitive items.
use mathlib.Core.Path.{◌≡◌, refl, sym, ap, ◌∙◌, subst}
use mathlib.Core.Bool.{Bool, true, false, cond, false≢true}
use mathlib.Core.List.{List}
use mathlib.Core.Logic.{◌⊎◌, inl, inr}
use Prim.Native.Nat.{ℕ}
use native.Mathlib.Omega.{arith}
use lib.Dec.{eqb}
use borrow.Author.Tests.{eqb-true}
use Rattle.headers.specs.declared.Header.{Header}
use Rattle.headers.specs.declared.Head.TheVariants.{Item}
use Rattle.headers.specs.Head.{constructed, head_at}
use Rattle.octets.specs.Walk.{Items, no_items, End, ends, Walked, past_of}
use Rattle.octets.specs.Rules.{Runs, at_limit, unclosed, closes, refuses, primitive, passes, breaks}
use Rattle.octets.proofs.RulesHold.{derived, derives}
use Rattle.tree.specs.Accepts.{Whole}
use Rattle.runs.specs.declared.Run.{Run}
use Rattle.runs.specs.Runs.{walk_in, items_of, all_primitive, Fine}
use Rattle.runs.proofs.Heads.{item-octet}
use Rattle.runs.proofs.Again.{value-again}
use Rattle.contents.specs.declared.Span.{Span}
use Rattle.contents.specs.Search.{bounds_of, items_in}
use Rattle.contents.specs.Gather.{Counted}
use Rattle.rows.specs.Columns.{portions_run}

-- by the rules, the items are a run of one level between the bounds
abbrev Again : List ℕ → Span → Items → Type 0
Again s v i = Runs s 1 v.first v.past false i (ends v.past)

choose : (s : List ℕ) (b : Bool) (v w : Span) (i j : Items) → (b ≡ true → all_primitive i ≡ true → Again s v i)
    → (b ≡ false → all_primitive j ≡ true → Again s w j) → all_primitive (cond b i j) ≡ true → Again s (cond b v w) (cond b i j)
choose s true v w i j f g = f refl
choose s false v w i j f g = g refl

-- no primitive item has the octet of portions
not-primitive : (s : List ℕ) (room at limit : ℕ) (marked : Bool) (h : Header) → head_at s at limit marked room ≡ Item h
    → constructed h.code ≡ false → (octet : ℕ) → (octet ≡ 0) ⊎ (constructed octet ≡ true) → h.code ≡ octet → ⊥
not-primitive s room at limit marked h p q octet (inl z) e = (item-octet s at limit marked room h p).0 (e ∙ z)
not-primitive s room at limit marked h p q octet (inr c) e = false≢true (sym q ∙ ap constructed e ∙ c)

again-in : {s : List ℕ} {room at limit : ℕ} {marked : Bool} {i : Items} {e : End} → Runs s room at limit marked i e → Whole e
    → (octet : ℕ) → (octet ≡ 0) ⊎ (constructed octet ≡ true) → all_primitive (items_in octet i) ≡ true
    → Again s (bounds_of octet i) (items_in octet i)
unfolding bounds_of items_in
again-in (at_limit p) w octet k = λ _. at_limit refl
again-in (unclosed p) w octet k = absurd w
again-in (closes l h) w octet k = λ _. at_limit refl
again-in (refuses l h) w octet k = absurd w
again-in {s} (primitive {room} {at} {limit} {marked} {h} {after} l p q r) w octet k =
    choose s (eqb h.code octet) (record { first = h.start; past = past_of h.marked h.bound }) (bounds_of octet after)
    no_items (items_in octet after)
    (λ e. absurd (not-primitive s room at limit marked h p q octet k (eqb-true h.code octet e)))
    (λ _. again-in r w octet k)
again-in {s} (passes {room} {at} {limit} {marked} {h} {inside} {after} {next} l p q v r) w octet k =
    choose s (eqb h.code octet) (record { first = h.start; past = past_of h.marked next }) (bounds_of octet after)
    inside (items_in octet after)
    (λ _. value-again v 1 (λ _. omega arith))
    (λ _. again-in r w octet k)
again-in (breaks l p q v) w octet k = absurd w

module _ {s : List ℕ} {r : Run} {octet n : ℕ} {v : Span} (fine : Fine s r) (c : Counted s r octet n v)
    (k : (octet ≡ 0) ⊎ (constructed octet ≡ true))
    (all : all_primitive (items_in octet (items_of s r)) ≡ true) where
  walked-again : walk_in s (portions_run v) ≡ record { items = items_in octet (items_of s r); how = ends v.past }
  walked-again =
      let d = again-in (derives r.room s r.at r.limit r.marked fine.order) fine.whole octet k all in
      sym (derived (subst (λ (x : Span). Again s x (items_in octet (items_of s r))) (sym c.bounds) d))

  pub relisted-fine : Fine s (portions_run v)
  relisted-fine = record { order = c.order; inside = c.inside; whole = subst (λ (w : Walked). Whole w.how) (sym walked-again) tt }

  pub relisted-items : items_of s (portions_run v) ≡ items_in octet (items_of s r)
  relisted-items = ap (λ (w : Walked). w.items) walked-again
