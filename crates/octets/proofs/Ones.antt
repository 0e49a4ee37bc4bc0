-- What the walk of one item answers, by what stands at its place.
use mathlib.Core.Path.{◌≡◌, ap, ◌∙◌}
use mathlib.Core.Bool.{false}
use mathlib.Core.List.{List}
use Prim.Native.Nat.{ℕ, ◌+◌, ◌-◌, ◌<◌, ◌≤◌}
use native.Mathlib.Omega.{arith}
use borrow.Author.Tests.{le-leb, lt-leb}
use Rattle.headers.specs.declared.Header.{Header}
use Rattle.headers.specs.declared.Head.{Head}
use Rattle.headers.specs.declared.Head.TheVariants.{Item, ClosingMark, Refusal}
use Rattle.octets.specs.Told.{ended as walk_ended, refused}
use Rattle.headers.specs.Head.{head_at}
use Rattle.octets.specs.Walk.{ended, on_head, run, answer}
use Rattle.octets.specs.Further.{one_of}
use Rattle.octets.specs.Values.{value_of}
use Rattle.octets.proofs.Turns.{follow-passes, follow-breaks}

module _ (room : ℕ) (s : List ℕ) (at limit : ℕ) where
  pub one-ends : limit ≤ at → answer (one_of room s at limit) ≡ walk_ended limit 0
  unfolding one_of
  one-ends l = simp (le-leb limit at l)

  module _ (l : at < limit) where
    one-head : (head : Head) → head_at s at limit false room ≡ head → one_of room s at limit
        ≡ on_head at head (λ h. run (room - 1) s h.start h.bound h.marked) (λ next. ended next)
    unfolding one_of
    one-head head e = rw (lt-leb _ _ l, e)

    pub one-closes : head_at s at limit false room ≡ ClosingMark → answer (one_of room s at limit) ≡ walk_ended (at + 2) 0
    one-closes e = ap answer (one-head ClosingMark e)

    pub one-refuses : (number place : ℕ) → head_at s at limit false room ≡ Refusal number place → answer (one_of room s at limit) ≡ refused number place 0
    one-refuses number place e = ap answer (one-head (Refusal number place) e)

    pub one_passes : (h : Header) → head_at s at limit false room ≡ Item h → (next k : ℕ) → answer (value_of room s h) ≡ walk_ended next k
        → answer (one_of room s at limit) ≡ walk_ended next (k + 1)
    unfolding value_of
    one_passes h e next k p =
        ap answer (one-head (Item h) e)
        ∙ follow-passes at h (value_of room s h).items (value_of room s h).how (λ n. ended n) next k p
        ∙ ap (walk_ended next) (omega arith)

    pub one-breaks : (h : Header) → head_at s at limit false room ≡ Item h → (number place k : ℕ) → answer (value_of room s h) ≡ refused number place k
        → answer (one_of room s at limit) ≡ refused number place (k + 1)
    unfolding value_of
    one-breaks h e number place k p =
        ap answer (one-head (Item h) e) ∙ follow-breaks at h (value_of room s h).items (value_of room s h).how (λ n. ended n) number place k p
