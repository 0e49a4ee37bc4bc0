-- `header_octet`: the octet is kept, and if the header has come with it, `read_head` on the octets kept says what it is.
use mathlib.Core.Path.{◌≡◌, sym, ap, ◌∙◌}
use mathlib.Core.Bool.{true, false}
use Prim.Native.Nat.{◌+◌, ◌-◌}
use native.Mathlib.Omega.{arith}
use lib.ListN.{length, set, take, length-set, length-map}
use lib.Seq.{length-take-le}
use Rattle.headers.specs.Head.{head_at}
use Rattle.blocks.specs.Engine.{limit_of, marked_of, whole}
use Rattle.engine.specs.Skimming.{opens, with_standing}
use Rattle.engine.proofs.Stores.{lying, numbered, part-octet, whole-octet}
use Rattle.engine.proofs.header.header_octet.Goals as goal
use Rattle.engine.proofs.header.header_octet.Goals.{Start}

eight : (c : Start) → (length c.args.b.begun ≡ 8) × (length (set c.args.b.begun c.args.b.have c.args.octet) ≡ 8)
eight c =
    let b = c.args.b in
    let n : length b.begun ≡ 8 = omega (arith, c.well_formed, length-map b.begun (λ v. v)) in
    (n, length-set b.begun b.have c.args.octet ∙ n)

pub slice_bounds-is_whole-end : goal.slice_bounds-is_whole-end
slice_bounds-is_whole-end c =
    let b = c.args.b in
    let n = eight (goal.at.slice_bounds-is_whole-end c).Start in
    sym (length-take-le (b.have + 1) (set b.begun b.have c.args.octet) (omega arith))

pub returns-then-not-is_whole : goal.returns-then-not-is_whole
returns-then-not-is_whole c =
    let b = c.args.b in
    let octets = set b.begun b.have c.args.octet in
    let n = eight (goal.at.returns-then-not-is_whole c).Start in
    let w = c.is_whole.ensures in
    let few = w.1 c.if-not-is_whole.true in
    let kept = length-take-le (b.have + 1) octets (omega arith) in
    let left = c.saturating_sub-left in
    let e : left.result ≡ limit_of b.total (opens b) - b.at = left.ensures ∙ rw c.limit_at-limit.ensures.0 in (
      part-octet b c.args.octet (omega arith) left.result e c.requires.0 (sym w.0 ∙ c.if-not-is_whole.true),
      c.requires.1,
      omega arith,
      omega arith,
    )

pub read_head-head-requires : goal.read_head-head-requires
read_head-head-requires c = let n = eight (goal.at.read_head-head-requires c).Start in (omega arith, omega arith)

pub decided-requires : goal.decided-requires
decided-requires c =
    let b = c.args.b in
    let octets = set b.begun b.have c.args.octet in
    let limit = c.limit_at-limit in
    let marked = c.marked_at-marked.result in
    let e : c.read_head-head.result ≡ head_at octets 0 (limit.result - b.at) marked (16 - b.level) =
    c.read_head-head.ensures ∙ rw c.saturating_sub-left.ensures in (
      c.requires.0,
      c.requires.1,
      c.requires.3,
      limit.ensures.1,
      rw e (lying octets (limit.result - b.at) (16 - b.level) marked),
      rw e (numbered octets (limit.result - b.at) marked (16 - b.level)),
      c.requires.5,
    )

pub returns : goal.returns
returns c =
    let b = c.args.b in
    let octets = set b.begun b.have c.args.octet in
    let n = eight (goal.at.returns c).Start in
    let left = c.saturating_sub-left in
    let e : left.result ≡ limit_of b.total (opens b) - b.at = left.ensures ∙ rw c.limit_at-limit.ensures.0 in
    let h : c.read_head-head.result ≡ head_at octets 0 left.result (marked_of (opens b)) (16 - b.level) =
    c.read_head-head.ensures ∙ rw c.marked_at-marked.ensures in
    let all : whole (take (b.have + 1) octets) left.result ≡ true = sym c.is_whole.ensures.0 ∙ c.if-not-is_whole.false in
    let d = c.decided.ensures in
    (d.0 ∙ ap (with_standing b) (whole-octet b c.args.octet (omega arith) left.result e c.read_head-head.result h all), d.1, d.2, d.3)
