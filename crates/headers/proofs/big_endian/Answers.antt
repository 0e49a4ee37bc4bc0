-- `big_endian` meets its contract: after i turns n is the number of the first i octets.
use Rattle.std.proofs.Common.{◌≡◌, ℕ, ◌+◌, ◌-◌, ◌*◌, ◌<◌, ◌≤◌}
use Rattle.std.proofs.Common.{List, refl, ap, sym, ◌∙◌, length, take, drop, get_or, arith, rules, length-take, length-drop, take_all}
use Rattle.std.proofs.lemmas.List.{get_or-drop, get_or-take}
use Rattle.headers.specs.Head.{big_endian, big_endian_from}
use Rattle.headers.proofs.Lengths.{be-more, be-grows, shift_is}
use Rattle.headers.proofs.big_endian.Goals as goal

-- the loop goes over k octets
part-length : (s : List ℕ) (from k : ℕ) → from + k ≤ length s → length (take (from + k - from) (drop from s)) ≡ k
part-length s from k h = simp (length-take, length-drop) (omega arith)

pub loop-octet-init : goal.loop-octet-init
unfolding big_endian_from
loop-octet-init c = (omega (arith, part-length), refl, search rules)

pub loop-octet-preserved : goal.loop-octet-preserved
loop-octet-preserved c =
    let a = c.args in
    let l = c.loop-octet in
    let items = take (a.from + a.k - a.from) (drop a.from a.s.now) in
    let i = l.octet-index in
    let x = get_or items i 0 in
    let here : i < a.from + a.k - a.from = omega (arith, part-length) in
    let there : x ≡ get_or a.s.now (a.from + i) 0 = get_or-take _ (drop a.from a.s.now) i 0 here ∙ get_or-drop a.from a.s.now i 0 in
    let small : x < 256 = omega (arith, c.type_inv.s (a.from + i)) in
    let product = shift_is i l.n (omega arith) l.invariant.2 in (
      l.invariant.0,
      ap (λ (m : ℕ). m + x) (product ∙ ap (λ (m : ℕ). m * 256) l.invariant.1) ∙ sym (be-more items i c.loop-octet-test.true),
      rw product (be-grows i l.n x l.invariant.2 small),
    )

pub returns : goal.returns
returns c =
    let a = c.args in
    let l = c.loop-octet in
    let items = take (a.from + a.k - a.from) (drop a.from a.s.now) in
    let k : a.from + a.k - a.from ≡ a.k = omega arith in
    let e : l.octet-index ≡ a.k = omega (arith, part-length) in (
      l.invariant.1 ∙ ap big_endian (take_all l.octet-index items c.loop-octet-test.false ∙ ap (λ (n : ℕ). take n (drop a.from a.s.now)) k),
      rw (← e) l.invariant.2,
    )
