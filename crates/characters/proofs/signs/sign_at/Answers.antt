-- `characters::signs::sign_at` meets its contract: whether an octet follows.
use Prim.Native.Nat.{◌+◌, ◌≤◌, ◌<◌}
use native.Mathlib.Omega.{arith}
use lib.ListN.{length}
use borrow.Author.Tests.{lt-ltb, le-ltb}
use Rattle.characters.specs.Signs.{sign_at}
use Rattle.characters.proofs.signs.sign_at.Goals as goal

pub returns-then-at-octets : goal.returns-then-at-octets
unfolding sign_at
returns-then-at-octets c =
    let a = c.args in
    let more : a.at + 1 < length a.octets.now = omega arith in
    rw (lt-ltb (a.at + 1) (length a.octets.now) more) c.first_of.ensures

pub returns : goal.returns
unfolding sign_at
returns c =
    let a = c.args in
    let last : length a.octets.now ≤ a.at + 1 = omega arith in
    rw (le-ltb (a.at + 1) (length a.octets.now) last, c.alone_of.ensures)
