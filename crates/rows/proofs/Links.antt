-- A walk along the links of an index comes to rows alone, and a chain is as long as it was while its links stay.
use mathlib.Core.Path.{◌≡◌, refl, sym, subst}
use Prim.Native.Nat.{ℕ, zero, suc, ◌-◌, ◌<◌, ◌≤◌}
use mathlib.Core.List.{List}
use native.Mathlib.Omega.{arith}
use lib.ListN.{length, get_or}
use Rattle.rows.specs.Columns.{Present}
use Rattle.rows.specs.Chains.{Indexed}
use Rattle.rows.specs.Lookup.{AtMost, Linked}

-- a walk along those links that has come to one: it is of a row, or 0
pub record Walks (head next : List ℕ) (n link : ℕ) : Type 0 where
  pub s : List ℕ
  pub rows : List ℕ
  pub column : ℕ
  pub indexed : Indexed s rows column head next n
  pub within : link ≤ n
  pub present : 0 < link → Present rows column (link - 1)

pub walks-first : {head next : List ℕ} {n b : ℕ} → Linked head next n → b < length head → Walks head next n (get_or head b 0)
walks-first {head} {next} {n} {b} l low =
    let w = l.indexed.heads b low in record {
      s = l.s;
      rows = l.rows;
      column = l.column;
      indexed = l.indexed;
      within = w.within;
      present = w.present;
    }

pub walks_more : {head next : List ℕ} {n link : ℕ} → Walks head next n link → 0 < link → Walks head next n (get_or next (link - 1) 0)
walks_more {head} {next} {n} {link} l some =
    let w = l.indexed.nexts (link - 1) (omega (arith, l.within)) (l.present some) in record {
      s = l.s;
      rows = l.rows;
      column = l.column;
      indexed = l.indexed;
      within = omega (arith, w.within, l.within);
      present = w.present;
    }

-- no link is no chain
pub none-at-most : (next : List ℕ) (most : ℕ) → AtMost next most 0
unfolding AtMost
none-at-most next zero = refl
none-at-most next (suc most) = λ some. absurd (omega arith)

-- one row more, in front
pub one_more : (next : List ℕ) (most most' link : ℕ) → most' ≡ suc most → AtMost next most (get_or next (link - 1) 0) → AtMost next most' link
unfolding AtMost
one_more next most most' link e a = rw e (λ some. a)

-- a chain stays as it is, if its links do
pub at-most-kept : {s rows : List ℕ} {column : ℕ} {head next : List ℕ} {n : ℕ} → Indexed s rows column head next n
    → (next' : List ℕ) → ((j : ℕ) → j < n → get_or next' j 0 ≡ get_or next j 0)
    → (most link : ℕ) → link ≤ n → (0 < link → Present rows column (link - 1)) → AtMost next most link → AtMost next' most link
unfolding AtMost
at-most-kept x next' kept zero link within present a = a
at-most-kept {next = next} x next' kept (suc most) link within present a =
    λ some.
    let w = x.nexts (link - 1) (omega arith) (present some) in
    subst (AtMost next' most) (sym (kept (link - 1) (omega arith)))
    (at-most-kept x next' kept most (get_or next (link - 1) 0) (omega (arith, w.within)) w.present (a some))

-- all chains
pub short-kept : {s rows : List ℕ} {column : ℕ} {head next : List ℕ} {n : ℕ} → Indexed s rows column head next n
    → (next' : List ℕ) → ((j : ℕ) → j < n → get_or next' j 0 ≡ get_or next j 0) → (most b : ℕ) → b < length head
    → AtMost next most (get_or head b 0) → AtMost next' most (get_or head b 0)
short-kept {head = head} x next' kept most b low a =
    let w = x.heads b low in at-most-kept x next' kept most (get_or head b 0) w.within w.present a
