-- Lines that are put one after another are put as one: so the loops and the calls of `page` each add what they put.
use Prim.Native.Nat.{ℕ, zero, suc, ◌+◌, ◌*◌, ◌≤◌, ◌<◌}
use native.Mathlib.Omega.{arith}
use native.Mathlib.Numerals.{add-one}
use native.Mathlib.Nat.{add-zero, zero-add}
use mathlib.Core.Path.{◌≡◌, refl, sym, ap, subst, ◌∙◌}
use mathlib.Core.List.{List, [], ◌∷◌, ◌++◌, append_assoc, append-nil, flatten}
use lib.ListN.{length, take, drop, get_or, length-append}
use lib.Seq.{sets-eq, length-sets, length-take-le, take-append_seam}
use Rattle.lister_text.specs.Lines.{WritesLine}
use Rattle.lister_text.proofs.Stores.{sets-join}
use Rattle.reading.specs.declared.Match.{Match}
use Rattle.reading.specs.declared.Side.{Side}
use Rattle.hexlister.specs.Output.{match_line, match_lines}
use Rattle.hexlister.specs.Pages.{line_room, PutsOnPage, row_line, row_lines}

-- bytes that are put may be named otherwise
pub puts-as : {bytes same page after : List ℕ} {at told room : ℕ} → bytes ≡ same → PutsOnPage bytes page at told after room
    → PutsOnPage same page at told after room
puts-as {bytes} {same} {page} {after} {at} {told} {room} e p = subst (λ (l : List ℕ). PutsOnPage l page at told after room) e p

-- what is put after something else
pub puts-join :
    {xs ys page middle after : List ℕ} {at here told room more : ℕ} →
    PutsOnPage xs page at here middle room →
    PutsOnPage ys middle here told after more →
    PutsOnPage (xs ++ ys) page at told after (room + more)
puts-join {xs} {ys} {page} {middle} {after} {at} {here} {told} {room} {more} p q =
    let both : length (xs ++ ys) ≡ length xs + length ys = length-append xs ys in
    record {
      past = omega (arith, p.past, q.past);
      stored = q.stored ∙ rw (p.stored, p.past) (sets-join page at xs ys);
      within = omega (arith, p.within, q.within);
    }

-- a line that was made in an array, and lent as its front
pub puts-line :
    {line lent array page after : List ℕ} {n at told : ℕ} →
    WritesLine line lent n array →
    PutsOnPage (take n array) page at told after line_room →
    PutsOnPage line page at told after line_room
puts-line {line} {lent} {array} {page} {after} {n} {at} {told} w p =
    let front : take n array ≡ line = rw (w.bytes, w.count) (take-append_seam line _) in
    puts-as front p

-- nothing was put yet
pub puts-nothing : (page : List ℕ) (at : ℕ) → PutsOnPage [] page at at page 0
puts-nothing page at = record { past = omega arith; stored = refl; within = omega arith }

-- within more room
pub puts-within : {bytes page after : List ℕ} {at told room more : ℕ} → PutsOnPage bytes page at told after room → room ≤ more
    → PutsOnPage bytes page at told after more
puts-within {bytes} {page} {after} {at} {told} {room} {more} p h = record { past = p.past; stored = p.stored; within = omega (arith, p.within) }

-- a line more than so many
puts-more :
    (count : ℕ) {xs line zs page middle after : List ℕ} {at here told : ℕ} →
    PutsOnPage xs page at here middle (line_room * count) →
    PutsOnPage line middle here told after line_room →
    xs ++ line ≡ zs →
    PutsOnPage zs page at told after (line_room * (count + 1))
puts-more count {xs} {line} {zs} {page} {middle} {after} {at} {here} {told} p q e =
    puts-within (puts-as e (puts-join p q)) (omega arith)

-- the lines of one row more
rows_more : (table : List ℕ) (number count : ℕ) → row_lines table number count ++ row_line table (number + count) ≡ row_lines table number (suc count)
unfolding row_lines
rows_more table number zero = rw (add-zero, append-nil)
rows_more table number (suc count) =
    let e : number + suc count ≡ suc number + count = omega arith in
    append_assoc (row_line table number) (row_lines table (suc number) count) (row_line table (number + suc count))
    ∙ ap (λ (l : List ℕ). row_line table number ++ l) (subst (λ (k : ℕ). row_lines table (suc number) count ++ row_line table k ≡ row_lines table
    (suc number) (suc count)) (sym e) (rows_more table (suc number) count))

pub puts-row :
    (table : List ℕ) (count : ℕ) {page middle after : List ℕ} {at here told : ℕ} →
    PutsOnPage (row_lines table 0 count) page at here middle (line_room * count) →
    PutsOnPage (row_line table count) middle here told after line_room →
    PutsOnPage (row_lines table 0 (count + 1)) page at told after (line_room * (count + 1))
puts-row table count p q =
    let e : 0 + count ≡ count = omega arith in
    let more = subst (λ (k : ℕ). row_lines table 0 count ++ row_line table k ≡ row_lines table 0 (suc count)) e (rows_more table 0 count) in
    puts-more count p q (rw (add-one count) more)

-- the lines of one match more
matches-more : (side : Side) (ms : List Match) (count : ℕ) (none : Match) → count < length ms
    → match_lines side (take count ms) ++ match_line side (get_or ms count none) ≡ match_lines side (take (suc count) ms)
unfolding match_lines flatten
matches-more side [] count none h = absurd (omega arith)
matches-more side (m ∷ ms) zero none h = rw append-nil
matches-more side (m ∷ ms) (suc count) none h =
    append_assoc (match_line side m) (match_lines side (take count ms)) (match_line side (get_or ms count none))
    ∙ ap (λ (l : List ℕ). match_line side m ++ l) (matches-more side ms count none (omega arith))

pub puts-match :
    (side : Side) (ms : List Match) (count : ℕ) (none : Match) → count < length ms → {page middle after : List ℕ} {at here told : ℕ} →
    PutsOnPage (match_lines side (take count ms)) page at here middle (line_room * count) →
    PutsOnPage (match_line side (get_or ms count none)) middle here told after line_room →
    PutsOnPage (match_lines side (take (count + 1) ms)) page at told after (line_room * (count + 1))
puts-match side ms count none h p q = puts-more count p q (rw (add-one count) (matches-more side ms count none h))

-- lines that are put on a page from its start are written there
pub puts-written : {lines page after : List ℕ} {told room : ℕ} → PutsOnPage lines page 0 told after room → room ≤ length page → WritesLine lines page told after
puts-written {lines} {page} {after} {told} {room} p h =
    let fits : 0 + length lines ≤ length page = omega (arith, p.within) in
    let count : told ≡ length lines = p.past ∙ zero-add (length lines) in
    let bytes : after ≡ lines ++ drop (length lines) page = p.stored ∙ sets-eq lines page 0 fits ∙ rw zero-add in
    let same : length after ≡ length page = ap length p.stored ∙ length-sets page 0 lines in
    let within : told ≤ length after = omega arith in
    record { count = count; bytes = bytes; fits = omega arith; within = within; part = sym (length-take-le told after within) }
