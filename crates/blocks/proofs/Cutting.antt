-- The theorems. After any octets of a letter the state stands for the walk of the letter, whatever comes (`stands`); at the close its
-- answer is that of the walk (`answers`), for any cutting into blocks (`any-cutting`) and with refused blocks between (`any-blocks`).
use mathlib.Core.Path.{◌≡◌, refl, ap, sym, ◌∙◌, subst}
use mathlib.Core.Bool.{Bool, true, false, cond}
use mathlib.Core.List.{List, [], ◌∷◌, ◌++◌, append-nil, foldl-append, flatten}
use Prim.Native.Nat.{ℕ, suc, ◌+◌, ◌-◌, ◌<◌, ◌≤◌}
use native.Mathlib.Omega.{arith}
use native.Mathlib.Nat.{add-zero}
use lib.Dec.{leb, eqb}
use lib.ListN.{length, drop, length-append, length-drop}
use lib.Seq.{drop-cons}
use borrow.Author.Tests.{leb-true, leb-false, le-leb, lt-leb, eqb-true, eq-eqb, ne_eqb}
use Rattle.headers.specs.Head.{octet_at}
use Rattle.octets.specs.Walk.{run, answer, walk_of}
use Rattle.octets.specs.Told.{told}
use Rattle.octets.proofs.Turns.{plus-zero}
use Rattle.blocks.specs.Engine.{reading, found, State, step, feed, fresh, state_after}
use Rattle.blocks.specs.Blocks.{start, take_block, close, take_blocks, kept, at_close}
use Rattle.blocks.specs.Resume.{outlook}
use Rattle.blocks.proofs.Stands.{Good, onward-good, good-end}

-- the octets are counted, and the total is kept
pub feed-taken : (s : State) (xs : List ℕ) → (feed s xs).taken ≡ s.taken + length xs
unfolding step
feed-taken s [] = sym (add-zero s.taken)
feed-taken s (x ∷ xs) = feed-taken (step s x) xs ∙ omega arith

pub feed-total : (s : State) (xs : List ℕ) → (feed s xs).total ≡ s.total
unfolding step
feed-total s [] = refl
feed-total s (x ∷ xs) = feed-total (step s x) xs

-- no cutting matters
pub feed-append : (s : State) (xs ys : List ℕ) → feed s (xs ++ ys) ≡ feed (feed s xs) ys
feed-append s xs ys = foldl-append step s xs ys

module _ (letter : List ℕ) where
  abbrev GoodState : State → Type 0
  GoodState s = (s.total ≡ length letter) × Good letter s.taken (walk_of letter) s.standing

  step-good : (s : State) → s.taken < length letter → GoodState s → GoodState (step s (octet_at letter s.taken))
  unfolding step
  step-good s l (t, g) = (t, rw t (onward-good letter (walk_of letter) s.taken l s.standing g))

  feed-good : (s : State) (xs rest : List ℕ) → drop s.taken letter ≡ xs ++ rest → GoodState s → GoodState (feed s xs)
  unfolding step
  feed-good s [] rest h g = g
  feed-good s (x ∷ xs) rest h g =
      let l : s.taken < length letter = (let e = sym (length-drop s.taken letter) ∙ ap length h in omega arith) in
      let parts = sym (drop-cons letter s.taken 0 l) ∙ h in
      let e : octet_at letter s.taken ≡ x = cc in
      let d : drop (suc s.taken) letter ≡ xs ++ rest = cc in
      feed-good (step s x) xs rest d (subst (λ (o : ℕ). GoodState (step s o)) e (step-good s l g))

  fresh-good : GoodState (fresh (length letter))
  unfolding fresh walk_of
  fresh-good = (refl, go (leb (length letter) 1048576) refl)
    where
      go : (b : Bool) → leb (length letter) 1048576 ≡ b → Good letter 0 (walk_of letter) (cond b (reading 0 [] 0 []) (found 1 0 0))
      go true e = (
        record {
          nested = tt;
          within = omega arith;
          going = λ _. tt;
          come = omega arith;
        },
        rw e (sym (plus-zero (answer (run 16 letter 0 (length letter) false)))),
      )
      go false e = (tt, rw e)

-- After the octets xs of a letter the state stands for the walk of the letter, whatever octets are to come.
pub stands : (xs ys : List ℕ) → outlook (xs ++ ys) (state_after (length (xs ++ ys)) xs).standing ≡ walk_of (xs ++ ys)
unfolding fresh
stands xs ys = (feed-good (xs ++ ys) (fresh (length (xs ++ ys))) xs ys refl (fresh-good (xs ++ ys))).1.1

all-good : (xs : List ℕ) → Good xs (length xs) (walk_of xs) (state_after (length xs) xs).standing
unfolding fresh
all-good xs =
    let g = (feed-good xs (fresh (length xs)) xs [] (sym (append-nil xs)) (fresh-good xs)).1 in
    let e : (state_after (length xs) xs).taken ≡ length xs = feed-taken (fresh (length xs)) xs ∙ omega arith in
    subst (λ (n : ℕ). Good xs n (walk_of xs) (state_after (length xs) xs).standing) e g

-- At the close, number, place and header count are those of the walk.
pub answers : (xs : List ℕ) → close (state_after (length xs) xs) ≡ told (walk_of xs)
unfolding close fresh
answers xs =
    let s = state_after (length xs) xs in
    let t : s.taken ≡ s.total = feed-taken (fresh (length xs)) xs ∙ omega arith ∙ sym (feed-total (fresh (length xs)) xs) in
    rw (eq-eqb s.taken s.total t) (good-end xs (walk_of xs) s.standing (all-good xs))

-- Blocks, taken and refused.
pub take-fits : (s : State) (block : List ℕ) → s.taken + length block ≤ s.total → take_block s block ≡ record { number = 0; state = feed s block }
unfolding take_block
take-fits s block h = rw (le-leb (s.taken + length block) s.total h)

-- "28 a block past the total, state unchanged", whatever was found
pub take_past : (s : State) (block : List ℕ) → s.total < s.taken + length block → take_block s block ≡ record { number = 28; state = s }
unfolding take_block
take_past s block h = rw (lt-leb (s.taken + length block) s.total h)

-- "29 closing early", whatever was found
pub close-early : (s : State) → s.taken < s.total → close s ≡ record { number = 29; place = 0; headers = 0 }
unfolding close
close-early s h = rw (ne_eqb s.taken s.total (λ e. omega arith))

-- the state after blocks is the state after the octets of those that are not refused
abbrev Kept : List (List ℕ) → Type 0
Kept blocks = (s : State) → s.taken ≤ s.total → take_blocks s blocks ≡ feed s (kept (s.total - s.taken) blocks)

kept_more : (block : List ℕ) (blocks : List (List ℕ)) → Kept blocks → (s : State) → s.taken ≤ s.total
    → (b : Bool) → leb (length block) (s.total - s.taken) ≡ b
    → take_blocks (take_block s block).state blocks ≡ feed s (cond b (block ++ kept (s.total - s.taken - length block) blocks)
    (kept (s.total - s.taken) blocks))
kept_more block blocks more s l true e =
    let fits = leb-true (length block) (s.total - s.taken) e in
    let n = feed-taken s block in
    let t = feed-total s block in
    let r : (feed s block).total - (feed s block).taken ≡ s.total - s.taken - length block = omega arith in
    rw (take-fits s block (omega arith)) (more (feed s block) (omega arith)
    ∙ rw r (sym (feed-append s block (kept (s.total - s.taken - length block) blocks))))
kept_more block blocks more s l false e =
    let past = leb-false (length block) (s.total - s.taken) e in
    rw (take_past s block (omega arith)) (more s l)

pub takes-kept : (blocks : List (List ℕ)) → Kept blocks
takes-kept [] s l = refl
takes-kept (block ∷ blocks) s l = kept_more block blocks (takes-kept blocks) s l (leb (length block) (s.total - s.taken)) refl

-- After any blocks, some of them refused, the state is that after the octets of the others.
pub any-blocks : (total : ℕ) (blocks : List (List ℕ)) → take_blocks (start total).state blocks ≡ state_after total (kept total blocks)
unfolding fresh start
any-blocks total blocks =
    let e : total - 0 ≡ total = omega arith in
    takes-kept blocks (fresh total) (omega arith) ∙ rw e

closes : (total : ℕ) (xs : List ℕ) → close (state_after total xs) ≡ at_close total xs
unfolding close fresh
closes total xs = go (eqb (length xs) total) refl
  where
    s : State
    s = state_after total xs

    counted : s.taken ≡ length xs
    counted = feed-taken (fresh total) xs ∙ omega arith

    go : (b : Bool) → eqb (length xs) total ≡ b → close s ≡ cond b (told (walk_of xs)) (record { number = 29; place = 0; headers = 0 })
    go true e = ap (λ (n : ℕ). close (state_after n xs)) (sym (eqb-true (length xs) total e)) ∙ answers xs
    go false e = rw (counted, feed-total (fresh total) xs, e)

-- The close tells the walk of the octets that were taken if they are all, and 29 else.
pub any-close : (total : ℕ) (blocks : List (List ℕ)) → close (take_blocks (start total).state blocks) ≡ at_close total (kept total blocks)
any-close total blocks = ap close (any-blocks total blocks) ∙ closes total (kept total blocks)

-- no block is refused where they are no longer than what is left
all-kept : (left : ℕ) (blocks : List (List ℕ)) → length (flatten blocks) ≤ left → kept left blocks ≡ flatten blocks
unfolding flatten
all-kept left [] l = refl
all-kept left (block ∷ blocks) l =
    let n = length-append block (flatten blocks) in
    rw (le-leb (length block) left (omega arith)) (ap (λ (r : List ℕ). block ++ r) (all-kept (left - length block) blocks (omega arith)))

-- For any cutting of a letter into blocks, none and empty ones included, the close tells what the walk of the letter tells.
pub any-cutting : (blocks : List (List ℕ)) → close (take_blocks (start (length (flatten blocks))).state blocks) ≡ told (walk_of (flatten blocks))
any-cutting blocks =
    let n = length (flatten blocks) in
    any-close n blocks ∙ rw (all-kept n blocks (omega arith), eq-eqb n n refl)
