-- What a header that was read in a block leaves, case by case, and where the skimming stands after it (`turned`).
use mathlib.Core.Path.{◌≡◌, refl, ap, sym, ◌∙◌, subst}
use mathlib.Core.Bool.{Bool, true, false, cond, false≢true}
use mathlib.Core.List.{List, [], ◌∷◌}
use Prim.Native.Nat.{ℕ, suc, ◌+◌, ◌-◌, ◌<◌, ◌≤◌, min}
use native.Mathlib.Omega.{arith}
use native.Mathlib.Numerals.{add-one}
use lib.Dec.{eqb, leb}
use lib.ListN.{length, take, drop, set, length-drop, length-set, take-append-drop}
use lib.Seq.{drop-drop, drop-length, length-take-le}
use borrow.Author.Tests.{eq-eqb, ne_eqb, eqb-true, eqb-false, le-leb, leb-true, leb-false}
use Rattle.headers.specs.declared.Header.{Header}
use Rattle.headers.specs.declared.Head.{Head}
use Rattle.headers.specs.declared.Head.TheVariants.{Item, ClosingMark, Refusal}
use Rattle.headers.specs.Head.{constructed, head_at}
use Rattle.headers.proofs.Lies.{Lies, HeadOk, head_ok}
use Rattle.blocks.specs.Engine.{Open, Standing, reading, found, State, limit_of, marked_of, room_of, settle, arrive, decide, feed}
use Rattle.blocks.proofs.Goes.{finding-stays}
use Rattle.blocks.proofs.Cutting.{feed-append}
use Rattle.engine.specs.declared.Blocks.{Blocks}
use Rattle.engine.specs.declared.skim.Seat.{Seat}
use Rattle.engine.specs.declared.skim.Skim.{Skim}
use Rattle.engine.specs.Stored.{open_of, opens_of, state_of}
use Rattle.engine.specs.Skimming.{FineIfReading, at_header, back, Seen, Turns, place_of, GoesOn, Reads, Skims, Before, Settles, left_by}
use Rattle.engine.proofs.Stores.{one_less, pushed, level-is}
use Rattle.engine.proofs.Turning.{values}
use Rattle.engine.proofs.Seeing.{seen}

through : (a b c : ℕ) → a ≤ b → b ≤ c → a ≤ c
through a b c x y = omega arith

stop_is : (base from at : ℕ) → from ≤ at → at ≡ from + (base + (at - from) - base)
stop_is base from at l = omega arith

further-on : (base from i at : ℕ) → from ≤ i → i ≤ at → base + (i - from) + (at - i) ≡ base + (at - from)
further-on base from i at f l = omega arith

-- a place before the stop of a run is before its limit in the letter
within_limit : (base from stop limit i at : ℕ) → stop ≡ from + (limit - base) → from ≤ i → i < stop → at ≤ stop → from ≤ at → base + (at - from) ≤ limit
within_limit base from stop limit i at e f l w o = omega arith

module _ (seat : Seat) (s : Skim) (ends block : List ℕ) (p : Reads seat ends s block) where
  abbrev os : List Open
  os = opens_of s.level ends

  abbrev here : ℕ
  here = place_of seat s.i

  pub looked : (r g : Head) → r ≡ head_at block s.i s.stop s.marked (16 - s.level) → r ≡ g
      → Seen seat.total s.headers os here block s.i g × HeadOk s.i s.stop (16 - s.level) g
  looked r g e f =
      let d = level-is s.level ends in
      let stop = p.run.stop in
      let from = p.from in
      let before = p.before in
      let size = p.size in
      let eight = p.eight in
      let b : here < limit_of seat.total os = omega arith in
      let w : s.stop ≡ s.i + (limit_of seat.total os - here) = omega arith in
      let h : head_at block s.i (s.i + (limit_of seat.total os - here)) (marked_of os) (room_of os) ≡ g = rw (← w, ← p.run.marked, d) (sym e ∙ f) in (
        subst (Seen seat.total s.headers os here block s.i) h (seen seat.total s.headers os here block s.i b (omega arith)),
        subst (HeadOk s.i s.stop (16 - s.level)) (sym e ∙ f) (head_ok block s.i s.stop (16 - s.level) s.marked),
      )

  pub bounded : (g : Header) → Lies s.i s.stop (16 - s.level) g → place_of seat g.bound ≤ 2147483647
  bounded g l =
      let from = p.from in
      let x = l.header in
      let y = l.order in
      through (place_of seat g.bound) (limit_of seat.total os) 2147483647
      (within_limit seat.base seat.from s.stop (limit_of seat.total os) s.i g.bound p.run.stop from p.before l.within (omega arith))
      p.run.limit

  pub skims-open : (g : Header) (e : ℕ) → Seen seat.total s.headers os here block s.i (Item g) → Lies s.i s.stop (16 - s.level) g
      → constructed g.code ≡ true → open_of e ≡ record { bound = place_of seat g.bound; marked = g.marked }
      → Skims seat s ends block
      (record { level = s.level + 1; i = g.start; stop = g.bound; marked = g.marked; headers = s.headers + 1; number = 0; place = 0 })
      (set ends s.level e)
  skims-open g e w l q o =
      let a = w.ahead in
      let from = p.from in
      let stop = p.run.stop in
      let limit = p.run.limit in
      let x = l.header in
      let y = l.order in
      let z = l.within in
      let deep = l.deep in
      let before = p.before in
      let h : s.level < length ends = (let n = p.sixteen in omega arith) in
      let more = pushed s.level ends e (record { bound = place_of seat g.bound; marked = g.marked }) h o in
      let stops = stop_is seat.base seat.from g.bound (omega arith) in
      let to = further-on seat.base seat.from s.i g.start from (omega arith) in
      let by = further-on seat.base seat.from s.i g.bound from (omega arith) in
      let inner : List Open = record { bound = place_of seat g.bound; marked = g.marked } ∷ os in
      let counted : arrive (here + w.size) (suc s.headers) inner (place_of seat g.start) ≡ arrive (here + w.size) (s.headers + 1) inner (place_of seat g.start) =
      ap (λ (k : ℕ). arrive (here + w.size) k inner (place_of seat g.start)) (sym (add-one s.headers)) in
      record {
        size = w.size;
        some = w.some;
        eight = w.eight;
        depth = omega arith;
        counted = omega arith;
        ahead = λ _. omega arith;
        all = λ n. absurd (n refl);
        near = omega arith;
        kept = length-set ends s.level e;
        run = λ _ _. record { stop = rw more stops; marked = rw more; limit = rw more (bounded g l) };
        state = w.state ∙ rw (q, to, by, more) (ap (λ (x : Standing). record { total = seat.total; taken = here + w.size; standing = x }) counted);
      }

  -- an item that leaves nothing open
  passes : (g : Header) (w : Seen seat.total s.headers os here block s.i (Item g)) → Lies s.i s.stop (16 - s.level) g
      → decide (here + w.size) s.headers os here (back s.i here (Item g)) ≡ arrive (here + w.size) (s.headers + 1) os (place_of seat g.bound)
      → Skims seat s ends block
      (record { level = s.level; i = g.bound; stop = s.stop; marked = s.marked; headers = s.headers + 1; number = 0; place = 0 }) ends
  passes g w l e =
      let a = w.ahead in
      let stop = p.run.stop in
      let limit = p.run.limit in
      let y = l.order in
      let z = l.within in
      record {
        size = w.size;
        some = w.some;
        eight = w.eight;
        depth = p.depth;
        counted = omega arith;
        ahead = λ _. omega arith;
        all = λ n. absurd (n refl);
        near = omega arith;
        kept = refl;
        run = λ _ _. record { stop = stop; marked = p.run.marked; limit = limit };
        state = w.state ∙ ap (λ (x : Standing). record { total = seat.total; taken = here + w.size; standing = x }) e;
      }

  pub skims-past : (g : Header) → Seen seat.total s.headers os here block s.i (Item g) → Lies s.i s.stop (16 - s.level) g
      → constructed g.code ≡ false
      → Skims seat s ends block
      (record { level = s.level; i = g.bound; stop = s.stop; marked = s.marked; headers = s.headers + 1; number = 0; place = 0 }) ends
  skims-past g w l q =
      let from = p.from in
      let x = l.header in
      let y = l.order in
      let by : here + (g.bound - s.i) ≡ place_of seat g.bound = omega arith in
      passes g w l (rw (q, by, add-one s.headers))

  -- constructed, and nothing stands in it: it ends where its header does
  pub skims-empty : (g : Header) → Seen seat.total s.headers os here block s.i (Item g) → Lies s.i s.stop (16 - s.level) g
      → constructed g.code ≡ true → g.start ≡ g.bound → g.marked ≡ false
      → Skims seat s ends block
      (record { level = s.level; i = g.bound; stop = s.stop; marked = s.marked; headers = s.headers + 1; number = 0; place = 0 }) ends
  skims-empty g w l q n m =
      let from = p.from in
      let a = w.ahead in
      let x = l.header in
      let past = here + w.size in
      let to : here + (g.start - s.i) ≡ past = omega arith in
      let by : here + (g.bound - s.i) ≡ past = omega arith in
      let end : place_of seat g.bound ≡ past = omega arith in
      passes g w l (rw (q, to, by, end, m, eq-eqb past past refl, le-leb past past (omega arith), add-one s.headers))

  pub skims-mark : Seen seat.total s.headers os here block s.i ClosingMark
      → Skims seat s ends block
      (record { level = s.level - 1; i = s.i + 2; stop = s.i + 2; marked = s.marked; headers = s.headers; number = 0; place = 0 }) ends
  skims-mark w =
      let a = w.ahead in
      let from = p.from in
      let eight = p.eight in
      let depth = p.depth in
      let short = p.seated.short in
      let to : here + 2 ≡ place_of seat (s.i + 2) = omega arith in
      record {
        size = w.size;
        some = w.some;
        eight = w.eight;
        depth = omega arith;
        counted = omega arith;
        ahead = λ _. omega arith;
        all = λ n. absurd (n refl);
        near = omega arith;
        kept = refl;
        run = λ _ h. absurd (omega arith);
        state = w.state ∙ rw (one_less s.level ends, to);
      }

  pub skims-refused : (number place : ℕ) → Seen seat.total s.headers os here block s.i (Refusal number place)
      → Skims seat s ends block
      (record { level = s.level; i = seat.size; stop = 0; marked = s.marked; headers = s.headers; number = number; place = here }) ends
  skims-refused number place w =
      let a = w.ahead in
      let ne : number ≡ 0 → ⊥ = λ z. omega (arith, a.0) in
      let short = p.seated.short in
      let there : here + (place - s.i) ≡ here = omega (arith, a.2) in
      record {
        size = w.size;
        some = w.some;
        eight = w.eight;
        depth = p.depth;
        counted = omega arith;
        ahead = λ z. absurd (ne z);
        all = λ _. refl;
        near = omega arith;
        kept = refl;
        run = λ z _. absurd (ne z);
        state = w.state ∙ rw (ne_eqb number 0 ne, there);
      }

-- octets of a value, or none
reach : (total t k : ℕ) (os : List Open) (at : ℕ) (ys : List ℕ) → t + length ys ≤ at
    → feed (record { total = total; taken = t; standing = arrive t k os at }) ys
    ≡ record { total = total; taken = t + length ys; standing = arrive (t + length ys) k os at }
reach total t k os at [] h = let z : t + 0 ≡ t = omega arith in rw z
reach total t k os at (y ∷ ys) h =
    let ne : at ≡ t → ⊥ = λ e. omega arith in
    rw (ne_eqb at t ne) (values total t k os at [] (y ∷ ys) (omega arith) h)

-- the engine stands before a header of which nothing has come
pub ready : (b : Blocks) → b.number ≡ 0 → b.have ≡ 0 → b.at ≡ b.taken → state_of b ≡ at_header b.total b.headers (opens_of b.level b.ends) b.at
ready b z h t = rw (eq-eqb b.number 0 z, h, ← t)

-- nothing was taken
pub none-turn : (b : Blocks) (block : List ℕ) (start : ℕ) → FineIfReading b → start ≤ length block → b.taken + (length block - start) ≤ b.total
    → Turns b block start b start
none-turn b block start s l f = record { further = omega arith; within = l; fits = f; total = refl; fine = s; state = refl }

-- what is told of the skimming after one header more
pub record Turned (seat : Seat) (s : Skim) (ends block : List ℕ) (r : Skim) (after : List ℕ) : Type 0 where
  pub further : s.i < r.i
  pub near : r.i ≤ seat.from + 2147483647
  pub depth : r.level ≤ 16
  pub counted : r.number ≡ 0 → r.headers ≤ place_of seat (min r.i seat.size)
  pub reads : r.i + 8 ≤ seat.size → Reads seat after r block
  pub state : feed (at_header seat.total s.headers (opens_of s.level ends) (place_of seat s.i)) (drop s.i block)
      ≡ feed (state_of (left_by seat [] after r)) (drop (min r.i seat.size) block)

module _ (seat : Seat) (s : Skim) (ends block : List ℕ) (p : Reads seat ends s block) (k : Skim) (after : List ℕ) (w : Skims seat s ends block k after) where
  abbrev at : ℕ
  at = place_of seat s.i

  abbrev came : Standing
  came = cond (eqb k.number 0) (arrive (at + w.size) k.headers (opens_of k.level after) (place_of seat k.i))
      (found k.number k.place k.headers)

  abbrev rest : List ℕ
  rest = drop (s.i + w.size) block

  rest-size : length rest ≡ length block - (s.i + w.size)
  rest-size = length-drop (s.i + w.size) block

  abbrev From : State
  From = feed (at_header seat.total s.headers (opens_of s.level ends) at) (drop s.i block)

  on : From ≡ feed (record { total = seat.total; taken = at + w.size; standing = came }) rest
  on =
      let a = at_header seat.total s.headers (opens_of s.level ends) at in
      ap (feed a) (sym (take-append-drop w.size (drop s.i block)))
      ∙ feed-append a (take w.size (drop s.i block)) (drop w.size (drop s.i block)) ∙ rw (w.state, drop-drop w.size s.i block)

  found_left : (k.number ≡ 0 → ⊥) → Turned seat s ends block k after
  found_left ne =
      let size = p.size in
      let from = p.from in
      let eight = p.eight in
      let few = w.eight in
      let n = rest-size in
      let i : k.i ≡ seat.size = w.all ne in
      let m : min k.i seat.size ≡ length block = omega arith in
      let e : came ≡ found k.number k.place k.headers = rw (ne_eqb k.number 0 ne) in
      let t : at + w.size + length rest ≡ place_of seat (length block) = omega arith in
      record {
        further = omega arith;
        near = w.near;
        depth = w.depth;
        counted = λ z. absurd (ne z);
        reads = λ h. absurd (omega arith);
        state =
            on ∙ ap (λ (x : Standing). feed (record { total = seat.total; taken = at + w.size; standing = x }) rest) e
            ∙ finding-stays seat.total (at + w.size) k.number k.place k.headers rest ∙ rw (m, drop-length block, ne_eqb k.number 0 ne, t);
      }

  leave-left : k.number ≡ 0 → seat.size < k.i → Turned seat s ends block k after
  leave-left z far =
      let size = p.size in
      let from = p.from in
      let eight = p.eight in
      let few = w.eight in
      let one = p.counted in
      let two = w.counted in
      let n = rest-size in
      let m : min k.i seat.size ≡ length block = omega arith in
      let e : came ≡ arrive (at + w.size) k.headers (opens_of k.level after) (place_of seat k.i) = rw (eq-eqb k.number 0 z) in
      let t : at + w.size + length rest ≡ place_of seat (length block) = omega arith in
      let ne : place_of seat k.i ≡ place_of seat (length block) → ⊥ = λ q. omega arith in
      let more : k.headers ≤ at + 1 = omega arith in
      let most : at + 1 ≤ place_of seat (length block) = omega arith in
      record {
        further = omega arith;
        near = w.near;
        depth = w.depth;
        counted = λ _. rw m (through k.headers (at + 1) (place_of seat (length block)) more most);
        reads = λ h. absurd (omega arith);
        state =
            on ∙ ap (λ (x : Standing). feed (record { total = seat.total; taken = at + w.size; standing = x }) rest) e
            ∙ reach seat.total (at + w.size) k.headers (opens_of k.level after) (place_of seat k.i) rest (omega arith)
            ∙ rw (m, drop-length block, eq-eqb k.number 0 z, t, ne_eqb (place_of seat k.i) (place_of seat (length block)) ne);
      }

  -- the next header lies in the block
  module _ (z : k.number ≡ 0) (near : k.i ≤ seat.size) where
    abbrev there : ℕ
    there = place_of seat k.i

    arrived : From ≡ feed (record { total = seat.total; taken = there; standing = settle k.headers (opens_of k.level after) there }) (drop k.i block)
    arrived =
        let a = w.ahead z in
        let size = p.size in
        let from = p.from in
        let n = rest-size in
        let d = k.i - s.i - w.size in
        let ys = take d rest in
        let l : length ys ≡ d = length-take-le d rest (omega arith) in
        let e : came ≡ arrive (at + w.size) k.headers (opens_of k.level after) there = rw (eq-eqb k.number 0 z) in
        let t : at + w.size + length ys ≡ there = omega arith in
        let j : s.i + w.size + d ≡ k.i = omega arith in
        let x : State = record { total = seat.total; taken = at + w.size; standing = arrive (at + w.size) k.headers (opens_of k.level after) there } in
        let v : feed x ys ≡ record { total = seat.total; taken = there; standing = settle k.headers (opens_of k.level after) there } =
        reach seat.total (at + w.size) k.headers (opens_of k.level after) there ys (omega arith) ∙ rw (t, eq-eqb there there refl) in
        on ∙ ap (λ (y : Standing). feed (record { total = seat.total; taken = at + w.size; standing = y }) rest) e
        ∙ ap (feed x) (sym (take-append-drop d rest)) ∙ feed-append x ys (drop d rest) ∙ rw (v, drop-drop d (s.i + w.size) block, j)

    settled-left : (r : Skim) → Settles seat after k r → r.number ≡ 0 → Turned seat s ends block r after
    settled-left r q c =
        let a = w.ahead z in
        let some = w.some in
        let size = p.size in
        let from = p.from in
        let one = p.counted in
        let two = w.counted in
        let same : r.i ≡ k.i = q.same c in
        let headers = q.headers in
        let m : min r.i seat.size ≡ k.i = omega arith in
        let close = w.near in
        let e : settle k.headers (opens_of k.level after) there ≡ reading k.headers (opens_of r.level after) there [] =
        q.state z near ∙ rw (eq-eqb r.number 0 c) in
        record {
          further = omega arith;
          near = omega arith;
          depth = q.depth;
          counted = λ _. omega arith;
          reads =
              λ h.
              record {
                seated = p.seated;
                size = size;
                from = omega arith;
                eight = h;
                number = c;
                depth = q.depth;
                counted = omega arith;
                sixteen = w.kept ∙ p.sixteen;
                before = (q.run c h).0;
                run = (q.run c h).1;
              };
          state = arrived ∙ rw (m, e, eq-eqb r.number 0 c, same, headers);
        }

    unclosed-left : (r : Skim) → Settles seat after k r → (r.number ≡ 0 → ⊥) → Turned seat s ends block r after
    unclosed-left r q c =
        let size = p.size in
        let from = p.from in
        let a = w.ahead z in
        let eight = p.eight in
        let all : r.i ≡ seat.size = q.all z c in
        let short = p.seated.short in
        let n = length-drop k.i block in
        let m : min r.i seat.size ≡ length block = omega arith in
        let t : there + length (drop k.i block) ≡ place_of seat (length block) = omega arith in
        let e : settle k.headers (opens_of k.level after) there ≡ found r.number r.place k.headers = q.state z near
        ∙ rw (ne_eqb r.number 0 c) in
        record {
          further = omega arith;
          near = omega arith;
          depth = q.depth;
          counted = λ y. absurd (c y);
          reads = λ h. absurd (omega arith);
          state =
              arrived ∙ ap (λ (x : Standing). feed (record { total = seat.total; taken = there; standing = x }) (drop k.i block)) e
              ∙ finding-stays seat.total there r.number r.place k.headers (drop k.i block)
              ∙ rw (m, drop-length block, ne_eqb r.number 0 c, t, q.headers);
        }

  by_cases : (r : Skim) → Settles seat after k r → (a b c : Bool) → eqb k.number 0 ≡ a → leb k.i seat.size ≡ b → eqb r.number 0 ≡ c
      → Turned seat s ends block r after
  by_cases r q false b c x y z =
      let ne = eqb-false k.number 0 x in subst (λ (v : Skim). Turned seat s ends block v after) (sym (q.stays ne)) (found_left ne)
  by_cases r q true false c x y z =
      let far = leb-false k.i seat.size y in
      subst (λ (v : Skim). Turned seat s ends block v after) (sym (q.past far)) (leave-left (eqb-true k.number 0 x) far)
  by_cases r q true true true x y z =
      settled-left (eqb-true k.number 0 x) (leb-true k.i seat.size y) r q (eqb-true r.number 0 z)
  by_cases r q true true false x y z =
      unclosed-left (eqb-true k.number 0 x) (leb-true k.i seat.size y) r q (eqb-false r.number 0 z)

  -- what closing is told
  pub comes : Before seat after k
  comes =
      record {
        seated = p.seated;
        from = past-from (eqb k.number 0) refl;
        near = w.near;
        depth = w.depth;
        run = w.run;
      }
    where
      past-from : (b : Bool) → eqb k.number 0 ≡ b → seat.from ≤ k.i
      past-from true e = let a = w.ahead (eqb-true k.number 0 e) in let f = p.from in omega arith
      past-from false e = let a = w.all (eqb-false k.number 0 e) in let o = p.seated.order in omega arith

  -- a turn of the loop: the header is read, and what ends after it is closed
  pub turned : (r : Skim) → Settles seat after k r → Turned seat s ends block r after
  turned r q = by_cases r q (eqb k.number 0) (leb k.i seat.size) (eqb r.number 0) refl refl refl

-- the open items of a state that is reading
opens_in : Standing → List Open
opens_in (reading headers opens at begun) = opens
opens_in (found number place headers) = []

opens-same : {k at : ℕ} {os ps : List Open} → reading k os at [] ≡ reading k ps at [] → os ≡ ps
unfolding opens_in
opens-same e = ap opens_in e

is_reading : Standing → Bool
is_reading (reading headers opens at begun) = true
is_reading (found number place headers) = false

no-finding : {n p k h at : ℕ} {ps : List Open} → found n p k ≡ reading h ps at [] → ⊥
unfolding is_reading
no-finding e = false≢true (ap is_reading e)

-- Where the loop stands: what is left to take of the block is the same, and the header there is read if it lies in the block.
pub record Skimming (b : Blocks) (block : List ℕ) (start : ℕ) (seat : Seat) (ends : List ℕ) (s : Skim) : Type 0 where
  pub from : seat.from ≤ s.i
  pub near : s.i ≤ seat.from + 2147483647
  pub depth : s.level ≤ 16
  pub counted : s.number ≡ 0 → s.headers ≤ place_of seat (min s.i seat.size)
  pub reads : s.i + 8 ≤ seat.size → Reads seat ends s block
  pub state : feed (state_of b) (drop start block) ≡ feed (state_of (left_by seat [] ends s)) (drop (min s.i seat.size) block)

-- and after one header more
pub goes : (b : Blocks) (block : List ℕ) (start : ℕ) (seat : Seat) (ends : List ℕ) (s : Skim) → Skimming b block start seat ends s → Reads seat ends s block
    → (after : List ℕ) (r : Skim) → Turned seat s ends block r after → Skimming b block start seat after r
goes b block start seat ends s v p after r t =
    let from = v.from in
    let more = t.further in
    let eight = p.eight in
    let m : min s.i seat.size ≡ s.i = omega arith in
    let here : feed (state_of (left_by seat [] ends s)) (drop (min s.i seat.size) block)
    ≡ feed (at_header seat.total s.headers (opens_of s.level ends) (place_of seat s.i)) (drop s.i block) =
    rw (m, eq-eqb s.number 0 p.number) in
    record { from = omega arith; near = t.near; depth = t.depth; counted = t.counted; reads = t.reads; state = v.state ∙ here ∙ t.state }

-- the block from place `start` on, where the engine stands before a header
abbrev pub seat_of : Blocks → (block : List ℕ) → (start : ℕ) → Seat
seat_of b block start = record { total = b.total; base = b.at; from = start; size = length block }

module _ (b : Blocks) (block : List ℕ) (start : ℕ) (fine : FineIfReading b) (z : b.number ≡ 0) (h : b.have ≡ 0) (t : b.at ≡ b.taken)
    (l : start ≤ length block)
    (fits : b.taken + (length block - start) ≤ b.total) (short : length block ≤ b.total) where
  pub begins : (s : Skim) → length b.ends ≡ 16 → GoesOn (seat_of b block start) b.ends b.level start b.headers s → start < s.stop
      → Skimming b block start (seat_of b block start) b.ends s
  begins s sixteen g before =
      let now = fine z in
      let level = g.inside in
      let i = g.at in
      let headers = g.passed in
      let small = now.small in
      let deep = now.depth in
      let more = now.counted in
      let m : min s.i (length block) ≡ start = omega arith in
      let y : start - start ≡ 0 = omega arith in
      let x : b.at + 0 ≡ b.at = omega arith in
      record {
        from = omega arith;
        near = omega arith;
        depth = omega arith;
        counted = λ _. omega arith;
        reads =
            λ eight.
            record {
              seated = record { small = small; short = omega arith; order = l; fits = omega arith };
              size = refl;
              from = omega arith;
              eight = eight;
              number = g.number;
              depth = omega arith;
              counted = omega arith;
              sixteen = sixteen;
              before = omega arith;
              run = g.run;
            };
        state =
            ap (λ (v : State). feed v (drop start block)) (ready b z h t)
            ∙ rw (m, eq-eqb s.number 0 g.number, i, level, headers, y, x);
      }

  -- where the loop ends
  pub ends-turn : (ends begun : List ℕ) (s : Skim) → Skimming b block start (seat_of b block start) ends s → (r : Blocks) (j : ℕ)
      → r ≡ left_by (seat_of b block start) begun ends s → j ≡ min s.i (length block) → Turns b block start r j
  ends-turn ends begun s v r j e q =
      let from = v.from in
      let small = (fine z).small in
      let m : min s.i (length block) ≤ length block = omega arith in
      let f : start ≤ min s.i (length block) = omega arith in
      let rest : b.at + (min s.i (length block) - start) + (length block - min s.i (length block)) ≤ b.total = omega arith in
      rw (e, q)
      (record {
        further = f;
        within = m;
        fine = λ n. record { depth = v.depth; kept = omega arith; counted = v.counted n; small = small };
        fits = rest;
        total = refl;
        state = v.state;
      })

-- where closing comes to its end, the limit is not reached
pub settle-stops : (total k at : ℕ) (os ps : List Open) → at < total → settle k os at ≡ reading k ps at [] → at < limit_of total ps
settle-stops total k at [] ps l e = subst (λ (x : List Open). at < limit_of total x) (opens-same e) l
settle-stops total k at (o ∷ outer) ps l e = go (leb o.bound at) o.marked refl refl e (settle-stops total k at outer ps l)
  where
    go : (b m : Bool) → leb o.bound at ≡ b → o.marked ≡ m
        → cond b (cond m (found 7 o.bound k) (settle k outer at)) (reading k (o ∷ outer) at []) ≡ reading k ps at []
        → (settle k outer at ≡ reading k ps at [] → at < limit_of total ps) → at < limit_of total ps
    go false m b _ f inner = subst (λ (x : List Open). at < limit_of total x) (opens-same f) (leb-false o.bound at b)
    go true false _ _ f inner = inner f
    go true true _ _ f inner = absurd (no-finding f)

-- What closing leaves, case by case.
module _ (seat : Seat) (ends : List ℕ) (s : Skim) (b : Before seat ends s) where
  abbrev next : ℕ
  next = place_of seat s.i

  module _ (z : s.number ≡ 0) (near : s.i ≤ seat.size) where
    pub settles-unclosed : (place : ℕ) → settle s.headers (opens_of s.level ends) next ≡ found 7 place s.headers
        → Settles seat ends s
        (record { level = s.level; i = seat.size; stop = 0; marked = s.marked; headers = s.headers; number = 7; place = place })
    settles-unclosed place e =
        record {
          depth = b.depth;
          headers = refl;
          stays = λ n. absurd (n z);
          past = λ far. absurd (omega arith);
          same = λ q. absurd (omega arith);
          all = λ _ _. refl;
          run = λ q _. absurd (omega arith);
          state = λ _ _. e;
        }

    pub settles_on : (level : ℕ) (r : Skim) → level ≤ 16 → GoesOn seat ends level s.i s.headers r
        → settle s.headers (opens_of s.level ends) next ≡ reading s.headers (opens_of level ends) next [] → Settles seat ends s r
    settles_on level r deep g e =
        record {
          depth = rw g.inside deep;
          headers = g.passed;
          stays = λ n. absurd (n z);
          past = λ far. absurd (omega arith);
          same = λ _. g.at;
          all = λ _ n. absurd (n g.number);
          run =
              λ _ h.
              let from = b.from in
              let fits = b.seated.fits in
              let i = g.at in
              let stop = g.run.stop in
              let some : next < seat.total = omega arith in
              let limit : next < limit_of seat.total (opens_of r.level ends) =
              rw g.inside (settle-stops seat.total s.headers next (opens_of s.level ends) (opens_of level ends) some e) in
              (omega (arith, limit, stop, i), g.run);
          state = λ _ _. rw (eq-eqb r.number 0 g.number, g.inside) e;
        }
