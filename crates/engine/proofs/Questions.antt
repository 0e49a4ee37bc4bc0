-- What the three questions answer, case by case.
use mathlib.Core.Path.{◌≡◌, refl, sym, ◌∙◌, subst}
use mathlib.Core.Logic.{◌⊎◌, inl, inr}
use mathlib.Core.Bool.{Bool, true, false, cond, false≢true}
use mathlib.Core.List.{List}
use Prim.Native.Nat.{ℕ, ◌+◌, ◌<◌, ◌≤◌}
use native.Mathlib.Omega.{arith}
use lib.Dec.{leb, eqb}
use lib.ListN.{length, replicate}
use borrow.Author.Tests.{leb-true, le-leb, eqb-true, eq-eqb, ne_eqb}
use Rattle.blocks.specs.Engine.{State, feed, fresh}
use Rattle.blocks.specs.Blocks.{start, close}
use Rattle.laws.proofs.Tests.{cond-holds}
use Rattle.blocks.proofs.Cutting.{take-fits, take_past}
use Rattle.engine.specs.declared.Blocks.{Blocks}
use Rattle.engine.specs.Stored.{state_of, readable, sound, Starts, Takes, closed_of}
use Rattle.engine.specs.Skimming.{FineIfReading}
use Rattle.engine.proofs.Findings.{OneToEight, one-to-eight}

both : (t x : Bool) → cond t x false ≡ true → (t ≡ true) × (x ≡ true)
both true x e = (refl, e)
both false x e = absurd (false≢true e)

pub sound-is : (b : Blocks) → sound b ≡ true → FineIfReading b
sound-is b h z =
    let h' : readable b ≡ true = rw (eq-eqb b.number 0 z, le-leb b.number 8 (omega arith)) at h in
    let p = both (leb b.level 16) (cond (leb b.have 7) (cond (leb b.headers b.taken) (leb b.total 1048576) false) false) h' in
    let q = both (leb b.have 7) (cond (leb b.headers b.taken) (leb b.total 1048576) false) p.1 in
    let r = both (leb b.headers b.taken) (leb b.total 1048576) q.1 in
    record {
      depth = leb-true b.level 16 p.0;
      kept = leb-true b.have 7 q.0;
      counted = leb-true b.headers b.taken r.0;
      small = leb-true b.total 1048576 r.1;
    }

-- the finding of a state that can be gone on with
pub sound-found : (b : Blocks) → sound b ≡ true → OneToEight (state_of b).standing
sound-found b h =
    let (l, _) = both (leb b.number 8) (cond (eqb b.number 0) (readable b) true) h in
    cond-holds OneToEight (eqb b.number 0) (λ _. tt) (λ _. leb-true b.number 8 l)

pub sound-of : (b : Blocks) → FineIfReading b → OneToEight (state_of b).standing → sound b ≡ true
sound-of b s k = go (eqb b.number 0) refl
  where
    go : (t : Bool) → eqb b.number 0 ≡ t → sound b ≡ true
    go true e =
        let z = eqb-true b.number 0 e in
        let f = s z in
        rw (
          le-leb b.number 8 (omega arith),
          e,
          le-leb b.level 16 f.depth,
          le-leb b.have 7 f.kept,
          le-leb b.headers b.taken f.counted,
          le-leb b.total 1048576 f.small,
        )
    go false e =
        let l : b.number ≤ 8 = rw e at k in
        rw (le-leb b.number 8 l, e)

-- nothing has come, and the finding is the number of the start
pub starts : (total number : ℕ) → number ≡ (start total).number → Starts total
    (record {
      number = number;
      state = record {
        total = total;
        taken = 0;
        at = 0;
        level = 0;
        headers = 0;
        number = number;
        place = 0;
        have = 0;
        ends = replicate 16 0;
        begun = replicate 8 0;
      };
    })
unfolding start fresh
starts total number e = go (leb total 1048576) refl
  where
    go : (t : Bool) → leb total 1048576 ≡ t → Starts total
        (record {
          number = number;
          state = record {
            total = total;
            taken = 0;
            at = 0;
            level = 0;
            headers = 0;
            number = number;
            place = 0;
            have = 0;
            ends = replicate 16 0;
            begun = replicate 8 0;
          };
        })
    go true t = let z : number ≡ 0 = e ∙ rw t in record { number = e; state = rw (z, t); goes_on = rw (z, t) }
    go false t = let z : number ≡ 1 = e ∙ rw t in record { number = e; state = rw (z, t); goes_on = rw z }

module _ (b : Blocks) (block : List ℕ) where
  pub takes-unsound : sound b ≡ false → Takes b block (record { number = 28; state = b })
  takes-unsound s = record { number = rw s; state = rw s; unchanged = λ _. refl; goes_on = λ h. h }

  pub takes-past : sound b ≡ true → b.total < b.taken + length block → Takes b block (record { number = 28; state = b })
  takes-past s l =
      let e = take_past (state_of b) block l in
      record { number = rw (s, e); state = rw (s, e); unchanged = λ _. refl; goes_on = λ h. h }

  pub takes-fits : (r : Blocks) → FineIfReading r → sound b ≡ true → b.taken + length block ≤ b.total → state_of r ≡ feed
      (state_of b) block → Takes b block (record { number = 0; state = r })
  takes-fits r g s l f =
      let e = take-fits (state_of b) block l in
      record {
        number = rw (s, e);
        state = rw (s, e) f;
        unchanged = λ z. absurd (omega arith);
        goes_on = λ _. sound-of r g (subst (λ (x : State). OneToEight x.standing) (sym f) (one-to-eight (state_of b) block (sound-found b s)));
      }

module _ (b : Blocks) where
  pub closed-early : (sound b ≡ false) ⊎ ((sound b ≡ true) × (b.taken ≡ b.total → ⊥)) → record { number = 29; place = 0; headers = 0 } ≡ closed_of b
  unfolding close
  closed-early (inl u) = rw u
  closed-early (inr (s, n)) = rw (s, ne_eqb b.taken b.total n)

  module _ (s : sound b ≡ true) (e : b.taken ≡ b.total) where
    pub closed-found : (b.number ≡ 0 → ⊥) → record { number = b.number; place = b.place; headers = b.headers } ≡ closed_of b
    unfolding close
    closed-found n = rw (s, eq-eqb b.taken b.total e, ne_eqb b.number 0 n)

    pub closed-read : b.number ≡ 0 → record { number = b.number; place = 0; headers = b.headers } ≡ closed_of b
    unfolding close
    closed-read z = rw (s, eq-eqb b.taken b.total e, eq-eqb b.number 0 z, z)
