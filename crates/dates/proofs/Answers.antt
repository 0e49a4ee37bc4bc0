-- What a pass tells, and the day that a value names, make the answer.
use mathlib.Core.Path.{◌≡◌, refl, ap, sym, ◌∙◌}
use mathlib.Core.Bool.{Bool, true, false, cond}
use mathlib.Core.List.{List}
use Prim.Native.Nat.{ℕ}
use native.Mathlib.Omega.{arith}
use lib.Seq.{slice}
use Rattle.std.specs.Prelude.{Some, None, Ok, Err}
use Rattle.runs.specs.declared.Run.{Run}
use Rattle.runs.specs.Runs.{items_of, tree_in}
use Rattle.calendar.specs.declared.Day.{Day}
use Rattle.dates.specs.declared.Found.{Found}
use Rattle.dates.specs.declared.Found.TheVariants.{Nothing, Sole, Unfit}
use Rattle.calendar.specs.Calendar.{day_at, names_day}
use Rattle.dates.specs.Dates.{no_date_by, date_from, the_date, date_in}
use Rattle.dates.specs.Finding.{places_from, Tells, Answers}
use Rattle.dates.proofs.Trees.{dates-places, date_by, date_told_by, is_one}

-- the day as the code has it
pub a-day : (b : Bool) (d day : Day) → Some d ≡ cond b (Some day) None → (b ≡ true) × (d ≡ day)
a-day true d day e = (refl, cc)
a-day false d day e = absurd cc

pub no-day : (b : Bool) (day : Day) → None ≡ cond b (Some day) None → b ≡ false
no-day true day e = absurd cc
no-day false day e = refl

unserved : (s : List ℕ) (f : Found) → ((first past : ℕ) → f ≡ Sole first past → ⊥) → date_by s f ≡ no_date_by 23
unserved s Nothing n = refl
unserved s (Sole first past) n = absurd (n first past refl)
unserved s Unfit n = refl

module _ (s : List ℕ) (r : Run) {f : Found} (t : Tells s (places_from 2 (items_of s r)) f) where
  -- the date of the tree, by the places
  by-places : date_in (tree_in s r) ≡ date_by s f
  by-places = sym (ap the_date (dates-places s (items_of s r))) ∙ date_told_by t

  pub answer-23 : ((first past : ℕ) → f ≡ Sole first past → ⊥) → Answers s r (Err 23)
  answer-23 n = record { date = by-places ∙ unserved s f n; placed = λ z. omega arith }

module _ (s : List ℕ) (r : Run) (first past : ℕ) (t : Tells s (places_from 2 (items_of s r)) (Sole first past)) where
  pub answer-24 : names_day (slice first past s) ≡ false → Answers s r (Err 24)
  unfolding date_from
  answer-24 e = record { date = by-places s r t ∙ rw e; placed = λ z. omega arith }

  pub answer-day : (d : Day) → (names_day (slice first past s) ≡ true) × (d ≡ day_at (slice first past s))
      → Answers s r (Ok (record { first = first; past = past; day = d }))
  unfolding date_from
  answer-day d p =
      let o = is_one t in
      record {
        date = by-places s r t ∙ rw (p.0, ← p.1);
        placed = record { order = o.order; inside = o.inside; place = o.place };
      }
