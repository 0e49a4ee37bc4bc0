-- A front of what begins a run begins that run too, so once a front fails every longer one fails; and the place of 26 is determined.
use mathlib.Core.Path.{refl, sym, subst}
use mathlib.Core.Logic.{inr}
use mathlib.Core.List.Memᴰ
use mathlib.Core.List.{List, [], ◌∷◌, ◌++◌, append_assoc, append-nil}
use Rattle.contents.specs.Search.{absent}
use Rattle.portions.specs.Portions.{repeats}
use Rattle.elements.specs.Judge.{Element, no_type, single}
use Rattle.order.specs.Represents.{FitAside, LimitsAside}
use Rattle.order.specs.declared.Class.{Class}
use Rattle.order.specs.Begins.{InOrder, Begins}

pub begins-front : (class : Class) (xs ys : List Element) → Begins class (xs ++ ys) → Begins class xs
begins-front class xs ys b =
    record {
      more = ys ++ b.more;
      aside = subst LimitsAside (append_assoc xs ys b.more) b.aside;
      in_order = subst (InOrder class) (append_assoc xs ys b.more) b.in_order;
    }

-- once a front fails, every longer one fails
pub fails_on : (class : Class) (xs ys : List Element) → (Begins class xs → ⊥) → Begins class (xs ++ ys) → ⊥
fails_on class xs ys n b = n (begins-front class xs ys b)

-- a whole in order begins itself
pub whole-begins : (class : Class) (xs : List Element) → LimitsAside xs → InOrder class xs → Begins class xs
whole-begins class xs a o =
    record { more = []; aside = subst LimitsAside (sym (append-nil xs)) a; in_order = subst (InOrder class) (sym (append-nil xs)) o }

-- a document profile
abbrev pub a_profile : Element
a_profile = record { kind = 0; object = no_type; identifier = absent; logical = absent; portions = []; content = single absent }

profile-fit : FitAside a_profile
unfolding repeats
profile-fit = record { identifier = refl; logical = refl; portions = refl; once = refl; lists = inr refl }

pub profile-aside : LimitsAside (a_profile ∷ [])
profile-aside =
    record {
      fit = λ e m. subst FitAside (sym (Memᴰ.eq_of_singleton m)) profile-fit;
      apart = (λ e m. absurd (Memᴰ.not-nil m), tt);
    }
