-- What holds of the case that a test picks.
use mathlib.Core.Bool.{Bool, true, false, cond}
use mathlib.Core.Path.{◌≡◌, refl}

-- what holds of both cases holds of the one that a test picks
pub cond-holds : {A : Type 0} (P : A → Type 0) (b : Bool) {x y : A} → (b ≡ true → P x) → (b ≡ false → P y) → P (cond b x y)
cond-holds P true f g = f refl
cond-holds P false f g = g refl
