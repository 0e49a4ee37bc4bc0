-- Two answers of a walk are equal only if their numbers are.
use mathlib.Core.Path.{◌≡◌, ap}
use Prim.Native.Nat.{ℕ}
use Rattle.octets.specs.declared.Ended.{Ended}
use Rattle.octets.specs.declared.Refused.{Refused}
use Rattle.octets.specs.Told.{ended, refused}

pub same-ended : {a n b m : ℕ} → ended a n ≡ ended b m → (a ≡ b) × (n ≡ m)
same-ended {a} {n} {b} {m} p =
    let e : ◌≡◌ {A = Ended} (record { at = a; count = n }) (record { at = b; count = m }) = cc in
    (ap (λ (w : Ended). w.at) e, ap (λ (w : Ended). w.count) e)

pub same-refused : {a p n b q m : ℕ} → refused a p n ≡ refused b q m → (a ≡ b) × (p ≡ q) × (n ≡ m)
same-refused {a} {p} {n} {b} {q} {m} r =
    let e : ◌≡◌ {A = Refused} (record { number = a; place = p; count = n }) (record { number = b; place = q; count = m }) = cc in
    (ap (λ (w : Refused). w.number) e, ap (λ (w : Refused). w.place) e, ap (λ (w : Refused). w.count) e)
