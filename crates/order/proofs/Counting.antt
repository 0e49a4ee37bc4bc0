-- Units of one element represent as many of its portions as they are: no two the same, since they would have the same name, and none two.
-- So all are represented exactly when there are as many units as portions.
use mathlib.Core.Path.{◌≡◌, refl, ap, sym, ◌∙◌, subst}
use mathlib.Core.Logic.{◌⊎◌, inl, inr}
use mathlib.Core.Bool.{true, false, true≢false, or-true}
use mathlib.Core.List.Memᴰ
use mathlib.Core.List.{List, [], ◌∷◌, ◌++◌, map}
use Prim.Native.Nat.{ℕ, suc, ◌≤◌}
use native.Mathlib.Omega.{arith}
use lib.Dec.{leb}
use lib.ListN.{length}
use borrow.Author.Tests.{eq-eqb, le-leb, lt-leb}
use borrow.Table.Steps.{cases}
use Rattle.names.specs.Names.{space_byte, same, is_portion}
use Rattle.names.proofs.Same.{same_refl}
use Rattle.rows.specs.Rows.{name_space_of}
use Rattle.contents.specs.Search.{octets}
use Rattle.portions.specs.Portions.{all, any, among, repeats}
use Rattle.elements.specs.Judge.{Element, shares, clash}
use Rattle.reading.specs.declared.Side.{Side}
use Rattle.reading.specs.declared.Side.TheVariants.{Layout, Logical}
use Rattle.reading.specs.Match.{name_on}
use Rattle.reading.specs.Lists.{Once}
use Rattle.reading.proofs.Lists.{once-fits}
use Rattle.order.specs.Represents.{◌∈◌, side_of, represents, is_associated, is_represented, all_represented, FitAside, NoClash}
use Rattle.order.proofs.Tests.{all_in, any_of}
use Rattle.order.proofs.Representing.{represents-told, represents-one, associated-told, represented-told, represented-of, represented-more}

-- two units with one name on a side clash
clash-named : (side : Side) (u v : Element) (bytes : List ℕ) → u.kind ≡ v.kind → name_on side u ≡ octets bytes → name_on side v ≡ octets bytes
    → clash u v ≡ true
unfolding clash
clash-named Layout u v bytes k p q = rw (eq-eqb _ _ (ap name_space_of k), p, q, same_refl bytes)
clash-named Logical u v bytes k p q = rw (eq-eqb _ _ (ap name_space_of k), p, q, same_refl bytes) (or-true (shares u.identifier v.identifier))

pub represent-clash : (e : Element) (p : List ℕ) (u v : Element) → represents e p u ≡ true → represents e p v ≡ true → clash u v ≡ true
represent-clash e p u v s t =
    let i = represents-told e p u s in
    let j = represents-told e p v t in
    let same_id : octets j.identifier ≡ octets i.identifier = sym j.named ∙ i.named in
    let id : j.identifier ≡ i.identifier = cc in
    clash-named (side_of e) u v (i.identifier ++ space_byte ∷ p) (i.of_unit ∙ sym j.of_unit) i.spelt
    (j.spelt ∙ ap (λ (b : List ℕ). octets (b ++ space_byte ∷ p)) id)

-- a list that does not repeat has nothing twice
once-list : (ps : List (List ℕ)) → repeats ps ≡ false → Once ps
unfolding repeats among
once-list [] r = tt
once-list (p ∷ ps) r =
    cases (any (map (same p) ps)) (λ t. absurd (true≢false (rw t at r)))
    (λ t. (λ m. true≢false (sym (any_of (same p) ps p m (same_refl p)) ∙ t), once-list ps (rw t at r)))

-- the portions that units of an element represent
record Representing (e : Element) (us : List Element) : Type 0 where
  told : List (List ℕ)
  as_many : length told ≡ length us
  once : Once told
  listed : (p : List ℕ) → p ∈ told → p ∈ e.portions
  represented : (p : List ℕ) → p ∈ told → is_represented us e p ≡ true
  all_told : (p : List ℕ) → p ∈ e.portions → is_represented us e p ≡ true → p ∈ told

module _ (e : Element) (fit : FitAside e) where
  portion-at : (p : List ℕ) → p ∈ e.portions → is_portion p ≡ true
  portion-at p m = all_in is_portion e.portions fit.portions p m

  representing : (us : List Element) → NoClash us → ((u : Element) → u ∈ us → is_associated e u ≡ true) → Representing e us
  representing [] a o =
      record {
        told = [];
        as_many = refl;
        once = tt;
        listed = λ p m. absurd (Memᴰ.not-nil m);
        represented = λ p m. absurd (Memᴰ.not-nil m);
        all_told = λ p m t. absurd (Memᴰ.not-nil (represented-told [] e p t).1);
      }
  representing (u ∷ us) a o = with_rest (associated-told e u (o u (Memᴰ.head refl))) (representing us a.1 (λ v m. o v (Memᴰ.tail m)))
    where
      with_rest : ((p : List ℕ) × (p ∈ e.portions) × (represents e p u ≡ true)) → Representing e us → Representing e (u ∷ us)
      with_rest (q, n, w) r =
          record {
            told = q ∷ r.told;
            as_many = ap suc r.as_many;
            once = (λ m. apart (represented-told us e q (r.represented q m)), r.once);
            listed = λ p m. first-listed p (Memᴰ.cases_cons m);
            represented = λ p m. first-represented p (Memᴰ.cases_cons m);
            all_told = λ p m t. let (v, i, b) = represented-told (u ∷ us) e p t in first-told p m v b (Memᴰ.cases_cons i);
          }
        where
          apart : ((v : Element) × (v ∈ us) × (represents e q v ≡ true)) → ⊥
          apart (v, i, b) = true≢false (sym (represent-clash e q u v w b) ∙ a.0 v i)

          first-listed : (p : List ℕ) → (p ≡ q) ⊎ (p ∈ r.told) → p ∈ e.portions
          first-listed p (inl i) = subst (λ (x : List ℕ). x ∈ e.portions) (sym i) n
          first-listed p (inr i) = r.listed p i

          first-represented : (p : List ℕ) → (p ≡ q) ⊎ (p ∈ r.told) → is_represented (u ∷ us) e p ≡ true
          first-represented p (inl i) = represented-of (u ∷ us) e p u (Memᴰ.head refl) (ap (λ (x : List ℕ). represents e x u) i ∙ w)
          first-represented p (inr i) = represented-more us (u ∷ us) e p (λ v j. Memᴰ.tail j) (r.represented p i)

          first-told : (p : List ℕ) → p ∈ e.portions → (v : Element) → represents e p v ≡ true → (v ≡ u) ⊎ (v ∈ us) → p ∈ q ∷ r.told
          first-told p m v b (inl i) =
              Memᴰ.head (represents-one e e p q u refl (portion-at p m) (portion-at q n) (ap (represents e p) (sym i) ∙ b) w).1
          first-told p m v b (inr i) = Memᴰ.tail (r.all_told p m (represented-of us e p v i b))

  module _ (us : List Element) (a : NoClash us) (o : (u : Element) → u ∈ us → is_associated e u ≡ true) where
    -- no more units than portions
    pub units-fit : length us ≤ length e.portions
    units-fit = let r = representing us a o in omega (arith, once-fits r.told e.portions r.once r.listed, r.as_many)

    unrepresented : (ps : List (List ℕ)) → all (map (is_represented us e) ps) ≡ false → (p : List ℕ) × (p ∈ ps) × (is_represented us e p ≡ false)
    unrepresented [] t = absurd (true≢false t)
    unrepresented (p ∷ ps) t =
        cases (is_represented us e p)
        (λ u. let (q, n, v) = unrepresented ps (rw u at t) in (q, Memᴰ.tail n, v))
        (λ u. (p, Memᴰ.head refl, u))

    -- all represented, by counting
    pub represented-count : all_represented us e ≡ leb (length e.portions) (length us)
    unfolding all_represented
    represented-count =
        let r = representing us a o in
        cases (all (map (is_represented us e) e.portions))
        (λ t. let every : (p : List ℕ) → p ∈ e.portions → p ∈ r.told = λ p m. r.all_told p m (all_in (is_represented us e) e.portions t p m) in
        t ∙ sym (le-leb (length e.portions) (length us) (omega (
          arith,
          once-fits e.portions r.told (once-list e.portions fit.once) every,
          r.as_many,
        ))))
        (λ t. let (p, m, u) = unrepresented e.portions t in
        let fewer = once-fits (p ∷ r.told) e.portions (
          λ i. true≢false (sym (r.represented p i)
              ∙ u),
          r.once,
        ) (λ q i. either_listed r p m q (Memᴰ.cases_cons i)) in
        t ∙ sym (lt-leb (length e.portions) (length us) (omega (arith, r.as_many))))
      where
        either_listed : (r : Representing e us) (p : List ℕ) → p ∈ e.portions → (q : List ℕ) → (q ≡ p) ⊎ (q ∈ r.told) → q ∈ e.portions
        either_listed r p m q (inl i) = subst (λ (x : List ℕ). x ∈ e.portions) (sym i) m
        either_listed r p m q (inr i) = r.listed q i
