-- Reading at a position is refused by a number exactly when its condition holds and no earlier one does (`refused-exactly`), and passes
-- exactly where none holds: by cases, as `head_at` has them.
use Rattle.std.specs.Prelude.{Result, Err}
use mathlib.Core.Path.{◌≡◌, refl, ap, sym, ◌∙◌, subst}
use mathlib.Core.Logic.{◌⊎◌, inl, inr, ◌↔◌}
use mathlib.Core.Bool.{Bool, true, false, cond, true≢false, false≢true}
use mathlib.Core.List.{List, [], ◌∷◌}
use Prim.Native.Nat.{ℕ, ◌+◌, ◌-◌, ◌/◌, ◌%◌, ◌<◌, ◌≤◌}
use native.Mathlib.Omega.{arith}
use lib.Dec.{leb, ltb, eqb}
use lib.ListN.{drop, take}
use borrow.Author.Tests.{leb-true, leb-false, ltb-true, ltb-false, eqb-true, eqb-false, ne_eqb}
use borrow.Table.Steps.{cases}
use Rattle.headers.specs.declared.Head.{Head}
use Rattle.headers.specs.declared.Head.TheVariants.{Item, ClosingMark, Refusal}
use Rattle.headers.specs.declared.Field.{Field}
use Rattle.headers.specs.Head.{number_bits, constructed, is_in, form_allowed, above_thirty, code_of, big_endian, misfits, octet_at, definite_at, indefinite_at}
use Rattle.headers.specs.Head.{read_field, long_at, by_first, length_at, after_field, closing_at, item_at, head_at}
use Rattle.headers.specs.Conditions.{ItemThere, LongNumber, FieldTo, one, two, three, HeaderHas, second, third, first_length, last_length, ValueIs}
use Rattle.headers.specs.Conditions.{short, long}
use Rattle.headers.specs.Conditions.{WrongNumber, over, led_by_80, under_31, no_octet, HeadRefused}
use Rattle.headers.specs.Conditions.{HeadRefuses, stray, half_mark, too_deep, wrong_number, wrong_form, universal_number, reserved, unending}
use Rattle.headers.specs.Conditions.{header_cut, value_cut, mark_cut, misfit}
use Rattle.laws.proofs.Tests.{cond-holds}

never : {A : Type 0} (m k : ℕ) → k ≤ m → m < k → A → ⊥
never m k l h a = omega arith

misfits-none : (n len : ℕ) → 10 < n → misfits n len ≡ false
unfolding misfits
misfits-none n len l =
    rw (ne_eqb n 1 (λ e. omega arith), ne_eqb n 5 (λ e. omega arith), ne_eqb n 2 (λ e. omega arith), ne_eqb n 10 (λ e. omega arith))

module _ (s : List ℕ) (at limit : ℕ) where
  abbrev x : ℕ
  x = octet_at s at

  abbrev y : ℕ
  y = octet_at s (at + 1)

  abbrev z : ℕ
  z = octet_at s (at + 2)

  field-unique : {p q : ℕ} → FieldTo s at limit p → FieldTo s at limit q → p ≡ q
  field-unique (one n) (one m) = refl
  field-unique (one n) (two b l h) = absurd (n b)
  field-unique (one n) (three b l h) = absurd (n b)
  field-unique (two b l h) (one n) = absurd (n b)
  field-unique (two b l h) (two c m g) = refl
  field-unique (two b l h) (three c m g) = absurd (omega arith)
  field-unique (three b l h) (one n) = absurd (n b)
  field-unique (three b l h) (two c m g) = absurd (omega arith)
  field-unique (three b l h) (three c m g) = refl

  -- where the number stands after the first octet, the first of those is there, and the second if the first has bit 8 set
  field-second : {p : ℕ} → FieldTo s at limit p → LongNumber s at → at + 1 < limit
  field-second (one n) b = absurd (n b)
  field-second (two b l h) c = l
  field-second (three b l h) c = omega arith

  field-third : {p : ℕ} → FieldTo s at limit p → LongNumber s at → 0x80 ≤ y → at + 2 < limit
  field-third (one n) b g = absurd (n b)
  field-third (two b l h) c g = absurd (omega arith)
  field-third (three b l h) c g = l

  wrong_second : WrongNumber s at limit → at + 1 < limit
  wrong_second (over l a b) = omega arith
  wrong_second (led_by_80 l a) = l
  wrong_second (under_31 l a) = l
  wrong_second (no_octet l a) = l

  -- no number is wrong: of one octet after the first, of two, and of two of which one is missing
  right-two : 31 ≤ y → y < 0x80 → WrongNumber s at limit → ⊥
  right-two h l (over m a b) = omega arith
  right-two h l (led_by_80 m a) = omega arith
  right-two h l (under_31 m a) = omega arith
  right-two h l (no_octet m a) = omega arith

  right-three : 0x80 < y → y < 0x100 → (at + 2 < limit → z < 0x80) → WrongNumber s at limit → ⊥
  right-three h l k (over m a b) = let last = k m in omega arith
  right-three h l k (led_by_80 m a) = omega arith
  right-three h l k (under_31 m a) = omega arith
  right-three h l k (no_octet m a) = omega arith

  -- what the length octets say, where the type field ends before `past`
  module _ (past : ℕ) (f : FieldTo s at limit past) where
    value-short : octet_at s past < 0x80 → (a m : ℕ) → ValueIs s at limit a m → (a ≡ past + 1) × (m ≡ octet_at s past)
    value-short h a m (short {from} g l k) = let e : from ≡ past = field-unique g f in (ap (λ (p : ℕ). p + 1) e, ap (octet_at s) e)
    value-short h a m (long {from} g l k u w) =
        let e : from ≡ past = field-unique g f in
        let k' : 0x80 < octet_at s past = subst (λ (p : ℕ). 0x80 < octet_at s p) e k in
        absurd (omega arith)

    value-long : 0x80 < octet_at s past → (a m : ℕ) → ValueIs s at limit a m
        → (a ≡ past + 1 + (octet_at s past - 0x80)) × (m ≡ big_endian (take (octet_at s past - 0x80) (drop (past + 1) s)))
    value-long h a m (short {from} g l k) =
        let e : from ≡ past = field-unique g f in
        let k' : octet_at s past < 0x80 = subst (λ (p : ℕ). octet_at s p < 0x80) e k in
        absurd (omega arith)
    value-long h a m (long {from} g l k u w) =
        let e : from ≡ past = field-unique g f in (
          ap (λ (p : ℕ). p + 1 + (octet_at s p - 0x80)) e,
          ap (λ (p : ℕ). big_endian (take (octet_at s p - 0x80) (drop (p + 1) s))) e,
        )

    value_none : octet_at s past ≡ 0x80 → {a m : ℕ} → ValueIs s at limit a m → ⊥
    value_none h (short {from} g l k) =
        let k' : octet_at s past < 0x80 = subst (λ (p : ℕ). octet_at s p < 0x80) (field-unique g f) k in omega arith
    value_none h (long {from} g l k u w) =
        let k' : 0x80 < octet_at s past = subst (λ (p : ℕ). 0x80 < octet_at s p) (field-unique g f) k in omega arith

    -- every octet of the header lies before the limit
    has-before : past < limit → (0x80 < octet_at s past → octet_at s past < 0x85 → past + (octet_at s past - 0x80) < limit)
        → {place : ℕ} → HeaderHas s at limit place → place < limit
    has-before l k (second b) = field-second f b
    has-before l k (third b m h) = field-third f b h
    has-before l k (first_length g) = subst (λ (p : ℕ). p < limit) (field-unique f g) l
    has-before l k (last_length {from} g m h u) =
        let e : past ≡ from = field-unique f g in
        let k' : 0x80 < octet_at s from → octet_at s from < 0x85 → from + (octet_at s from - 0x80) < limit =
        subst (λ (p : ℕ). 0x80 < octet_at s p → octet_at s p < 0x85 → p + (octet_at s p - 0x80) < limit) e k in
        k' h u

  module _ (marked : Bool) (room : ℕ) where
    abbrev Refuses : ℕ → Type 0
    Refuses n = HeadRefuses s at limit marked room n

    -- what is read there is refused as the conditions say, or no condition holds
    abbrev Verdict : Head → Type 0
    Verdict (Item h) = (n : ℕ) → Refuses n → ⊥
    Verdict ClosingMark = (n : ℕ) → Refuses n → ⊥
    Verdict (Refusal n place) = HeadRefused s at limit marked room n place

    pub two-to-eight : (n : ℕ) → Refuses n → (2 ≤ n) × (n ≤ 8)
    two-to-eight n (stray a b) = (omega arith, omega arith)
    two-to-eight n (half_mark a b c) = (omega arith, omega arith)
    two-to-eight n (too_deep a b) = (omega arith, omega arith)
    two-to-eight n (wrong_number a b c) = (omega arith, omega arith)
    two-to-eight n (wrong_form a b c) = (omega arith, omega arith)
    two-to-eight n (universal_number a b c d) = (omega arith, omega arith)
    two-to-eight n (reserved a b c d) = (omega arith, omega arith)
    two-to-eight n (unending a b c d e) = (omega arith, omega arith)
    two-to-eight n (header_cut a b c) = (omega arith, omega arith)
    two-to-eight n (value_cut a b c) = (omega arith, omega arith)
    two-to-eight n (mark_cut a b) = (omega arith, omega arith)
    two-to-eight n (misfit a b c) = (omega arith, omega arith)

    first_two : (n : ℕ) → n < 2 → Refuses n → ⊥
    first_two n l r = let (a, b) = two-to-eight n r in omega arith

    -- a 00 that may close
    marks : octet_at s at ≡ 0 → marked ≡ true → (at + 1 < limit → y ≡ 0) → (n : ℕ) → Refuses n → (n ≡ 7) × (limit ≤ at + 1)
    marks e m k n (stray a b) = absurd (true≢false (sym m ∙ b))
    marks e m k n (half_mark a b c) = absurd (c (k b))
    marks e m k n (too_deep a b) = absurd (a e)
    marks e m k n (wrong_number a b c) = absurd (a e)
    marks e m k n (wrong_form a b c) = absurd (a e)
    marks e m k n (universal_number a b c d) = absurd (a e)
    marks e m k n (reserved a b c d) = absurd (a e)
    marks e m k n (unending a b c d f) = absurd (a e)
    marks e m k n (header_cut a b c) = absurd (a e)
    marks e m k n (value_cut a b c) = absurd (a e)
    marks e m k n (mark_cut a b) = (refl, b)
    marks e m k n (misfit a b c) = absurd (a e)

    closing-verdict : octet_at s at ≡ 0 → Verdict (closing_at s at limit marked)
    unfolding closing_at
    closing-verdict e =
        cond-holds Verdict marked
        (λ m. cond-holds Verdict (ltb (at + 1) limit)
        (λ a. let l = ltb-true (at + 1) limit a in
        cond-holds Verdict (eqb y 0)
        (λ b. let zero = eqb-true y 0 b in λ n r. let (_, far) = marks e m (λ _. zero) n r in omega arith)
        (λ b. record { here = refl; refuses = half_mark e l (eqb-false y 0 b); no_earlier = first_two }))
        (λ a. let far = ltb-false (at + 1) limit a in
        record { here = refl; refuses = mark_cut e far; no_earlier = λ n h r. let (same, _) = marks e m (λ l. absurd (omega arith)) n r in omega arith }))
        (λ m. record { here = refl; refuses = stray e m; no_earlier = first_two })

    -- the conditions of an item, number by number
    abbrev Five : Type 0
    Five = ((LongNumber s at → ⊥) × (form_allowed x ≡ false)) ⊎ (LongNumber s at × (is_in x above_thirty ≡ false) × ((p : ℕ) × FieldTo s at limit p))

    abbrev Six : Type 0
    Six = (p : ℕ) × FieldTo s at limit p × (p < limit) × ((0x85 ≤ octet_at s p) ⊎ ((octet_at s p ≡ 0x80) × (constructed x ≡ false)))

    abbrev Seven : Type 0
    Seven = ((p : ℕ) × HeaderHas s at limit p × (limit ≤ p)) ⊎ ((a : ℕ) × (m : ℕ) × ValueIs s at limit a m × (limit < a + m))

    abbrev Eight : Type 0
    Eight = (a : ℕ) × (m : ℕ) × ValueIs s at limit a m × (misfits x m ≡ true)

    module _ (item : ItemThere s at) where
      -- no condition with a number below k holds
      below : (k : ℕ) → (3 < k → room ≡ 0 → ⊥) → (4 < k → LongNumber s at × WrongNumber s at limit → ⊥) → (5 < k → Five → ⊥) → (6 < k → Six → ⊥)
          → (7 < k → Seven → ⊥) → (8 < k → Eight → ⊥) → (n : ℕ) → n < k → Refuses n → ⊥
      below k h3 h4 h5 h6 h7 h8 n l (stray a b) = item a
      below k h3 h4 h5 h6 h7 h8 n l (half_mark a b c) = item a
      below k h3 h4 h5 h6 h7 h8 n l (too_deep a b) = h3 l b
      below k h3 h4 h5 h6 h7 h8 n l (wrong_number a b c) = h4 l (b, c)
      below k h3 h4 h5 h6 h7 h8 n l (wrong_form a b c) = h5 l (inl (b, c))
      below k h3 h4 h5 h6 h7 h8 n l (universal_number {past} a b c d) = h5 l (inr (b, c, (past, d)))
      below k h3 h4 h5 h6 h7 h8 n l (reserved {from} a b c d) = h6 l (from, b, c, inl d)
      below k h3 h4 h5 h6 h7 h8 n l (unending {from} a b c d e) = h6 l (from, b, c, inr (d, e))
      below k h3 h4 h5 h6 h7 h8 n l (header_cut {place} a b c) = h7 l (inl (place, b, c))
      below k h3 h4 h5 h6 h7 h8 n l (value_cut {start} {len} a b c) = h7 l (inr (start, len, b, c))
      below k h3 h4 h5 h6 h7 h8 n l (mark_cut a b) = item a
      below k h3 h4 h5 h6 h7 h8 n l (misfit {start} {len} a b c) = h8 l (start, len, b, c)

      all-below : ((n : ℕ) → n < 9 → Refuses n → ⊥) → (n : ℕ) → Refuses n → ⊥
      all-below h n r = let (_, b) = two-to-eight n r in h n (omega arith) r

      -- 3 and 4 do not hold, nor 5, of a type field that was read
      module _ (h3 : room ≡ 0 → ⊥) (h4 : LongNumber s at × WrongNumber s at limit → ⊥) (h5 : Five → ⊥) where
        by : (k : ℕ) → (6 < k → Six → ⊥) → (7 < k → Seven → ⊥) → (8 < k → Eight → ⊥) → (n : ℕ) → n < k → Refuses n → ⊥
        by k h6 h7 h8 = below k (λ _. h3) (λ _. h4) (λ _. h5) h6 h7 h8

        module _ (code past : ℕ) (f : FieldTo s at limit past) (form : constructed code ≡ constructed x)
            (fit : (len : ℕ) → misfits code len ≡ misfits x len) where
          abbrev first : ℕ
          first = octet_at s past

          no_six : first < 0x85 → (first ≡ 0x80 → constructed x ≡ true) → Six → ⊥
          no_six h k (p, g, l, inl b) =
              let b' : 0x85 ≤ first = subst (λ (q : ℕ). 0x85 ≤ octet_at s q) (field-unique g f) b in omega arith
          no_six h k (p, g, l, inr (e, c)) =
              let e' : first ≡ 0x80 = subst (λ (q : ℕ). octet_at s q ≡ 0x80) (field-unique g f) e in false≢true (sym c ∙ k e')

          no_header : past < limit → (0x80 < first → first < 0x85 → past + (first - 0x80) < limit) → (p : ℕ) → HeaderHas s at limit p → limit ≤ p → ⊥
          no_header l k p h far = let near = has-before past f l k h in omega arith

          no_seven : (start len : ℕ) → ((a m : ℕ) → ValueIs s at limit a m → (a ≡ start) × (m ≡ len)) → ((p : ℕ) → HeaderHas s at limit p → limit ≤ p → ⊥)
              → start + len ≤ limit → Seven → ⊥
          no_seven start len unique header l (inl (p, h, far)) = header p h far
          no_seven start len unique header l (inr (a, m, w, far)) = let (e, g) = unique a m w in omega arith

          definite-verdict : (start len : ℕ) → ValueIs s at limit start len → ((a m : ℕ) → ValueIs s at limit a m → (a ≡ start) × (m ≡ len))
              → (Six → ⊥) → ((p : ℕ) → HeaderHas s at limit p → limit ≤ p → ⊥) → Verdict (definite_at code at start len limit)
          unfolding definite_at
          definite-verdict start len v unique six header =
              let seven = no_seven start len unique header in
              cond-holds Verdict (leb (start + len) limit)
              (λ t. let l = leb-true (start + len) limit t in
              cond-holds Verdict (misfits code len)
              (λ b. record { here = refl; refuses = misfit item v (sym (fit len) ∙ b); no_earlier = by 8 (λ _. six) (λ _. seven l) (never 8 8 (omega arith)) })
              (λ b. all-below (by 9 (λ _. six) (λ _. seven l)
              (λ _ e. let (a, m, w, c) = e in let (_, g) = unique a m w in false≢true (sym b ∙ fit len ∙ ap (misfits x) (sym g) ∙ c)))))
              (λ t. let far = leb-false (start + len) limit t in
              record { here = refl; refuses = value_cut item v far; no_earlier = by 7 (λ _. six) (never 7 7 (omega arith)) (never 8 7 (omega arith)) })

          -- the length octet 80
          no_value : past < limit → first ≡ 0x80 → Seven → ⊥
          no_value l e (inl (p, h, far)) = no_header l (λ g _. absurd (omega arith)) p h far
          no_value l e (inr (a, m, w, far)) = value_none past f e w

          -- no length octet is there
          six-there : limit ≤ past → Six → ⊥
          six-there far (p, g, l, w) = let e : p ≡ past = field-unique g f in omega arith

          length-verdict : Verdict (length_at s code at past limit)
          unfolding length_at by_first long_at indefinite_at
          length-verdict =
              cond-holds Verdict (ltb past limit)
              (λ t. let there = ltb-true past limit t in
              cond-holds Verdict (ltb first 0x80)
              (λ a. let low = ltb-true first 0x80 a in
              definite-verdict (past + 1) first (short f there low) (value-short past f low) (no_six (omega arith) (λ e. absurd (omega arith)))
              (no_header there (λ g _. absurd (omega arith))))
              (λ a. let high = ltb-false first 0x80 a in
              cond-holds Verdict (eqb first 0x80)
              (λ b. let e = eqb-true first 0x80 b in
              cond-holds Verdict (constructed code)
              (λ c. all-below (by 9 (λ _. no_six (omega arith) (λ _. sym form ∙ c)) (λ _. no_value there e) (λ _ v. value_none past f e v.2)))
              (λ c. record {
                here = refl;
                refuses = unending item f there e (sym form ∙ c);
                no_earlier = by 6 (never 6 6 (omega arith)) (never 7 6 (omega arith)) (never 8 6 (omega arith));
              }))
              (λ b. let ne = eqb-false first 0x80 b in let above : 0x80 < first = omega arith in
              cond-holds Verdict (ltb first 0x85)
              (λ c. let under = ltb-true first 0x85 c in
              let six = no_six under (λ e. absurd (ne e)) in
              cond-holds Verdict (leb (past + 1 + (first - 0x80)) limit)
              (λ d. let fits = leb-true (past + 1 + (first - 0x80)) limit d in
              definite-verdict (past + 1 + (first - 0x80)) (big_endian (take (first - 0x80) (drop (past + 1) s))) (long f there above under fits)
              (value-long past f above) six
              (no_header there (λ _ _. omega arith)))
              (λ d. let far = leb-false (past + 1 + (first - 0x80)) limit d in
              let beyond : limit ≤ past + (first - 0x80) = omega arith in
              record {
                here = refl;
                refuses = header_cut item (last_length f there above under) beyond;
                no_earlier = by 7 (λ _. six) (never 7 7 (omega arith)) (never 8 7 (omega arith));
              }))
              (λ c. record {
                here = refl;
                refuses = reserved item f there (ltb-false first 0x85 c);
                no_earlier = by 6 (never 6 6 (omega arith)) (never 7 6 (omega arith)) (never 8 6 (omega arith));
              }))))
              (λ t. let far = ltb-false past limit t in
              record {
                here = refl;
                refuses = header_cut item (first_length f) far;
                no_earlier = by 7 (λ _. six-there far) (never 7 7 (omega arith)) (never 8 7 (omega arith));
              })

      -- the type field, and what follows it
      abbrev After : Result Field ℕ → Type 0
      After field = Verdict (after_field s at limit field)

      five-one : (LongNumber s at → ⊥) → form_allowed x ≡ true → Five → ⊥
      five-one n t (inl (m, e)) = true≢false (sym t ∙ e)
      five-one n t (inr (b, e, w)) = n b

      five-more : LongNumber s at → is_in x above_thirty ≡ true → Five → ⊥
      five-more b t (inl (m, e)) = m b
      five-more b t (inr (c, e, w)) = true≢false (sym t ∙ e)

      -- a type field of which octets are missing
      five-cut : LongNumber s at → ((p : ℕ) → FieldTo s at limit p → ⊥) → Five → ⊥
      five-cut b cut (inl (m, e)) = m b
      five-cut b cut (inr (c, e, (p, f))) = cut p f

      module _ (h3 : room ≡ 0 → ⊥) where
        missing : LongNumber s at → {p : ℕ} → HeaderHas s at limit p → limit ≤ p → (WrongNumber s at limit → ⊥) →
            ((p : ℕ) → FieldTo s at limit p → ⊥) → After (Err 7)
        missing b h far right cut =
            record {
              here = refl;
              refuses = header_cut item h far;
              no_earlier = below 7 (λ _. h3) (λ _ w. right w.1) (λ _. five-cut b cut) (λ _ six. cut six.0 six.1) (never 7 7 (omega arith))
                  (never 8 7 (omega arith));
            }

        four : LongNumber s at → WrongNumber s at limit → After (Err 4)
        four b w =
            record {
              here = refl;
              refuses = wrong_number item b w;
              no_earlier = below 4 (λ _. h3) (never 4 4 (omega arith)) (never 5 4 (omega arith)) (never 6 4 (omega arith)) (never 7 4 (omega arith))
                  (never 8 4 (omega arith));
            }

        five : Refuses 5 → (LongNumber s at × WrongNumber s at limit → ⊥) → After (Err 5)
        five r right =
            record {
              here = refl;
              refuses = r;
              no_earlier = below 5 (λ _. h3) (λ _. right) (never 5 5 (omega arith)) (never 6 5 (omega arith)) (never 7 5 (omega arith))
                  (never 8 5 (omega arith));
            }

        -- a number that was read whole
        numbered : LongNumber s at → (code past : ℕ) → FieldTo s at limit past → code / 32 % 2 ≡ x / 32 % 2 → 10 < code → (WrongNumber s at limit → ⊥)
            → After (cond (is_in x above_thirty) (read_field code past) (Err 5))
        numbered b code past f form large right =
            let high : 10 < x = omega arith in
            let fit : (len : ℕ) → misfits code len ≡ misfits x len = λ len. misfits-none code len large ∙ sym (misfits-none x len high) in
            cond-holds After (is_in x above_thirty)
            (λ t. length-verdict h3 (λ w. right w.1) (five-more b t) code past f (ap (λ (n : ℕ). eqb n 1) form) fit)
            (λ t. five (universal_number item b t f) (λ w. right w.1))

        field-verdict : After
            (cond (eqb (number_bits x) 31)
            (cond (ltb (at + 1) limit)
            (cond (ltb y 31) (Err 4)
            (cond (ltb y 0x80) (cond (is_in x above_thirty) (read_field (code_of (x ∷ y ∷ [])) (at + 2)) (Err 5))
            (cond (eqb y 0x80) (Err 4)
            (cond (ltb y 0x100)
            (cond (ltb (at + 2) limit)
            (cond (ltb z 0x80) (cond (is_in x above_thirty) (read_field (code_of (x ∷ y ∷ z ∷ [])) (at + 3)) (Err 5)) (Err 4))
            (Err 7))
            (Err 4)))))
            (Err 7))
            (cond (form_allowed x) (read_field x (at + 1)) (Err 5)))
        field-verdict =
            cond-holds After (eqb (number_bits x) 31)
            (λ n. let b = eqb-true (number_bits x) 31 n in
            cond-holds After (ltb (at + 1) limit)
            (λ a. let there = ltb-true (at + 1) limit a in
            cond-holds After (ltb y 31) (λ c. four b (under_31 there (ltb-true y 31 c)))
            (λ c. let low = ltb-false y 31 c in
            cond-holds After (ltb y 0x80)
            (λ d. let last = ltb-true y 0x80 d in
            numbered b (code_of (x ∷ y ∷ [])) (at + 2) (two b there last) (omega arith) (omega arith) (right-two low last))
            (λ d. let high = ltb-false y 0x80 d in
            cond-holds After (eqb y 0x80) (λ e. four b (led_by_80 there (eqb-true y 0x80 e)))
            (λ e. let ne = eqb-false y 0x80 e in let above : 0x80 < y = omega arith in
            cond-holds After (ltb y 0x100)
            (λ g. let octet = ltb-true y 0x100 g in
            cond-holds After (ltb (at + 2) limit)
            (λ h. let more = ltb-true (at + 2) limit h in
            cond-holds After (ltb z 0x80)
            (λ i. let last = ltb-true z 0x80 i in
            numbered b (code_of (x ∷ y ∷ z ∷ [])) (at + 3) (three b more high) (omega arith) (omega arith) (right-three above octet (λ _. last)))
            (λ i. four b (over more high (ltb-false z 0x80 i))))
            (λ h. let far = ltb-false (at + 2) limit h in
            missing b (third b there high) far (right-three above octet (λ k. absurd (omega arith)))
            (λ p f. let k = field-third f b high in omega arith)))
            (λ g. four b (no_octet there (ltb-false y 0x100 g)))))))
            (λ a. let far = ltb-false (at + 1) limit a in
            missing b (second b) far (λ w. let k = wrong_second w in omega arith) (λ p f. let k = field-second f b in omega arith)))
            (λ n. let ne = eqb-false (number_bits x) 31 n in
            cond-holds After (form_allowed x)
            (λ t. length-verdict h3 (λ w. ne w.0) (five-one ne t) x (at + 1) (one ne) refl (λ len. refl))
            (λ t. five (wrong_form item ne t) (λ w. ne w.0)))

      item-verdict : Verdict (item_at s x at limit room)
      unfolding item_at
      item-verdict =
          cond-holds Verdict (eqb room 0)
          (λ e.
          record {
            here = refl;
            refuses = too_deep item (eqb-true room 0 e);
            no_earlier =
                below 3 (never 3 3 (omega arith)) (never 4 3 (omega arith)) (never 5 3 (omega arith)) (never 6 3 (omega arith)) (never 7 3 (omega arith))
                (never 8 3 (omega arith));
          })
          (λ e. field-verdict (eqb-false room 0 e))

    verdict : Verdict (head_at s at limit marked room)
    unfolding head_at
    verdict =
        cond-holds Verdict (eqb x 0) (λ e. closing-verdict (eqb-true x 0 e)) (λ e. item-verdict (eqb-false x 0 e))

    is-refused : (h : Head) → Verdict h → (n place : ℕ) → HeadRefused s at limit marked room n place → h ≡ Refusal n place
    is-refused (Item g) v n place r = absurd (v n r.refuses)
    is-refused ClosingMark v n place r = absurd (v n r.refuses)
    is-refused (Refusal m q) v n place r =
        let same : m ≡ n =
        cases (ltb m n)
        (λ t. absurd (r.no_earlier m (ltb-true m n t) v.refuses))
        (λ t.
        cases (ltb n m)
        (λ u. absurd (v.no_earlier n (ltb-true n m u) r.refuses))
        (λ u. let a = ltb-false m n t in let b = ltb-false n m u in omega arith)) in
        let there : q ≡ place = v.here ∙ sym r.here in
        rw (same, there)

    -- "Each is given exactly when its condition holds and no earlier one does."
    pub refused-exactly : (n place : ℕ) → (head_at s at limit marked room ≡ Refusal n place) ↔ HeadRefused s at limit marked room n place
    refused-exactly n place = (λ e. subst Verdict e verdict, is-refused (head_at s at limit marked room) verdict n place)
