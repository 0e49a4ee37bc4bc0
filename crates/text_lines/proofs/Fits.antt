-- The texts of a side are no longer than the stream: a unit stands once in the list of a side, the contents of two elements are parts of two items, and
-- the values in a tree, joined, are no longer than the octets that code it.
use mathlib.Core.Path.{◌≡◌, refl, ap, sym, ◌∙◌, subst}
use mathlib.Core.Logic.{◌⊎◌, inl, inr}
use mathlib.Core.Option.{some}
use mathlib.Core.List.Memᴰ
use mathlib.Core.List.{List, [], ◌∷◌, ◌++◌, map, Memᴰ}
use Prim.Native.Nat.{ℕ, zero, suc, ◌+◌, ◌≤◌}
use native.Mathlib.Omega.{arith}
use lib.Dec.{eqb}
use lib.ListN.{length, get_or, get_elem?, length-append}
use borrow.Table.Steps.{cases}
use Rattle.tree.specs.Tree.{Tree, empty, leaf, branch, tree_of}
use Rattle.runs.specs.Runs.{whole_stream, Fine}
use Rattle.contents.specs.Search.{is, first_value, first_run}
use Rattle.pieces.specs.Pieces.{joined}
use Rattle.pieces.proofs.Joined.{joined-within}
use Rattle.elements.specs.declared.Edition.{Edition}
use Rattle.elements.specs.Shape.{ContentItem, whole, pieced, Shape, shape_of}
use Rattle.elements.specs.Judge.{bytes_of, joined_content, none_of, content_in, holders_of, content_of, Element, element_of, refusal_of}
use Rattle.elements.specs.Judge.{Judged, accepted, refused, judge_one, judge_from, judge}
use Rattle.letters.specs.Apart.{Apart}
use Rattle.reading.specs.declared.Match.{Match}
use Rattle.reading.specs.declared.Side.{Side}
use Rattle.reading.specs.Match.{unit_kind, matches, IsMatch}
use Rattle.letters.specs.Telling.{no_element, element_at}
use Rattle.reading.specs.Lists.{Once}
use Rattle.reading.proofs.Lists.{once-map}
use Rattle.reading.proofs.Matches.{matches-are, matches-once}
use Rattle.reading.proofs.Single.{unit-one-match}
use Rattle.text_lines.specs.Text.{TextOf, texts_of}

-- the value of an item of a run is no longer than all values in it, and so what is in one
value-fits : (octet : ℕ) (t : Tree) → length (bytes_of (first_value octet t)) ≤ length (joined t)
unfolding first_value joined
value-fits octet empty = omega arith
value-fits octet (leaf type value after) =
    let size = length-append value (joined after) in
    let more = value-fits octet after in
    cases (is octet type) (λ t. rw t (omega arith)) (λ t. rw t (omega arith))
value-fits octet (branch type inside after) =
    let size = length-append (joined inside) (joined after) in
    let more = value-fits octet after in
    omega arith

run_fits : (octet : ℕ) (t : Tree) → length (joined (first_run octet t)) ≤ length (joined t)
unfolding first_run joined
run_fits octet empty = omega arith
run_fits octet (leaf type value after) =
    let size = length-append value (joined after) in
    let more = run_fits octet after in
    omega arith
run_fits octet (branch type inside after) =
    let size = length-append (joined inside) (joined after) in
    let more = run_fits octet after in
    cases (is octet type) (λ t. rw t (omega arith)) (λ t. rw t (omega arith))

-- and so the content of an element
content-in-fits : (holders : List ContentItem) (t : Tree) → length (joined_content (content_in holders t)) ≤ length (joined t)
content-in-fits [] t = omega arith
content-in-fits (whole octet ∷ others) t = cases (none_of octet t) (λ e. rw e (content-in-fits others t)) (λ e. rw e (value-fits octet t))
content-in-fits (pieced octet ∷ others) t = cases (none_of octet t) (λ e. rw e (content-in-fits others t)) (λ e. rw e (run_fits octet t))

element-fits : (shape : Shape) (t : Tree) → length (joined_content (element_of shape t).content) ≤ length (joined t)
unfolding element_of content_of
element-fits shape t = content-in-fits (holders_of shape.contents) t

-- how long the contents of elements are in all
unfoldable contents_of : List Element → ℕ
contents_of [] = 0
contents_of (e ∷ es) = length (joined_content e.content) + contents_of es

contents-more : (es : List Element) (e : Element) → contents_of (es ++ (e ∷ [])) ≡ contents_of es + length (joined_content e.content)
unfolding contents_of
contents-more [] e = omega arith
contents-more (d ∷ es) e = let l = contents-more es e in omega arith

-- those of the elements of a run are no longer than its values
module _ (edition : Edition) where
  one-fits : (done : List Element) (type : List ℕ) (run : Tree) (more : List Element → Judged) (es : List Element) (n : ℕ)
      → ((next : List Element) → more next ≡ accepted es → contents_of es ≤ contents_of next + n) → judge_one edition done type run more ≡ accepted es
      → contents_of es ≤ contents_of done + length (joined run) + n
  unfolding judge_one
  one-fits done type run more es n rest e =
      let element = element_of (shape_of edition type) run in
      let size = contents-more done element in
      let fits = element-fits (shape_of edition type) run in
      cases (eqb (refusal_of edition done type run) 0)
      (λ t. let f : more (done ++ (element ∷ [])) ≡ accepted es = rw t at e in let l = rest (done ++ (element ∷ [])) f in omega arith)
      (λ t. let f : refused (refusal_of edition done type run) (length done) ≡ accepted es = rw t at e in
      let z : ◌≡◌ {A = ℕ} 0 1 = cc in absurd (omega arith))

  run-elements : (t : Tree) (done es : List Element) → judge_from edition done t ≡ accepted es → contents_of es ≤ contents_of done + length (joined t)
  unfolding judge_from joined
  run-elements empty done es e = let f : done ≡ es = cc in rw f (omega arith)
  run-elements (leaf type value after) done es e =
      let size = length-append value (joined after) in
      let l = one-fits done type empty (λ more. judge_from edition more after) es (length (joined after)) (λ next f. run-elements after next es f) e in
      omega arith
  run-elements (branch type inside after) done es e =
      let size = length-append (joined inside) (joined after) in
      let l = one-fits done type inside (λ more. judge_from edition more after) es (length (joined after)) (λ next f. run-elements after next es f) e in
      omega arith

  letter-elements : (t : Tree) (es : List Element) → judge edition t ≡ accepted es → contents_of es ≤ length (joined t)
  unfolding judge contents_of
  letter-elements empty es e = let z : ◌≡◌ {A = ℕ} 0 1 = cc in absurd (omega arith)
  letter-elements (leaf type value after) es e = let l = run-elements (leaf type value after) [] es e in omega arith
  letter-elements (branch type inside after) es e = let l = run-elements (branch type inside after) [] es e in omega arith

-- numbers with weights
module _ (weight : ℕ → ℕ) where
  abbrev weigh : List ℕ → ℕ
  weigh [] = 0
  weigh (x ∷ xs) = weight x + weigh xs

  -- numbers without one of them, which keeps all others
  record Without (x : ℕ) (ys : List ℕ) : Type 0 where
    rest : List ℕ
    lighter : weigh ys ≡ weight x + weigh rest
    keeps : (z : ℕ) → Memᴰ z ys → (z ≡ x → ⊥) → Memᴰ z rest

  not_first : (x y z : ℕ) (ys : List ℕ) → x ≡ y → (z ≡ x → ⊥) → (z ≡ y) ⊎ Memᴰ z ys → Memᴰ z ys
  not_first x y z ys e d (inl f) = absurd (d (f ∙ sym e))
  not_first x y z ys e d (inr m) = m

  first-or : (x y z : ℕ) (ys : List ℕ) (w : Without x ys) → (z ≡ x → ⊥) → (z ≡ y) ⊎ Memᴰ z ys → Memᴰ z (y ∷ w.rest)
  first-or x y z ys w d (inl f) = Memᴰ.head f
  first-or x y z ys w d (inr m) = Memᴰ.tail (w.keeps z m d)

  without-either : (x y : ℕ) (ys : List ℕ) → (Memᴰ x ys → Without x ys) → (x ≡ y) ⊎ Memᴰ x ys → Without x (y ∷ ys)
  without-either x y ys below (inl e) =
      record { rest = ys; lighter = ap (λ (k : ℕ). weight k + weigh ys) (sym e); keeps = λ z m d. not_first x y z ys e d (Memᴰ.cases_cons m) }
  without-either x y ys below (inr m) =
      let w = below m in
      record { rest = y ∷ w.rest; lighter = omega (arith, w.lighter); keeps = λ z m d. first-or x y z ys w d (Memᴰ.cases_cons m) }

  without : (x : ℕ) (ys : List ℕ) → Memᴰ x ys → Without x ys
  without x [] m = absurd (Memᴰ.not-nil m)
  without x (y ∷ ys) m = without-either x y ys (without x ys) (Memᴰ.cases_cons m)

  -- numbers with nothing twice weigh no more than those that have all of them
  once-weighs : (xs ys : List ℕ) → Once xs → ((x : ℕ) → Memᴰ x xs → Memᴰ x ys) → weigh xs ≤ weigh ys
  once-weighs [] ys o i = omega arith
  once-weighs (x ∷ xs) ys o i =
      let w = without x ys (i x (Memᴰ.head refl)) in
      let few = once-weighs xs w.rest o.1 (λ z m. w.keeps z (i z (Memᴰ.tail m)) (λ e. o.0 (subst-mem e m))) in
      omega (arith, w.lighter)
    where
      subst-mem : {z : ℕ} → z ≡ x → Memᴰ z xs → Memᴰ x xs
      subst-mem e m = rw e at m

  -- the numbers of elements, from n on
  abbrev up_from : ℕ → List Element → List ℕ
  up_from n [] = []
  up_from n (e ∷ es) = n ∷ up_from (suc n) es

  up-has : (n : ℕ) (es : List Element) (k : ℕ) (e : Element) → get_elem? es k ≡ some e → Memᴰ (n + k) (up_from n es)
  up-has n [] k e p = let z : ◌≡◌ {A = ℕ} 0 1 = cc in absurd (omega arith)
  up-has n (x ∷ es) zero e p = let i : n + 0 ≡ n = omega arith in Memᴰ.head i
  up-has n (x ∷ es) (suc k) e p = let i : n + suc k ≡ suc n + k = omega arith in rw i (Memᴰ.tail (up-has (suc n) es k e p))

  -- if they weigh what their contents are long
  up-weighs : (n : ℕ) (es : List Element) → ((k : ℕ) (e : Element) → get_elem? es k ≡ some e → weight (n + k) ≤ length (joined_content e.content))
      → weigh (up_from n es) ≤ contents_of es
  unfolding contents_of
  up-weighs n [] w = omega arith
  up-weighs n (e ∷ es) w =
      let z : n + 0 ≡ n = omega arith in
      let own : weight n ≤ length (joined_content e.content) = subst (λ (k : ℕ). weight k ≤ length (joined_content e.content)) z (w 0 e refl) in
      let more = up-weighs (suc n) es (λ k d p. let i : n + suc k ≡ suc n + k = omega arith in
      subst (λ (j : ℕ). weight j ≤ length (joined_content d.content)) i (w (suc k) d p)) in
      omega arith

at_there : {A : Type 0} (xs : List A) (k : ℕ) (d x : A) → get_elem? xs k ≡ some x → get_or xs k d ≡ x
at_there [] k d x p = let z : ◌≡◌ {A = ℕ} 0 1 = cc in absurd (omega arith)
at_there (y ∷ xs) zero d x p = cc
at_there (y ∷ xs) (suc k) d x p = at_there xs k d x p

-- all octets of the texts of a side: no more than the stream has
module _ (edition : Edition) (s : List ℕ) (fine : Fine s (whole_stream s)) (elements : List Element) (judged : judge edition (tree_of s) ≡ accepted elements)
    (apart : Apart elements) (text : TextOf)
    (is-content : (u : ℕ) (unit : Element) → get_elem? elements u ≡ some unit → unit.kind ≡ unit_kind → text u ≡ joined_content unit.content)
    (side : Side) where
  abbrev units : List Match → List ℕ
  units ms = map (λ (m : Match). m.unit) ms

  -- what an element weighs: its content, as long as the text of a unit is
  abbrev own : ℕ → ℕ
  own u = length (joined_content (element_at elements u).content)

  text-weighs : (m : Match) → IsMatch side elements m → length (text m.unit) ≡ own m.unit
  text-weighs m i = ap length (is-content m.unit i.unit i.unit_there i.joined.of_unit)
      ∙ rw (at_there elements m.unit no_element i.unit i.unit_there)

  texts-weigh : (ms : List Match) → ((m : Match) → Memᴰ m ms → IsMatch side elements m) → length (texts_of text ms) ≡ weigh own (units ms)
  unfolding texts_of
  texts-weigh [] are = refl
  texts-weigh (m ∷ ms) are =
      let size = length-append (text m.unit) (texts_of text ms) in
      let more = texts-weigh ms (λ n i. are n (Memᴰ.tail i)) in
      let here = text-weighs m (are m (Memᴰ.head refl)) in
      omega arith

  unit_there : (u : ℕ) → ((m : Match) × Memᴰ m (matches side elements) × (m.unit ≡ u)) → Memᴰ u (up_from own 0 elements)
  unit_there u (m, i, e) =
      let is_match = matches-are side elements m i in
      let z : 0 + m.unit ≡ u = omega (arith, e) in
      subst (λ (k : ℕ). Memᴰ k (up_from own 0 elements)) z (up-has own 0 elements m.unit is_match.unit is_match.unit_there)

  pub texts-fit : length (texts_of text (matches side elements)) ≤ length s
  texts-fit =
      let ms = matches side elements in
      let once = once-map (λ (m : Match). m.unit) ms (matches-once side elements)
      (λ m n a b. unit-one-match elements apart side m n (matches-are side elements m a) (matches-are side elements n b)) in
      let light = once-weighs own (units ms) (up_from own 0 elements) once (λ u i. unit_there u (Memᴰ.of_map (λ (m : Match). m.unit) ms i)) in
      let all = up-weighs own 0 elements (λ k e p. let z : 0 + k ≡ k = omega arith in rw (z, at_there elements k no_element e p) (omega arith)) in
      let in_tree = letter-elements edition (tree_of s) elements judged in
      let in_stream : 0 + length (joined (tree_of s)) ≤ length s = joined-within fine in
      omega (arith, texts-weigh ms (matches-are side elements))
