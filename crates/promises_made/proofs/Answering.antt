-- The answer and the output are as promised, and an answer 0 leaves a letter in the output.
use mathlib.Core.Path.{◌≡◌, refl, ap, sym, ◌∙◌, subst}
use mathlib.Core.Bool.{true, false≢true}
use mathlib.Core.List.{List, [], ◌∷◌, map}
use mathlib.Core.Option.{some}
use Prim.Native.Nat.{ℕ, zero, suc, ◌≤◌}
use native.Mathlib.Omega.{arith}
use lib.Dec.{ltb}
use lib.ListN.{length, take, drop, get_elem?, length-map}
use lib.Seq.{take_at}
use borrow.Author.Tests.{ltb-false, lt-ltb, le-ltb, ne_eqb}
use borrow.Table.Steps.{cases}
use Rattle.headers.specs.Head.{is_in}
use Rattle.laws.proofs.Tests.{cond-holds}
use Rattle.octets.specs.Walk.{stream_limit}
use Rattle.normal.specs.Normal.{normal_form}
use Rattle.elements.specs.declared.Edition.{Edition}
use Rattle.letters.specs.Letter.{letter, letter_in}
use Rattle.reading.specs.declared.Side.TheVariants.{Layout, Logical}
use Rattle.answers.specs.declared.Written.{Written}
use Rattle.answers.specs.Answers.{matches_by, fetched, joined_in}
use Rattle.making.specs.declared.Entry.{Entry}
use Rattle.making.specs.Entries.{Said, said_by, JudgedEntries, fit, refused_entry, judge_entries}
use Rattle.making.specs.Stream.{stream_of}
use Rattle.promises_made.specs.Reads.{unit_element, elements_of, unit_at, matches_from, items_for}
use Rattle.making.specs.Answers.{made_by, made_of, made_output, MakeOutcome}
use Rattle.promises_made.specs.Editions.{TakesAll}
use Rattle.promises_made.specs.Promises.{Reads, written_by, Readable, Answers}
use Rattle.making.proofs.Fitting.{AllFit, fitting-from}
use Rattle.promises_made.proofs.Shapes.{takes}
use Rattle.promises_made.proofs.Letters.{reads}
use Rattle.promises_made.proofs.Refusals.{refuses}

-- a refusal gives no length
no_length : (j : JudgedEntries) (out : List ℕ) → ((made_by j out).number ≡ 0 → ⊥) → (made_by j out).length ≡ 0
no_length (refused_entry number entry) out = λ n. refl
no_length (fit said) out =
    let form = stream_of said in
    cond-holds (λ (a : Written). (a.number ≡ 0 → ⊥) → a.length ≡ 0) (ltb stream_limit (length form)) (λ _ n. refl)
    (λ _. cond-holds (λ (a : Written). (a.number ≡ 0 → ⊥) → a.length ≡ 0) (ltb (length out) (length form)) (λ _ n. refl) (λ _ n. absurd (n refl)))

mapped : {A B : Type 0} (f : A → B) (xs : List A) (k : ℕ) (x : A) → get_elem? xs k ≡ some x → get_elem? (map f xs) k ≡ some (f x)
mapped f [] k x e = let z : ◌≡◌ {A = ℕ} 0 1 = cc in absurd (omega arith)
mapped f (y ∷ xs) zero x e = let p : y ≡ x = cc in rw p
mapped f (y ∷ xs) (suc k) x e = mapped f xs k x e

module _ (buffer : List ℕ) (entries : List Entry) (out : List ℕ) where
  pub answers : Answers buffer entries out
  unfolding made_of made_output
  answers = record {
    refusal = λ number entry e. rw e;
    over = λ said e l. rw (e, lt-ltb stream_limit (length (stream_of said)) l);
    short = λ said e l m. rw (e, le-ltb stream_limit (length (stream_of said)) l, lt-ltb (length out) (length (stream_of said)) m);
    writes = λ said e l m.
        let a = le-ltb stream_limit (length (stream_of said)) l in
        let b = le-ltb (length out) (length (stream_of said)) m in
        (rw (e, a, b), rw (e, a, b));
    untouched = λ n. (rw (ne_eqb (made_of buffer entries out).number 0 n), no_length (judge_entries buffer entries) out n);
  }

  -- an answer 0: the entries fit, and the stream is within the limit and has room
  record Done : Type 0 where
    said : List Said
    judged : judge_entries buffer entries ≡ fit said
    within : length (stream_of said) ≤ stream_limit
    room : length (stream_of said) ≤ length out

  done-by : (j : JudgedEntries) → judge_entries buffer entries ≡ j → (made_by j out).number ≡ 0 → Done
  done-by (refused_entry number entry) e z =
      let i = ((refuses buffer).told entries number entry e).0 in
      absurd (false≢true (subst (λ (n : ℕ). is_in n (27 ∷ 14 ∷ 15 ∷ 9 ∷ []) ≡ true) z i))
  done-by (fit said) e z =
      let size = length (stream_of said) in
      cases (ltb stream_limit size)
      (λ t. let q = rw t at z in absurd (omega arith))
      (λ t. cases (ltb (length out) size)
      (λ u. let q = rw (t, u) at z in absurd (omega arith))
      (λ u. record { said = said; judged = e; within = ltb-false stream_limit size t; room = ltb-false (length out) size u }))

  done : (made_of buffer entries out).number ≡ 0 → Done
  unfolding made_of
  done z = done-by (judge_entries buffer entries) refl z

  -- what stands in the output is the stream
  module _ (d : Done) where
    written_is : written_by buffer entries out ≡ stream_of d.said
    written_is =
        let form = stream_of d.said in
        let w = answers.writes d.said d.judged d.within d.room in
        ap (λ (a : Written). take a.length (made_output buffer entries out)) w.0 ∙ ap (take (length form)) w.1
        ∙ take_at form (drop (length form) out) (length form) refl

    says_is : d.said ≡ map (said_by buffer) entries
    says_is = (refuses buffer).says entries d.said d.judged

    count-is : length d.said ≡ length entries
    count-is = ap length says_is ∙ length-map entries (said_by buffer)

    reads_so : (edition : Edition) → TakesAll edition → Reads edition d.said
    reads_so edition takes =
        let f = fitting-from buffer [] entries d.said d.judged in
        reads edition takes d.said (subst (AllFit []) (sym f.says) f.all_fit) d.within

    letter-so : (edition : Edition) → TakesAll edition → letter_in edition (written_by buffer entries out) ≡ letter (items_for (length d.said))
        (elements_of d.said)
    letter-so edition takes = ap (letter_in edition) written_is ∙ (reads_so edition takes).accepted

    said_at : (k : ℕ) (entry : Entry) → get_elem? entries k ≡ some entry → get_elem? d.said k ≡ some (said_by buffer entry)
    said_at k entry e = ap (λ (l : List Said). get_elem? l k) says_is ∙ mapped (said_by buffer) entries k entry e

    unit-so : (edition : Edition) → TakesAll edition → (k : ℕ) (entry : Entry) → get_elem? entries k ≡ some entry → get_elem? (elements_of d.said)
        (unit_at k) ≡ some (unit_element (said_by buffer entry))
    unit-so edition takes k entry e = (reads_so edition takes).unit k (said_by buffer entry) (said_at k entry e)

  -- An answer 0 leaves a letter in the output that reads as the entries say, in any edition that takes its elements.
  pub readable : (edition : Edition) → TakesAll edition → (made_of buffer entries out).number ≡ 0 → Readable edition buffer entries out
  unfolding fetched joined_in
  readable edition takes z =
      let d = done z in
      let r = reads_so d edition takes in
      let l = letter-so d edition takes in
      record {
        accepted = l ∙ ap (λ (n : ℕ). letter (items_for n) (elements_of d.said)) (count-is d)
            ∙ ap (λ (s : List Said). letter (items_for (length entries)) (elements_of s)) (says_is d);
        own_form = ap normal_form (written_is d) ∙ r.own_form ∙ sym (written_is d);
        layout = ap (matches_by Layout) l ∙ r.layout ∙ ap (matches_from 0) (count-is d);
        logical = ap (matches_by Logical) l ∙ r.logical;
        text = λ k entry e. rw (l, unit-so d edition takes k entry e);
        joined = λ k entry e. rw (l, unit-so d edition takes k entry e);
      }

-- so it does in both editions
pub readable-in : (edition : Edition) (buffer : List ℕ) (entries : List Entry) (out : List ℕ) → (made_of buffer entries out).number ≡ 0
    → Readable edition buffer entries out
readable-in edition buffer entries out z = readable buffer entries out edition (takes edition) z

-- two outcomes that the contract allows are equal
pub make-determined : {buffer : List ℕ} {entries : List Entry} {out : List ℕ} {a b : Written} {t u : List ℕ}
    → MakeOutcome buffer entries out a t → MakeOutcome buffer entries out b u → (a ≡ b) × (t ≡ u)
make-determined x y = (x.answered ∙ sym y.answered, x.put ∙ sym y.put)
