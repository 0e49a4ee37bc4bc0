-- What is promised of parents and children: by crate parents, and the cases of the answer.
use mathlib.Core.Path.{◌≡◌, refl, ap, sym, ◌∙◌}
use mathlib.Core.List.{List, [], ◌∷◌}
use Prim.Native.Nat.{ℕ, ◌<◌}
use lib.Dec.{ltb, leb}
use lib.ListN.{length}
use borrow.Author.Tests.{ne_eqb}
use Rattle.laws.proofs.Tests.{cond-holds}
use Rattle.tree.specs.Tree.{tree_of}
use Rattle.elements.specs.declared.Edition.{Edition}
use Rattle.letters.specs.Letter.{Letter, letter, refusal, letter_in}
use Rattle.letters.proofs.Apart.{accepted-apart}
use Rattle.parents.specs.Parent.{children}
use Rattle.parents.proofs.Parents.{parent_is, none-missed}
use Rattle.parents.proofs.Climbing.{climb-ends, no_own_ancestor}
use Rattle.parents.proofs.Children.{children-are, children-all, children-sorted}
use Rattle.answers.specs.declared.Related.{Related}
use Rattle.answers.specs.Table.{too_few_rows}
use Rattle.answers.specs.Related.{related_by, related, related_table, related_list}
use Rattle.answers.specs.Filling.{Relates}
use Rattle.letters.proofs.Letters.{letter-found}
use Rattle.answers.proofs.Tabling.{table-tells}
use Rattle.answers.proofs.Relating.{relates-refused, relates-16, relates-20, relates-25, relates-letter}
use Rattle.promises.specs.Demands.{Answered}
use Rattle.promises.specs.Family.{Tells, Family}
use Rattle.promises.proofs.Demand1.{told-small, told-own, told-zero, small-in}
use Rattle.promises.proofs.Demand2.{counted, normal_accepted}
use Rattle.reading.proofs.Lists.{in-member, sorted-at}
use Rattle.promises.proofs.Demand3.{member-in}

-- what the question tells, from a case of it
tells-by : {edition : Edition} {s table : List ℕ} {row : ℕ} {list : List ℕ} {answer : Related} {after list_after : List ℕ}
    → Relates edition s table row (length list) list answer after list_after → Tells edition s table row list answer after list_after
unfolding related_list
tells-by {edition} {s} {table} {row} {list} r =
    let n = ap (λ (a : Related). a.number) r.answered in
    record { answer_is = sym r.answered; table_is = sym r.tabled; list_is = sym (r.filled ∙ rw n) }

module _ (edition : Edition) (s table : List ℕ) (row room : ℕ) where
  abbrev Given : Related → Type 0
  Given a = Answered s (16 ∷ 20 ∷ 25 ∷ []) a.number a.place

  told-by : (l : Letter) → letter_in edition s ≡ l → Given (related_by l table row room)
  told-by (refusal number place headers) e = told-small (16 ∷ 20 ∷ 25 ∷ []) (small-in edition s number place headers e)
  told-by (letter headers elements) e =
      cond-holds Given (too_few_rows table elements) (λ _. told-own s (16 ∷ 20 ∷ 25 ∷ []) 16 refl) (λ _.
      cond-holds Given (leb (length elements) row) (λ _. told-own s (16 ∷ 20 ∷ 25 ∷ []) 20 refl) (λ _.
      cond-holds Given (ltb room (length (children elements row))) (λ _. told-own s (16 ∷ 20 ∷ 25 ∷ []) 25 refl) (λ _. told-zero s (16 ∷ 20 ∷ 25 ∷ []))))

abbrev Counts : Related → Type 0
Counts a = (a.number ≡ 0 → ⊥) → (a.children ≡ 0) × ((a.number ≡ 25 → ⊥) → a.elements ≡ 0)

counts-by : (table : List ℕ) (row room : ℕ) (l : Letter) → Counts (related_by l table row room)
counts-by table row room (refusal number place headers) = λ n. (refl, λ _. refl)
counts-by table row room (letter headers elements) =
    cond-holds Counts (too_few_rows table elements) (λ _ n. (refl, λ _. refl)) (λ _.
    cond-holds Counts (leb (length elements) row) (λ _ n. (refl, λ _. refl)) (λ _.
    cond-holds Counts (ltb room (length (children elements row))) (λ _ n. (refl, λ m. absurd (m refl))) (λ _ n. absurd (n refl))))

pub family : (edition : Edition) → Family edition
unfolding related related_table related_list
family edition = record {
  told = λ s table row room. told-by edition s table row room (letter_in edition s) refl;
  counts = λ s table row room. counts-by table row room (letter_in edition s);
  untouched = λ s table row list n. rw (ne_eqb (related edition s table row (length list)).number 0 n);
  table_untouched = λ s table row room n m. rw (ne_eqb (related edition s table row room).number 0 n, ne_eqb (related edition s table row room).number 25 m);
  table_finished = λ s table row room e. rw e;
  of_letter = λ s headers elements e.
      let apart = accepted-apart edition (tree_of s) elements (letter-found edition s headers elements e).judged in
      record {
        last = λ table j l. table-tells edition s e (counted edition s headers elements e) table j l;
        exactly = λ j p. (parent_is elements apart j p, none-missed elements apart j p);
        ends = climb-ends elements apart;
        no_own_ancestor = no_own_ancestor elements apart;
        normal = λ within j. let again = normal_accepted edition s headers elements e within in rw again;
        exactly_children = λ row j. (
          λ m. children-are elements row j (in-member j (children elements row) m.0 m.1),
          λ p. member-in j (children elements row)
              (children-all elements row j p),
        );
        ordered = λ row i k c d. sorted-at ◌<◌ (children elements row) (children-sorted elements row) i k c d;
        tells_16 = λ table row list few. tells-by (relates-16 edition s table row (length list) list headers _ elements e refl few);
        tells_20 = λ table row list enough past. tells-by (relates-20 edition s table row (length list) list headers _ elements e refl enough past);
        tells_25 = λ table row list enough below short.
            tells-by (relates-25 edition s table row (length list) list headers _ elements e refl enough below _ refl short);
        tells = λ table row list enough below room.
            tells-by (relates-letter edition s table row (length list) list headers _ elements e refl enough below _ refl room);
      };
  of_refusal = λ s number place headers e table row list. tells-by (relates-refused edition s table row (length list) list number place headers e);
}
