-- The letter that is made of entries that fit, and is within the limit, reads as promised: it codes its tree (`Coding`), no element is refused
-- (`Judging`), and its matches are counted off (`Matching`).
use mathlib.Core.Path.{◌≡◌, ap, ◌∙◌}
use mathlib.Core.Bool.{false}
use mathlib.Core.List.{List, []}
use Prim.Native.Nat.{ℕ, ◌≤◌}
use native.Mathlib.Omega.{arith}
use lib.ListN.{length}
use Rattle.octets.specs.Walk.{stream_limit, deepest}
use Rattle.octets.proofs.RulesHold.{derives}
use Rattle.tree.specs.Accepts.{Accepts}
use Rattle.tree.proofs.Meaning.{accepts}
use Rattle.runs.proofs.Laws.{stream-count}
use Rattle.normal.specs.Normal.{normal_of}
use Rattle.elements.specs.declared.Edition.{Edition}
use Rattle.elements.specs.Judge.{judge}
use Rattle.letters.proofs.Apart.{accepted-apart}
use Rattle.letters.specs.Letter.{letter}
use Rattle.letters.proofs.Letters.{accepted-letter}
use Rattle.promises.specs.Demands.{item_count}
use Rattle.promises.proofs.Telling.{count-tree}
use Rattle.making.specs.Entries.{Said}
use Rattle.making.specs.Stream.{letter_tree, stream_of}
use Rattle.promises_made.specs.Reads.{elements_of, items_for}
use Rattle.promises_made.specs.Editions.{TakesAll}
use Rattle.promises_made.specs.Promises.{Reads}
use Rattle.making.proofs.Fitting.{AllFit}
use Rattle.promises_made.proofs.Judging.{judged}
use Rattle.promises_made.proofs.Coding.{codable-codes, letter-codable, letter-items}
use Rattle.promises_made.proofs.Matching.{unit_there, layout-list, logical-list}

-- whatever the entries say, rules 1 to 8 accept the stream, with its tree
pub stream-accepted : (said : List Said) → length (stream_of said) ≤ stream_limit → Accepts (stream_of said) (letter_tree said)
stream-accepted said within = accepts (stream_of said) (letter_tree said) (codable-codes deepest (letter_tree said) (letter-codable said) (omega arith)) within

-- its header count
headers-made : (said : List Said) (a : Accepts (stream_of said) (letter_tree said)) → a.headers ≡ items_for (length said)
headers-made said a =
    (stream-count (stream_of said) a.at a.headers a.ended).1
    ∙ count-tree (derives deepest (stream_of said) 0 (length (stream_of said)) false (omega arith))
    ∙ ap item_count a.tree ∙ letter-items said

-- The letter reads as promised, in any edition that takes its elements.
pub reads : (edition : Edition) → TakesAll edition → (said : List Said) → AllFit [] said → length (stream_of said) ≤ stream_limit → Reads edition said
reads edition takes said f within =
    let a = stream-accepted said within in
    let j = judged edition takes said f in
    let apart = accepted-apart edition (letter_tree said) (elements_of said) j in
    record {
      accepted = accepted-letter edition (stream_of said) a.at a.headers (elements_of said) a.ended (ap (judge edition) a.tree ∙ j)
          ∙ ap (λ (n : ℕ). letter n (elements_of said)) (headers-made said a);
      tree = a.tree;
      own_form = ap normal_of a.tree;
      layout = layout-list said apart;
      logical = logical-list said apart;
      unit = unit_there said;
    }
