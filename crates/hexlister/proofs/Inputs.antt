-- What is printed is the output of the text that was read, whatever its blocks were, and of all that follows a line that cannot be read: by what
-- `lister_hex` promises of any cutting.
use mathlib.Core.Path.{◌≡◌, refl, sym, ap, subst, ◌∙◌}
use mathlib.Core.Bool.{Bool, true, false}
use mathlib.Core.List.{List, [], ◌∷◌, ◌++◌, flatten, append-nil}
use Prim.Native.Nat.{ℕ, ◌<◌, min}
use lib.ListN.{length, take}
use native.Mathlib.Omega.{arith}
use lib.Dec.{eqb}
use borrow.Author.Tests.{eqb-true}
use borrow.Table.Steps.{cases}
use Rattle.std.specs.Prelude.{Result, Ok, Err, None, Some, IfSome}
use Rattle.std.specs.Io.{ReadsAtMost}
use Rattle.std.specs.Io.KnownBytes.{ReadConsumes, Consumes, IsAtEnd}
use Rattle.std.proofs.KnownBytes.{Consumes-nil, Consumes-trans}
use Rattle.std.specs.declared.option.Option.{Option}
use Rattle.lister_hex.specs.declared.State.{State}
use Rattle.lister_hex.specs.declared.State.TheVariants.{Pairs, Half, Stopped}
use Rattle.lister_hex.specs.Lines.{input_limit, TextMeaning, reads}
use Rattle.lister_hex.specs.Lines as hex
use Rattle.lister_hex.specs.Blocks.{Standing, standing, started, fed, finished}
use Rattle.lister_hex.specs.Promise.{Answers}
use Rattle.lister_hex.proofs.Blocks.{fed-join, fed-stopped, fed-flatten}
use Rattle.lister_hex.proofs.Promise.{any-cutting}
use Rattle.hexlister.specs.Output.{stream_lines, outcome_lines, output}
use Rattle.hexlister.specs.declared.Turn.{Turn}
use Rattle.hexlister.specs.declared.Turn.TheVariants.{More, Over, Broken}
use Rattle.hexlister.specs.Inputs.{Leads, given, is_stopped, over, state_after, turn_of, TakesIn, Heard, read_lines, Prints, PrintsAll}

-- what was read of a reader, whose bytes before and after may be known: where they are, it is the first of them
pub record HeardFrom (before after : Option (List ℕ)) (lent : List ℕ) (state : State) (octets : List ℕ) : Type 0 where
  pub text : List ℕ
  pub leads : Leads text lent state octets
  pub taken : Consumes before after text

pub heard-of : {before after : Option (List ℕ)} {lent octets : List ℕ} {state : State} → HeardFrom before after lent state octets → Heard lent state octets
heard-of h = record { text = h.text; leads = h.leads }

-- nothing was read yet
pub heard-nothing : (known : Option (List ℕ)) (lent : List ℕ) {state : State} → state ≡ started → HeardFrom known known lent state lent
unfolding fed
heard-nothing known lent e = record { text = []; leads = ap (λ (s : State). standing s lent) e; taken = Consumes-nil known }

-- what `read` gave are the first of the bytes that were left
given-first :
    {E : Type 0} (before after : Option (List ℕ)) (got : Result ℕ E) (block : List ℕ) →
    ReadsAtMost got block →
    ReadConsumes before after got block →
    Consumes before after (take (given got block) block)
given-first before after (Ok n) block most read =
    let e : min n (length block) ≡ n = omega (arith, most.0) in
    rw e read.0
given-first None after (Err e) block most read = tt
given-first (Some xs) None (Err e) block most read = absurd read
given-first (Some xs) (Some ys) (Err e) block most read = sym read

-- a block more
pub heard-more :
    {E : Type 0} {before middle last : Option (List ℕ)} {lent octets block after : List ℕ} {state : State} (next : State) {got : Result ℕ E}
    {turn : Turn} →
    HeardFrom before middle lent state octets →
    ReadsAtMost got block →
    ReadConsumes middle last got block →
    TakesIn state octets got block turn after →
    state_after state turn ≡ next →
    HeardFrom before last lent next after
heard-more {before = before} {middle} {last} {lent} {block = block} {after} {state} next {got} h most read t e = record {
  text = h.text ++ take (given got block) block;
  leads = ap (λ (s : State). standing s after) (sym e) ∙ t.leads
      ∙ ap (λ (u : Standing). fed u (take (given got block) block)) h.leads
      ∙ fed-join (standing started lent) h.text (take (given got block) block);
  taken = Consumes-trans before middle last h.text (take (given got block) block) h.taken (given-first middle last got block most read);
}

-- a read that failed gave nothing
pub broke :
    {E : Type 0} {got : Result ℕ E} {state : State} {octets block : List ℕ} (e : E) →
    got ≡ Err e →
    TakesIn state octets got block Broken octets
unfolding fed
broke e failed = rw failed (record { leads = refl; told = refl })

-- what was counted was read on
pub took-last :
    {E : Type 0} {got : Result ℕ E} {count n : ℕ} {state next : State} {octets block after : List ℕ} {r : Bool} →
    got ≡ Ok count →
    n ≡ min count (length block) →
    standing next after ≡ fed (standing state octets) (take n block) →
    r ≡ over n next →
    r ≡ true →
    TakesIn state octets got block (Over next) after
took-last {next = next} e counted read-on tested is =
    let over-is : over (min _ _) next ≡ true = ap (λ (k : ℕ). over k next) (sym counted) ∙ sym tested ∙ is in
    rw e (record { leads = rw counted at read-on; told = rw over-is })

pub took-on :
    {E : Type 0} {got : Result ℕ E} {count n : ℕ} {state next : State} {octets block after : List ℕ} {r : Bool} →
    got ≡ Ok count →
    n ≡ min count (length block) →
    standing next after ≡ fed (standing state octets) (take n block) →
    r ≡ over n next →
    r ≡ false →
    TakesIn state octets got block (More next) after
took-on {next = next} e counted read-on tested is =
    let over-is : over (min _ _) next ≡ false = ap (λ (k : ℕ). over k next) (sym counted) ∙ sym tested ∙ is in
    rw e (record { leads = rw counted at read-on; told = rw over-is })

-- one block is a cutting
one_block : (text lent : List ℕ) → length lent ≡ input_limit → Answers (reads text) lent (fed (standing started lent) text)
unfolding flatten
one_block text lent full =
    let all : flatten (text ∷ []) ≡ text = append-nil text in
    subst (λ (t : List ℕ). Answers (reads t) lent (fed (standing started lent) t)) all
    (subst (Answers (reads (flatten (text ∷ []))) lent) (fed-flatten (text ∷ []) (standing started lent)) (any-cutting (text ∷ []) lent full))

by-outcome : (outcome : TextMeaning) (lent : List ℕ) (end : Standing) → Answers outcome lent end
    → read_lines (finished end.state) end.out ≡ outcome_lines outcome
by-outcome (hex.stream s) lent end a = rw a.answer (ap stream_lines (a.part s refl))
by-outcome (hex.unreadable line) lent end a = rw a.answer

pub prints : Prints
prints text lent state octets full leads =
    let a = subst (Answers (reads text) lent) (sym leads) (one_block text lent full) in
    by-outcome (reads text) lent (standing state octets) a

pub prints-all : PrintsAll
prints-all text more lent line octets full leads =
    let stays : Leads (text ++ more) lent (Stopped line) octets =
    sym (fed-stopped more line octets) ∙ ap (λ (t : Standing). fed t more) leads ∙ fed-join (standing started lent) text more in
    sym (prints (text ++ more) lent (Stopped line) octets full stays) ∙ prints text lent (Stopped line) octets full leads

-- where a turn was the last, nothing was left to read, or a line could not be read
over-then : {E : Type 0} (got : Result ℕ E) (n : ℕ) (next : State) → Over next ≡ turn_of got n next → over n next ≡ true
over-then (Ok count) n next is = cases (over n next) (λ t. t) (λ t. absurd (let f : Over next ≡ More next = rw t at is in cc))
over-then (Err e) n next is = absurd cc

at-end :
    {E : Type 0} (before after : Option (List ℕ)) (got : Result ℕ E) (block : List ℕ) (next : State) →
    ReadsAtMost got block →
    ReadConsumes before after got block →
    0 < length block →
    Over next ≡ turn_of got (given got block) next →
    is_stopped next ≡ false →
    IsAtEnd after
at-end {E} before after (Ok n) block next most read some is on =
    let e : min n (length block) ≡ n = omega (arith, most.0) in
    let o = rw e at (over-then {E = E} (Ok n) (min n (length block)) next is) in
    let none : n ≡ 0 = cases (eqb n 0) (λ t. eqb-true n 0 t) (λ t. absurd (let f : is_stopped next ≡ true = rw t at o in cc)) in
    read.1 none some
at-end before after (Err e) block next most read some is on = absurd cc

-- at the end what is printed is the output of all that the reader had
all-of :
    (before after : Option (List ℕ)) {lent octets : List ℕ} (state : State) →
    length lent ≡ input_limit →
    HeardFrom before after lent state octets →
    (is_stopped state ≡ false → IsAtEnd after) →
    IfSome before (λ text. read_lines (finished state) octets ≡ output text)
all-of None after state full h end = tt
all-of (Some xs) None state full h end = absurd h.taken
all-of (Some xs) (Some ys) {lent} {octets} (Stopped line) full h end =
    prints h.text lent (Stopped line) octets full h.leads ∙ sym (prints-all h.text ys lent line octets full h.leads) ∙ ap output (sym h.taken)
all-of (Some xs) (Some ys) {lent} {octets} (Pairs count line) full h end =
    let e : ys ≡ [] = end refl in
    prints h.text lent (Pairs count line) octets full h.leads ∙ ap output (sym (h.taken ∙ rw e (append-nil h.text)))
all-of (Some xs) (Some ys) {lent} {octets} (Half count line first) full h end =
    let e : ys ≡ [] = end refl in
    prints h.text lent (Half count line first) octets full h.leads ∙ ap output (sym (h.taken ∙ rw e (append-nil h.text)))

pub prints-known :
    {E : Type 0} (before middle last : Option (List ℕ)) {lent octets block after : List ℕ} {state : State} (next : State) {got : Result ℕ E}
    {turn : Turn} →
    length lent ≡ input_limit →
    HeardFrom before middle lent state octets →
    ReadsAtMost got block →
    ReadConsumes middle last got block →
    0 < length block →
    TakesIn state octets got block turn after →
    turn ≡ Over next →
    IfSome before (λ text. read_lines (finished next) after ≡ output text)
prints-known before middle last {block = block} {state = state} next {got} full h most read some t e =
    let is : Over next ≡ turn_of got (given got block) next = rw e at t.told in
    all-of before last next full (heard-more next h most read t (rw e)) (at-end middle last got block next most read some is)
