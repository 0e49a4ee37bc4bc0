-- Two outcomes that one contract allows are equal: each is the definition.
use mathlib.Core.Path.{◌≡◌, sym, ◌∙◌}
use mathlib.Core.List.{List}
use Prim.Native.Nat.{ℕ}
use Rattle.elements.specs.declared.Edition.{Edition}
use Rattle.reading.specs.declared.Match.{Match}
use Rattle.reading.specs.declared.Side.{Side}
use Rattle.answers.specs.declared.Checked.{Checked}
use Rattle.answers.specs.declared.Written.{Written}
use Rattle.answers.specs.declared.Listed.{Listed}
use Rattle.answers.specs.declared.Reason.{Reason}
use Rattle.answers.specs.declared.Found.{Found}
use Rattle.answers.specs.declared.Copied.{Copied}
use Rattle.answers.specs.declared.Dated.{Dated}
use Rattle.answers.specs.declared.FirstDated.{FirstDated}
use Rattle.answers.specs.declared.Related.{Related}
use Rattle.answers.specs.declared.TextRead.{TextRead}
use Rattle.answers.specs.declared.Sourced.{Sourced}
use Rattle.answers.specs.Dates.{DateOutcome, DatePartOutcome}
use Rattle.answers.specs.FirstDates.{FirstDateOutcome}
use Rattle.answers.specs.Related.{ChildrenOutcome}
use Rattle.answers.specs.Text.{TextOutcome}
use Rattle.answers.specs.Sources.{SourcesOutcome}
use Rattle.answers.specs.Short.{ShortOutcome}
use Rattle.order.specs.declared.Class.{Class}
use Rattle.order.specs.declared.Ordered.{Ordered}
use Rattle.order.specs.Question.{OrderIs}
use Rattle.order.proofs.Letters.{answered}
use Rattle.answers.specs.Answers.{CheckOutcome, NormalOutcome, ListOutcome, PartOutcome, WhyOutcome, LocatedOutcome, JoinedOutcome}

pub check-determined : {edition : Edition} {s table : List ℕ} {a b : Checked} {t u : List ℕ} → CheckOutcome edition s table a t
    → CheckOutcome edition s table b u → (a ≡ b) × (t ≡ u)
check-determined x y = (x.answered ∙ sym y.answered, x.tabled ∙ sym y.tabled)

pub normal-determined : {edition : Edition} {s out : List ℕ} {a b : Written} {t u : List ℕ} → NormalOutcome edition s out a t → NormalOutcome edition s out b u
    → (a ≡ b) × (t ≡ u)
normal-determined x y = (x.answered ∙ sym y.answered, x.put ∙ sym y.put)

pub short-determined : {edition : Edition} {s out : List ℕ} {a b : Written} {t u : List ℕ} → ShortOutcome edition s out a t → ShortOutcome edition s out b u
    → (a ≡ b) × (t ≡ u)
short-determined x y = (x.answered ∙ sym y.answered, x.put ∙ sym y.put)

pub list-determined : {edition : Edition} {side : Side} {s table : List ℕ} {list : List Match} {a b : Listed} {t u : List ℕ} {m n : List Match}
    → ListOutcome edition side s table list a t m → ListOutcome edition side s table list b u n → (a ≡ b) × (t ≡ u) × (m ≡ n)
list-determined x y = (x.answered ∙ sym y.answered, x.tabled ∙ sym y.tabled, x.filled ∙ sym y.filled)

-- the octets of the part; where in memory an empty part lies is left open
pub content-determined : (edition : Edition) (s : List ℕ) (asked : ℕ) (p q : List ℕ) → PartOutcome edition s asked p → PartOutcome edition s asked q → p ≡ q
content-determined edition s asked p q x y = x ∙ sym y

pub why-determined : (edition : Edition) (s : List ℕ) (asked : ℕ) (a b : Reason) → WhyOutcome edition s asked a → WhyOutcome edition s asked b → a ≡ b
why-determined edition s asked a b x y = x ∙ sym y

pub located-determined : (edition : Edition) (s : List ℕ) (asked : ℕ) (a b : Found) → LocatedOutcome edition s asked a → LocatedOutcome edition s asked b
    → a ≡ b
located-determined edition s asked a b x y = x ∙ sym y

pub joined-determined : {edition : Edition} {s : List ℕ} {asked : ℕ} {out : List ℕ} {a b : Copied} {t u : List ℕ}
    → JoinedOutcome edition s asked out a t → JoinedOutcome edition s asked out b u → (a ≡ b) × (t ≡ u)
joined-determined x y = (x.answered ∙ sym y.answered, x.put ∙ sym y.put)

pub children-determined : {edition : Edition} {s table : List ℕ} {row : ℕ} {list : List ℕ} {a b : Related} {t u m n : List ℕ}
    → ChildrenOutcome edition s table row list a t m → ChildrenOutcome edition s table row list b u n → (a ≡ b) × (t ≡ u) × (m ≡ n)
children-determined x y = (x.answered ∙ sym y.answered, x.tabled ∙ sym y.tabled, x.filled ∙ sym y.filled)

pub date-determined : (edition : Edition) (s : List ℕ) (a b : Dated) → DateOutcome edition s a → DateOutcome edition s b → a ≡ b
date-determined edition s a b x y = x ∙ sym y

pub date-part-determined : (edition : Edition) (s p q : List ℕ) → DatePartOutcome edition s p → DatePartOutcome edition s q → p ≡ q
date-part-determined edition s p q x y = x ∙ sym y

pub first-date-determined : (edition : Edition) (s : List ℕ) (a b : FirstDated) → FirstDateOutcome edition s a → FirstDateOutcome edition s b → a ≡ b
first-date-determined edition s a b x y = x ∙ sym y

pub order-determined : (edition : Edition) (class : Class) (s : List ℕ) (a b : Ordered) → OrderIs edition class s a → OrderIs edition class s b → a ≡ b
order-determined edition class s = (answered edition class s).one

pub text-determined : {edition : Edition} {side : Side} {s table lines out : List ℕ} {a b : TextRead} {t u l m o p : List ℕ}
    → TextOutcome edition side s table lines out a t l o → TextOutcome edition side s table lines out b u m p → (a ≡ b) × (t ≡ u) × (l ≡ m) × (o ≡ p)
text-determined x y = (x.answered ∙ sym y.answered, x.tabled ∙ sym y.tabled, x.filled ∙ sym y.filled, x.put ∙ sym y.put)

pub sources-determined : {edition : Edition} {side : Side} {s list : List ℕ} {a b : Sourced} {l m : List ℕ}
    → SourcesOutcome edition side s list a l → SourcesOutcome edition side s list b m → (a ≡ b) × (l ≡ m)
sources-determined x y = (x.answered ∙ sym y.answered, x.filled ∙ sym y.filled)
