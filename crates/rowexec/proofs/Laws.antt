-- The laws of joining and judging evidence, of a function's own join and neutral value.
use Rattle.std.proofs.Common.{◌≡◌, ◌∙◌, ℕ, Bool, List, Option, None, ap, sym, subst}
use Rattle.bitlane.specs.Evidence.{JoinLaws}
use Rattle.coltypes.specs.Cell.{Cell}
use Rattle.rowplan.specs.Law.{Lawful, RowLaw}
use Rattle.rowplan.specs.Outcomes.{FinishLaws}
use Rattle.rowexec.specs.Evidence.{joined}

-- the neutral evidence is accepted
pub accepts_neutral : {E : Type 0} {law : RowLaw E} {arity : ℕ} {infallible : Bool} {in_range : E → Type 0} {join : E → E → E} {neutral : E} → Lawful law arity infallible in_range join neutral → law.finish law.neutral ≡ None
accepts_neutral {law = law} h = ap law.finish h.neutral_is ∙ h.finish_laws.accepts_neutral

-- the law's join and neutral value have the laws of their type
pub joins_lawfully : {E : Type 0} {law : RowLaw E} {arity : ℕ} {infallible : Bool} {in_range : E → Type 0} {join : E → E → E} {neutral : E} → Lawful law arity infallible in_range join neutral → JoinLaws E in_range join neutral → JoinLaws E in_range law.join law.neutral
joins_lawfully {E} {law = law} {in_range = in_range} {join = join} {neutral = neutral} h laws =
    let ByJoin : (E → E → E) → Type 0 = λ j. JoinLaws E in_range j neutral in
    let ByNeutral : E → Type 0 = λ v. JoinLaws E in_range law.join v in
    subst ByNeutral (sym h.neutral_is) (subst ByJoin (sym h.join_is) laws)

-- what a loop joined by the type's join is joined by the law's
pub joined_as : {E : Type 0} {law : RowLaw E} {arity : ℕ} {infallible : Bool} {in_range : E → Type 0} {join : E → E → E} {neutral : E} (cells : ℕ → Option (List Cell)) (n : ℕ) → Lawful law arity infallible in_range join neutral → joined join neutral law.meaning cells n ≡ joined law.join law.neutral law.meaning cells n
joined_as {E} {law = law} {join = join} {neutral = neutral} cells n h =
    ap (λ (j : E → E → E). joined j neutral law.meaning cells n) (sym h.join_is) ∙ ap (λ (v : E). joined law.join v law.meaning cells n) (sym h.neutral_is)

-- and so does its judgement
pub judges_lawfully : {E : Type 0} {law : RowLaw E} {arity : ℕ} {infallible : Bool} {in_range : E → Type 0} {join : E → E → E} {neutral : E} → Lawful law arity infallible in_range join neutral → FinishLaws E in_range law.join law.neutral law.finish
judges_lawfully {E} {law = law} {in_range = in_range} {join = join} {neutral = neutral} h =
    let ByJoin : (E → E → E) → Type 0 = λ j. FinishLaws E in_range j neutral law.finish in
    let ByNeutral : E → Type 0 = λ v. FinishLaws E in_range law.join v law.finish in
    subst ByNeutral (sym h.neutral_is) (subst ByJoin (sym h.join_is) h.finish_laws)
