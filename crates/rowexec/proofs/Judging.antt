-- What a run over a domain comes to once its joined evidence is judged.
use Rattle.std.proofs.Common.{◌≡◌, ◌∙◌, ◌≢◌, ℕ, true, List, Option, None, Some, Result, Ok, Err, ap, arith, refl, subst, sym}
use Rattle.std.specs.Prelude.{⊤, MatchOption, MatchResult}
use Rattle.colbase.specs.Arrays.{Array, row}
use Rattle.coltypes.specs.Cell.{Cell}
use Rattle.coltypes.specs.declared.fault.Fault.{Fault}
use Rattle.coltypes.specs.declared.fault.RowError.{RowError}
use Rattle.rowtypes.specs.Rows.{shown_from}
use Rattle.rowplan.specs.Law.{RowLaw}
use Rattle.rowplan.specs.Outcomes.{judged}
use Rattle.rowplan.specs.declared.batch_plan.RowPolicy.TheVariants.{Dense}
use Rattle.rowloops.specs.Answers.{AttemptIs}
use Rattle.rowloops.specs.Domain.{Domain}
use Rattle.rowloops.specs.declared.attempt.Attempt.{Attempt}
use Rattle.rowloops.specs.declared.attempt.Attempt.TheVariants.{Rejected, Values}
use Rattle.rowexec.specs.RowRuns.{AttemptOver, ColumnOver, JoinedOver, JudgedAs, Ran, RanOver, selected_cells}
use Rattle.rowexec.proofs.Joining.{JoinedRows}

judged_accepted : (o : Option ℕ) → Ok tt ≡ judged o → o ≡ None
judged_accepted None h = refl
judged_accepted (Some code) h = absurd (cc)

judged_error : (o : Option ℕ) (error : RowError) → Err error ≡ judged o → o ≡ Some error.0
judged_error None error h = absurd (cc)
judged_error (Some code) error h = let same : error ≡ record { 0 = code } = cc in ap (λ (e : RowError). Some e.0) (sym same)

selected_there : (shown : ℕ → Array → ℕ → Cell) (columns : List Array) (domain : Domain) (i : ℕ) → domain.selected i ≡ true → selected_cells shown columns domain i ≡ Some (shown_from shown 0 columns i)
selected_there shown columns domain i e = rw e refl

-- a run whose joined evidence is judged
pub attempt_over : {E X R : Type 0} (Post : Result ⊤ RowError → Type 0) (in_range : E → Type 0) (law : RowLaw E) (join : E → E → E) (neutral : E) (cells : X → List Cell) (states : R → Cell) (post : X → R × E → Type 0) (columns : List Array) (domain : Domain) (total : E) (values : Array) (attempt : Attempt)
    → law.deferred ≡ true → law.policy ≢ Dense → JoinedOver law join neutral cells states post columns domain values total
    → JoinedRows in_range law (selected_cells law.arguments.shown columns domain) (λ i. row values (domain.place i)) domain.width total
    → ((r : Result ⊤ RowError) → Post r → r ≡ judged (law.finish total)) → AttemptIs Post values attempt → AttemptOver law columns domain attempt
attempt_over Post in_range law join neutral cells states post columns domain total values (Values a) deferred undense j rows finishes h =
    let accepted = judged_accepted (law.finish total) (finishes (Ok tt) h.0) in
    let column : ColumnOver law columns domain values = record {
      stored = j.stored;
      counted = j.counted;
      each = λ i lt s. rows.rows accepted i (shown_from law.arguments.shown 0 columns i) lt (selected_there law.arguments.shown columns domain i s);
      full = j.full;
      read = j.read;
      accepted = ap law.finish (sym rows.is) ∙ accepted;
    } in
    subst (ColumnOver law columns domain) (sym h.1) column
attempt_over Post in_range law join neutral cells states post columns domain total values (Rejected error) deferred undense j rows finishes h = record {
  is_deferred = deferred;
  undense = undense;
  judged = ap law.finish (sym rows.is) ∙ judged_error (law.finish total) error (finishes (Err error) h);
  full = j.full;
  read = j.read;
}

-- the same of what the run answered
pub judged_ran : {E V : Type 0} (Post : V → Result ⊤ RowError → Type 0) (law : RowLaw E) (columns : List Array) (domain : Domain) (Gives : Array × V → Type 0) (told : Result (Option (Array × V)) Fault) (answer : Result (Option Attempt) Fault) (told_prepares told_steps prepares steps : ℕ)
    → JudgedAs Post told answer → prepares ≡ told_prepares → steps ≡ told_steps → ((r : Array × V) (attempt : Attempt) → Gives r → AttemptIs (Post r.1) r.0 attempt → AttemptOver law columns domain attempt)
    → Ran law columns domain Gives told told_prepares told_steps → RanOver law columns domain answer prepares steps
judged_ran Post law columns domain Gives (Ok (Some r)) (Ok (Some attempt)) told_prepares told_steps prepares steps same p s judge ran = record {
  answered = judge r attempt ran.answered same;
  declines = ran.declines;
  prepared = omega (arith, p, ran.prepared);
  most = omega (arith, s, ran.most);
  least = omega (arith, s, ran.least);
}
judged_ran Post law columns domain Gives (Ok (Some r)) (Ok None) told_prepares told_steps prepares steps same p s judge ran = absurd same
judged_ran Post law columns domain Gives (Ok (Some r)) (Err e) told_prepares told_steps prepares steps same p s judge ran = absurd same
judged_ran Post law columns domain Gives (Ok None) answer told_prepares told_steps prepares steps same p s judge ran =
    let Of : Result (Option Attempt) Fault → Type 0 = λ r. RanOver law columns domain r prepares steps in
    subst Of (sym same) (record { answered = (p ∙ ran.answered.0, s ∙ ran.answered.1); declines = ran.declines; prepared = omega (arith, p, ran.prepared); most = omega (arith, s, ran.most); least = tt })
judged_ran Post law columns domain Gives (Err e) answer told_prepares told_steps prepares steps same p s judge ran =
    let Of : Result (Option Attempt) Fault → Type 0 = λ r. RanOver law columns domain r prepares steps in
    subst Of (sym same) (record { answered = ran.answered; declines = tt; prepared = omega (arith, p, ran.prepared); most = omega (arith, s, ran.most); least = tt })

-- and where nothing can be rejected
pub accepted_ran : {E V : Type 0} (law : RowLaw E) (columns : List Array) (domain : Domain) (Gives : Array × V → Type 0) (told : Result (Option (Array × V)) Fault) (answer : Result (Option Attempt) Fault) (told_prepares told_steps prepares steps : ℕ)
    → MatchResult told (λ o. MatchOption o (answer ≡ Ok None) (λ r. answer ≡ Ok (Some (Values r.0)))) (λ e. answer ≡ Err e) → prepares ≡ told_prepares → steps ≡ told_steps
    → ((r : Array × V) → Gives r → ColumnOver law columns domain r.0) → Ran law columns domain Gives told told_prepares told_steps → RanOver law columns domain answer prepares steps
accepted_ran law columns domain Gives (Ok (Some r)) answer told_prepares told_steps prepares steps same p s accept ran =
    let Of : Result (Option Attempt) Fault → Type 0 = λ q. RanOver law columns domain q prepares steps in
    subst Of (sym same) (record { answered = accept r ran.answered; declines = ran.declines; prepared = omega (arith, p, ran.prepared); most = omega (arith, s, ran.most); least = omega (arith, s, ran.least) })
accepted_ran law columns domain Gives (Ok None) answer told_prepares told_steps prepares steps same p s accept ran =
    let Of : Result (Option Attempt) Fault → Type 0 = λ q. RanOver law columns domain q prepares steps in
    subst Of (sym same) (record { answered = (p ∙ ran.answered.0, s ∙ ran.answered.1); declines = ran.declines; prepared = omega (arith, p, ran.prepared); most = omega (arith, s, ran.most); least = tt })
accepted_ran law columns domain Gives (Err e) answer told_prepares told_steps prepares steps same p s accept ran =
    let Of : Result (Option Attempt) Fault → Type 0 = λ q. RanOver law columns domain q prepares steps in
    subst Of (sym same) (record { answered = ran.answered; declines = tt; prepared = omega (arith, p, ran.prepared); most = omega (arith, s, ran.most); least = tt })

-- what holds of the rows that ran, where any did
pub joined_ranged : {E X : Type 0} (law : RowLaw E) (columns : List Array) (domain : Domain) (Gives P : X → Type 0) (told : Result (Option X) Fault) (prepares steps : ℕ) → ((x : X) → Gives x → P x) → Ran law columns domain Gives told prepares steps → MatchResult told (λ o. MatchOption o ⊤ P) (λ e. ⊤)
joined_ranged law columns domain Gives P (Ok (Some x)) prepares steps f ran = f x ran.answered
joined_ranged law columns domain Gives P (Ok None) prepares steps f ran = tt
joined_ranged law columns domain Gives P (Err e) prepares steps f ran = tt
