-- What the runs of a call answer, and by how many calls: of an attempt, of the run after it, and of the rows that the policy selects.
use Rattle.std.proofs.Common.{◌≡◌, ◌∙◌, ◌≤◌, ◌+◌, ℕ, true, false, List, Option, None, Some, Result, Ok, Err, ap, arith, sym, subst}
use Rattle.coltypes.specs.Keep.{trues}
use Rattle.coltypes.specs.declared.fault.Fault.{Fault}
use Rattle.coltypes.specs.declared.fault.RowError.{RowError}
use Rattle.colbase.specs.Arrays.{Array}
use Rattle.rowplan.specs.Law.{RowLaw}
use Rattle.rowplan.specs.declared.batch_plan.RowPolicy.{RowPolicy}
use Rattle.rowplan.specs.declared.batch_plan.RowPolicy.TheVariants.{DenseWithRetry}
use Rattle.rowloops.specs.Domain.{all_rows}
use Rattle.rowloops.specs.declared.attempt.Attempt.{Attempt}
use Rattle.rowloops.specs.declared.attempt.Attempt.TheVariants.{Rejected, Values}
use Rattle.rowexec.specs.Counts.{dense_accepted, full_bits, most_prepares, policy_steps_of, retried, settled, steps_of}
use Rattle.rowexec.specs.RowRuns.{RanOver, RejectedOver, evidence_over}
use Rattle.rowexec.specs.Visits.{RunsCall, RunsSteps, Unsettled}
use Rattle.rowexec.proofs.Deciding.{failed_run, steps_some}
use Rattle.rowexec.proofs.Domains.{unread_fails, valid_all}
use Rattle.rowexec.proofs.Retrying.{after_answered, after_least, retried_within, steps_accepted, steps_least, steps_rejected}
use Rattle.rowexec.proofs.Selected.{trues_below}

-- an attempt that gave values, whose evidence is accepted
pub attempt_values : {E : Type 0} (law : RowLaw E) (columns : List Array) (n : ℕ) (told : Result (Option Attempt) Fault) (o : Option Attempt) (attempt : Attempt) (a : Array) (answer : Result (Option Array) Fault) (prepares steps : ℕ)
    → law.policy ≡ DenseWithRetry → told ≡ Ok o → o ≡ Some attempt → attempt ≡ Values a → answer ≡ Ok (Some a) → RanOver law columns (all_rows n) told prepares steps
    → RunsSteps law columns n (policy_steps_of law columns n) 2 answer prepares steps
attempt_values law columns n told o attempt a answer prepares steps policy is some same given ran =
    let At : Result (Option Attempt) Fault → Type 0 = λ r. RanOver law columns (all_rows n) r prepares steps in
    let there = subst At (is ∙ ap (λ (x : Option Attempt). Ok x) (some ∙ ap (λ (x : Attempt). Some x) same)) ran in
    let asked = steps_accepted law.policy (law.finish (evidence_over law columns (all_rows n))) n columns policy there.answered.accepted in
    steps_some law columns n (policy_steps_of law columns n) 2 answer a prepares steps given (valid_all law columns n a there.answered) (omega (arith, there.prepared)) (omega (arith, asked, there.most)) (omega (arith, asked, there.least))

-- an attempt that failed
pub attempt_failed : {E : Type 0} (law : RowLaw E) (columns : List Array) (n : ℕ) (told : Result (Option Attempt) Fault) (e : Fault) (answer : Result (Option Array) Fault) (prepares steps : ℕ)
    → law.policy ≡ DenseWithRetry → told ≡ Err e → answer ≡ Err e → RanOver law columns (all_rows n) told prepares steps
    → RunsSteps law columns n (policy_steps_of law columns n) 2 answer prepares steps
attempt_failed law columns n told e answer prepares steps policy is given ran =
    let At : Result (Option Attempt) Fault → Type 0 = λ r. RanOver law columns (all_rows n) r prepares steps in
    let there = subst At is ran in
    failed_run law columns n (policy_steps_of law columns n) 2 answer e prepares steps given (unread_fails law columns n e there.answered) (omega (arith, there.prepared)) (omega (arith, steps_least law.policy (dense_accepted law columns n) n columns policy, there.most))

-- a run of all rows declines nothing
pub attempt_there : {E : Type 0} (law : RowLaw E) (columns : List Array) (n : ℕ) (told : Result (Option Attempt) Fault) (o : Option Attempt) (prepares steps : ℕ) → told ≡ Ok o → o ≡ None → RanOver law columns (all_rows n) told prepares steps → ⊥
attempt_there law columns n told o prepares steps is none ran =
    let At : Result (Option Attempt) Fault → Type 0 = λ r. RanOver law columns (all_rows n) r prepares steps in
    let there = subst At (is ∙ ap (λ (x : Option Attempt). Ok x) none) ran in
    let no : false ≡ true = there.declines in
    absurd (cc)

-- what is known of an attempt whose evidence is rejected: its error, and that it ran
pub attempt_rejected : {E : Type 0} (law : RowLaw E) (columns : List Array) (n : ℕ) (told : Result (Option Attempt) Fault) (o : Option Attempt) (attempt : Attempt) (error : RowError) (prepares steps : ℕ)
    → told ≡ Ok o → o ≡ Some attempt → attempt ≡ Rejected error → RanOver law columns (all_rows n) told prepares steps → RejectedOver law columns (all_rows n) error × (n ≤ steps)
attempt_rejected law columns n told o attempt error prepares steps is some same ran =
    let At : Result (Option Attempt) Fault → Type 0 = λ r. RanOver law columns (all_rows n) r prepares steps in
    let there = subst At (is ∙ ap (λ (x : Option Attempt). Ok x) (some ∙ ap (λ (x : Attempt). Some x) same)) ran in
    (there.answered, there.least)

-- no more rows run once more than the attempt ran
pub again_within : (n : ℕ) (columns : List Array) → retried (trues (full_bits n columns)) n ≤ n
again_within n columns = retried_within (trues (full_bits n columns)) n (trues_below _ n)

-- a rejected attempt, and the run of the full rows after it
pub retried_run : {E : Type 0} (law : RowLaw E) (columns : List Array) (n : ℕ) (error : RowError) (first_prepares first_steps : ℕ) (then answer : Result (Option Array) Fault) (then_prepares then_steps prepares steps : ℕ)
    → law.policy ≡ DenseWithRetry → RejectedOver law columns (all_rows n) error → first_prepares ≤ 1 → first_steps ≤ n → n ≤ first_steps
    → RunsSteps law columns n (retried (trues (full_bits n columns)) n) 1 then then_prepares then_steps → answer ≡ then → prepares ≡ first_prepares + then_prepares → steps ≡ first_steps + then_steps
    → RunsSteps law columns n (policy_steps_of law columns n) 2 answer prepares steps
retried_run law columns n error first_prepares first_steps then answer then_prepares then_steps prepares steps policy rejected once most least again same p s =
    let asked = steps_rejected law.policy (law.finish (evidence_over law columns (all_rows n))) error.0 n columns policy rejected.judged in
    record {
      answered = after_answered _ _ then answer same again.answered;
      prepared = omega (arith, p, once, again.prepared);
      most = omega (arith, s, asked, most, again.most);
      least = after_least then answer n (retried (trues (full_bits n columns)) n) (policy_steps_of law columns n) first_steps then_steps steps same least (sym s) asked again.least;
    }

-- a run that asks for the rows of the call, by no more calls of `prepare` than the policy's
pub run_of_call : {E : Type 0} (law : RowLaw E) (columns : List Array) (n asked limit : ℕ) (answer : Result (Option Array) Fault) (prepares steps : ℕ) → asked ≡ steps_of law columns n → limit ≤ most_prepares law.policy
    → RunsSteps law columns n asked limit answer prepares steps → RunsCall law columns n answer prepares steps
run_of_call law columns n asked limit answer prepares steps e once run =
    let Asked : ℕ → Type 0 = λ k. RunsSteps law columns n k limit answer prepares steps in
    let here = subst Asked e run in
    record { answered = here.answered; prepared = omega (arith, once, here.prepared); most = here.most; least = here.least }

pub twice : (p : RowPolicy) → p ≡ DenseWithRetry → 2 ≤ most_prepares p
twice p q = let same = ap most_prepares q in omega (arith, same)

-- where the call isn't settled, neither is any answer
pub unsettled_any : {E : Type 0} (law : RowLaw E) (columns : List Array) (n : ℕ) (r : Result (Option Array) Fault) → settled law.policy n columns ≡ false → Unsettled law columns n r
unsettled_any law columns n (Ok None) h = tt
unsettled_any law columns n (Ok (Some a)) h = h
unsettled_any law columns n (Err e) h = h

pub unsettled_none : {E : Type 0} (law : RowLaw E) (columns : List Array) (n : ℕ) (r : Result (Option Array) Fault) → r ≡ Ok None → Unsettled law columns n r
unsettled_none law columns n r is = subst (Unsettled law columns n) (sym is) tt
