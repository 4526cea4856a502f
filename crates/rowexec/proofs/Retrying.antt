-- What rejected evidence of all rows comes to.
use Rattle.std.proofs.Common.{◌≡◌, ◌≤◌, ◌<◌, ◌+◌, ℕ, Bool, true, false, List, Option, None, Some, Result, Ok, Err, arith, refl, sym, subst}
use Rattle.std.proofs.lemmas.Bool.Decides.{nat_tests}
use Rattle.std.specs.Prelude.{IfOk, MatchResult}
use Rattle.colbase.specs.Arrays.{Array}
use Rattle.coltypes.specs.Keep.{trues}
use Rattle.coltypes.specs.declared.fault.Fault.{Fault}
use Rattle.rowplan.specs.declared.batch_plan.RowPolicy.{RowPolicy}
use Rattle.rowplan.specs.declared.batch_plan.RowPolicy.TheVariants.{DenseWithRetry}
use Rattle.rowexec.specs.Counts.{full_bits, policy_steps, retried}
use Rattle.rowexec.specs.Evidence.{is_accepted}

-- the full rows that run once more
pub retried_some : (full n : ℕ) → full < n → retried full n ≡ full
retried_some full n h = grind (arith, nat_tests, h)

-- no row runs once more where none is full
pub retried_none_full : (full n : ℕ) → full ≡ 0 → retried full n ≡ 0
retried_none_full full n e = grind (arith, nat_tests, e)

accepted_none : (o : Option ℕ) → o ≡ None → is_accepted o ≡ true
accepted_none None e = refl
accepted_none (Some k) e = absurd (cc)

accepted_some : (o : Option ℕ) (k : ℕ) → o ≡ Some k → is_accepted o ≡ false
accepted_some None k e = absurd (cc)
accepted_some (Some j) k e = refl

steps_of_retry : (policy : RowPolicy) (accepted : Bool) (n : ℕ) (columns : List Array) → policy ≡ DenseWithRetry → accepted ≡ true → policy_steps policy accepted n columns ≡ n
steps_of_retry DenseWithRetry true n columns p e = refl
steps_of_retry DenseWithRetry false n columns p e = absurd (cc)
steps_of_retry _ accepted n columns p e = absurd (cc)

steps_again : (policy : RowPolicy) (accepted : Bool) (n : ℕ) (columns : List Array) → policy ≡ DenseWithRetry → accepted ≡ false → policy_steps policy accepted n columns ≡ n + retried (trues (full_bits n columns)) n
steps_again DenseWithRetry false n columns p e = refl
steps_again DenseWithRetry true n columns p e = absurd (cc)
steps_again _ accepted n columns p e = absurd (cc)

-- the rows that run where the evidence of all rows is accepted, and where it is not
pub steps_accepted : (policy : RowPolicy) (judged : Option ℕ) (n : ℕ) (columns : List Array) → policy ≡ DenseWithRetry → judged ≡ None → policy_steps policy (is_accepted judged) n columns ≡ n
steps_accepted policy judged n columns p e = steps_of_retry policy (is_accepted judged) n columns p (accepted_none judged e)

pub steps_rejected : (policy : RowPolicy) (judged : Option ℕ) (code n : ℕ) (columns : List Array) → policy ≡ DenseWithRetry → judged ≡ Some code → policy_steps policy (is_accepted judged) n columns ≡ n + retried (trues (full_bits n columns)) n
steps_rejected policy judged code n columns p e = steps_again policy (is_accepted judged) n columns p (accepted_some judged code e)

-- all rows run at least
pub steps_least : (policy : RowPolicy) (accepted : Bool) (n : ℕ) (columns : List Array) → policy ≡ DenseWithRetry → n ≤ policy_steps policy accepted n columns
steps_least policy true n columns p = omega (arith, steps_of_retry policy true n columns p refl)
steps_least policy false n columns p = omega (arith, steps_again policy false n columns p refl)

-- no more rows run once more than there are
pub retried_within : (full n : ℕ) → full ≤ n → retried full n ≤ n
retried_within full n h = grind (arith, nat_tests, h)

-- the same answer after an earlier visit
pub after_answered : {X : Type 0} (P : X → Type 0) (Fails : Fault → Type 0) (told answer : Result X Fault) → answer ≡ told → MatchResult told P Fails → MatchResult answer P Fails
after_answered {X} P Fails told answer e h =
    let Given : Result X Fault → Type 0 = λ q. MatchResult q P Fails in
    subst Given (sym e) h

pub after_least : {X : Type 0} (told answer : Result X Fault) (first again asked steps more total : ℕ) → answer ≡ told → first ≤ steps → steps + more ≡ total → asked ≡ first + again → IfOk told (λ x. again ≤ more) → IfOk answer (λ x. asked ≤ total)
after_least {X} (Ok x) answer first again asked steps more total e f s t h =
    let Given : Result X Fault → Type 0 = λ q. IfOk q (λ y. asked ≤ total) in
    let enough : asked ≤ total = omega (arith, f, s, t, h) in
    subst Given (sym e) enough
after_least {X} (Err v) answer first again asked steps more total e f s t h =
    let Given : Result X Fault → Type 0 = λ q. IfOk q (λ y. asked ≤ total) in
    subst Given (sym e) tt

pub if_answered : {X : Type 0} (r : Result X Fault) (P : Type 0) → P → IfOk r (λ x. P)
if_answered (Ok x) P h = h
if_answered (Err v) P h = tt
