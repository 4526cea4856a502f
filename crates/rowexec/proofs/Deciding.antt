-- What a run answers for a call, where rejected evidence is a fault.
use Rattle.std.proofs.Common.{◌≡◌, ◌∙◌, ℕ, true, false, List, Option, None, Some, Result, Ok, Err, ap, arith, inl, inr, subst, sym}
use Rattle.std.specs.Prelude.{◌≤◌, ◌⊎◌, IfOk, MatchOption, MatchResult}
use Rattle.colbase.specs.Arrays.{Array}
use Rattle.coltypes.specs.declared.fault.Fault.{Fault}
use Rattle.coltypes.specs.declared.fault.Fault.TheVariants.{Row}
use Rattle.coltypes.specs.declared.fault.RowError.{RowError}
use Rattle.rowtypes.specs.Rows.{DecodeFails}
use Rattle.rowplan.specs.Law.{RowLaw}
use Rattle.rowloops.specs.Domain.{Domain}
use Rattle.rowloops.specs.declared.attempt.Attempt.{Attempt}
use Rattle.rowloops.specs.declared.attempt.Attempt.TheVariants.{Rejected, Values}
use Rattle.rowexec.specs.RowRuns.{ColumnOver, Decides, RanOver, RejectedOver, decodes}
use Rattle.rowexec.specs.Visits.{CallFails, NoneFull, RunsSteps, ValidColumn}
use Rattle.rowexec.proofs.Retrying.{after_answered, if_answered}

-- a run of n rows that gave values, or failed
pub record Decided (Gives : Array → Type 0) (Fails : Fault → Type 0) (n : ℕ) (answer : Result (Option Array) Fault) (prepares steps : ℕ) : Type 0 where
  pub answered : MatchResult answer (λ o. MatchOption o ⊥ Gives) Fails
  pub prepared : prepares ≤ 1
  pub most : steps ≤ n
  pub least : IfOk answer (λ o. n ≤ steps)

pub decided_run : {E : Type 0} (law : RowLaw E) (columns : List Array) (domain : Domain) (Gives : Array → Type 0) (Fails : Fault → Type 0) (told : Result (Option Attempt) Fault) (answer : Result (Option Array) Fault) (told_prepares told_steps prepares steps : ℕ)
    → Decides told answer → prepares ≡ told_prepares → steps ≡ told_steps → (decodes law columns domain ≡ true) ⊎ (answer ≡ Ok None → ⊥)
    → ((a : Array) → ColumnOver law columns domain a → Gives a) → ((error : RowError) → RejectedOver law columns domain error → Fails (Row error)) → ((e : Fault) → DecodeFails law.arguments.reads 0 columns e → Fails e)
    → RanOver law columns domain told told_prepares told_steps → Decided Gives Fails domain.count answer prepares steps
decided_run law columns domain Gives Fails (Ok (Some (Values a))) answer told_prepares told_steps prepares steps is p s through gives rejects fails ran =
    let Of : Result (Option Array) Fault → Type 0 = λ r. Decided Gives Fails domain.count r prepares steps in
    subst Of (sym is) (record { answered = gives a ran.answered; prepared = omega (arith, p, ran.prepared); most = omega (arith, s, ran.most); least = omega (arith, s, ran.least) })
decided_run law columns domain Gives Fails (Ok (Some (Rejected error))) answer told_prepares told_steps prepares steps is p s through gives rejects fails ran =
    let Of : Result (Option Array) Fault → Type 0 = λ r. Decided Gives Fails domain.count r prepares steps in
    subst Of (sym is) (record { answered = rejects error ran.answered; prepared = omega (arith, p, ran.prepared); most = omega (arith, s, ran.most); least = tt })
decided_run law columns domain Gives Fails (Ok None) answer told_prepares told_steps prepares steps is p s (inl d) gives rejects fails ran =
    let no : false ≡ true = subst (λ b. false ≡ b) d ran.declines in
    absurd (cc)
decided_run law columns domain Gives Fails (Ok None) answer told_prepares told_steps prepares steps is p s (inr f) gives rejects fails ran = absurd (f is)
decided_run law columns domain Gives Fails (Err e) answer told_prepares told_steps prepares steps is p s through gives rejects fails ran =
    let Of : Result (Option Array) Fault → Type 0 = λ r. Decided Gives Fails domain.count r prepares steps in
    subst Of (sym is) (record { answered = fails e ran.answered; prepared = omega (arith, p, ran.prepared); most = omega (arith, s, ran.most); least = tt })

-- as the run of a call
pub decided_steps : {E : Type 0} (law : RowLaw E) (columns : List Array) (n k asked : ℕ) (answer : Result (Option Array) Fault) (prepares steps : ℕ)
    → k ≡ asked → Decided (ValidColumn law columns n) (CallFails law columns n) k answer prepares steps → RunsSteps law columns n asked 1 answer prepares steps
decided_steps law columns n k asked (Ok (Some a)) prepares steps e d = record { answered = d.answered; prepared = d.prepared; most = omega (arith, e, d.most); least = omega (arith, e, d.least) }
decided_steps law columns n k asked (Ok None) prepares steps e d = absurd d.answered
decided_steps law columns n k asked (Err f) prepares steps e d = record { answered = d.answered; prepared = d.prepared; most = omega (arith, e, d.most); least = tt }

-- what is given where the answer is known
pub decided_some : {Gives : Array → Type 0} {Fails : Fault → Type 0} {n prepares steps : ℕ} (answer : Result (Option Array) Fault) (o : Option Array) (a : Array) → answer ≡ Ok o → o ≡ Some a → Decided Gives Fails n answer prepares steps → Gives a × (n ≤ steps)
decided_some {Gives} {Fails} {n} {prepares} {steps} answer o a is same d =
    let At : Result (Option Array) Fault → Type 0 = λ r. Decided Gives Fails n r prepares steps in
    let there = subst At (is ∙ ap (λ (x : Option Array). Ok x) same) d in
    (there.answered, there.least)

pub decided_none : {Gives : Array → Type 0} {Fails : Fault → Type 0} {n prepares steps : ℕ} (answer : Result (Option Array) Fault) (o : Option Array) → answer ≡ Ok o → o ≡ None → Decided Gives Fails n answer prepares steps → ⊥
decided_none {Gives} {Fails} {n} {prepares} {steps} answer o is same d =
    let At : Result (Option Array) Fault → Type 0 = λ r. Decided Gives Fails n r prepares steps in
    (subst At (is ∙ ap (λ (x : Option Array). Ok x) same) d).answered

pub decided_err : {Gives : Array → Type 0} {Fails : Fault → Type 0} {n prepares steps : ℕ} (answer : Result (Option Array) Fault) (e : Fault) → answer ≡ Err e → Decided Gives Fails n answer prepares steps → Fails e
decided_err {Gives} {Fails} {n} {prepares} {steps} answer e is d =
    let At : Result (Option Array) Fault → Type 0 = λ r. Decided Gives Fails n r prepares steps in
    (subst At is d).answered

-- the run of a call that gave values or failed, of an answer that is known
pub steps_some : {E : Type 0} (law : RowLaw E) (columns : List Array) (n asked limit : ℕ) (answer : Result (Option Array) Fault) (a : Array) (prepares steps : ℕ) → answer ≡ Ok (Some a) → ValidColumn law columns n a → prepares ≤ limit → steps ≤ asked → asked ≤ steps → RunsSteps law columns n asked limit answer prepares steps
steps_some law columns n asked limit answer a prepares steps is valid p m l =
    let Of : Result (Option Array) Fault → Type 0 = λ r. RunsSteps law columns n asked limit r prepares steps in
    subst Of (sym is) (record { answered = valid; prepared = p; most = m; least = l })

-- an answer without values, where no row is asked for
pub none_run : {E : Type 0} (law : RowLaw E) (columns : List Array) (n asked limit : ℕ) (answer : Result (Option Array) Fault) (prepares steps : ℕ) → answer ≡ Ok None → NoneFull n columns → prepares ≡ 0 → asked ≡ 0 → steps ≡ 0 → RunsSteps law columns n asked limit answer prepares steps
none_run law columns n asked limit answer prepares steps is none p q s = record {
  answered = after_answered _ _ (Ok None) answer is none;
  prepared = omega (arith, p);
  most = omega (arith, s);
  least = if_answered answer (asked ≤ steps) (omega (arith, q));
}

-- a failure that took no call
pub failed_run : {E : Type 0} (law : RowLaw E) (columns : List Array) (n asked limit : ℕ) (answer : Result (Option Array) Fault) (e : Fault) (prepares steps : ℕ) → answer ≡ Err e → CallFails law columns n e → prepares ≤ limit → steps ≤ asked → RunsSteps law columns n asked limit answer prepares steps
failed_run law columns n asked limit answer e prepares steps is fails p s = record {
  answered = after_answered _ _ (Err e) answer is fails;
  prepared = p;
  most = s;
  least = (let Given : Result (Option Array) Fault → Type 0 = λ r. IfOk r (λ o. asked ≤ steps) in subst Given (sym is) tt);
}

-- a run that asks for as many rows
pub asked_run : {E : Type 0} (law : RowLaw E) (columns : List Array) (n k asked limit : ℕ) (answer : Result (Option Array) Fault) (prepares steps : ℕ) → k ≡ asked → RunsSteps law columns n k limit answer prepares steps → RunsSteps law columns n asked limit answer prepares steps
asked_run law columns n k asked limit answer prepares steps e run =
    let Asked : ℕ → Type 0 = λ m. RunsSteps law columns n m limit answer prepares steps in
    subst Asked e run

ok_same : (o p : Option Array) → ◌≡◌ {A = Result (Option Array) Fault} (Ok o) (Ok p) → o ≡ p
ok_same o p e = cc e

err_none : (e : Fault) → ◌≡◌ {A = Result (Option Array) Fault} (Err e) (Ok None) → ⊥
err_none e h = absurd (cc)

-- a run that gave values, and one that failed, of which it isn't known that it can't decline
pub direct_some : {E : Type 0} (law : RowLaw E) (columns : List Array) (n : ℕ) (domain : Domain) (told : Result (Option Attempt) Fault) (decided : Result (Option Array) Fault) (o : Option Array) (a : Array) (answer : Result (Option Array) Fault) (told_prepares told_steps prepares steps : ℕ)
    → Decides told decided → prepares ≡ told_prepares → steps ≡ told_steps → decided ≡ Ok o → o ≡ Some a → answer ≡ Ok (Some a)
    → ((x : Array) → ColumnOver law columns domain x → ValidColumn law columns n x) → ((error : RowError) → RejectedOver law columns domain error → CallFails law columns n (Row error)) → ((e : Fault) → DecodeFails law.arguments.reads 0 columns e → CallFails law columns n e)
    → RanOver law columns domain told told_prepares told_steps → RunsSteps law columns n domain.count 1 answer prepares steps
direct_some law columns n domain told decided o a answer told_prepares told_steps prepares steps decides p s is some given gives rejects fails ran =
    let run = decided_run law columns domain (ValidColumn law columns n) (CallFails law columns n) told decided told_prepares told_steps prepares steps decides p s (inr (λ none. let no : Some a ≡ None = sym some ∙ ok_same o None (sym is ∙ none) in absurd (cc))) gives rejects fails ran in
    let there = decided_some decided o a is some run in
    steps_some law columns n domain.count 1 answer a prepares steps given there.0 run.prepared run.most there.1

pub direct_failed : {E : Type 0} (law : RowLaw E) (columns : List Array) (n : ℕ) (domain : Domain) (told : Result (Option Attempt) Fault) (decided : Result (Option Array) Fault) (e : Fault) (answer : Result (Option Array) Fault) (told_prepares told_steps prepares steps : ℕ)
    → Decides told decided → prepares ≡ told_prepares → steps ≡ told_steps → decided ≡ Err e → answer ≡ Err e
    → ((x : Array) → ColumnOver law columns domain x → ValidColumn law columns n x) → ((error : RowError) → RejectedOver law columns domain error → CallFails law columns n (Row error)) → ((f : Fault) → DecodeFails law.arguments.reads 0 columns f → CallFails law columns n f)
    → RanOver law columns domain told told_prepares told_steps → RunsSteps law columns n domain.count 1 answer prepares steps
direct_failed law columns n domain told decided e answer told_prepares told_steps prepares steps decides p s is given gives rejects fails ran =
    let run = decided_run law columns domain (ValidColumn law columns n) (CallFails law columns n) told decided told_prepares told_steps prepares steps decides p s (inr (λ none. err_none e (sym is ∙ none))) gives rejects fails ran in
    failed_run law columns n domain.count 1 answer e prepares steps given (decided_err decided e is run) run.prepared run.most
