use Rattle.std.proofs.Common.{rules, ◌<◌, ap, subst, sym}
use Rattle.rowloops.specs.Domain.{domain_of}
use Rattle.rowloops.proofs.OverDomains.{runs_again}
use Rattle.rowloops.proofs.Total.{packed_over}
use Rattle.rowloops.proofs.packed_bool.execute_owned_bool.Goals as goal

pub execute_packed-answer-requires-clause-callable : goal.execute_packed-answer-requires-clause-callable
execute_packed-answer-requires-clause-callable g c = λ i e below at.
    c.requires.callable i e (subst (λ n. i < n) (ap (λ d. (domain_of d).width) (sym c.in-All.is)) below) (ap (λ d. (domain_of d).selected i) c.in-All.is) at

pub returns-in-All : goal.returns-in-All
returns-in-All g c =
    let made = c.execute_packed-answer.ensures in
    let told = c.execute_packed-answer.result in
    packed_over _ (domain_of c.args.domain) c.in-All.rows _ _ _ told.0 c.without_failure.result told.1 (ap domain_of c.in-All.is) c.without_failure.ensures made.dtype made.len made.rows made.errors made.most made.least

pub returns-in-Marked : goal.returns-in-Marked
returns-in-Marked g c =
    let r = c.execute_owned.result in
    runs_again _ _ (domain_of c.args.domain) _ _ _ r.0 r.1 (λ x b p. let h = p.2 in search rules) c.execute_owned.ensures
