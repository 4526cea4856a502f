use Rattle.rowtypes.specs.Rows.{logical_types}
use Rattle.rowloops.specs.Domain.{domain_of}
use Rattle.rowexec.proofs.Judging.{attempt_over, judged_ran, joined_ranged}
use Rattle.rowexec.proofs.Reading.{never_dense}
use Rattle.rowexec.proofs.Running.{evidence_joined}
use Rattle.rowexec.proofs.visitor.execute.ExecuteRowsRowVisitor.visit_prepared_deferred.Goals as goal

pub judged-requires : goal.judged-requires
judged-requires g c =
    let args = c.args.self.args in
    let columns = args.columns.now in
    let domain = domain_of args.domain in
    let law = g.F.RowSpec.law args.options.now (logical_types args.types.now) in
    let lawful = g.met.F.RowSpec.lawful args.options.now (logical_types args.types.now) in
    let V = g.F.Evidence.FailureEvidence in
    let T = g.Args.ElementTuple in
    let ran = c.run_rows-ran in
    joined_ranged law columns domain _ _ ran.result.answer ran.result.prepares ran.result.steps
    (λ r j. c.requires.judges.callable r.1 (evidence_joined V.in_range V.join V.neutral law _ g.F.RowSpec.INFALLIBLE T.cells g.Out.OutputElement.states columns domain r.0 r.1 V.laws lawful (λ e b p. c.requires.checks.agrees p.of p.value p.lent e b p.known_read p.is_prepared p.is_lent p.read p.agrees p.answers) j).ranged)
    ran.ensures

pub returns : goal.returns
returns g c =
    let args = c.args.self.args in
    let columns = args.columns.now in
    let domain = domain_of args.domain in
    let law = g.F.RowSpec.law args.options.now (logical_types args.types.now) in
    let lawful = g.met.F.RowSpec.lawful args.options.now (logical_types args.types.now) in
    let V = g.F.Evidence.FailureEvidence in
    let T = g.Args.ElementTuple in
    let ran = c.run_rows-ran in
    let given = c.judged in
    judged_ran (goal.E-post g c.args.finish_failure) law columns domain _ ran.result.answer given.result.answer ran.result.prepares ran.result.steps given.result.prepares given.result.steps given.ensures.answer given.ensures.prepares given.ensures.steps
    (λ r attempt j h.
    let rows = evidence_joined V.in_range V.join V.neutral law _ g.F.RowSpec.INFALLIBLE T.cells g.Out.OutputElement.states columns domain r.0 r.1 V.laws lawful (λ e b p. c.requires.checks.agrees p.of p.value p.lent e b p.known_read p.is_prepared p.is_lent p.read p.agrees p.answers) j in
    attempt_over (goal.E-post g c.args.finish_failure r.1) V.in_range law V.join V.neutral T.cells g.Out.OutputElement.states _ columns domain r.1 r.0 attempt c.requires.deferred (never_dense law.policy T.DENSE_SAFE T.DECODE_INFALLIBLE c.requires.policy) j rows (λ q p. c.requires.judges.finishes r.1 q rows.ranged p) h)
    ran.ensures
