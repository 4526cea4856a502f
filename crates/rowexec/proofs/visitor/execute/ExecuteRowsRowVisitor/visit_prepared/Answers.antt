use Rattle.std.proofs.Common.{rules}
use Rattle.rowtypes.specs.Rows.{logical_types}
use Rattle.rowloops.specs.Domain.{domain_of}
use Rattle.rowexec.proofs.Judging.{accepted_ran}
use Rattle.rowexec.proofs.Laws.{accepts_neutral, joins_lawfully}
use Rattle.rowexec.proofs.Running.{accepted_over}
use Rattle.rowexec.proofs.visitor.execute.ExecuteRowsRowVisitor.visit_prepared.Goals as goal

pub returns : goal.returns
returns g c =
    let args = c.args.self.args in
    let columns = args.columns.now in
    let domain = domain_of args.domain in
    let law = g.F.RowSpec.law args.options.now (logical_types args.types.now) in
    let lawful = g.met.F.RowSpec.lawful args.options.now (logical_types args.types.now) in
    let V = g.F.Evidence.FailureEvidence in
    let ran = c.run_rows-ran in
    let given = c.accepted in
    accepted_ran law columns domain _ ran.result.answer given.result.answer ran.result.prepares ran.result.steps given.result.prepares given.result.steps given.ensures.answer given.ensures.prepares given.ensures.steps
    (λ r j. accepted_over V.in_range law _ _ _ _ _ columns domain r.0 r.1 (joins_lawfully lawful V.laws) (accepts_neutral lawful) (λ of. lawful.no_evidence of c.requires.undeferred)
    (λ e b p. c.requires.computes.agrees p.of p.value p.lent e b.0 p.known_read p.is_prepared p.is_lent p.read p.agrees (let h = p.answers in search rules))
    j)
    ran.ensures
