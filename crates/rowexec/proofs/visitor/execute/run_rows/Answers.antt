use Rattle.std.proofs.Common.{◌≡◌, ◌∙◌, ap, subst, sym, true}
use Rattle.std.specs.Prelude.{is_some}
use Rattle.rowtypes.specs.Rows.{ReadsFrom, logical_types}
use Rattle.rowloops.specs.Domain.{domain_of}
use Rattle.rowexec.proofs.Known.{agrees_at}
use Rattle.rowexec.proofs.Results.{of_some}
use Rattle.rowexec.proofs.Running.{joined_over, ran_rows}
use Rattle.rowexec.proofs.visitor.execute.run_rows.Goals as goal

pub returns : goal.returns
returns g c =
    let args = c.args.args.now in
    let columns = args.columns.now in
    let domain = domain_of args.domain in
    let law = g.F.RowSpec.law args.options.now (logical_types args.types.now) in
    let T = g.Args.ElementTuple in
    let V = g.V.FailureEvidence in
    let d = c.in-Ok-Some in
    let decoded = of_some _ d.field-0 d.decoded d.field-0-is d.ensures.decoded in
    let known = c.known_values.result in
    let run = c.execute_owned-answer in
    let ran = c.ran in
    let through : true ≡ Rattle.rowexec.specs.RowRuns.decodes law columns domain = sym (ap is_some d.field-0-is) ∙ d.ensures.told in
    let gives = joined_over law V.join V.neutral T.cells g.Out.OutputElement.states _ _ columns domain T.elements.reads (T.lengths d.decoded) (T.shows d.decoded) (T.known_of d.decoded) g.Out.OutputElement.element_type run.result.0 run.result.1 c.requires.stored decoded
    (λ i e b h s k p. record {
      of = known;
      value = c.in-Ok.prepared;
      lent = p.0;
      known_read = c.known_values.ensures.read;
      is_prepared = c.in-Ok.ensures;
      is_lent = p.1;
      read = subst (λ cells. ReadsFrom T.elements.reads 0 cells) (sym k) (decoded.rows_read i h s);
      agrees = agrees_at (T.known known) (T.known_of d.decoded) (T.cells e) (T.shows d.decoded i) c.known_values.ensures.known k (g.met.Args.ElementTuple.known_agrees d.decoded i);
      answers = p.2;
    })
    run.ensures in
    ran_rows law columns domain _ run.result.0 run.result.1 ran.result.answer ran.result.prepares ran.result.steps through gives run.ensures.errors run.ensures.most run.ensures.least ran.ensures.answer ran.ensures.prepares ran.ensures.steps
