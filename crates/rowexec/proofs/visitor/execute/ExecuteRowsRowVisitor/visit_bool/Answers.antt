use Rattle.std.proofs.Common.{◌≡◌, ◌∙◌, ap, subst, sym, true}
use Rattle.std.specs.Prelude.{is_some}
use Rattle.bitlane.specs.declared.failure_evidence.NoFailure.{NoFailure}
use Rattle.coltypes.specs.Cell.{truth}
use Rattle.coltypes.specs.LogicalType.{bool as bool_type}
use Rattle.coltypes.specs.declared.dtype.Nullability.TheVariants.{NonNullable}
use Rattle.rowtypes.specs.Rows.{ReadsFrom, logical_types}
use Rattle.rowloops.specs.Domain.{domain_of}
use Rattle.rowexec.specs.RowRuns.{decodes}
use Rattle.rowexec.proofs.Judging.{accepted_ran}
use Rattle.rowexec.proofs.Laws.{accepts_neutral, joins_lawfully}
use Rattle.rowexec.proofs.Results.{of_some}
use Rattle.rowexec.proofs.Running.{accepted_over, joined_over, ran_rows}
use Rattle.rowexec.proofs.visitor.execute.ExecuteRowsRowVisitor.visit_bool.Goals as goal

pub returns : goal.returns
returns g c =
    let args = c.args.self.args in
    let columns = args.columns.now in
    let domain = domain_of args.domain in
    let law = g.F.RowSpec.law args.options.now (logical_types args.types.now) in
    let lawful = g.met.F.RowSpec.lawful args.options.now (logical_types args.types.now) in
    let V = g.F.Evidence.FailureEvidence in
    let T = g.Args.ElementTuple in
    let d = c.in-Ok-Some in
    let decoded = of_some _ d.field-0 d.decoded d.field-0-is d.ensures.decoded in
    let run = c.execute_owned_bool-answer in
    let ran = c.ran in
    let given = c.accepted in
    let through : true ≡ decodes law columns domain = sym (ap is_some d.field-0-is) ∙ d.ensures.told in
    let gives = joined_over law (λ (a b : NoFailure). a) (record {}) T.cells truth (λ e b. goal.A-post g c.args.apply e b.0) (λ e b. ReadsFrom T.elements.reads 0 (T.cells e) × goal.A-post g c.args.apply e b.0) columns domain T.elements.reads (T.lengths d.decoded) (T.shows d.decoded) (T.known_of d.decoded) (bool_type NonNullable) run.result.0 run.result.1 c.requires.output.storage decoded
    (λ i e b h s k p. (subst (λ cells. ReadsFrom T.elements.reads 0 cells) (sym k) (decoded.rows_read i h s), p))
    run.ensures in
    accepted_ran law columns domain _ ran.result.answer given.result.answer ran.result.prepares ran.result.steps given.result.prepares given.result.steps given.ensures.answer given.ensures.prepares given.ensures.steps
    (λ r j. accepted_over V.in_range law _ _ T.cells truth _ columns domain r.0 r.1 (joins_lawfully lawful V.laws) (accepts_neutral lawful) (λ of. lawful.no_evidence of c.requires.undeferred) (λ e b p. c.requires.computes.agrees e b.0 p.0 p.1) j)
    (ran_rows law columns domain _ run.result.0 run.result.1 ran.result.answer ran.result.prepares ran.result.steps through gives run.ensures.errors run.ensures.most run.ensures.least ran.ensures.answer ran.ensures.prepares ran.ensures.steps)
