use Rattle.std.proofs.Common.{rules, ◌≡◌, ◌∙◌, List, ap, inl, inr, length, subst, sym, arith}
use Rattle.std.specs.Prelude.{◌⊎◌, false}
use Rattle.coltypes.specs.LogicalType.{LogicalType}
use Rattle.rowtypes.specs.Rows.{logical_types}
use Rattle.rowplan.proofs.Types.{as_many}
use Rattle.rowloops.specs.Domain.{domain_of}
use Rattle.rowexec.specs.Counts.{runs_valid_only}
use Rattle.rowexec.specs.RowRuns.{AttemptOver, EachFull, RanOver}
use Rattle.rowexec.specs.Rows.{types_of}
use Rattle.rowexec.proofs.Batches.{as_many_types}
use Rattle.rowexec.proofs.Running.{ran_failed}
use Rattle.rowexec.proofs.StrictRows.{accepted_from}
use Rattle.rowexec.proofs.batch.run.execute_row_kernel.Goals as goal

pub dispatch-requires-clause-arity : goal.dispatch-requires-clause-arity
dispatch-requires-clause-arity g c =
    let call = c.args.call.now in
    sym (as_many call.types.now) ∙ ap length c.requires.call.types_are ∙ as_many_types call.columns.now ∙ c.requires.call.arity ∙ ap (λ t. (g.F.RowSpec.law call.options.now t).arity) (sym c.requires.call.types_are)

pub dispatch-requires-clause-ready : goal.dispatch-requires-clause-ready
dispatch-requires-clause-ready g c =
    let call = c.args.call.now in
    let types = logical_types call.types.now in
    let columns = c.args.columns.now in
    let Runs : List LogicalType → Type 0 = λ t. (runs_valid_only (g.F.RowSpec.law call.options.now t).policy ≡ false) ⊎ EachFull columns (domain_of c.args.domain) in
    let same : types ≡ types_of columns = c.requires.call.types_are ∙ sym c.requires.types in
    record {
      types_are = same;
      accepted = accepted_from (g.F.RowSpec.law call.options.now types).arguments.accepts 0 columns (cc (same, c.requires.call.types_are, c.requires.call.planned.fit));
      asked = c.requires.asked;
      runs = subst Runs (sym c.requires.call.types_are) c.requires.runs;
    }

pub returns-in-Ok : goal.returns-in-Ok
returns-in-Ok g c =
    let call = c.args.call.now in
    let visited = c.in-Ok.visited in
    let Of : List LogicalType → Type 0 = λ t. RanOver (g.F.RowSpec.law call.options.now t) c.args.columns.now (domain_of c.args.domain) visited.answer visited.prepares visited.steps in
    elim (c.in-Ok.ensures.gives (ap (λ t. (g.F.RowSpec.law call.options.now t).accepts) c.requires.call.types_are ∙ c.requires.call.planned.accepted)) [
      | inl e ↦ absurd (cc)
      | inr ran ↦ subst Of c.requires.call.types_are ran
    ]

pub returns-in-Err : goal.returns-in-Err
returns-in-Err g c =
    let call = c.args.call.now in
    let law = g.F.RowSpec.law call.options.now (types_of call.columns.now) in
    let before = c.before_the_rows in
    ran_failed law c.args.columns.now (domain_of c.args.domain) (AttemptOver law c.args.columns.now (domain_of c.args.domain)) before.result.answer c.in-Err.fault before.result.prepares before.result.steps before.ensures.answer (omega (arith, before.ensures.prepares)) before.ensures.steps (inl search rules)
