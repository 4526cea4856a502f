use Rattle.std.proofs.Common.{◌<◌, ◌+◌, ◌++◌, ◌∷◌, drop, length, ap, arith, sym, ◌∙◌}
use Rattle.std.proofs.lemmas.List.{at_drop_more}
use Rattle.coltypes.specs.LogicalTypeOf.{logical_type}
use Rattle.rowtypes.specs.Rows.{logical_types}
use Rattle.rowexec.specs.Rows.{types_of}
use Rattle.rowexec.proofs.Batches.{type_pushed}
use Rattle.rowexec.proofs.batch.arguments.argument_types.Goals as goal

pub loop-column-preserved : goal.loop-column-preserved
loop-column-preserved c =
    let cols = c.args.columns.now in
    let i = c.loop-column.column-index in
    let lt : i < length cols = omega arith in
    let xs = c.loop-column.types.items in
    let a = c.column-item.result in
    let step = at_drop_more (λ ys. logical_types xs ++ types_of ys) cols i a lt in
    let pushed = type_pushed xs c.share.result a (drop (i + 1) cols) (ap logical_type c.share.ensures ∙ c.dtype.ensures) in
    ap (λ ys. logical_types ys ++ types_of (drop (i + 1) cols)) c.in_ok-push.ensures.ok ∙ pushed ∙ ap (λ x. logical_types xs ++ types_of (x ∷ drop (i + 1) cols)) c.column-item.is ∙ sym step ∙ c.loop-column.invariant
