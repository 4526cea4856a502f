use Rattle.std.proofs.Common.{◌≡◌, ◌∙◌, ◌<◌, ℕ, arith, false, sym}
use Rattle.std.specs.Prelude.{is_some}
use Rattle.coltypes.specs.Keep.{trues}
use Rattle.coltypes.specs.declared.fault.Fault.TheVariants.{Row}
use Rattle.rowexec.specs.Counts.{full_bits, retried}
use Rattle.rowexec.specs.Rows.{full_cells, types_of}
use Rattle.rowexec.specs.Selections.{MarksFullRows}
use Rattle.rowexec.proofs.Deciding.{asked_run, failed_run, none_run}
use Rattle.rowexec.proofs.Domains.{rejected_full}
use Rattle.rowexec.proofs.Retrying.{retried_none_full, retried_some}
use Rattle.rowexec.proofs.Selecting.{all_selected}
use Rattle.rowexec.proofs.Selected.{no_cells, trues_empty, trues_marked}
use Rattle.rowexec.proofs.batch.retry.resolve_rejected.Goals as goal

pub execute_valid-requires-clause-full : goal.execute_valid-requires-clause-full
execute_valid-requires-clause-full g c = record {
  counted = c.in-Valid.ensures.0;
  each = λ i h. c.in-Valid.ensures.1 i h ∙ c.requires.call.marks.tells i h;
}

pub returns-in-Valid : goal.returns-in-Valid
returns-in-Valid g c =
    let call = c.args.call.now in
    let columns = call.columns.now in
    let n = call.row_count in
    let law = g.F.RowSpec.law call.options.now (types_of columns) in
    let told = c.in-Valid.ensures in
    let full : MarksFullRows columns n c.in-Valid.bits = record { counted = told.0; each = λ i h. told.1 i h ∙ c.requires.call.marks.tells i h } in
    let counted : trues c.in-Valid.bits ≡ trues (full_bits n columns) = trues_marked n columns c.in-Valid.bits full in
    let asked : trues c.in-Valid.bits ≡ retried (trues (full_bits n columns)) n = counted ∙ sym (retried_some (trues (full_bits n columns)) n (omega (arith, counted, told.3))) in
    let r = c.execute_valid.result in
    asked_run law columns n (trues c.in-Valid.bits) _ 1 r.answer r.prepares r.steps asked c.execute_valid.ensures

pub returns-in-Nothing : goal.returns-in-Nothing
returns-in-Nothing g c =
    let call = c.args.call.now in
    let columns = call.columns.now in
    let n = call.row_count in
    let law = g.F.RowSpec.law call.options.now (types_of columns) in
    let told = c.in-Nothing.ensures in
    let s = c.before_the_rows in
    let none : (i : ℕ) → i < n → is_some (full_cells columns i) ≡ false = λ i h. sym (c.requires.call.marks.tells i h) ∙ told.0 i h in
    none_run law columns n _ 1 s.result.answer s.result.prepares s.result.steps s.ensures.answer (told.1, λ i h. no_cells (full_cells columns i) (none i h)) s.ensures.prepares (retried_none_full (trues (full_bits n columns)) n (trues_empty n columns none)) s.ensures.steps

pub returns-in-One : goal.returns-in-One
returns-in-One g c =
    let call = c.args.call.now in
    let columns = call.columns.now in
    let n = call.row_count in
    let law = g.F.RowSpec.law call.options.now (types_of columns) in
    let s = c.before_the_rows-in-One in
    let fails = rejected_full law columns n c.args.error (λ i h. sym (c.requires.call.marks.tells i h) ∙ all_selected call.full.now n c.select_valid.result c.in-One.is c.select_valid.ensures i h) c.requires.rejected in
    failed_run law columns n _ 1 s.result.answer (Row c.args.error) s.result.prepares s.result.steps s.ensures.answer fails (omega (arith, s.ensures.prepares)) (omega (arith, s.ensures.steps))
