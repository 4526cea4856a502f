use Rattle.std.proofs.Common.{◌≡◌, ◌∙◌, length, ap, sym}
use Rattle.bitlane.proofs.Tables.{length-tabulate}
use Rattle.rowrun.specs.Generator.{is_valid_in, stored_in}
use Rattle.rowrun.proofs.GeneratedRows.{built_or_memory}
use Rattle.rowrun.proofs.generator.column.column.Goals as goal

pub returns-clause-errors : goal.returns-clause-errors
returns-clause-errors c =
    let marked : length c.in_ok-marks.marks ≡ c.args.rows = ap length (c.in_ok-marks.ensures ∙ c.in_ok-values.ensures.marks) ∙ length-tabulate (is_valid_in c.args.pattern) c.args.rows in
    let stored : length c.in_ok-values-2.values ≡ c.args.rows = ap length (c.in_ok-values-2.ensures.values ∙ c.in_ok-values.ensures.stored) ∙ length-tabulate (stored_in c.args.pattern) c.args.rows in
    built_or_memory _ c.try_new.result c.in_ok-marks.marks (length c.in_ok-values-2.values) (marked ∙ sym stored) c.try_new.ensures
