use Rattle.std.proofs.Common.{true, false, ◌||◌, ◌∙◌, ap, sym, subst, ◌<◌, is_some}
use Rattle.bitlane.proofs.Tables.{length-tabulate, get_or-tabulate}
use Rattle.colbase.specs.Arrays.{row}
use Rattle.rowelems.proofs.element.decimal_scale.read_rows.Goals as goal

pub returns-then-has_batch_value-clause-rows : goal.returns-then-has_batch_value-clause-rows
returns-then-has_batch_value-clause-rows c = length-tabulate (λ i. true) c.len.result ∙ c.len.ensures

pub returns-then-has_batch_value-clause-tells : goal.returns-then-has_batch_value-clause-tells
returns-then-has_batch_value-clause-tells c i h =
    get_or-tabulate (λ k. true) c.len.result i false (subst (λ n. i < n) (sym c.len.ensures) h)
    ∙ sym (ap (λ b. b || is_some (row c.args.array.now i)) (sym c.has_batch_value.ensures ∙ c.if-has_batch_value.true))
