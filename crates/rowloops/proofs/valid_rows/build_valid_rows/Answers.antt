use Rattle.std.proofs.Common.{◌∙◌, ◌<◌, length, get_or, Some, ap, subst, sym}
use Rattle.rowouts.proofs.Columns.{full-len, full-row}
use Rattle.bitlane.specs.Bits.{bit}
use Rattle.bitlane.proofs.Joins.{Joined-map}
use Rattle.rowloops.proofs.valid_rows.build_valid_rows.Goals as goal

pub returns-in-Ok-column_of-clause-len : goal.returns-in-Ok-column_of-clause-len
returns-in-Ok-column_of-clause-len g c =
    let V = g.Out.ColumnValue in
    full-len c.in-Ok-column_of.column V.value_type V.value_cell c.in-Ok.values.items c.in-Ok-column_of.ensures.column ∙ c.in-Ok.ensures.len

pub returns-in-Ok-column_of-clause-rows : goal.returns-in-Ok-column_of-clause-rows
returns-in-Ok-column_of-clause-rows g c =
    let xs = c.in-Ok.values.items in
    let V = g.Out.ColumnValue in
    let d = g.Out.OutputElement.placeholder in
    Joined-map _ _ (bit c.args.valid.now) _ _ (length c.args.valid.now) _
    (λ i v below there. record {
      value = get_or xs i d;
      maps = there d;
      is = full-row c.in-Ok-column_of.column V.value_type V.value_cell xs i d c.in-Ok-column_of.ensures.column (subst (λ m. i < m) (sym c.in-Ok.ensures.len) below) ∙ ap (λ x. Some x) (g.met.Out.OutputElement.value_states (get_or xs i d));
    })
    c.in-Ok.ensures.joined
