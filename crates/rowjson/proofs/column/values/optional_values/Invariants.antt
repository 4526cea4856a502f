use Rattle.std.proofs.Common.{drop}
use Rattle.serde_json.specs.View.{items_view}
use Rattle.rowjson.specs.Objects.{value_or_null, all_in}
use Rattle.rowjson.proofs.Items.{HasRead}
use Rattle.rowjson.proofs.column.values.optional_values.Given as goal

abbrev pub invariant-loop-item : goal.invariant-loop-item
invariant-loop-item g l =
    HasRead g.T.ColumnValue.under_null l.values.items l.marks.items (all_in (value_or_null g.T.ColumnValue.states) (items_view (drop l.item-index l.items)))
    (all_in (value_or_null g.T.ColumnValue.states) (items_view l.items))
