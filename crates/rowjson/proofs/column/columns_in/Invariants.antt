use Rattle.std.proofs.Common.{◌≡◌, drop}
use Rattle.serde_json.specs.View.{items_view}
use Rattle.rowjson.specs.Columns.{columns_in}
use Rattle.rowjson.proofs.Items.{with_front}
use Rattle.rowjson.proofs.column.columns_in.Given as goal

abbrev pub invariant-loop-item : goal.invariant-loop-item
invariant-loop-item l = with_front l.columns.items (columns_in (items_view (drop l.item-index l.items))) ≡ columns_in (items_view l.items)
