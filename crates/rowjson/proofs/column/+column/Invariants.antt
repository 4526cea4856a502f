use Rattle.std.proofs.Common.{◌+◌, ◌*◌}
use Rattle.serde_json.specs.Data.{depth}
use Rattle.serde_json.specs.View.{view}
use Rattle.rowjson.proofs.column.+column.Given as goal

abbrev pub decreases-column_in : goal.decreases-column_in
decreases-column_in l = 2 * depth (view l.value.now) + 1

abbrev pub decreases-column_by_layout : goal.decreases-column_by_layout
decreases-column_by_layout l = 2 * depth (view l.value.now)
