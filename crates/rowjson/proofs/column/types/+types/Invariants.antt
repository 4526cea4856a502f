use Rattle.std.proofs.Common.{◌+◌, ◌*◌}
use Rattle.serde_json.specs.Data.{depth}
use Rattle.serde_json.specs.View.{view}
use Rattle.rowjson.proofs.column.types.+types.Given as goal

abbrev pub decreases-type_of : goal.decreases-type_of
decreases-type_of l = 2 * depth (view l.value.now) + 1

abbrev pub decreases-type_by_form : goal.decreases-type_by_form
decreases-type_by_form l = 2 * depth (view l.value.now)
