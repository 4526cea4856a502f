use Rattle.std.proofs.Common.{◌≡◌, drop}
use Rattle.serde_json.specs.Find.{as_bool}
use Rattle.serde_json.specs.View.{items_view}
use Rattle.rowjson.specs.Objects.{all_in}
use Rattle.rowjson.proofs.Items.{with_front}
use Rattle.rowjson.proofs.column.validity.truth_values.Given as goal

abbrev pub invariant-loop-item : goal.invariant-loop-item
invariant-loop-item l = with_front l.values.items (all_in as_bool (items_view (drop l.item-index l.items))) ≡ all_in as_bool (items_view l.items)
