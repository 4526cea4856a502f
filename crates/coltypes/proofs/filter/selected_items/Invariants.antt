use Rattle.std.proofs.Common.{◌≡◌, ◌++◌, length}
use Rattle.coltypes.specs.Keep.{keep}
use Rattle.coltypes.proofs.Picked.{EachBelow, picked}
use Rattle.coltypes.proofs.filter.selected_items.Given as goal

abbrev pub invariant-loop-index : goal.invariant-loop-index
invariant-loop-index g l = record {
  goes : (goal.iterator-loop-index g).can_next l.index-iterator;
  ends : (goal.iterator-loop-index g).is_finite l.index-iterator;
  within : EachBelow (length l.items) l.index-iterator;
  kept : l.kept.items ++ picked l.items l.index-iterator ≡ keep l.bits l.items;
}
