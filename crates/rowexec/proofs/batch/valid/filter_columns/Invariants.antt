use Rattle.std.proofs.Common.{◌≡◌, take}
use Rattle.std.specs.Prelude.{vec_len, ◌≤◌, length}
use Rattle.coltypes.specs.Masks.{mask_bits}
use Rattle.rowexec.specs.Selections.{FilteredFrom}
use Rattle.rowexec.proofs.batch.valid.filter_columns.Given as goal

abbrev pub invariant-loop-column : goal.invariant-loop-column
invariant-loop-column l = record {
  marks : mask_bits l.mask ≡ l.valid;
  pushed : vec_len l.filtered ≡ l.column-index;
  room : length l.columns ≤ l.filtered.cap;
  filtered : FilteredFrom l.valid (take l.column-index l.columns) l.filtered.items;
}
