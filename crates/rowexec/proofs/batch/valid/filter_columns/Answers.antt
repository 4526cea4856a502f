use Rattle.std.proofs.Common.{◌∙◌, ◌+◌, ◌∷◌, ◌++◌, [], length, take, ap, arith, sym}
use Rattle.std.proofs.lemmas.List.{take_more}
use Rattle.colbase.specs.Arrays.{len}
use Rattle.rowexec.proofs.Filtered.{filtered_step, rows_at}
use Rattle.rowexec.proofs.batch.valid.filter_columns.Goals as goal

pub filter-requires : goal.filter-requires
filter-requires c =
    let column = c.column-item.result in
    ap length c.loop-column.invariant.marks ∙ sym (ap len c.column-item.is ∙ rows_at (length c.args.valid.now) c.args.columns.now c.loop-column.column-index column c.requires c.loop-column-test.true)

pub loop-column-preserved : goal.loop-column-preserved
loop-column-preserved c =
    let columns = c.args.columns.now in
    let i = c.loop-column.column-index in
    let column = c.column-item.result in
    record {
      marks = c.loop-column.invariant.marks;
      pushed = omega arith;
      room = omega arith;
      filtered = filtered_step c.args.valid.now _ (take i columns) c.loop-column.filtered.items (take (i + 1) columns) c.push_reserved.new.self.items column c.in_ok-filter.field-0
          c.loop-column.invariant.marks
          (take_more columns i column c.loop-column-test.true ∙ ap (λ a. take i columns ++ a ∷ []) (sym c.column-item.is))
          c.push_reserved.ensures.items
          c.loop-column.invariant.filtered
          (record {
            kept_rows = c.in_ok-filter.ensures.rows;
            kept_payload = c.in_ok-filter.ensures.payload;
            typed = c.in_ok-filter.ensures.dtype;
            must_read = c.in_ok-filter.ensures.must_read;
          });
    }
