use Rattle.std.proofs.Common.{ℕ, List, Option, ◌++◌, ap, ◌∙◌}
use Rattle.coltypes.specs.Cell.{Cell}
use Rattle.colbase.specs.Arrays.{dtype, row}
use Rattle.rowjson.specs.Text.{line, cell_text}
use Rattle.rowjson.proofs.Lines.{rows_more, row_line}
use Rattle.rowjson.proofs.print.push_scalars.Goals as goal

pub loop-i-preserved : goal.loop-i-preserved
loop-i-preserved c =
    let array = c.args.array.now in
    c.in_ok-push_wide_line.ensures
    ∙ ap (λ (text : List ℕ). c.loop-i.out.items ++ text) (row_line _ (dtype array) c.in_ok-scalar_number.field-0 (row array c.loop-i.i) c.in_ok-scalar_number.ensures.cell)
    ∙ rows_more (λ (cell : Option Cell). line (cell_text (dtype array) cell)) (row array) c.loop-i.i _ c.loop-i.out.items c.loop-i.invariant
