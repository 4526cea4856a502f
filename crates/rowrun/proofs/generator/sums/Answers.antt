use Rattle.rowrun.proofs.GeneratedSums.{of_generated, sums_fault, sums_len, sums_numbers, sums_rows}
use Rattle.rowrun.proofs.generator.sums.Goals as goal

pub returns-clause-numbers : goal.returns-clause-numbers
returns-clause-numbers g c =
    let args = c.in_ok-generated.field-0 in
    let said = c.in_ok-generated.ensures in
    sums_numbers c.args.rows c.execute.result (of_generated c.args.rows args.row_count args.columns c.execute.result said.columns said.row_count c.execute.ensures.column)

pub returns-clause-counted : goal.returns-clause-counted
returns-clause-counted g c =
    let args = c.in_ok-generated.field-0 in
    let said = c.in_ok-generated.ensures in
    sums_len c.args.rows c.execute.result (of_generated c.args.rows args.row_count args.columns c.execute.result said.columns said.row_count c.execute.ensures.column)

pub returns-clause-sums : goal.returns-clause-sums
returns-clause-sums g c =
    let args = c.in_ok-generated.field-0 in
    let said = c.in_ok-generated.ensures in
    sums_rows c.args.rows c.execute.result (of_generated c.args.rows args.row_count args.columns c.execute.result said.columns said.row_count c.execute.ensures.column)

pub returns-clause-errors : goal.returns-clause-errors
returns-clause-errors g c =
    let args = c.in_ok-generated.field-0 in
    let said = c.in_ok-generated.ensures in
    sums_fault c.args.rows args.row_count args.columns c.execute.result said.columns said.row_count c.execute.ensures.cause
