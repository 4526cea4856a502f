use Rattle.std.proofs.Common.{arith, rules}
use Rattle.rowtypes.specs.Arguments.{reads_one}
use Rattle.rowtypes.specs.Rows.{DecodeFails}
use Rattle.rowtypes.proofs.Lowest.{first_fails}
use Rattle.rowtypes.proofs.tuple.up_to_two.Tuple1ElementTuple.decode_null_tolerant.Goals as goal

pub returns-in_err-first-clause-errors : goal.returns-in_err-first-clause-errors
returns-in_err-first-clause-errors g c =
    let h : DecodeFails (reads_one g.A.InputElement.reads) 0 c.args.columns.now c.in_err-first.field-0.0 = first_fails (reads_one g.A.InputElement.reads) c.args.columns.now _ _ (omega arith) c.index-columns-0.is c.in_err-first.ensures.errors in
    search (rules, h)
