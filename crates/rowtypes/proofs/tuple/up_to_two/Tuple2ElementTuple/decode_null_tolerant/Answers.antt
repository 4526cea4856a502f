use Rattle.std.proofs.Common.{arith, rules}
use Rattle.rowtypes.specs.Arguments.{reads_two}
use Rattle.rowtypes.specs.Rows.{DecodeFails}
use Rattle.rowtypes.proofs.Lowest.{first_fails, second_fails, two_read}
use Rattle.rowtypes.proofs.tuple.up_to_two.Tuple2ElementTuple.decode_null_tolerant.Goals as goal

pub returns-in_err-first-clause-errors : goal.returns-in_err-first-clause-errors
returns-in_err-first-clause-errors g c =
    let h : DecodeFails (reads_two g.A.InputElement.reads g.B.InputElement.reads) 0 c.args.columns.now c.in_err-first.field-0.0 = first_fails (reads_two g.A.InputElement.reads g.B.InputElement.reads) c.args.columns.now _ _ (omega arith) c.index-columns-0.is c.in_err-first.ensures.errors in
    search (rules, h)

pub returns-in_err-second-clause-errors : goal.returns-in_err-second-clause-errors
returns-in_err-second-clause-errors g c =
    let h : DecodeFails (reads_two g.A.InputElement.reads g.B.InputElement.reads) 0 c.args.columns.now c.in_err-second.field-0.0 = second_fails (reads_two g.A.InputElement.reads g.B.InputElement.reads) c.args.columns.now _ _ _ (omega arith) c.index-columns-0.is c.index-columns-1.is c.in_ok-first.ensures.read c.in_err-second.ensures.errors in
    search (rules, h)

pub returns-clause-read : goal.returns-clause-read
returns-clause-read g c = two_read (reads_two g.A.InputElement.reads g.B.InputElement.reads) c.args.columns.now _ _ c.requires.arity c.index-columns-0.is c.index-columns-1.is c.in_ok-first.ensures.read c.in_ok-second.ensures.read
