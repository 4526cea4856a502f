use Rattle.std.proofs.Common.{arith, rules}
use Rattle.rowtypes.specs.Arguments.{pick_three, reads_three}
use Rattle.rowtypes.specs.Rows.{DecodeFails}
use Rattle.rowtypes.proofs.Lowest.{first_fails, second_fails, third_fails, three_read, three_shown}
use Rattle.rowtypes.proofs.tuple.three.Tuple3ElementTuple.decode_null_tolerant.Goals as goal

pub returns-in_err-first-clause-errors : goal.returns-in_err-first-clause-errors
returns-in_err-first-clause-errors g c =
    let h : DecodeFails (reads_three g.A.InputElement.reads g.B.InputElement.reads g.C.InputElement.reads) 0 c.args.columns.now c.in_err-first.field-0.0 = first_fails (reads_three g.A.InputElement.reads g.B.InputElement.reads g.C.InputElement.reads) c.args.columns.now _ _ (omega arith) c.index-columns-0.is c.in_err-first.ensures.errors in
    search (rules, h)

pub returns-in_err-second-clause-errors : goal.returns-in_err-second-clause-errors
returns-in_err-second-clause-errors g c =
    let h : DecodeFails (reads_three g.A.InputElement.reads g.B.InputElement.reads g.C.InputElement.reads) 0 c.args.columns.now c.in_err-second.field-0.0 = second_fails (reads_three g.A.InputElement.reads g.B.InputElement.reads g.C.InputElement.reads) c.args.columns.now _ _ _ (omega arith) c.index-columns-0.is c.index-columns-1.is c.in_ok-first.ensures.read c.in_err-second.ensures.errors in
    search (rules, h)

pub returns-in_err-third-clause-errors : goal.returns-in_err-third-clause-errors
returns-in_err-third-clause-errors g c =
    let h : DecodeFails (reads_three g.A.InputElement.reads g.B.InputElement.reads g.C.InputElement.reads) 0 c.args.columns.now c.in_err-third.field-0.0 = third_fails (reads_three g.A.InputElement.reads g.B.InputElement.reads g.C.InputElement.reads) c.args.columns.now _ _ _ _ (omega arith) c.index-columns-0.is c.index-columns-1.is c.index-columns-2.is c.in_ok-first.ensures.read c.in_ok-second.ensures.read c.in_err-third.ensures.errors in
    search (rules, h)

pub returns-clause-read : goal.returns-clause-read
returns-clause-read g c = three_read (reads_three g.A.InputElement.reads g.B.InputElement.reads g.C.InputElement.reads) c.args.columns.now _ _ _ c.requires.arity c.index-columns-0.is c.index-columns-1.is c.index-columns-2.is c.in_ok-first.ensures.read c.in_ok-second.ensures.read c.in_ok-third.ensures.read

pub returns-clause-same : goal.returns-clause-same
returns-clause-same g c = λ i h. three_shown (pick_three g.A.InputElement.shown g.B.InputElement.shown g.C.InputElement.shown) c.args.columns.now _ _ _ c.requires.arity c.index-columns-0.is c.index-columns-1.is c.index-columns-2.is i _ _ _ (c.in_ok-first.ensures.same i h.0) (c.in_ok-second.ensures.same i h.1.0) (c.in_ok-third.ensures.same i h.1.1.0)
