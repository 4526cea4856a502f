use Rattle.std.proofs.Common.{arith, rules}
use Rattle.rowtypes.specs.Arguments.{pick_four, reads_four}
use Rattle.rowtypes.specs.Rows.{DecodeFails}
use Rattle.rowtypes.proofs.Lowest.{first_fails, second_fails, third_fails, fourth_fails, four_read, four_shown}
use Rattle.rowtypes.proofs.tuple.four.Tuple4ElementTuple.decode_null_tolerant.Goals as goal

pub returns-in_err-first-clause-errors : goal.returns-in_err-first-clause-errors
returns-in_err-first-clause-errors g c =
    let h : DecodeFails (reads_four g.A.InputElement.reads g.B.InputElement.reads g.C.InputElement.reads g.D.InputElement.reads) 0 c.args.columns.now c.in_err-first.field-0.0 = first_fails (reads_four g.A.InputElement.reads g.B.InputElement.reads g.C.InputElement.reads g.D.InputElement.reads) c.args.columns.now _ _ (omega arith) c.index-columns-0.is c.in_err-first.ensures.errors in
    search (rules, h)

pub returns-in_err-second-clause-errors : goal.returns-in_err-second-clause-errors
returns-in_err-second-clause-errors g c =
    let h : DecodeFails (reads_four g.A.InputElement.reads g.B.InputElement.reads g.C.InputElement.reads g.D.InputElement.reads) 0 c.args.columns.now c.in_err-second.field-0.0 = second_fails (reads_four g.A.InputElement.reads g.B.InputElement.reads g.C.InputElement.reads g.D.InputElement.reads) c.args.columns.now _ _ _ (omega arith) c.index-columns-0.is c.index-columns-1.is c.in_ok-first.ensures.read c.in_err-second.ensures.errors in
    search (rules, h)

pub returns-in_err-third-clause-errors : goal.returns-in_err-third-clause-errors
returns-in_err-third-clause-errors g c =
    let h : DecodeFails (reads_four g.A.InputElement.reads g.B.InputElement.reads g.C.InputElement.reads g.D.InputElement.reads) 0 c.args.columns.now c.in_err-third.field-0.0 = third_fails (reads_four g.A.InputElement.reads g.B.InputElement.reads g.C.InputElement.reads g.D.InputElement.reads) c.args.columns.now _ _ _ _ (omega arith) c.index-columns-0.is c.index-columns-1.is c.index-columns-2.is c.in_ok-first.ensures.read c.in_ok-second.ensures.read c.in_err-third.ensures.errors in
    search (rules, h)

pub returns-in_err-fourth-clause-errors : goal.returns-in_err-fourth-clause-errors
returns-in_err-fourth-clause-errors g c =
    let h : DecodeFails (reads_four g.A.InputElement.reads g.B.InputElement.reads g.C.InputElement.reads g.D.InputElement.reads) 0 c.args.columns.now c.in_err-fourth.field-0.0 = fourth_fails (reads_four g.A.InputElement.reads g.B.InputElement.reads g.C.InputElement.reads g.D.InputElement.reads) c.args.columns.now _ _ _ _ _ (omega arith) c.index-columns-0.is c.index-columns-1.is c.index-columns-2.is c.index-columns-3.is c.in_ok-first.ensures.read c.in_ok-second.ensures.read c.in_ok-third.ensures.read c.in_err-fourth.ensures.errors in
    search (rules, h)

pub returns-clause-read : goal.returns-clause-read
returns-clause-read g c = four_read (reads_four g.A.InputElement.reads g.B.InputElement.reads g.C.InputElement.reads g.D.InputElement.reads) c.args.columns.now _ _ _ _ c.requires.arity c.index-columns-0.is c.index-columns-1.is c.index-columns-2.is c.index-columns-3.is c.in_ok-first.ensures.read c.in_ok-second.ensures.read c.in_ok-third.ensures.read c.in_ok-fourth.ensures.read

pub returns-clause-same : goal.returns-clause-same
returns-clause-same g c = λ i h. four_shown (pick_four g.A.InputElement.shown g.B.InputElement.shown g.C.InputElement.shown g.D.InputElement.shown) c.args.columns.now _ _ _ _ c.requires.arity c.index-columns-0.is c.index-columns-1.is c.index-columns-2.is c.index-columns-3.is i _ _ _ _ (c.in_ok-first.ensures.same i h.0) (c.in_ok-second.ensures.same i h.1.0) (c.in_ok-third.ensures.same i h.1.1.0) (c.in_ok-fourth.ensures.same i h.1.1.1.0)
