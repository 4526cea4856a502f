use Rattle.std.proofs.Common.{◌≡◌, ◌+◌, ◌<◌, ◌^◌, length, sym, ap, ◌∙◌, subst, arith, rules}
use Rattle.std.proofs.lemmas.Grind.{common_steps}
use Rattle.rowtypes.specs.Rows.{AcceptsFrom, DecodeFails, ReadsAllFrom}
use Rattle.rowelems.specs.Argument.{placed}
use Rattle.rowtypes.specs.SideBySide.{side_by_side, reads_side_by_side}
use Rattle.rowtypes.proofs.Lengths.{both_true}
use Rattle.rowtypes.proofs.Sides.{accepted_first, accepted_second, all_read, joined_lengths, joined_values, length_shown, row_of_first, row_of_second, row_read, shown_joined}
use Rattle.rowtypes.proofs.SidesFail.{first_side_fails, second_side_fails}
use Rattle.rowtypes.proofs.both.BothElementTuple.decode.Goals as goal

pub decode-requires-clause-types : goal.decode-requires-clause-types
decode-requires-clause-types g c =
    let xs = c.split_columns.result.0.now in
    let ys = c.split_columns.result.1.now in
    let n = g.A.ElementTuple.ARITY in
    let e : length xs ≡ n = c.split_columns.ensures.first ∙ c.ARITY.ensures in
    let e0 : 0 + length xs ≡ n = omega arith in
    accepted_first n g.A.ElementTuple.elements.accepts g.B.ElementTuple.elements.accepts 0 xs ys e0 (subst (AcceptsFrom (side_by_side n g.A.ElementTuple.elements.accepts g.B.ElementTuple.elements.accepts) 0) c.split_columns.ensures.joined c.requires.types)

pub decode-requires-2-clause-types : goal.decode-requires-2-clause-types
decode-requires-2-clause-types g c =
    let xs = c.split_columns.result.0.now in
    let ys = c.split_columns.result.1.now in
    let n = g.A.ElementTuple.ARITY in
    let e : length xs ≡ n = c.split_columns.ensures.first ∙ c.ARITY.ensures in
    let e0 : 0 + length xs ≡ n = omega arith in
    accepted_second n g.A.ElementTuple.elements.accepts g.B.ElementTuple.elements.accepts 0 xs ys e0 (subst (AcceptsFrom (side_by_side n g.A.ElementTuple.elements.accepts g.B.ElementTuple.elements.accepts) 0) c.split_columns.ensures.joined c.requires.types)

pub returns-in_err-decoded-clause-errors : goal.returns-in_err-decoded-clause-errors
returns-in_err-decoded-clause-errors g c =
    let xs = c.split_columns.result.0.now in
    let ys = c.split_columns.result.1.now in
    let n = g.A.ElementTuple.ARITY in
    let e : length xs ≡ n = c.split_columns.ensures.first ∙ c.ARITY.ensures in
    let e0 : 0 + length xs ≡ n = omega arith in
    let h : DecodeFails (reads_side_by_side n g.A.ElementTuple.elements.reads g.B.ElementTuple.elements.reads) 0 c.args.columns.now c.in_err-decoded.field-0.0 = subst (λ zs. DecodeFails (reads_side_by_side n g.A.ElementTuple.elements.reads g.B.ElementTuple.elements.reads) 0 zs c.in_err-decoded.field-0.0) (sym c.split_columns.ensures.joined) (first_side_fails n g.A.ElementTuple.elements.reads g.B.ElementTuple.elements.reads xs ys _ e c.in_err-decoded.ensures.errors) in
    search (rules, h)

pub returns-in-Ok-clause-lengths : goal.returns-in-Ok-clause-lengths
returns-in-Ok-clause-lengths g c = cc (c.in_ok-decoded.ensures.lengths, c.in-Ok.ensures.lengths, c.split_columns.ensures.joined, joined_lengths c.split_columns.result.0.now c.split_columns.result.1.now)

pub returns-in-Ok-clause-known : goal.returns-in-Ok-clause-known
returns-in-Ok-clause-known g c = cc (c.in_ok-decoded.ensures.known, c.in-Ok.ensures.known, c.split_columns.ensures.joined, joined_values c.split_columns.result.0.now c.split_columns.result.1.now)

pub returns-in-Ok-clause-same : goal.returns-in-Ok-clause-same
returns-in-Ok-clause-same g c = λ i h.
    let xs = c.split_columns.result.0.now in
    let ys = c.split_columns.result.1.now in
    let n = g.A.ElementTuple.ARITY in
    let e : length xs ≡ n = c.split_columns.ensures.first ∙ c.ARITY.ensures in
    let e0 : 0 + length xs ≡ n = omega arith in
    let p = row_of_first (g.A.ElementTuple.lengths c.in_ok-decoded.decoded) (g.B.ElementTuple.lengths c.in-Ok.more) i h in
    let q = row_of_second (g.A.ElementTuple.lengths c.in_ok-decoded.decoded) (g.B.ElementTuple.lengths c.in-Ok.more) i h in
    cc (c.in_ok-decoded.ensures.same i p, c.in-Ok.ensures.same i q, c.split_columns.ensures.joined, shown_joined n g.A.ElementTuple.elements.shown g.B.ElementTuple.elements.shown 0 0 xs ys i e0)

pub returns-in-Ok-clause-read : goal.returns-in-Ok-clause-read
returns-in-Ok-clause-read g c =
    let xs = c.split_columns.result.0.now in
    let ys = c.split_columns.result.1.now in
    let n = g.A.ElementTuple.ARITY in
    let e : length xs ≡ n = c.split_columns.ensures.first ∙ c.ARITY.ensures in
    let e0 : 0 + length xs ≡ n = omega arith in
    subst (ReadsAllFrom (reads_side_by_side n g.A.ElementTuple.elements.reads g.B.ElementTuple.elements.reads) 0) (sym c.split_columns.ensures.joined) (all_read n g.A.ElementTuple.elements.reads g.B.ElementTuple.elements.reads 0 xs ys e0 c.in_ok-decoded.ensures.read c.in-Ok.ensures.read)

pub returns-in-Ok-clause-dense : goal.returns-in-Ok-clause-dense
returns-in-Ok-clause-dense g c = λ d i h.
    let xs = c.split_columns.result.0.now in
    let ys = c.split_columns.result.1.now in
    let n = g.A.ElementTuple.ARITY in
    let e : length xs ≡ n = c.split_columns.ensures.first ∙ c.ARITY.ensures in
    let e0 : 0 + length xs ≡ n = omega arith in
    let p = row_of_first (g.A.ElementTuple.lengths c.in_ok-decoded.decoded) (g.B.ElementTuple.lengths c.in-Ok.more) i h in
    let q = row_of_second (g.A.ElementTuple.lengths c.in_ok-decoded.decoded) (g.B.ElementTuple.lengths c.in-Ok.more) i h in
    let t = both_true g.A.ElementTuple.DENSE_SAFE g.B.ElementTuple.DENSE_SAFE d in
    let l : length (g.A.ElementTuple.shows c.in_ok-decoded.decoded i) ≡ n = ap length (c.in_ok-decoded.ensures.same i p) ∙ length_shown g.A.ElementTuple.elements.shown 0 xs i ∙ e in
    row_read n g.A.ElementTuple.elements.reads g.B.ElementTuple.elements.reads 0 (g.A.ElementTuple.shows c.in_ok-decoded.decoded i) (g.B.ElementTuple.shows c.in-Ok.more i) (omega (arith, l)) (c.in_ok-decoded.ensures.dense t.0 i p) (c.in-Ok.ensures.dense t.1 i q)

pub returns-in-Err-clause-errors : goal.returns-in-Err-clause-errors
returns-in-Err-clause-errors g c =
    let xs = c.split_columns.result.0.now in
    let ys = c.split_columns.result.1.now in
    let n = g.A.ElementTuple.ARITY in
    let e : length xs ≡ n = c.split_columns.ensures.first ∙ c.ARITY.ensures in
    let e0 : 0 + length xs ≡ n = omega arith in
    let small : n + length ys < 2 ^ 64 = grind (arith, common_steps, c.requires.arity, c.split_columns.ensures.joined) in
    let p = c.at_place.ensures ∙ ap (λ k. placed k c.in-Err.fault) c.ARITY-in-Err.ensures in
    subst (λ zs. DecodeFails (reads_side_by_side n g.A.ElementTuple.elements.reads g.B.ElementTuple.elements.reads) 0 zs c.at_place.result) (sym c.split_columns.ensures.joined) (second_side_fails n g.A.ElementTuple.elements.reads g.B.ElementTuple.elements.reads xs ys _ _ e small c.in_ok-decoded.ensures.read c.in-Err.ensures.errors p)
