use Rattle.std.proofs.Common.{◌&&◌, false, ◌≡◌, ◌+◌, ◌<◌, ◌^◌, length, sym, ap, ◌∙◌, subst, arith, rules}
use Rattle.std.proofs.lemmas.Grind.{common_steps}
use Rattle.rowtypes.specs.Rows.{all_tolerant, AcceptsFrom, DecodeFails, ReadsAllFrom}
use Rattle.rowelems.specs.Argument.{placed}
use Rattle.rowtypes.specs.SideBySide.{side_by_side, reads_side_by_side}
use Rattle.rowtypes.proofs.Lengths.{and_false, both_true}
use Rattle.rowtypes.proofs.Results.{some_of}
use Rattle.rowtypes.proofs.Sides.{tolerant_joined, accepted_first, accepted_second, all_read, joined_lengths, joined_values, length_shown, row_of_first, row_of_second, row_read, shown_joined}
use Rattle.rowtypes.proofs.SidesFail.{first_side_fails, second_side_fails}
use Rattle.rowtypes.proofs.both.BothElementTuple.decode_null_tolerant.Goals as goal

pub decode_null_tolerant-requires-clause-types : goal.decode_null_tolerant-requires-clause-types
decode_null_tolerant-requires-clause-types g c =
    let xs = c.split_columns.result.0.now in
    let ys = c.split_columns.result.1.now in
    let n = g.A.ElementTuple.ARITY in
    let e : length xs ≡ n = c.split_columns.ensures.first ∙ c.ARITY.ensures in
    let e0 : 0 + length xs ≡ n = omega arith in
    accepted_first n g.A.ElementTuple.elements.accepts g.B.ElementTuple.elements.accepts 0 xs ys e0 (subst (AcceptsFrom (side_by_side n g.A.ElementTuple.elements.accepts g.B.ElementTuple.elements.accepts) 0) c.split_columns.ensures.joined c.requires.types)

pub decode_null_tolerant-requires-2-clause-types : goal.decode_null_tolerant-requires-2-clause-types
decode_null_tolerant-requires-2-clause-types g c =
    let xs = c.split_columns.result.0.now in
    let ys = c.split_columns.result.1.now in
    let n = g.A.ElementTuple.ARITY in
    let e : length xs ≡ n = c.split_columns.ensures.first ∙ c.ARITY.ensures in
    let e0 : 0 + length xs ≡ n = omega arith in
    accepted_second n g.A.ElementTuple.elements.accepts g.B.ElementTuple.elements.accepts 0 xs ys e0 (subst (AcceptsFrom (side_by_side n g.A.ElementTuple.elements.accepts g.B.ElementTuple.elements.accepts) 0) c.split_columns.ensures.joined c.requires.types)

pub returns-in_err-decoded-clause-errors : goal.returns-in_err-decoded-clause-errors
returns-in_err-decoded-clause-errors g c =
    let xs = c.split_columns.result.0.now in
    let ys = c.split_columns.result.1.now in
    let n = g.A.ElementTuple.ARITY in
    let e : length xs ≡ n = c.split_columns.ensures.first ∙ c.ARITY.ensures in
    let e0 : 0 + length xs ≡ n = omega arith in
    let h : DecodeFails (reads_side_by_side n g.A.ElementTuple.elements.reads g.B.ElementTuple.elements.reads) 0 c.args.columns.now c.in_err-decoded.field-0.0 = subst (λ zs. DecodeFails (reads_side_by_side n g.A.ElementTuple.elements.reads g.B.ElementTuple.elements.reads) 0 zs c.in_err-decoded.field-0.0) (sym c.split_columns.ensures.joined) (first_side_fails n g.A.ElementTuple.elements.reads g.B.ElementTuple.elements.reads xs ys _ e c.in_err-decoded.ensures.errors) in
    search (rules, h)

pub returns-in-Ok-Some-clause-lengths : goal.returns-in-Ok-Some-clause-lengths
returns-in-Ok-Some-clause-lengths g c = cc ((some_of _ _ _ c.in-Some.is c.in_ok-decoded.ensures.lengths), (some_of _ _ _ c.in-Ok-Some.field-0-is c.in-Ok-Some.ensures.lengths), c.split_columns.ensures.joined, joined_lengths c.split_columns.result.0.now c.split_columns.result.1.now)

pub returns-in-Ok-Some-clause-known : goal.returns-in-Ok-Some-clause-known
returns-in-Ok-Some-clause-known g c = cc ((some_of _ _ _ c.in-Some.is c.in_ok-decoded.ensures.known), (some_of _ _ _ c.in-Ok-Some.field-0-is c.in-Ok-Some.ensures.known), c.split_columns.ensures.joined, joined_values c.split_columns.result.0.now c.split_columns.result.1.now)

pub returns-in-Ok-Some-clause-same : goal.returns-in-Ok-Some-clause-same
returns-in-Ok-Some-clause-same g c = λ i h.
    let xs = c.split_columns.result.0.now in
    let ys = c.split_columns.result.1.now in
    let n = g.A.ElementTuple.ARITY in
    let e : length xs ≡ n = c.split_columns.ensures.first ∙ c.ARITY.ensures in
    let e0 : 0 + length xs ≡ n = omega arith in
    let p = row_of_first (g.A.ElementTuple.lengths c.in-Some.decoded) (g.B.ElementTuple.lengths c.in-Ok-Some.more) i h in
    let q = row_of_second (g.A.ElementTuple.lengths c.in-Some.decoded) (g.B.ElementTuple.lengths c.in-Ok-Some.more) i h in
    cc ((some_of _ _ _ c.in-Some.is c.in_ok-decoded.ensures.same) i p, (some_of _ _ _ c.in-Ok-Some.field-0-is c.in-Ok-Some.ensures.same) i q, c.split_columns.ensures.joined, shown_joined n g.A.ElementTuple.elements.shown g.B.ElementTuple.elements.shown 0 0 xs ys i e0)

pub returns-in-Ok-Some-clause-read : goal.returns-in-Ok-Some-clause-read
returns-in-Ok-Some-clause-read g c =
    let xs = c.split_columns.result.0.now in
    let ys = c.split_columns.result.1.now in
    let n = g.A.ElementTuple.ARITY in
    let e : length xs ≡ n = c.split_columns.ensures.first ∙ c.ARITY.ensures in
    let e0 : 0 + length xs ≡ n = omega arith in
    subst (ReadsAllFrom (reads_side_by_side n g.A.ElementTuple.elements.reads g.B.ElementTuple.elements.reads) 0) (sym c.split_columns.ensures.joined) (all_read n g.A.ElementTuple.elements.reads g.B.ElementTuple.elements.reads 0 xs ys e0 (some_of _ _ _ c.in-Some.is c.in_ok-decoded.ensures.read) (some_of _ _ _ c.in-Ok-Some.field-0-is c.in-Ok-Some.ensures.read))

pub returns-in-Ok-Some-clause-dense : goal.returns-in-Ok-Some-clause-dense
returns-in-Ok-Some-clause-dense g c = λ d i h.
    let xs = c.split_columns.result.0.now in
    let ys = c.split_columns.result.1.now in
    let n = g.A.ElementTuple.ARITY in
    let e : length xs ≡ n = c.split_columns.ensures.first ∙ c.ARITY.ensures in
    let e0 : 0 + length xs ≡ n = omega arith in
    let p = row_of_first (g.A.ElementTuple.lengths c.in-Some.decoded) (g.B.ElementTuple.lengths c.in-Ok-Some.more) i h in
    let q = row_of_second (g.A.ElementTuple.lengths c.in-Some.decoded) (g.B.ElementTuple.lengths c.in-Ok-Some.more) i h in
    let t = both_true g.A.ElementTuple.DENSE_SAFE g.B.ElementTuple.DENSE_SAFE d in
    let l : length (g.A.ElementTuple.shows c.in-Some.decoded i) ≡ n = ap length ((some_of _ _ _ c.in-Some.is c.in_ok-decoded.ensures.same) i p) ∙ length_shown g.A.ElementTuple.elements.shown 0 xs i ∙ e in
    row_read n g.A.ElementTuple.elements.reads g.B.ElementTuple.elements.reads 0 (g.A.ElementTuple.shows c.in-Some.decoded i) (g.B.ElementTuple.shows c.in-Ok-Some.more i) (omega (arith, l)) ((some_of _ _ _ c.in-Some.is c.in_ok-decoded.ensures.dense) t.0 i p) ((some_of _ _ _ c.in-Ok-Some.field-0-is c.in-Ok-Some.ensures.dense) t.1 i q)

pub returns-in-Err-clause-errors : goal.returns-in-Err-clause-errors
returns-in-Err-clause-errors g c =
    let xs = c.split_columns.result.0.now in
    let ys = c.split_columns.result.1.now in
    let n = g.A.ElementTuple.ARITY in
    let e : length xs ≡ n = c.split_columns.ensures.first ∙ c.ARITY.ensures in
    let e0 : 0 + length xs ≡ n = omega arith in
    let small : n + length ys < 2 ^ 64 = grind (arith, common_steps, c.requires.arity, c.split_columns.ensures.joined) in
    let p = c.at_place.ensures ∙ ap (λ k. placed k c.in-Err.fault) c.ARITY-in-Err.ensures in
    subst (λ zs. DecodeFails (reads_side_by_side n g.A.ElementTuple.elements.reads g.B.ElementTuple.elements.reads) 0 zs c.at_place.result) (sym c.split_columns.ensures.joined) (second_side_fails n g.A.ElementTuple.elements.reads g.B.ElementTuple.elements.reads xs ys _ _ e small (some_of _ _ _ c.in-Some.is c.in_ok-decoded.ensures.read) c.in-Err.ensures.errors p)

pub returns-in_default-clause-told : goal.returns-in_default-clause-told
returns-in_default-clause-told g c =
    let xs = c.split_columns.result.0.now in
    let ys = c.split_columns.result.1.now in
    let n = g.A.ElementTuple.ARITY in
    let e : length xs ≡ n = c.split_columns.ensures.first ∙ c.ARITY.ensures in
    let e0 : 0 + length xs ≡ n = omega arith in
    let joined = ap (all_tolerant (side_by_side n g.A.ElementTuple.elements.tolerant g.B.ElementTuple.elements.tolerant) 0) c.split_columns.ensures.joined ∙ tolerant_joined n g.A.ElementTuple.elements.tolerant g.B.ElementTuple.elements.tolerant 0 xs ys e0 in
    let none : all_tolerant g.A.ElementTuple.elements.tolerant 0 xs ≡ false = search (rules) in
    sym (joined ∙ ap (λ t. t && all_tolerant g.B.ElementTuple.elements.tolerant 0 ys) none)

pub returns-in-Ok-None-clause-told : goal.returns-in-Ok-None-clause-told
returns-in-Ok-None-clause-told g c =
    let xs = c.split_columns.result.0.now in
    let ys = c.split_columns.result.1.now in
    let n = g.A.ElementTuple.ARITY in
    let e : length xs ≡ n = c.split_columns.ensures.first ∙ c.ARITY.ensures in
    let e0 : 0 + length xs ≡ n = omega arith in
    let joined = ap (all_tolerant (side_by_side n g.A.ElementTuple.elements.tolerant g.B.ElementTuple.elements.tolerant) 0) c.split_columns.ensures.joined ∙ tolerant_joined n g.A.ElementTuple.elements.tolerant g.B.ElementTuple.elements.tolerant 0 xs ys e0 in
    let none : all_tolerant g.B.ElementTuple.elements.tolerant 0 ys ≡ false = search (rules) in
    sym (joined ∙ ap (λ t. all_tolerant g.A.ElementTuple.elements.tolerant 0 xs && t) none ∙ and_false (all_tolerant g.A.ElementTuple.elements.tolerant 0 xs))
