use Rattle.std.proofs.Common.{◌≡◌, ◌+◌, length, ◌&&◌, true, false, sym, ap, ◌∙◌, subst, arith}
use Rattle.rowtypes.specs.Rows.{AcceptsFrom, all_tolerant}
use Rattle.rowtypes.specs.SideBySide.{side_by_side}
use Rattle.rowtypes.proofs.Sides.{accepted_first, accepted_second, tolerant_joined}
use Rattle.rowtypes.proofs.both.BothElementTuple.can_decode_null_tolerant.Goals as goal

pub can_decode_null_tolerant-requires-clause-types : goal.can_decode_null_tolerant-requires-clause-types
can_decode_null_tolerant-requires-clause-types g c =
    let xs = c.split_columns.result.0.now in
    let ys = c.split_columns.result.1.now in
    let n = g.A.ElementTuple.ARITY in
    let e : length xs ≡ n = c.split_columns.ensures.first ∙ c.ARITY.ensures in
    let e0 : 0 + length xs ≡ n = omega arith in
    accepted_first n g.A.ElementTuple.elements.accepts g.B.ElementTuple.elements.accepts 0 xs ys e0 (subst (AcceptsFrom (side_by_side n g.A.ElementTuple.elements.accepts g.B.ElementTuple.elements.accepts) 0) c.split_columns.ensures.joined c.requires.types)

pub can_decode_null_tolerant-requires-then-can_decode_null_tolerant-clause-types : goal.can_decode_null_tolerant-requires-then-can_decode_null_tolerant-clause-types
can_decode_null_tolerant-requires-then-can_decode_null_tolerant-clause-types g c =
    let xs = c.split_columns.result.0.now in
    let ys = c.split_columns.result.1.now in
    let n = g.A.ElementTuple.ARITY in
    let e : length xs ≡ n = c.split_columns.ensures.first ∙ c.ARITY.ensures in
    let e0 : 0 + length xs ≡ n = omega arith in
    accepted_second n g.A.ElementTuple.elements.accepts g.B.ElementTuple.elements.accepts 0 xs ys e0 (subst (AcceptsFrom (side_by_side n g.A.ElementTuple.elements.accepts g.B.ElementTuple.elements.accepts) 0) c.split_columns.ensures.joined c.requires.types)

pub returns-then-can_decode_null_tolerant : goal.returns-then-can_decode_null_tolerant
returns-then-can_decode_null_tolerant g c =
    let xs = c.split_columns.result.0.now in
    let ys = c.split_columns.result.1.now in
    let n = g.A.ElementTuple.ARITY in
    let e : length xs ≡ n = c.split_columns.ensures.first ∙ c.ARITY.ensures in
    let e0 : 0 + length xs ≡ n = omega arith in
    let t : all_tolerant g.A.ElementTuple.elements.tolerant 0 xs ≡ true = sym c.can_decode_null_tolerant.ensures ∙ c.if-can_decode_null_tolerant.true in
    c.can_decode_null_tolerant-then-can_decode_null_tolerant.ensures ∙ ap (λ x. x && all_tolerant g.B.ElementTuple.elements.tolerant 0 ys) (sym t) ∙ sym (ap (all_tolerant (side_by_side n g.A.ElementTuple.elements.tolerant g.B.ElementTuple.elements.tolerant) 0) c.split_columns.ensures.joined ∙ tolerant_joined n g.A.ElementTuple.elements.tolerant g.B.ElementTuple.elements.tolerant 0 xs ys e0)

pub returns-else-can_decode_null_tolerant : goal.returns-else-can_decode_null_tolerant
returns-else-can_decode_null_tolerant g c =
    let xs = c.split_columns.result.0.now in
    let ys = c.split_columns.result.1.now in
    let n = g.A.ElementTuple.ARITY in
    let e : length xs ≡ n = c.split_columns.ensures.first ∙ c.ARITY.ensures in
    let e0 : 0 + length xs ≡ n = omega arith in
    let t : all_tolerant g.A.ElementTuple.elements.tolerant 0 xs ≡ false = sym c.can_decode_null_tolerant.ensures ∙ c.if-can_decode_null_tolerant.false in
    c.if-can_decode_null_tolerant.false ∙ ap (λ x. x && all_tolerant g.B.ElementTuple.elements.tolerant 0 ys) (sym t) ∙ sym (ap (all_tolerant (side_by_side n g.A.ElementTuple.elements.tolerant g.B.ElementTuple.elements.tolerant) 0) c.split_columns.ensures.joined ∙ tolerant_joined n g.A.ElementTuple.elements.tolerant g.B.ElementTuple.elements.tolerant 0 xs ys e0)
