use Rattle.std.proofs.Common.{sym, ◌∙◌}
use Rattle.rowtypes.specs.Rows.{each_length}
use Rattle.rowtypes.proofs.Lengths.{both_true}
use Rattle.rowtypes.proofs.Sides.{each_length_joined}
use Rattle.rowtypes.proofs.both_rows.BothIndexedElementTuple.visit_rows.Goals as goal

pub visit_rows-requires-clause-lengths : goal.visit_rows-requires-clause-lengths
visit_rows-requires-clause-lengths g c =
    let n = c.args.row_count in
    let a = g.A.ElementTuple.lengths c.args.columns.now.0 in
    let b = g.B.ElementTuple.lengths c.args.columns.now.1 in
    (both_true (each_length n a) (each_length n b) (sym (each_length_joined n a b) ∙ c.requires.lengths)).0

pub visit_rows-requires-clause-ready : goal.visit_rows-requires-clause-ready
visit_rows-requires-clause-ready g c =
    let n = c.args.row_count in
    let a = g.A.ElementTuple.lengths c.args.columns.now.0 in
    let b = g.B.ElementTuple.lengths c.args.columns.now.1 in
    (c.requires.ready, c.requires.rows, (both_true (each_length n a) (each_length n b) (sym (each_length_joined n a b) ∙ c.requires.lengths)).1)
