use Rattle.std.proofs.Common.{◌≡◌, true, false, ◌&&◌, sym, ap, ◌∙◌}
use Rattle.rowtypes.specs.Rows.{each_length}
use Rattle.rowtypes.proofs.Sides.{each_length_joined}
use Rattle.rowtypes.proofs.both.BothElementTuple.decoded_lens_match.Goals as goal

pub returns-then-decoded_lens_match : goal.returns-then-decoded_lens_match
returns-then-decoded_lens_match g c =
    let a = g.A.ElementTuple.lengths c.args.columns.now.0 in
    let b = g.B.ElementTuple.lengths c.args.columns.now.1 in
    let t : each_length c.args.row_count a ≡ true = sym c.decoded_lens_match.ensures ∙ c.if-decoded_lens_match.true in
    c.decoded_lens_match-then-decoded_lens_match.ensures ∙ ap (λ x. x && each_length c.args.row_count b) (sym t) ∙ sym (each_length_joined c.args.row_count a b)

pub returns-else-decoded_lens_match : goal.returns-else-decoded_lens_match
returns-else-decoded_lens_match g c =
    let a = g.A.ElementTuple.lengths c.args.columns.now.0 in
    let b = g.B.ElementTuple.lengths c.args.columns.now.1 in
    let f : each_length c.args.row_count a ≡ false = sym c.decoded_lens_match.ensures ∙ c.if-decoded_lens_match.false in
    c.if-decoded_lens_match.false ∙ ap (λ x. x && each_length c.args.row_count b) (sym f) ∙ sym (each_length_joined c.args.row_count a b)
