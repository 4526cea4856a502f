use Rattle.std.proofs.Common.{◌≡◌, ◌∙◌, ◌<◌, true, get_or, map, take, Some, refl, ap, sym, subst}
use Rattle.rowouts.proofs.Columns.{all-places, full-row}
use Rattle.rowtypes.proofs.Lengths.{has_row}
use Rattle.rowouts.specs.Outputs.{full_column}
use Rattle.rowtypes.specs.Rows.{each_length}
use Rattle.typetests.proofs.generic.answers.Goals as goal

pub map_rows-written-requires-clause-callable : goal.map_rows-written-requires-clause-callable
map_rows-written-requires-clause-callable g c i e lt h =
    let m : each_length c.args.rows (g.Args.ElementTuple.lengths c.in_ok-decoded.decoded) ≡ true = cc (c.decoded_lens_match.ensures, c.if-not-decoded_lens_match.false) in
    c.requires.callable i e lt (h ∙ c.in_ok-decoded.ensures.same i (has_row _ _ m i lt))

pub returns-clause-rows : goal.returns-clause-rows
returns-clause-rows g c i lt =
    let m : each_length c.args.rows (g.Args.ElementTuple.lengths c.in_ok-decoded.decoded) ≡ true = cc (c.decoded_lens_match.ensures, c.if-not-decoded_lens_match.false) in
    let B = g.Out.Buffer.OutputBuffer in
    let d = g.Out.OutputElement.placeholder in
    let xs = B.places c.map_rows-written.result in
    let room = c.map_rows-written.ensures.room in
    let w : take c.args.rows xs ≡ xs = all-places xs xs c.args.rows refl room in
    let each = c.map_rows-written.ensures.each i d lt in
    record {
      value = get_or xs i d;
      maps = record {
        item = each.item;
        stands = each.stands ∙ c.in_ok-decoded.ensures.same i (has_row _ _ m i lt);
        answer = each.answer;
      };
      is = full-row c.in_ok-finish.field-0 B.element_type B.states xs i d (c.in_ok-finish.ensures.column ∙ ap (λ ys. full_column B.element_type (map B.states ys)) w) (subst (λ m. i < m) (sym room) lt) ∙ ap (λ x. Some x) (g.met.Out.OutputElement.buffer_states (get_or xs i d));
    }
