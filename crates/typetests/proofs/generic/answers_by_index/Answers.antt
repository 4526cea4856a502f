use Rattle.std.proofs.Common.{◌≡◌, ◌∙◌, ◌<◌, true, ap, sym, subst}
use Rattle.rowtypes.proofs.Lengths.{has_row}
use Rattle.rowtypes.specs.Rows.{each_length}
use Rattle.typetests.proofs.generic.answers_by_index.Goals as goal

pub build_from-requires : goal.build_from-requires
build_from-requires g c = record {
  callable = λ i e at h.
      let lt = subst (λ m. i < m) c.new-source.ensures.row_count at in
      let m : each_length c.args.rows (g.Args.ElementTuple.lengths c.in_ok-decoded.decoded) ≡ true = cc in
      c.requires.callable i e lt (h ∙ ap (λ cs. g.Args.ElementTuple.shows cs i) c.new-source.ensures.columns ∙ c.in_ok-decoded.ensures.same i (has_row _ _ m i lt));
}

pub returns-clause-rows : goal.returns-clause-rows
returns-clause-rows g c i lt =
    let m : each_length c.args.rows (g.Args.ElementTuple.lengths c.in_ok-decoded.decoded) ≡ true = cc in
    let found = c.in_ok-build_from.ensures.rows i (subst (λ m. i < m) (sym c.new-source.ensures.row_count) lt) in
    record {
      value = found.value;
      maps = record {
        item = found.maps.item;
        stands = found.maps.stands ∙ ap (λ cs. g.Args.ElementTuple.shows cs i) c.new-source.ensures.columns ∙ c.in_ok-decoded.ensures.same i (has_row _ _ m i lt);
        answer = found.maps.answer;
      };
      is = found.is;
    }
