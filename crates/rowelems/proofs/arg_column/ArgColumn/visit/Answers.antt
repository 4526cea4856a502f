use Rattle.std.proofs.Common.{rules, ◌<◌, ◌∙◌}
use Rattle.rowelems.proofs.arg_column.ArgColumn.visit.Goals as goal

pub visit-requires-in-Some-clause-items : goal.visit-requires-in-Some-clause-items
visit-requires-in-Some-clause-items g c = λ i e h k.
    let lt : i < g.T.InputElement.count c.in-Column.column = search (rules, h) in
    let same = k e ∙ c.in-Some.ensures.same i e lt in
    search (rules, h, same, c.requires.items i e)
