use Rattle.std.proofs.Common.{rules, ◌<◌}
use Rattle.rowtypes.proofs.tuple.beside.AfterSourceVisitor.visit.Goals as goal

pub visit-requires-clause-items : goal.visit-requires-clause-items
visit-requires-clause-items g c = λ i e h k.
    let lt : i < g.S.IndexedSource.count c.args.self.first = search (rules, h) in
    c.requires.items i e.1 lt k.1 e.0 k.0
