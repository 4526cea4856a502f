use Rattle.std.proofs.Common.{rules, ℕ, ◌<◌, IfOk, slice_index_or, subst}
use Rattle.bitlane.specs.Maps.{MapsTo}
use Rattle.bitlane.proofs.Collected.{collected-each}
use Rattle.bitlane.proofs.map.map_collect.Goals as goal

pub returns-clause-items : goal.returns-clause-items
returns-clause-items g c =
    let May : ℕ → g.row.T.Denot → Type 0 = λ i x. MapsTo (g.S.IndexedSource.item_at c.args.source.now i) (goal.F-post g c.args.apply) x in
    let Each : ℕ → Type 0 = λ n. IfOk c.collect_indices.result (λ v. (i : ℕ) (d : g.row.T.Denot) → i < n → May i (slice_index_or v.items i d)) in
    subst Each c.len.ensures (collected-each _ May _ _ (λ i x h k. search rules) (λ v. v.items) _ c.collect_indices.ensures.len c.collect_indices.ensures.calls)
