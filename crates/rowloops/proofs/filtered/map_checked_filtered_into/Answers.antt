use Rattle.std.proofs.Common.{◌≡◌, ◌∙◌, ℕ, List, ◌∷◌, ◌<◌, length, subst, arith}
use Rattle.bitlane.specs.Bits.{true_indices}
use Rattle.bitlane.proofs.Joins.{Joined-at, Joined-none}
use Rattle.rowloops.proofs.SetPlaces.{counted_least, place_step, places_end, places_start, PlacesFrom}
use Rattle.rowloops.proofs.filtered.map_checked_filtered_into.Goals as goal

pub loop-index-init : goal.loop-index-init
loop-index-init g c =
    let indices : c.into_iter-index-iterator.result ≡ true_indices c.args.valid.now = c.into_iter-index-iterator.ensures.into_iter_gives ∙ c.set_indices-index-items.ensures in
    record {
      goes = tt;
      ends = tt;
      left = places_start c.args.valid.now c.into_iter-index-iterator.result indices;
      joined = Joined-none _ _ _ _ _ (g.met.V.FailureEvidence.default_is_neutral _ c.default-evidence.ensures);
    }

pub overflow_add-item : goal.overflow_add-item
overflow_add-item g c =
    let Left : List ℕ → Type 0 = λ is. PlacesFrom c.args.valid.now c.loop-index.item is in
    let left : Left (c.in-Some.index ∷ c.next.new.self) = subst Left c.in-Some.ensures.steps c.loop-index.invariant.left in
    let least = counted_least c.args.valid.now c.in-Some.index c.loop-index.item left.0 left.2 in
    omega (arith, least, left.1)

pub loop-index-preserved : goal.loop-index-preserved
loop-index-preserved g c =
    let at = c.in-Some.index in
    let item_at : ℕ → g.row.S-Item.Denot → Type 0 = g.S.IndexedSource.item_at c.args.source.now in
    let post = goal.F-post g c.args.apply in
    let V = g.V.FailureEvidence in
    let Left : List ℕ → Type 0 = λ is. PlacesFrom c.args.valid.now c.loop-index.item is in
    let left : Left (at ∷ c.next.new.self) = subst Left c.in-Some.ensures.steps c.loop-index.invariant.left in
    let within : at < length c.loop-index.out = omega (arith, left.1) in
    record {
      goes = tt;
      ends = tt;
      left = left.3;
      joined = place_step item_at post V.join V.neutral c.args.valid.now c.loop-index.out at c.loop-index.item c.loop-index.evidence within left.0 left.2 c.loop-index.invariant.joined
          c.get.result c.get.ensures c.apply-value.result c.apply-value.ensures _ (g.met.V.FailureEvidence.or_joins _ _ _ c.bitor_assign.ensures.after);
    }

pub returns : goal.returns
returns g c =
    let counted = places_end c.args.valid.now c.loop-index.item c.loop-index.index-iterator c.in-None.ensures.steps.0 c.loop-index.invariant.left in
    Joined-at _ _ _ _ _ _ _ counted c.loop-index.invariant.joined
