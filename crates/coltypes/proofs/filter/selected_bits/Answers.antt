use Rattle.std.proofs.Common.{◌≡◌, ◌∙◌, length}
use Rattle.bitlane.specs.Bits.{true_indices}
use Rattle.coltypes.proofs.Picked.{below-start, picked-start}
use Rattle.coltypes.proofs.filter.selected_bits.Goals as goal

pub loop-index-init : goal.loop-index-init
loop-index-init c =
    let indices : c.into_iter-index-iterator.result ≡ true_indices c.args.bits.now = c.into_iter-index-iterator.ensures.into_iter_gives ∙ c.set_indices-index-items.ensures in
    record {
      goes = tt;
      ends = tt;
      within = below-start c.args.bits.now c.into_iter-index-iterator.result (length c.args.values.now) indices c.requires.covers;
      kept = picked-start c.args.bits.now c.args.values.now c.in_ok-kept.kept.items c.into_iter-index-iterator.result indices c.requires.covers c.in_ok-kept.ensures.items;
    }
