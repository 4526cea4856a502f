use Rattle.std.proofs.Common.{◌∙◌, arith}
use Rattle.coltypes.proofs.EqualCells.{fed_list, fed_none, fed_one, fed_some, fed_value}
use Rattle.coltypes.proofs.scalar.hash.+feed.Goals as goal
use Rattle.coltypes.proofs.scalar.hash.+feed.Goals.{feed_list-in-None, feed_list-in-Some}

pub feed_value-returns-in-List : goal.feed_value-returns-in-List
feed_value-returns-in-List g t c =
    fed_value g.H.Hasher.write c.args.state.now c.feed_list.new.state c.args.value.now c.as_slice-in-List.result.now c.in-List.items c.in-List.is (c.as_slice-in-List.ensures ∙ c.get.ensures)
    c.feed_list.ensures

pub feed_list-loop-i-preserved : goal.feed_list-loop-i-preserved
feed_list-loop-i-preserved g t c =
    let step = fed_one g.H.Hasher.write c.write_usize.new.self c.loop-i.state c.match-values-i.state c.args.values.now c.loop-i.i c.index-values-i.result c.loop-i-test.true c.index-values-i.is c.loop-i.invariant in
    elim c.match-values-i.branch [
      | feed_list-in-None w ↦ step (w.state-is ∙ fed_none g.H.Hasher.write c.loop-i.state w.write_u8-in-None.new.self c.index-values-i.result w.in-None.is w.write_u8-in-None.ensures)
      | feed_list-in-Some w ↦ step (w.state-is ∙ fed_some g.H.Hasher.write c.loop-i.state w.write_u8-in-Some.new.self w.feed_value.new.state c.index-values-i.result w.in-Some.value w.in-Some.is w.write_u8-in-Some.ensures w.feed_value.ensures)
    ]

pub feed_list-returns : goal.feed_list-returns
feed_list-returns g t c =
    let bound = c.loop-i.auto.i-end in
    let past = c.loop-i-test.false in
    fed_list g.H.Hasher.write c.args.state.now c.write_u8.new.self c.write_usize.new.self c.loop-i.state c.args.values.now c.loop-i.i (omega arith) c.write_u8.ensures c.write_usize.ensures
    c.loop-i.invariant
