use Rattle.std.proofs.Common.{◌≤◌, ℕ, List, length, take, drop, sym, subst, arith, length-drop}
use Rattle.std.proofs.lemmas.List.{take_rest}
use Rattle.std.proofs.Math.Seq.{take-add}
use Rattle.rowtext.specs.Bytes.{Grows}
use Rattle.rowtext.proofs.Pieces.{grows_more}
use Rattle.rowtext.proofs.write.write_whole.Goals as goal

pub loop-at-preserved : goal.loop-at-preserved
loop-at-preserved g c =
    let at = c.loop-at.at in
    let n = c.in_ok-at.field-0 in
    let bytes = c.args.bytes.now in
    let held = g.K.Sink.held in
    let step : Grows (held c.loop-at.sink) (take n (drop at bytes)) (held c.write.new.self) =
    subst (λ (rest : List ℕ). Grows (held c.loop-at.sink) (take n rest) (held c.write.new.self)) (take_rest bytes at) c.in_ok-at.ensures.bytes in
    let count : n ≤ length (drop at bytes) =
    subst (λ (rest : List ℕ). n ≤ length rest) (take_rest bytes at) c.in_ok-at.ensures.count in
    record {
      within = omega (arith, count, length-drop at bytes);
      grown = subst (λ front. Grows (held c.args.sink.now) front (held c.write.new.self)) (sym (take-add at n bytes))
          (grows_more (held c.args.sink.now) (held c.loop-at.sink) (held c.write.new.self) (take at bytes) (take n (drop at bytes)) c.loop-at.invariant.grown step);
      counts = omega (arith, c.loop-at.invariant.counts, c.write.ensures.counts.no_lower);
    }
