use Rattle.std.proofs.Common.{rules, w64, FitsSigned}
use Rattle.std.proofs.lemmas.Int.{to_z-of_z}
use Rattle.rowsample.proofs.ExactNumbers.{checked_step}
use Rattle.rowsample.proofs.truncate.stepped.Goals as goal

pub returns : goal.returns
returns c =
    let value : FitsSigned w64 c.args.value = c.ranges.value in
    let ticks : FitsSigned w64 c.args.ticks = c.ranges.ticks in
    let rest : FitsSigned w64 c.rem_euclid.result = search rules in
    checked_step c.args.value c.args.ticks c.rem_euclid.result c.overflowing_sub.result.0 c.overflowing_sub.result.1 value rest
    (simp to_z-of_z at c.rem_euclid.ensures.value) (simp to_z-of_z at c.overflowing_sub.ensures.value) (simp to_z-of_z at c.overflowing_sub.ensures.overflow)
