use Rattle.std.proofs.Common.{List, Bool}
use Rattle.bitlane.specs.Bits.{Collects}
use Rattle.bitlane.proofs.Collected.{IfOk-is}
use Rattle.bitlane.proofs.bits.BitBuffer.collect_bool_in.Goals as goal

pub returns-clause-calls : goal.returns-clause-calls
returns-clause-calls g c =
    let Given : List Bool → Type 0 = λ b. (x : _) × Collects (goal.F-step g) c.args.f 0 b x in
    IfOk-is Given c.from_vec.result _ c.from_vec.ensures c.in_ok-collect_indices.ensures.calls
