use Rattle.std.proofs.Common.{rules, w64, SFits}
use Rattle.std.specs.Prelude.{MatchOption}
use Rattle.rowjson.proofs.Ranges.{signed_whole}
use Rattle.rowjson.proofs.column.native_integers.I64ColumnInt.number_in.Goals as goal

pub returns : goal.returns
returns c =
    let fits : MatchOption c.as_i64.result (Unit {0}) (λ z. SFits w64 z) = search rules in
    signed_whole _ _ c.as_i64.ensures fits
