use Rattle.std.proofs.Common.{rules, w64, Fits}
use Rattle.std.specs.Prelude.{MatchOption}
use Rattle.rowjson.proofs.Ranges.{unsigned_whole}
use Rattle.rowjson.proofs.column.native_integers.U64ColumnInt.number_in.Goals as goal

pub returns : goal.returns
returns c =
    let fits : MatchOption c.as_u64.result (Unit {0}) (λ n. Fits w64 n) = search rules in
    unsigned_whole _ _ c.as_u64.ensures fits
