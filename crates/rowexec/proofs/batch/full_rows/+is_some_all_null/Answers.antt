use Rattle.std.proofs.Common.{◌≡◌, ◌∷◌, rules}
use Rattle.rowexec.proofs.Masking.{rows_of_others}
use Rattle.rowexec.proofs.batch.full_rows.+is_some_all_null.Goals as goal

pub is_some_all_null-requires : goal.is_some_all_null-requires
is_some_all_null-requires t c =
    let whole : c.args.columns.now ≡ c.in-Some.first.now ∷ c.in-Some.others.now = search rules in
    (search rules, (rows_of_others c.args.row_count c.args.columns.now c.in-Some.first.now c.in-Some.others.now whole c.requires).1)
