use Rattle.std.proofs.Common.{◌≡◌, ◌∙◌, ◌<◌, ℕ, ap, sym, rules}
use Rattle.bitlane.specs.Bits.{tabulate}
use Rattle.colbase.specs.Arrays.{len, row, rows}
use Rattle.colbase.specs.Hides.{shown_row}
use Rattle.coltypes.specs.Valid.{valid_at}
use Rattle.rowexec.specs.Masks.{null_unless}
use Rattle.rowexec.proofs.Masking.{nullable_made}
use Rattle.rowloops.proofs.Results.{ok_then}
use Rattle.rowexec.proofs.Tables.{len_of_table, row_of_table}
use Rattle.rowexec.proofs.batch.finish.mask_rows.Goals as goal

pub null_column-requires : goal.null_column-requires
null_column-requires c = search (rules, nullable_made)

pub returns-in-Array-clause-len : goal.returns-in-Array-clause-len
returns-in-Array-clause-len c =
    let f = shown_row c.in-Array.bits (row c.args.values) in
    ok_then (λ a. rows a ≡ tabulate f (len c.args.values)) (λ a. len a ≡ len c.args.values) c.mask.result (λ a e. len_of_table a f (len c.args.values) e) c.mask.ensures.rows

pub returns-in-Array-clause-rows : goal.returns-in-Array-clause-rows
returns-in-Array-clause-rows c =
    let n = len c.args.values in
    let f = shown_row c.in-Array.bits (row c.args.values) in
    ok_then (λ a. rows a ≡ tabulate f n) (λ a. (i : ℕ) → i < n → row a i ≡ null_unless (valid_at c.args.full.now i) (row c.args.values i)) c.mask.result
    (λ a e i h. row_of_table a f n e i h ∙ ap (λ w. null_unless (valid_at w i) (row c.args.values i)) (sym c.in-Array.is)) c.mask.ensures.rows
