-- The batch that bytes state, over the JSON value that `serde_json` reads from them. Exactly the known keys must be there.
use Rattle.std.specs.Prelude.{ℕ, ℤ, ◌&&◌, nat_le, if◌then◌else◌, List, Option, Some, None, option_map, codes}
use Rattle.std.specs.Str.{bytes_eq}
use Rattle.serde_json.specs.Data.{Data}
use Rattle.serde_json.specs.Find.{get}
use Rattle.colbase.specs.Arrays.{Array}
use Rattle.rowjson.specs.Columns.{columns_in, max_rows}
use Rattle.rowjson.specs.Objects.{◌>>=◌, has_keys, json_of, text_in, array_in, integer_in, number_in}
use Rattle.rowrun.specs.declared.batch.Call.{Call}
use Rattle.rowrun.specs.declared.batch.Call.TheVariants.{WrappingAdd, CheckedAdd, Rescale, Truncate}

-- ---- batches

-- a call and its arguments
pub record Batch : Type 0 where
  pub call : Call
  pub row_count : ℕ
  pub columns : List Array

-- a function that has no options
unfoldable pub without_options : Call → Data → Option Call
without_options call options = if has_keys 0 options then Some call else None

-- the options whose one key is `ticks`, an i64
unfoldable pub ticks_in : Data → Option ℤ
ticks_in options = if has_keys 1 options then integer_in (codes "ticks") options else None

-- a function by its name, with its options
unfoldable pub call_in : List ℕ → Data → Option Call
call_in name options =
    if bytes_eq name (codes "wrapping_add") then without_options WrappingAdd options
    else if bytes_eq name (codes "checked_add") then without_options CheckedAdd options
    else if bytes_eq name (codes "rescale") then without_options Rescale options
    else if bytes_eq name (codes "truncate") then option_map (λ n. Truncate (record { ticks = n })) (ticks_in options) else None

unfoldable pub batch_in : Data → Option Batch
batch_in d = do
  name ← text_in (codes "call") d
  options ← get (codes "options") d
  call ← call_in name options
  rows ← number_in (codes "rows") d
  items ← array_in (codes "columns") d
  columns ← columns_in items
  if has_keys 4 d && nat_le rows max_rows then Some (record { call = call; row_count = rows; columns = columns }) else None

-- ---- bytes

unfoldable pub batch_of : List ℕ → Option Batch
batch_of bytes = json_of bytes >>= batch_in
