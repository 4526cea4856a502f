-- Rows under a type made nullable.
use Rattle.std.proofs.Common.{◌≡◌, ℕ, ◌<◌, Result, Ok, Err}
use Rattle.std.specs.Prelude.{IfOk}
use Rattle.colbase.specs.Arrays.{Array, len, row}
use Rattle.colbase.specs.Casts.{Casts}
use Rattle.coltypes.specs.declared.dtype.Nullability.TheVariants.{Nullable}
use Rattle.coltypes.specs.declared.fault.Fault.{Fault}
use Rattle.rowexec.proofs.Tables.{len_of_table, row_of_table}

pub cast_len : (r : Result Array Fault) (a : Array) → Casts r a Nullable → IfOk r (λ b. len b ≡ len a)
cast_len (Ok b) a h = len_of_table b (row a) (len a) h.2
cast_len (Err e) a h = tt

pub cast_rows : (r : Result Array Fault) (a : Array) → Casts r a Nullable → IfOk r (λ b. (i : ℕ) → i < len a → row b i ≡ row a i)
cast_rows (Ok b) a h = row_of_table b (row a) (len a) h.2
cast_rows (Err e) a h = tt
