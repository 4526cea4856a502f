-- Rows of an array whose rows are a table.
use Rattle.std.proofs.Common.{◌≡◌, ◌∙◌, ℕ, ◌<◌, length, get_or, Option, None, ap, sym, subst}
use Rattle.bitlane.specs.Bits.{tabulate}
use Rattle.bitlane.proofs.Tables.{get_or-tabulate, length-tabulate}
use Rattle.colbase.specs.Arrays.{Array, len, row, rows}
use Rattle.coltypes.specs.Cell.{Cell}

pub len_of_table : (a : Array) (f : ℕ → Option Cell) (n : ℕ) → rows a ≡ tabulate f n → len a ≡ n
len_of_table a f n e = sym (length-tabulate (row a) (len a)) ∙ ap length e ∙ length-tabulate f n

no_cell : Option Cell
no_cell = None

pub row_of_table : (a : Array) (f : ℕ → Option Cell) (n : ℕ) → rows a ≡ tabulate f n → (i : ℕ) → i < n → row a i ≡ f i
row_of_table a f n e i h =
    let k : i < len a = subst (λ m. i < m) (sym (len_of_table a f n e)) h in
    sym (get_or-tabulate (row a) (len a) i no_cell k) ∙ ap (λ xs. get_or xs i no_cell) e ∙ get_or-tabulate f n i no_cell h
