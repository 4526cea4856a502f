-- A column of the places that a loop wrote.
use Rattle.std.proofs.Common.{◌≡◌, ◌∙◌, ℕ, ◌<◌, List, length, get_or, map, take, Some, ap, sym, subst}
use Rattle.std.specs.Prelude.{replicate}
use Rattle.std.proofs.lemmas.List.{length-replicate}
use Rattle.colbase.specs.Arrays.{Array, column, len, row}
use Rattle.coltypes.specs.Cell.{Cell}
use Rattle.coltypes.specs.LogicalType.{LogicalType}
use Rattle.rowouts.specs.Outputs.{full_column}
use Rattle.rowouts.proofs.Columns.{all-places, full-len, full-row}

-- the rows are the cells of these values
pub record RowsAre {X : Type 0} (cell : X → Cell) (xs : List X) (d : X) (n : ℕ) (a : Array) : Type 0 where
  pub counted : len a ≡ n
  pub each : (i : ℕ) → i < n → row a i ≡ Some (cell (get_or xs i d))

-- of n places, which were lent, written and finished; m is n, as a caller counts it
pub written : {X : Type 0} (t : LogicalType) (cell : X → Cell) (d : X) (lent before xs after : List X) (n m : ℕ) (a : Array) → before ≡ replicate n d → lent ≡ before → length xs ≡ length lent → n ≡ m → (length xs ≡ length before → after ≡ xs) → column a ≡ full_column t (map cell (take n after)) → RowsAre cell xs d m a
written t cell d lent before xs after n m a p q h e back g =
    let k : length xs ≡ length before = h ∙ ap length q in
    let c : length xs ≡ n = k ∙ ap length p ∙ length-replicate n d in
    let whole : column a ≡ full_column t (map cell xs) = g ∙ ap (λ ys. full_column t (map cell ys)) (all-places after xs n (back k) c) in
    record {
      counted = full-len a t cell xs whole ∙ c ∙ e;
      each = λ i lt. full-row a t cell xs i d whole (subst (λ j. i < j) (sym (c ∙ e)) lt);
    }
