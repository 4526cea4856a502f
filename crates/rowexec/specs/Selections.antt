-- Which rows of a batch run. Each choice says what its run may rest on.
use Rattle.std.specs.Prelude.{◌≡◌, ℕ, ◌<◌, Bool, true, false, List, [], ◌∷◌, ⊤, length, is_some}
use Rattle.bitlane.specs.Bits.{bit}
use Rattle.colbase.specs.Arrays.{Array}
use Rattle.colbase.specs.Selects.{Filters}
use Rattle.coltypes.specs.Keep.{trues}
use Rattle.coltypes.specs.Valid.{valid_at}
use Rattle.coltypes.specs.declared.validity.Validity.{Validity}
use Rattle.rowplan.specs.declared.batch_plan.RowPolicy.{RowPolicy}
use Rattle.rowplan.specs.declared.batch_plan.RowPolicy.TheVariants.{DenseWithRetry}
use Rattle.rowexec.specs.Counts.{one_row, runs_valid_only}
use Rattle.rowexec.specs.Rows.{full_cells}
use Rattle.rowexec.specs.Visits.{MayRunAll}
use Rattle.rowexec.specs.declared.batch.selection.Selection.{Selection}
use Rattle.rowexec.specs.declared.batch.selection.Selection.TheVariants as s

-- the rows that are valid: all of the n rows, those that are marked where another is not, or none of some
abbrev pub SelectedValid : Validity → ℕ → Selection → Type 0
SelectedValid full n s.One = ⊥
SelectedValid full n s.Attempt = ⊥
SelectedValid full n s.All = (i : ℕ) → i < n → valid_at full i ≡ true
SelectedValid full n (s.Valid marks) = (length marks ≡ n) × ((i : ℕ) → i < n → bit marks i ≡ valid_at full i) × (0 < trues marks) × (trues marks < n)
SelectedValid full n s.Nothing = ((i : ℕ) → i < n → valid_at full i ≡ false) × (0 < n)

-- one mark for each of n rows, true where no argument is null
pub record MarksFullRows (columns : List Array) (n : ℕ) (marks : List Bool) : Type 0 where
  pub counted : length marks ≡ n
  pub each : (i : ℕ) → i < n → bit marks i ≡ is_some (full_cells columns i)

-- the rows of a batch: one that stands for all, all rows where they may run, all rows by an attempt, those without a null argument, or none of some rows
abbrev pub Selected : RowPolicy → ℕ → List Array → Selection → Type 0
Selected policy n columns s.One = one_row n columns ≡ true
Selected policy n columns s.All = (one_row n columns ≡ false) × MayRunAll policy n columns
Selected policy n columns s.Attempt = (one_row n columns ≡ false) × (policy ≡ DenseWithRetry)
Selected policy n columns (s.Valid marks) = (one_row n columns ≡ false) × (runs_valid_only policy ≡ true) × MarksFullRows columns n marks × (0 < trues marks)
Selected policy n columns s.Nothing = (one_row n columns ≡ false) × (runs_valid_only policy ≡ true) × (0 < n) × ((i : ℕ) → i < n → is_some (full_cells columns i) ≡ false)

-- each of the new columns has the marked rows of its old one
abbrev pub FilteredFrom : List Bool → List Array → List Array → Type 0
FilteredFrom marks [] [] = ⊤
FilteredFrom marks (a ∷ olds) (b ∷ news) = Filters a marks b × FilteredFrom marks olds news
FilteredFrom marks _ _ = ⊥
