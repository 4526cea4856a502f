-- The rows of a batch that run, by their marks.
use Rattle.std.proofs.Common.{◌≡◌, ◌∙◌, ℕ, zero, suc, ◌<◌, ◌≤◌, Bool, true, false, List, [], ◌∷◌, length, arith, ◌⊎◌, inl, inr, refl, sym}
use Rattle.std.specs.Prelude.{is_some}
use Rattle.bitlane.specs.Bits.{bit}
use Rattle.colbase.specs.Arrays.{Array}
use Rattle.coltypes.specs.Keep.{trues}
use Rattle.coltypes.specs.Valid.{valid_at}
use Rattle.coltypes.specs.declared.validity.Validity.{Validity}
use Rattle.rowplan.specs.declared.batch_plan.RowPolicy.{RowPolicy}
use Rattle.rowexec.specs.Counts.{one_row, runs_valid_only}
use Rattle.rowexec.specs.Rows.{EachHasRows, full_cells}
use Rattle.rowexec.specs.Selections.{Selected, SelectedValid}
use Rattle.rowexec.proofs.Reading.{full_at}
use Rattle.rowexec.specs.declared.batch.selection.Selection.{Selection}
use Rattle.rowexec.specs.declared.batch.selection.Selection.TheVariants as s

none_marked : (bits : List Bool) → trues bits ≡ 0 → (i : ℕ) → i < length bits → bit bits i ≡ false
none_marked [] e i h = absurd (omega arith)
none_marked (true ∷ bits) e i h = absurd (omega (arith, e))
none_marked (false ∷ bits) e zero h = refl
none_marked (false ∷ bits) e (suc i) h = none_marked bits e i (omega arith)

-- some value is true, where not each is false
pub some_marked : (bits : List Bool) → (((i : ℕ) → i < length bits → bit bits i ≡ false) → ⊥) → 0 < trues bits
some_marked bits q = few (trues bits) refl
  where
    few : (n : ℕ) → trues bits ≡ n → 0 < trues bits
    few zero e = absurd (q (none_marked bits e))
    few (suc n) e = omega (arith, e)

-- there is a value, where not each is true
pub some_mark : (bits : List Bool) → (((i : ℕ) → i < length bits → bit bits i ≡ true) → ⊥) → 0 < length bits
some_mark [] q = absurd (q (λ i h. absurd (omega arith)))
some_mark (b ∷ bits) q = omega arith

trues_within : (bits : List Bool) → trues bits ≤ length bits
trues_within [] = omega arith
trues_within (true ∷ bits) = omega (arith, trues_within bits)
trues_within (false ∷ bits) = omega (arith, trues_within bits)

-- some value is false, where not each is true
pub some_unmarked : (bits : List Bool) → (((i : ℕ) → i < length bits → bit bits i ≡ true) → ⊥) → trues bits < length bits
some_unmarked [] q = absurd (q (λ i h. absurd (omega arith)))
some_unmarked (false ∷ bits) q = omega (arith, trues_within bits)
some_unmarked (true ∷ bits) q = omega (arith, some_unmarked bits (λ h. q (later h)))
  where
    later : ((i : ℕ) → i < length bits → bit bits i ≡ true) → (i : ℕ) → i < suc (length bits) → bit (true ∷ bits) i ≡ true
    later h zero b = refl
    later h (suc i) b = h i (omega (arith, b))

-- all rows may run where each is valid
pub all_valid : (policy : RowPolicy) (n : ℕ) (columns : List Array) (full : Validity) → one_row n columns ≡ false → EachHasRows n columns → ((i : ℕ) → i < n → valid_at full i ≡ is_some (full_cells columns i)) → ((i : ℕ) → i < n → valid_at full i ≡ true) → Selected policy n columns s.All
all_valid policy n columns full o r t h = (o, inr (λ i k. full_at n i columns r k (sym (t i k) ∙ h i k)))

-- the rows that run where only those without a null argument may, of a batch for which no row stands for all
pub selected : (policy : RowPolicy) (n : ℕ) (columns : List Array) (full : Validity) (chosen : Selection) → runs_valid_only policy ≡ true → one_row n columns ≡ false → EachHasRows n columns → ((i : ℕ) → i < n → valid_at full i ≡ is_some (full_cells columns i)) → SelectedValid full n chosen → Selected policy n columns chosen
selected policy n columns full s.One p o r t h = absurd h
selected policy n columns full s.Attempt p o r t h = absurd h
selected policy n columns full s.All p o r t h = (o, inr (λ i k. full_at n i columns r k (sym (t i k) ∙ h i k)))
selected policy n columns full (s.Valid marks) p o r t h = (o, p, record { counted = h.0; each = λ i k. h.1 i k ∙ t i k }, h.2)
selected policy n columns full s.Nothing p o r t h = (o, p, h.1, λ i k. sym (t i k) ∙ h.0 i k)

-- what is selected is all rows: each is valid
pub all_selected : (full : Validity) (n : ℕ) (chosen : Selection) → ((chosen ≡ s.One) ⊎ ((chosen ≡ s.All) ⊎ (chosen ≡ s.Attempt))) → SelectedValid full n chosen → (i : ℕ) → i < n → valid_at full i ≡ true
all_selected full n s.One e h = absurd h
all_selected full n s.Attempt e h = absurd h
all_selected full n s.All e h = h
all_selected full n (s.Valid marks) (inl e) h = absurd (cc)
all_selected full n (s.Valid marks) (inr (inl e)) h = absurd (cc)
all_selected full n (s.Valid marks) (inr (inr e)) h = absurd (cc)
all_selected full n s.Nothing (inl e) h = absurd (cc)
all_selected full n s.Nothing (inr (inl e)) h = absurd (cc)
all_selected full n s.Nothing (inr (inr e)) h = absurd (cc)
