-- Which rows of a batch run, and how many.
use Rattle.std.proofs.Common.{◌≡◌, ◌∙◌, ℕ, zero, suc, ◌<◌, ◌≤◌, ◌&&◌, ◌==◌, Bool, true, false, List, [], ◌∷◌, length, Option, None, Some, inl, inr, refl, ap, sym, subst, arith}
use Rattle.std.proofs.lemmas.Bool.Decides.{nat_tests}
use Rattle.std.specs.Prelude.{IsSome, is_some, nat_lt}
use Rattle.bitlane.specs.Bits.{bit, tabulate}
use Rattle.colbase.specs.Arrays.{Array, len, row}
use Rattle.coltypes.specs.Cell.{Cell}
use Rattle.coltypes.specs.Keep.{trues}
use Rattle.colbase.specs.Parts.{own_validity}
use Rattle.coltypes.specs.Valid.{validity_kind}
use Rattle.rowelems.specs.Shown.{batch_value}
use Rattle.rowplan.specs.declared.batch_plan.RowPolicy.{RowPolicy}
use Rattle.rowplan.specs.declared.batch_plan.RowPolicy.TheVariants.{Dense, DenseWithRetry, ValidOnly}
use Rattle.rowexec.specs.Counts.{each_one_value, full_bits, is_no_nulls, is_one_value, most_prepares, one_row, policy_steps, retried, runs_valid_only, settled, some_column, steps_asked}
use Rattle.rowexec.specs.Rows.{EachHasRows, full_cells, some_all_null}
use Rattle.rowexec.specs.RowRuns.{FullAt}
use Rattle.rowexec.specs.Selections.{MarksFullRows, Selected}
use Rattle.rowexec.specs.declared.batch.selection.Selection.{Selection}
use Rattle.rowexec.specs.Visits.{MayRunAll}
use Rattle.rowexec.proofs.FullRows.{picked}
use Rattle.rowexec.proofs.Batches.{both_parts}
use Rattle.rowexec.proofs.OneRow.{value_of, value_row}

is_there : (o : Option Cell) (x : Cell) → o ≡ Some x → IsSome o
is_there o x e = ap is_some e

-- each row of columns that are one value is full
values_full : (n i : ℕ) (arrays : List Array) → EachHasRows n arrays → each_one_value arrays ≡ true → i < n → FullAt i arrays
values_full n i [] r h b = tt
values_full n i (a ∷ arrays) r h b =
    let p = both_parts (is_one_value a) (each_one_value arrays) h in
    let q = both_parts (is_no_nulls (validity_kind (own_validity a))) (is_some (batch_value a)) p.0 in
    let known = value_of (batch_value a) q.1 in (
      subst (λ m. i < m) (sym r.0) b,
      is_there (row a i) known.value (value_row a i known.value q.0 (picked (nat_lt 0 (len a)) _ known.value known.is)),
      values_full n i arrays r.1 p.1 b,
    )

-- the one row that stands for all is full
pub one_full : (n : ℕ) (columns : List Array) → EachHasRows n columns → one_row n columns ≡ true → (i : ℕ) → i < 1 → FullAt i columns
one_full n columns r h i b =
    let p = both_parts (nat_lt 0 n) (some_column columns && each_one_value columns) h in
    let few : 0 < n = grind (arith, nat_tests, p.0) in
    values_full n i columns r (both_parts (some_column columns) (each_one_value columns) p.1).1 (omega (arith, few, b))

full_is_some : (i : ℕ) (arrays : List Array) → FullAt i arrays → is_some (full_cells arrays i) ≡ true
full_is_some i [] h = refl
full_is_some i (a ∷ arrays) h = both_some (row a i) (full_cells arrays i) h.1 (full_is_some i arrays h.2)
  where
    both_some : (o : Option Cell) (rest : Option (List Cell)) → IsSome o → is_some rest ≡ true → is_some (Rattle.rowexec.specs.Rows.with_cell o rest) ≡ true
    both_some (Some x) (Some xs) p q = refl
    both_some (Some x) None p q = absurd (cc)
    both_some None rest p q = absurd (cc)

-- how many of n truth values are true, where all are and where none is
pub trues_all : (f : ℕ → Bool) (n : ℕ) → ((i : ℕ) → i < n → f i ≡ true) → trues (tabulate f n) ≡ n
trues_all f zero h = refl
trues_all f (suc n) h = true_first (f 0) (tabulate (λ i. f (suc i)) n) (h 0 (omega arith)) ∙ ap suc (trues_all (λ i. f (suc i)) n (λ i b. h (suc i) (omega (arith, b))))
  where
    true_first : (b : Bool) (bits : List Bool) → b ≡ true → trues (b ∷ bits) ≡ suc (trues bits)
    true_first true bits e = refl
    true_first false bits e = absurd (cc)

pub trues_none : (f : ℕ → Bool) (n : ℕ) → ((i : ℕ) → i < n → f i ≡ false) → trues (tabulate f n) ≡ 0
trues_none f zero h = refl
trues_none f (suc n) h = false_first (f 0) (tabulate (λ i. f (suc i)) n) (h 0 (omega arith)) ∙ trues_none (λ i. f (suc i)) n (λ i b. h (suc i) (omega (arith, b)))
  where
    false_first : (b : Bool) (bits : List Bool) → b ≡ false → trues (b ∷ bits) ≡ trues bits
    false_first false bits e = refl
    false_first true bits e = absurd (cc)

-- marks that are told at each row
pub marks_are : (f : ℕ → Bool) (n : ℕ) (marks : List Bool) → length marks ≡ n → ((i : ℕ) → i < n → bit marks i ≡ f i) → tabulate f n ≡ marks
marks_are f zero [] l h = refl
marks_are f zero (b ∷ marks) l h = absurd (omega (arith, l))
marks_are f (suc n) [] l h = absurd (omega (arith, l))
marks_are f (suc n) (b ∷ marks) l h = ap (λ x. x ∷ tabulate (λ i. f (suc i)) n) (sym (h 0 (omega arith))) ∙ ap (λ bits. b ∷ bits) (marks_are (λ i. f (suc i)) n marks (omega (arith, l)) (λ i k. h (suc i) (omega (arith, k))))

pub trues_full : (n : ℕ) (columns : List Array) → ((i : ℕ) → i < n → FullAt i columns) → trues (full_bits n columns) ≡ n
trues_full n columns h = trues_all (λ i. is_some (full_cells columns i)) n (λ i b. full_is_some i columns (h i b))

pub steps_of_one : (policy : RowPolicy) (accepted : Bool) (n : ℕ) (columns : List Array) → some_all_null columns ≡ false → one_row n columns ≡ true → 1 ≡ steps_asked policy accepted n columns
steps_of_one policy accepted n columns s o = rw s (rw o refl)

-- no row runs once more where all are full
pub retried_none : (full n : ℕ) → full ≡ n → retried full n ≡ 0
retried_none full n e = grind (arith, nat_tests, e)

policy_steps_all : (policy : RowPolicy) (accepted : Bool) (n : ℕ) (columns : List Array) → MayRunAll policy n columns → n ≡ policy_steps policy accepted n columns
policy_steps_all Dense accepted n columns h = refl
policy_steps_all DenseWithRetry true n columns h = refl
policy_steps_all DenseWithRetry false n columns (inl r) = absurd (cc)
policy_steps_all DenseWithRetry false n columns (inr full) = omega (arith, retried_none (trues (full_bits n columns)) n (trues_full n columns full))
policy_steps_all ValidOnly accepted n columns (inl r) = absurd (cc)
policy_steps_all ValidOnly accepted n columns (inr full) = sym (trues_full n columns full)

pub steps_of_all : (policy : RowPolicy) (accepted : Bool) (n : ℕ) (columns : List Array) → some_all_null columns ≡ false → one_row n columns ≡ false → MayRunAll policy n columns → n ≡ steps_asked policy accepted n columns
steps_of_all policy accepted n columns s o h = rw s (rw o (policy_steps_all policy accepted n columns h))

-- the rows that the policy asks for, where neither a column of nulls nor one row stands for all
pub steps_of_policy : (policy : RowPolicy) (accepted : Bool) (n : ℕ) (columns : List Array) → some_all_null columns ≡ false → one_row n columns ≡ false → policy_steps policy accepted n columns ≡ steps_asked policy accepted n columns
steps_of_policy policy accepted n columns s o = rw s (rw o refl)

-- the marked rows are the full ones
pub trues_marked : (n : ℕ) (columns : List Array) (marks : List Bool) → MarksFullRows columns n marks → trues marks ≡ trues (full_bits n columns)
trues_marked n columns marks full = ap trues (sym (marks_are (λ i. is_some (full_cells columns i)) n marks full.counted full.each))

pub trues_empty : (n : ℕ) (columns : List Array) → ((i : ℕ) → i < n → is_some (full_cells columns i) ≡ false) → trues (full_bits n columns) ≡ 0
trues_empty n columns h = trues_none (λ i. is_some (full_cells columns i)) n h

-- no more rows are full than there are
pub trues_below : (f : ℕ → Bool) (n : ℕ) → trues (tabulate f n) ≤ n
trues_below f zero = omega arith
trues_below f (suc n) = one_more (f 0) (tabulate (λ i. f (suc i)) n) n (trues_below (λ i. f (suc i)) n)
  where
    one_more : (b : Bool) (bits : List Bool) (m : ℕ) → trues bits ≤ m → trues (b ∷ bits) ≤ suc m
    one_more true bits m h = omega (arith, h)
    one_more false bits m h = omega (arith, h)

valid_steps : (policy : RowPolicy) (accepted : Bool) (n : ℕ) (columns : List Array) → runs_valid_only policy ≡ true → policy_steps policy accepted n columns ≡ trues (full_bits n columns)
valid_steps Dense accepted n columns r = absurd (cc)
valid_steps DenseWithRetry accepted n columns r = absurd (cc)
valid_steps ValidOnly accepted n columns r = refl

pub steps_of_marks : (policy : RowPolicy) (accepted : Bool) (n : ℕ) (columns : List Array) (marks : List Bool) → some_all_null columns ≡ false → one_row n columns ≡ false → runs_valid_only policy ≡ true → MarksFullRows columns n marks → trues marks ≡ steps_asked policy accepted n columns
steps_of_marks policy accepted n columns marks s o r full = trues_marked n columns marks full ∙ sym (valid_steps policy accepted n columns r) ∙ steps_of_policy policy accepted n columns s o

pub no_steps : (policy : RowPolicy) (accepted : Bool) (n : ℕ) (columns : List Array) → some_all_null columns ≡ false → one_row n columns ≡ false → runs_valid_only policy ≡ true → ((i : ℕ) → i < n → is_some (full_cells columns i) ≡ false) → steps_asked policy accepted n columns ≡ 0
no_steps policy accepted n columns s o r h = sym (steps_of_policy policy accepted n columns s o) ∙ valid_steps policy accepted n columns r ∙ trues_empty n columns h

not_zero : (t : ℕ) → 0 < t → (t == 0) ≡ false
not_zero t h = grind (arith, nat_tests, h)

some_rows : (n : ℕ) → nat_lt 0 n ≡ true → 0 < n
some_rows n h = grind (arith, nat_tests, h)

-- a call is not settled where the policy runs some row of each batch that has rows
unsettled : (policy : RowPolicy) (n : ℕ) (columns : List Array) → some_all_null columns ≡ false → (runs_valid_only policy ≡ true → 0 < n → 0 < trues (full_bits n columns)) → settled policy n columns ≡ false
unsettled policy n columns s h = rw s (go (runs_valid_only policy) (nat_lt 0 n) refl refl)
  where
    go : (r z : Bool) → runs_valid_only policy ≡ r → nat_lt 0 n ≡ z → (r && (z && (trues (full_bits n columns) == 0))) ≡ false
    go false z e f = refl
    go true false e f = refl
    go true true e f = not_zero (trues (full_bits n columns)) (h e (some_rows n f))

pub unsettled_one : (policy : RowPolicy) (n : ℕ) (columns : List Array) → some_all_null columns ≡ false → EachHasRows n columns → one_row n columns ≡ true → settled policy n columns ≡ false
unsettled_one policy n columns s r o =
    let p = both_parts (nat_lt 0 n) (some_column columns && each_one_value columns) o in
    let values = (both_parts (some_column columns) (each_one_value columns) p.1).1 in
    unsettled policy n columns s (λ e f. omega (arith, f, trues_full n columns (λ i b. values_full n i columns r values b)))

pub unsettled_all : (policy : RowPolicy) (n : ℕ) (columns : List Array) → some_all_null columns ≡ false → MayRunAll policy n columns → settled policy n columns ≡ false
unsettled_all policy n columns s (inl r) = unsettled policy n columns s (λ e f. absurd (cc (ap runs_valid_only r, e)))
unsettled_all policy n columns s (inr full) = unsettled policy n columns s (λ e f. omega (arith, f, trues_full n columns full))

pub unsettled_marks : (policy : RowPolicy) (n : ℕ) (columns : List Array) (marks : List Bool) → some_all_null columns ≡ false → MarksFullRows columns n marks → 0 < trues marks → settled policy n columns ≡ false
unsettled_marks policy n columns marks s full m = unsettled policy n columns s (λ e f. omega (arith, m, trues_marked n columns marks full))

pub unsettled_attempt : (policy : RowPolicy) (n : ℕ) (columns : List Array) → some_all_null columns ≡ false → policy ≡ DenseWithRetry → settled policy n columns ≡ false
unsettled_attempt policy n columns s r = unsettled policy n columns s (λ e f. absurd (cc (ap runs_valid_only r, e)))

pub most_once : (policy : RowPolicy) → 1 ≤ most_prepares policy
most_once Dense = omega arith
most_once DenseWithRetry = omega arith
most_once ValidOnly = omega arith

pub no_cells : (o : Option (List Cell)) → is_some o ≡ false → o ≡ None
no_cells None h = refl
no_cells (Some cells) h = absurd (cc)

-- the choice, by a policy that is another's
pub selected_by : {p q : RowPolicy} (n : ℕ) (columns : List Array) (chosen : Selection) → p ≡ q → Selected p n columns chosen → Selected q n columns chosen
selected_by n columns chosen e s =
    let ByPolicy : RowPolicy → Type 0 = λ x. Selected x n columns chosen in
    subst ByPolicy e s
