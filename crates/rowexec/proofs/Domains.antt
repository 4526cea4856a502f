-- The rows of a call that a run over each kind of domain gives, and the failure that it tells.
use Rattle.std.proofs.Common.{◌≡◌, ◌∙◌, ℕ, ◌<◌, Bool, true, false, List, length, Option, None, Some, ap, inl, inr, refl, subst, sym}
use Rattle.std.specs.Prelude.{◌⊎◌, is_some}
use Rattle.colbase.specs.Arrays.{Array, row}
use Rattle.coltypes.specs.Cell.{Cell}
use Rattle.coltypes.specs.declared.fault.Fault.{Fault}
use Rattle.coltypes.specs.declared.fault.Fault.TheVariants.{Row}
use Rattle.coltypes.specs.declared.fault.RowError.{RowError}
use Rattle.rowtypes.specs.Rows.{DecodeFails}
use Rattle.rowplan.specs.Law.{RowLaw}
use Rattle.rowloops.specs.Domain.{Domain, all_rows, marked_rows}
use Rattle.rowexec.specs.Evidence.{RowsFail, joined}
use Rattle.rowplan.specs.declared.batch_plan.RowPolicy.{RowPolicy}
use Rattle.rowexec.specs.Counts.{runs_valid_only}
use Rattle.rowexec.specs.RowRuns.{ColumnOver, EachFull, RejectedOver, ShowsFull, evidence_over, selected_cells}
use Rattle.rowexec.specs.Rows.{Accepted, EachHasRows, full_cells}
use Rattle.rowexec.specs.Selections.{MarksFullRows}
use Rattle.rowexec.specs.Visits.{CallFails, MayRunAll, ValidColumn}
use Rattle.rowexec.proofs.JoinedRows.{joined_same}
use Rattle.rowexec.proofs.Reading.{full_at, full_selected}
use Rattle.rowexec.proofs.Unread.{read_fails}

-- ---- values

-- a full row that ran stands at its place
pub full_row_over : {E : Type 0} (law : RowLaw E) (columns : List Array) (domain : Domain) (a : Array) → ColumnOver law columns domain a → (i : ℕ) (cells : List Cell) → i < domain.width → domain.selected i ≡ true → full_cells columns i ≡ Some cells → Accepted law cells (row a (domain.place i))
full_row_over law columns domain a over i cells h s e = subst (λ (of : List Cell). Accepted law of (row a (domain.place i))) (over.full i cells e) (over.each i h s)

pub valid_all : {E : Type 0} (law : RowLaw E) (columns : List Array) (n : ℕ) (a : Array) → ColumnOver law columns (all_rows n) a → ValidColumn law columns n a
valid_all law columns n a over = record {
  stored = over.stored;
  counted = over.counted;
  each = λ i cells h e. full_row_over law columns (all_rows n) a over i cells h refl e;
  read = over.read;
}

pub valid_marked : {E : Type 0} (law : RowLaw E) (columns : List Array) (n : ℕ) (marks : List Bool) (a : Array) → MarksFullRows columns n marks → ColumnOver law columns (marked_rows marks) a → ValidColumn law columns n a
valid_marked law columns n marks a full over =
    let below : (i : ℕ) → i < n → i < length marks = λ i h. subst (λ m. i < m) (sym full.counted) h in
    record {
      stored = over.stored;
      counted = over.counted ∙ full.counted;
      each = λ i cells h e. full_row_over law columns (marked_rows marks) a over i cells (below i h) (full.each i h ∙ ap is_some e) e;
      read = λ i cells h e. over.read i cells (below i h) e;
    }

-- ---- failures

selected_full : (shown : ℕ → Array → ℕ → Cell) (columns : List Array) (domain : Domain) (i : ℕ) (o : Option (List Cell)) → ShowsFull shown columns → full_cells columns i ≡ o → domain.selected i ≡ is_some o → selected_cells shown columns domain i ≡ o
selected_full shown columns domain i (Some of) full e s = rw s (ap (λ (cells : List Cell). Some cells) (full i of e))
selected_full shown columns domain i None full e s = rw s refl

-- where the rows that run are the full ones, the evidence of what is shown is that of the full rows
pub evidence_of_full : {E : Type 0} (law : RowLaw E) (columns : List Array) (domain : Domain) → ShowsFull law.arguments.shown columns → ((i : ℕ) → i < domain.width → domain.selected i ≡ is_some (full_cells columns i))
    → evidence_over law columns domain ≡ joined law.join law.neutral law.meaning (full_cells columns) domain.width
evidence_of_full law columns domain full each =
    joined_same law.join law.neutral law.meaning (selected_cells law.arguments.shown columns domain) (full_cells columns) domain.width (λ i h. selected_full law.arguments.shown columns domain i (full_cells columns i) full refl (each i h))

pub rejected_rows : {E : Type 0} (law : RowLaw E) (columns : List Array) (domain : Domain) (error : RowError) → ((i : ℕ) → i < domain.width → domain.selected i ≡ is_some (full_cells columns i)) → RejectedOver law columns domain error → RowsFail law columns domain.width (Row error)
rejected_rows law columns domain error each rejected = record {
  code = error.0;
  is_deferred = rejected.is_deferred;
  judged = ap law.finish (sym (evidence_of_full law columns domain rejected.full each)) ∙ rejected.judged;
  is = refl;
}

-- all rows run only where that is the policy, which no evidence is left by, or where each is full
pub rejected_all : {E : Type 0} (law : RowLaw E) (columns : List Array) (n : ℕ) (error : RowError) → MayRunAll law.policy n columns → RejectedOver law columns (all_rows n) error → CallFails law columns n (Row error)
rejected_all law columns n error (inl dense) rejected = absurd (rejected.undense dense)
rejected_all law columns n error (inr full) rejected = inr (rejected_rows law columns (all_rows n) error (full_selected columns n full) rejected)

-- and where each row is full
pub rejected_full : {E : Type 0} (law : RowLaw E) (columns : List Array) (n : ℕ) (error : RowError) → ((i : ℕ) → i < n → is_some (full_cells columns i) ≡ true) → RejectedOver law columns (all_rows n) error → CallFails law columns n (Row error)
rejected_full law columns n error each rejected = inr (rejected_rows law columns (all_rows n) error (λ i h. sym (each i h)) rejected)

pub rejected_marked : {E : Type 0} (law : RowLaw E) (columns : List Array) (n : ℕ) (marks : List Bool) (error : RowError) → MarksFullRows columns n marks → RejectedOver law columns (marked_rows marks) error → CallFails law columns n (Row error)
rejected_marked law columns n marks error full rejected =
    let Fails : ℕ → Type 0 = λ m. RowsFail law columns m (Row error) in
    inr (subst Fails full.counted (rejected_rows law columns (marked_rows marks) error (λ i h. full.each i (subst (λ m. i < m) full.counted h)) rejected))

-- all rows may run by the policy, or since each is full
pub may_run : (policy : RowPolicy) (n : ℕ) (columns : List Array) → MayRunAll policy n columns → (runs_valid_only policy ≡ false) ⊎ EachFull columns (all_rows n)
may_run policy n columns (inl dense) = inl (ap runs_valid_only dense)
may_run policy n columns (inr full) = inr (λ i h s. full i h)

-- each marked row is full
pub marked_full : (columns : List Array) (n : ℕ) (marks : List Bool) → EachHasRows n columns → MarksFullRows columns n marks → EachFull columns (marked_rows marks)
marked_full columns n marks rows full i h s =
    let below : i < n = subst (λ m. i < m) full.counted h in
    full_at n i columns rows below (sym (full.each i below) ∙ s)

pub unread_fails : {E : Type 0} (law : RowLaw E) (columns : List Array) (n : ℕ) (e : Fault) → DecodeFails law.arguments.reads 0 columns e → CallFails law columns n e
unread_fails law columns n e h = inl (read_fails law.arguments.reads 0 columns e h)
