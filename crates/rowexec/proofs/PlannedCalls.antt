-- A planned call of the columns that are lent for it, and its answer told of the columns that it was given.
use Rattle.std.proofs.Common.{◌≡◌, ℕ, false, List, Result, subst}
use Rattle.colbase.specs.Arrays.{Array}
use Rattle.coltypes.specs.LogicalType.{LogicalType}
use Rattle.coltypes.specs.declared.fault.Fault.{Fault}
use Rattle.coltypes.specs.declared.validity.Validity.{Validity}
use Rattle.rowplan.specs.Law.{RowLaw}
use Rattle.rowplan.specs.Plans.{PlanOf}
use Rattle.rowplan.specs.declared.batch_plan.BatchPlan.{BatchPlan}
use Rattle.rowexec.specs.Batch.{ExecutesPlanned, Fits, Planned}
use Rattle.rowexec.specs.Calls.{IsPlannedCall, MarksRows}
use Rattle.rowexec.specs.Rows.{EachHasRows, some_all_null, types_of}
use Rattle.rowexec.proofs.StrictRows.{rows_from}

pub rows_of : {arity : ℕ} (xs ys : List Array) (m n : ℕ) → xs ≡ ys → m ≡ n → Fits arity n ys → EachHasRows m xs
rows_of xs ys m n e f fits = rows_from m 0 xs (cc (e, f, fits.rows))

module _ {E : Type 0} (law : List LogicalType → RowLaw E) where
  pub planned_call : (types : List LogicalType) (xs ys : List Array) (m n : ℕ) (plan : BatchPlan) (full : Validity) → xs ≡ ys → m ≡ n
      → types ≡ types_of ys → Fits (law (types_of ys)).arity n ys → Planned (law (types_of ys)) (types_of ys) → PlanOf (law (types_of ys)) plan → some_all_null xs ≡ false → MarksRows xs m full
      → IsPlannedCall (law (types_of xs)) types xs m plan full
  planned_call types xs ys m n plan full e f =
      let Of : List Array → ℕ → Type 0 = λ zs k. types ≡ types_of zs → Fits (law (types_of zs)).arity k zs → Planned (law (types_of zs)) (types_of zs) → PlanOf (law (types_of zs)) plan → some_all_null xs ≡ false → MarksRows xs m full
      → IsPlannedCall (law (types_of xs)) types xs m plan full in
      let here : Of xs m = λ t fits planned of some marks. record {
        types_are = t;
        arity = fits.as_many;
        rows = rows_from m 0 xs fits.rows;
        planned = planned;
        plan_is = of;
        some = some;
        marks = marks;
      } in
      subst (λ k. Of ys k) f (subst (λ zs. Of zs m) e here)

  pub executes_of : (xs ys : List Array) (m n : ℕ) (answer : Result Array Fault) → xs ≡ ys → m ≡ n → ExecutesPlanned (law (types_of xs)) xs m answer → ExecutesPlanned (law (types_of ys)) ys n answer
  executes_of xs ys m n answer e f h =
      let Of : List Array → ℕ → Type 0 = λ zs k. ExecutesPlanned (law (types_of zs)) zs k answer in
      subst (λ k. Of ys k) f (subst (λ zs. Of zs m) e h)
