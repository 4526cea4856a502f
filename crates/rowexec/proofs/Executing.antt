-- What a planned call answers: by the column of its values, by nulls where no row is full, or by a fault.
use Rattle.std.proofs.Common.{◌≡◌, ◌∙◌, ℕ, ◌<◌, Bool, true, false, List, Option, None, Some, Result, Ok, Err, ap, inl, inr, subst, sym}
use Rattle.std.specs.Prelude.{IfErr, IfOk}
use Rattle.colbase.specs.Arrays.{Array, dtype, len, row}
use Rattle.coltypes.specs.Cell.{Cell}
use Rattle.coltypes.specs.LogicalType.{LogicalType}
use Rattle.coltypes.specs.LogicalTypeOf.{logical_type}
use Rattle.coltypes.specs.declared.fault.Fault.{Fault}
use Rattle.coltypes.specs.declared.fault.Fault.TheVariants.{Memory}
use Rattle.bitlane.specs.Evidence.{JoinLaws}
use Rattle.rowplan.specs.Law.{Lawful, RowLaw}
use Rattle.rowplan.specs.Outputs.{stated_type}
use Rattle.rowplan.specs.Plans.{PlanOf, plan_of}
use Rattle.rowplan.specs.declared.batch_plan.BatchPlan.{BatchPlan}
use Rattle.rowexec.specs.Batch.{Executes, ExecutesPlanned, Finishes, Fits, Planned, RunFails, StatedAs}
use Rattle.rowexec.specs.Counts.{settled}
use Rattle.rowexec.specs.Reads.{ReadsFull}
use Rattle.rowexec.specs.Rows.{IsConstant, full_cells, types_of}
use Rattle.rowexec.specs.Visits.{Answers, CallFails, NoneFull, Unsettled, ValidColumn}
use Rattle.rowexec.proofs.Failing.{none_fails, rejected_fails}
use Rattle.rowexec.proofs.StrictRows.{null_row}

-- the type of a plan is the stated one
pub stated_as : {E : Type 0} (law : RowLaw E) (types : List LogicalType) (plan : BatchPlan) (t : LogicalType) → PlanOf law plan → t ≡ stated_type (plan_of plan).output types → StatedAs law types t
stated_as law types plan t of is = record {
  storage = logical_type plan.storage;
  stored = of.stored;
  is = is ∙ ap (λ o. stated_type o types) of.output;
}

-- where no row is full, each is read
pub none_read : {E : Type 0} (law : RowLaw E) (columns : List Array) (n : ℕ) → ((i : ℕ) → i < n → full_cells columns i ≡ None) → ReadsFull law columns n
none_read law columns n none = λ i cells h is. let impossible : ◌≡◌ {A = Option (List Cell)} None (Some cells) = sym (none i h) ∙ is in absurd (cc)

-- a column of nulls is the answer where no row is full
pub null_executes : {E : Type 0} (law : RowLaw E) (columns : List Array) (types : List LogicalType) (n : ℕ) (plan : BatchPlan) (r : Result Array Fault)
    → PlanOf law plan → types ≡ types_of columns → ((i : ℕ) → i < n → full_cells columns i ≡ None)
    → IfOk r (λ a. dtype a ≡ stated_type (plan_of plan).output types) → IfOk r (λ a. len a ≡ n) → IfOk r (λ a. (i : ℕ) → row a i ≡ None) → IfOk r IsConstant → IfErr r (λ e. e ≡ Memory)
    → ExecutesPlanned law columns n r
null_executes law columns types n plan (Ok a) of same none typed counted nulls constant wants = record {
  dtype = stated_as law (types_of columns) plan (dtype a) of (typed ∙ ap (stated_type (plan_of plan).output) same);
  read = none_read law columns n none;
  len = counted;
  rows = λ i h. null_row law (full_cells columns i) (row a i) (none i h) (nulls i);
  layout = record { one_value = λ o. constant; nulls = λ s. constant };
  errors = tt;
}
null_executes law columns types n plan (Err e) of same none typed counted nulls constant wants = record { dtype = tt; read = tt; len = tt; rows = tt; layout = tt; errors = inl wants }

-- a fault of a run
pub fault_executes : {E : Type 0} (law : RowLaw E) (columns : List Array) (n : ℕ) (r : Result Array Fault) (e : Fault) → r ≡ Err e → RunFails law columns n e → ExecutesPlanned law columns n r
fault_executes law columns n (Ok a) e is fails = absurd (cc)
fault_executes law columns n (Err f) e is fails =
    let same : e ≡ f = cc in
    record { dtype = tt; read = tt; len = tt; rows = tt; layout = tt; errors = subst (RunFails law columns n) same fails }

-- the same answer of another result
pub executes_same : {E : Type 0} (law : RowLaw E) (columns : List Array) (n : ℕ) (r s : Result Array Fault) → s ≡ r → ExecutesPlanned law columns n r → ExecutesPlanned law columns n s
executes_same law columns n r s is h = subst (ExecutesPlanned law columns n) (sym is) h

-- the masked and labelled values of the rows that ran
pub values_execute : {E : Type 0} (law : RowLaw E) (columns : List Array) (n : ℕ) (values : Array) (r : Result Array Fault) → ValidColumn law columns n values
    → settled law.policy n columns ≡ false → Finishes law columns n r → ExecutesPlanned law columns n r
values_execute law columns n values (Ok a) column unsettled h = record {
  dtype = h.dtype;
  read = column.read;
  len = h.len;
  rows = h.rows;
  layout = record { one_value = h.one_value; nulls = λ s. let impossible : false ≡ true = sym unsettled ∙ s in absurd (cc) };
  errors = tt;
}
values_execute law columns n values (Err e) column unsettled h = record { dtype = tt; read = tt; len = tt; rows = tt; layout = tt; errors = inl h.errors }

-- what a run answered, by its kind
pub answered_some : {E : Type 0} (law : RowLaw E) (columns : List Array) (n : ℕ) (r : Result (Option Array) Fault) (o : Option Array) (a : Array) → r ≡ Ok o → o ≡ Some a → Answers law columns n r → ValidColumn law columns n a
answered_some law columns n r o a is some h = subst (Answers law columns n) (is ∙ ap Ok some) h

pub unsettled_some : {E : Type 0} (law : RowLaw E) (columns : List Array) (n : ℕ) (r : Result (Option Array) Fault) (o : Option Array) (a : Array) → r ≡ Ok o → o ≡ Some a → Unsettled law columns n r → settled law.policy n columns ≡ false
unsettled_some law columns n r o a is some h = subst (Unsettled law columns n) (is ∙ ap Ok some) h

pub answered_none : {E : Type 0} (law : RowLaw E) (columns : List Array) (n : ℕ) (r : Result (Option Array) Fault) (o : Option Array) → r ≡ Ok o → o ≡ None → Answers law columns n r → NoneFull n columns
answered_none law columns n r o is none h = subst (Answers law columns n) (is ∙ ap Ok none) h

pub answered_err : {E : Type 0} {law : RowLaw E} {arity : ℕ} {infallible : Bool} {in_range : E → Type 0} {join : E → E → E} {neutral : E} (columns : List Array) (n : ℕ) (r : Result (Option Array) Fault) (e : Fault)
    → Lawful law arity infallible in_range join neutral → JoinLaws E in_range join neutral → r ≡ Err e → Unsettled law columns n r → Answers law columns n r → RunFails law columns n e
answered_err {law = law} columns n r e lawful laws is unsettled h =
    let fails : CallFails law columns n e = subst (Answers law columns n) is h in
    inr (
      subst (Unsettled law columns n) is unsettled,
      elim fails [
        | inl unread ↦ inl unread
        | inr rows ↦ inr (record { judged = rows; failing = rejected_fails columns n rows.code lawful laws rows.judged })
      ],
    )

-- the answer of a call that is planned
pub planned_executes : {E : Type 0} (law : RowLaw E) (columns : List Array) (n : ℕ) (r : Result Array Fault) → Fits law.arity n columns → Planned law (types_of columns) → ExecutesPlanned law columns n r → Executes law columns n r
planned_executes law columns n (Ok a) fits planned h = record {
  arity = λ other. absurd (other fits.as_many);
  fits = fits;
  planned = planned;
  dtype = h.dtype;
  read = h.read;
  none_fails = none_fails law columns n a h.rows;
  len = h.len;
  rows = h.rows;
  layout = h.layout;
  errors = tt;
}
planned_executes law columns n (Err e) fits planned h = record {
  arity = λ other. absurd (other fits.as_many);
  fits = tt;
  planned = tt;
  dtype = tt;
  read = tt;
  none_fails = tt;
  len = tt;
  rows = tt;
  layout = tt;
  errors = inr (fits, inr (inr (planned, h.errors)));
}
