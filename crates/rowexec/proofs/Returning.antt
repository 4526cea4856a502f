-- The type of an answer, or why there is none.
use Rattle.std.proofs.Common.{◌≡◌, ◌≢◌, ◌∙◌, ℕ, List, length, Result, Ok, Err, ap, inl, inr, sym}
use Rattle.std.specs.Prelude.{◌⊎◌, IfErr, IfOk}
use Rattle.coltypes.specs.LogicalType.{LogicalType}
use Rattle.coltypes.specs.LogicalTypeOf.{logical_type}
use Rattle.coltypes.specs.declared.dtype.DType.{DType}
use Rattle.coltypes.specs.declared.fault.Fault.{Fault}
use Rattle.coltypes.specs.declared.fault.Fault.TheVariants.{Arity, Memory}
use Rattle.rowplan.specs.Law.{RowLaw}
use Rattle.rowplan.specs.Outputs.{stated_type}
use Rattle.rowplan.specs.Plans.{PlanOf, plan_of}
use Rattle.rowplan.specs.declared.batch_plan.BatchPlan.{BatchPlan}
use Rattle.rowexec.specs.Batch.{Planned, Returns, Unplanned}
use Rattle.rowexec.proofs.Executing.{stated_as}

-- there are more or fewer types than arguments
pub returns_arity : {E : Type 0} (law : RowLaw E) (types : List LogicalType) (expected actual : ℕ) → expected ≡ law.arity → actual ≡ length types → actual ≢ expected → Returns law types (Err (Arity expected actual))
returns_arity law types expected actual e a other =
    let same : Arity expected actual ≡ Arity law.arity (length types) = cc (e, a) in
    record {
      arity = λ _. ap Err same;
      stated = tt;
      planned = tt;
      errors = inl (λ k. other (a ∙ k ∙ sym e), same);
    }

-- the call has no plan
pub returns_fault : {E : Type 0} (law : RowLaw E) (types : List LogicalType) (e : Fault) → length types ≡ law.arity → (e ≡ Memory) ⊎ Unplanned law types e → Returns law types (Err e)
returns_fault law types e many fails = record { arity = λ other. absurd (other many); stated = tt; planned = tt; errors = inr (many, fails) }

-- the plan's type, unless memory runs out
pub returns_type : {E : Type 0} (law : RowLaw E) (types : List LogicalType) (plan : BatchPlan) (r : Result DType Fault) → length types ≡ law.arity → Planned law types → PlanOf law plan
    → IfOk r (λ d. logical_type d ≡ stated_type (plan_of plan).output types) → IfErr r (λ e. e ≡ Memory) → Returns law types r
returns_type law types plan (Ok d) many planned of stated wants = record { arity = λ other. absurd (other many); stated = stated_as law types plan (logical_type d) of stated; planned = planned; errors = tt }
returns_type law types plan (Err e) many planned of stated wants = returns_fault law types e many (inl wants)
