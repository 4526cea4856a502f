-- The plan of a batch as plain data, when there is one, and in which part two differ.
use Rattle.std.specs.Prelude.{◌≡◌, ◌≢◌, ⊤, ℕ, List, Option, None, Some, Result, MatchResult, ◌⊎◌}
use Rattle.coltypes.specs.declared.fault.Fault.{Fault}
use Rattle.coltypes.specs.declared.fault.Fault.TheVariants.{Dtype, OutputType, Memory}
use Rattle.coltypes.specs.declared.fault.Fault.TheVariants as fault
use Rattle.coltypes.specs.declared.fault.PlanDifference.{PlanDifference}
use Rattle.coltypes.specs.declared.fault.PlanDifference.TheVariants as differs
use Rattle.coltypes.specs.LogicalType.{LogicalType}
use Rattle.coltypes.specs.LogicalTypeOf.{logical_type}
use Rattle.rowplan.specs.declared.batch_plan.BatchPlan.{BatchPlan}
use Rattle.rowplan.specs.declared.batch_plan.RowPolicy.{RowPolicy}
use Rattle.rowtypes.specs.Rows.{first_refused}
use Rattle.rowplan.specs.Labels.{shown_as}
use Rattle.rowplan.specs.Law.{RowLaw}
use Rattle.rowplan.specs.Outputs.{InOrder, output_type}

-- the type of what is stored, that under which it is shown, and the rows that are run
pub record Plan : Type 0 where
  pub storage : LogicalType
  pub output : LogicalType
  pub policy : RowPolicy

abbrev pub plan_of : BatchPlan → Plan
plan_of b = record { storage = logical_type b.storage; output = shown_as b.label (logical_type b.storage); policy = b.policy }

-- a plan of these types, which are in order; else `OutputType`
abbrev pub Plans : Result BatchPlan Fault → LogicalType → Option LogicalType → RowPolicy → Type 0
Plans r storage label policy = MatchResult r
    (λ p. InOrder (Some storage) label × (plan_of p ≡ record { storage = storage; output = output_type storage label; policy = policy }))
    (λ e. (e ≡ OutputType) × (InOrder (Some storage) label → ⊥))

-- the plan of a call is of the law's output and policy, where the output is in order
pub record PlanOf {E : Type 0} (law : RowLaw E) (p : BatchPlan) : Type 0 where
  pub in_order : InOrder law.output.storage law.output.label
  pub stored : law.output.storage ≡ Some (logical_type p.storage)
  pub output : (plan_of p).output ≡ output_type (logical_type p.storage) law.output.label
  pub rows : p.policy ≡ law.policy

-- the first type that its argument doesn't accept is told
pub record RefusesType {E : Type 0} (law : RowLaw E) (types : List LogicalType) (e : Fault) : Type 0 where
  pub place : ℕ
  pub first : first_refused law.arguments.accepts 0 types ≡ Some place
  pub is : e ≡ Dtype place

-- the types are accepted, and the output isn't in order
pub record RefusesOutput {E : Type 0} (law : RowLaw E) (types : List LogicalType) (e : Fault) : Type 0 where
  pub accepted : first_refused law.arguments.accepts 0 types ≡ None
  pub out_of_order : InOrder law.output.storage law.output.label → ⊥
  pub is : e ≡ OutputType

-- why a call has no plan: want of memory, the first type that its argument doesn't accept, or else an output that isn't in order
abbrev pub NoPlan : {E : Type 0} → RowLaw E → List LogicalType → Fault → Type 0
NoPlan law types e = (e ≡ Memory) ⊎ (RefusesType law types e ⊎ RefusesOutput law types e)

-- the answer of a planner
abbrev pub PlanAnswer : {E : Type 0} → RowLaw E → List LogicalType → Result BatchPlan Fault → Type 0
PlanAnswer law types r = MatchResult r (λ p. (first_refused law.arguments.accepts 0 types ≡ None) × PlanOf law p) (NoPlan law types)

-- the plans agree in the parts before this one, and differ in it
abbrev pub DifferFirstIn : PlanDifference → Plan → Plan → Type 0
DifferFirstIn differs.Policy p q = p.policy ≢ q.policy
DifferFirstIn differs.Storage p q = (p.policy ≡ q.policy) × (p.storage ≢ q.storage)
DifferFirstIn differs.Label p q = (p.policy ≡ q.policy) × (p.storage ≡ q.storage) × (p.output ≢ q.output)

-- the fault tells the first part in which the plans differ
abbrev pub TellsDifference : Plan → Plan → Fault → Type 0
TellsDifference p q (fault.Plan d) = DifferFirstIn d p q
TellsDifference p q _ = ⊥

-- the answer to whether the plans are one
abbrev pub Reproduces : Result ⊤ Fault → Plan → Plan → Type 0
Reproduces r p q = MatchResult r (λ _. p ≡ q) (TellsDifference p q)
