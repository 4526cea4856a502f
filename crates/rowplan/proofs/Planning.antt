-- From a plan of stated types to the plan of a call.
use Rattle.std.proofs.Common.{◌≡◌, ◌∙◌, List, Option, None, Some, Result, Ok, Err, inr, ap, sym, subst}
use Rattle.coltypes.specs.declared.fault.Fault.{Fault}
use Rattle.coltypes.specs.LogicalType.{LogicalType}
use Rattle.rowtypes.specs.Rows.{first_refused}
use Rattle.rowplan.specs.declared.batch_plan.BatchPlan.{BatchPlan}
use Rattle.rowplan.specs.declared.batch_plan.RowPolicy.{RowPolicy}
use Rattle.rowplan.specs.Law.{RowLaw}
use Rattle.rowplan.specs.Outputs.{InOrder}
use Rattle.rowplan.specs.Plans.{Plan, Plans, PlanAnswer}

pub planned_as : {E : Type 0} (law : RowLaw E) (types : List LogicalType) (r : Result BatchPlan Fault) (s : LogicalType) (told : Option LogicalType) (p : RowPolicy) → first_refused law.arguments.accepts 0 types ≡ None → law.output.storage ≡ Some s → law.output.label ≡ told → law.policy ≡ p → Plans r s told p → PlanAnswer law types r
planned_as law types (Ok plan) s told p hr hs hl hq h =
    let InOrderBy : Option LogicalType → Option LogicalType → Type 0 = λ a b. InOrder a b in
    let here : InOrder law.output.storage law.output.label = subst (λ a. InOrderBy a law.output.label) (sym hs) (subst (λ b. InOrderBy (Some s) b) (sym hl) h.0) in (
      hr,
      record {
        in_order = here;
        stored = hs ∙ ap Some (sym (ap (λ (x : Plan). x.storage) h.1));
        output = ap (λ (x : Plan). x.output) h.1 ∙ cc (ap (λ (x : Plan). x.storage) h.1, hl);
        rows = ap (λ (x : Plan). x.policy) h.1 ∙ sym hq;
      },
    )
planned_as law types (Err e) s told p hr hs hl hq h =
    let InOrderBy : Option LogicalType → Option LogicalType → Type 0 = λ a b. InOrder a b in
    inr (inr (record {
      accepted = hr;
      is = h.0;
      out_of_order = λ o. h.1 (subst (λ b. InOrderBy (Some s) b) hl (subst (λ a. InOrderBy a law.output.label) hs o));
    }))
