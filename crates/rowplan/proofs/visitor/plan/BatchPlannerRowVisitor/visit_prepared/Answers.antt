use Rattle.std.proofs.Common.{◌≡◌, ◌∙◌, None, sym, rules}
use Rattle.std.specs.Prelude.{option_map}
use Rattle.coltypes.specs.LogicalTypeOf.{logical_type}
use Rattle.rowtypes.specs.Rows.{first_refused, logical_types}
use Rattle.rowplan.proofs.Planning.{planned_as}
use Rattle.rowplan.proofs.Types.{as_many, refused_same}
use Rattle.rowplan.proofs.visitor.plan.BatchPlannerRowVisitor.visit_prepared.Goals as goal

pub validate-requires : goal.validate-requires
validate-requires g c = sym (as_many c.args.self.types.now) ∙ c.requires.arguments.count ∙ sym c.requires.arguments.arity_is

pub returns : goal.returns
returns g c =
    let types = logical_types c.args.self.types.now in
    let law = g.F.RowSpec.law c.args.self.options.now types in
    let same = refused_same g.Args.ElementTuple.elements.accepts law.arguments.accepts c.requires.arguments.accepts 0 types in
    let accepted : first_refused g.Args.ElementTuple.elements.accepts 0 types ≡ None = search (rules) in
    planned_as law types c.new.result (logical_type c.element_dtype.result) (option_map logical_type c.args.self.label) c.owned_policy.result (sym same ∙ accepted) (search (rules)) c.requires.output.label (search (rules)) c.new.ensures
