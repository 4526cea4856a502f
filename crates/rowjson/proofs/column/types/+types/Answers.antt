use Rattle.std.proofs.Common.{◌≡◌, Some, sym, rules, arith, subst, Option, codes}
use Rattle.serde_json.specs.Find.{get}
use Rattle.serde_json.specs.View.{view}
use Rattle.coltypes.specs.LogicalType.{LogicalType}
use Rattle.coltypes.specs.LogicalTypeOf.{logical_type}
use Rattle.rowjson.specs.Reading.{Gives}
use Rattle.rowjson.proofs.Nested.{type_of-storage, get_falls}
use Rattle.rowjson.proofs.column.types.+types.Goals as goal

pub type_by_form-type_of-requires : goal.type_by_form-type_of-requires
type_by_form-type_of-requires t c =
    let found : get (codes "storage") (view c.args.value.now) ≡ Some (view c.in_ok-storage.storage.now) = search rules in
    let falls = get_falls (codes "storage") (view c.args.value.now) (view c.in_ok-storage.storage.now) found in
    (omega (arith, falls, c.decreases), tt)

pub type_of-returns : goal.type_of-returns
type_of-returns t c =
    subst (λ (read : Option LogicalType). Gives logical_type c.type_by_form.result read) (sym (type_of-storage (view c.args.value.now))) c.type_by_form.ensures
