use Rattle.std.proofs.Common.{◌≡◌, Some, sym, rules, arith, subst, Option, codes}
use Rattle.serde_json.specs.Find.{get}
use Rattle.serde_json.specs.View.{view}
use Rattle.colbase.specs.Arrays.{Array}
use Rattle.rowjson.specs.Reading.{Gives}
use Rattle.rowjson.proofs.Nested.{column_in-inner, get_falls}
use Rattle.rowjson.proofs.column.+column.Goals as goal

pub column_by_layout-column_in-requires : goal.column_by_layout-column_in-requires
column_by_layout-column_in-requires t c =
    let found : get (codes "child") (view c.args.value.now) ≡ Some (view c.in_ok-child.child.now) = search rules in
    let falls = get_falls (codes "child") (view c.args.value.now) (view c.in_ok-child.child.now) found in
    (omega (arith, falls, c.decreases), tt)

pub column_by_layout-column_in-requires-then-eq-5 : goal.column_by_layout-column_in-requires-then-eq-5
column_by_layout-column_in-requires-then-eq-5 t c =
    let found : get (codes "storage") (view c.args.value.now) ≡ Some (view c.in_ok-storage.storage.now) = search rules in
    let falls = get_falls (codes "storage") (view c.args.value.now) (view c.in_ok-storage.storage.now) found in
    (omega (arith, falls, c.decreases), tt)

pub column_in-returns : goal.column_in-returns
column_in-returns t c =
    subst (λ (read : Option Array). Gives (λ a. a) c.column_by_layout.result read) (sym (column_in-inner (view c.args.value.now))) c.column_by_layout.ensures
