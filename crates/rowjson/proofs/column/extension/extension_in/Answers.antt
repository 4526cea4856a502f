use Rattle.std.proofs.Common.{◌≡◌, rules, Some, Option, sym, subst, true, codes}
use Rattle.serde_json.specs.View.{view}
use Rattle.colbase.specs.Arrays.{Array, dtype}
use Rattle.coltypes.specs.LogicalTypeOf.{extension_type}
use Rattle.rowjson.specs.Objects.{has_keys}
use Rattle.rowjson.specs.Reading.{Gives}
use Rattle.rowjson.specs.Types.{extension_over}
use Rattle.rowjson.proofs.Extensions.{extension_read}
use Rattle.rowjson.proofs.column.extension.extension_in.Goals as goal

pub returns : goal.returns
returns c =
    let d = view c.args.value.now in
    let ext = c.in_ok-ext.ext in
    let stated : extension_over (codes "name") d (dtype c.args.storage) ≡ Some (extension_type ext) = search rules in
    let keys : has_keys 5 d ≡ true = search rules in
    subst (λ (read : Option Array). Gives (λ a. a) c.extension_of.result read) (sym (extension_read d c.args.storage ext stated keys)) c.extension_of.ensures
