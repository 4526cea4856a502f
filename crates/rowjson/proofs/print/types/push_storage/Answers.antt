-- The storage of a timestamp type is told by its nullability.
use Rattle.std.proofs.Common.{◌≡◌, ◌∙◌, ◌++◌, ℕ, List, ap, subst}
use Rattle.std.specs.Prelude.{OnOk}
use Rattle.coltypes.specs.LogicalTypeOf.{logical_type}
use Rattle.coltypes.specs.LogicalType.{primitive}
use Rattle.coltypes.specs.declared.dtype.Nullability.{Nullability}
use Rattle.coltypes.specs.declared.dtype.PType.TheVariants.{I64}
use Rattle.rowjson.specs.Text.{type_text}
use Rattle.rowjson.proofs.TypeText.{stored_text}
use Rattle.rowjson.proofs.print.types.push_storage.Goals as goal

pub returns : goal.returns
returns c =
    let ext = c.args.ext.now in
    let told : type_text (primitive I64 c.nullability.result) ≡ type_text (logical_type ext.storage) =
    ap (λ (n : Nullability). type_text (primitive I64 n)) c.nullability.ensures
    ∙ stored_text ext.name ext.unit ext.zone (logical_type ext.storage) c.requires in
    subst (λ (text : List ℕ). OnOk c.push_number_type.result (c.push_number_type.new.out.items ≡ c.args.out.now.items ++ text)) told c.push_number_type.ensures
