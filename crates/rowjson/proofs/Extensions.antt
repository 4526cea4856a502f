-- The column of an extension.
use Rattle.std.proofs.Common.{◌≡◌, Bool, true, Option, Some, None, ap, ◌∙◌, codes}
use Rattle.std.specs.Prelude.{if◌then◌else◌}
use Rattle.serde_json.specs.Data.{Data}
use Rattle.coltypes.specs.declared.dtype.ExtDType.{ExtDType}
use Rattle.colbase.specs.Arrays.{Array, extension, dtype}
use Rattle.coltypes.specs.LogicalType.{LogicalType}
use Rattle.coltypes.specs.LogicalTypeOf.{extension_type}
use Rattle.rowjson.specs.DtypeOf.{ext_dtype_of}
use Rattle.rowjson.specs.Columns.{extension_in}
use Rattle.rowjson.specs.Objects.{◌>>=◌, has_keys}
use Rattle.rowjson.specs.Types.{extension_over}
use Rattle.rowjson.proofs.ExactTypes.{ext_dtype_exact}

abbrev with_keys : Data → Array → ExtDType → Option Array
with_keys d storage e = if has_keys 5 d then Some (extension e storage) else None

-- an object with five keys that states an extension over the storage's type
pub extension_read : (d : Data) (storage : Array) (e : ExtDType) → extension_over (codes "name") d (dtype storage) ≡ Some (extension_type e) → has_keys 5 d ≡ true → extension_in d storage ≡ Some (extension e storage)
unfolding extension_in
extension_read d storage e stated keys =
    ap (λ (o : Option LogicalType). o >>= (λ t. ext_dtype_of t >>= with_keys d storage)) stated
    ∙ ap (λ (o : Option ExtDType). o >>= with_keys d storage) (ext_dtype_exact e)
    ∙ ap (λ (b : Bool). if b then Some (extension e storage) else None) keys
