-- A program's type is told by the plain type that it is.
use Rattle.std.proofs.Common.{◌≡◌, Some, sym, ap, subst, ◌∙◌}
use Rattle.coltypes.specs.declared.dtype.DType.{DType, ind-DType, fold-roll-DType, roll-DType, map-DType}
use Rattle.coltypes.specs.declared.dtype.DType.TheVariants as dtypes
use Rattle.coltypes.specs.declared.dtype.DType.TheOpen.{DType-F, ExtDType-F}
use Rattle.coltypes.specs.declared.dtype.DType.TheFolds.{fold_out-ExtDType}
use Rattle.coltypes.specs.declared.dtype.ExtDType.{ExtDType}
use Rattle.coltypes.specs.LogicalType.{LogicalType}
use Rattle.coltypes.specs.LogicalTypeOf.{logical_type, extension_type, type_step, extension_step}
use Rattle.rowjson.specs.DtypeOf.{dtype_of, ext_dtype_of}

abbrev IsExact : DType → Type 0
IsExact t = dtype_of (logical_type t) ≡ t

abbrev HasExact : ExtDType → Type 0
HasExact e = IsExact e.storage

abbrev KnownType : Type 0
KnownType = (t : DType) × IsExact t

abbrev KnownExtension : Type 0
KnownExtension = (e : ExtDType) × HasExact e

-- a layer without what is known of the types inside
abbrev plain_layer : DType-F KnownType KnownExtension → DType-F DType ExtDType
plain_layer y = map-DType KnownType KnownExtension DType ExtDType (λ p. p.0) (λ p. p.0) y

type_of_extension : (e : ExtDType) → logical_type (roll-DType (DType-F.Extension e)) ≡ extension_type e
type_of_extension e = fold-roll-DType LogicalType LogicalType type_step extension_step (DType-F.Extension e) ∙ fold_out-ExtDType LogicalType LogicalType type_step extension_step e

-- the type of a layer, by the types inside
layer_gives : (x : DType-F DType ExtDType) → dtype_of (logical_type (roll-DType x)) ≡ dtype_of (type_step (map-DType DType ExtDType LogicalType LogicalType logical_type extension_type x))
layer_gives (DType-F.Extension x) = ap dtype_of (type_of_extension x)
layer_gives x = ap dtype_of (fold-roll-DType LogicalType LogicalType type_step extension_step x)

-- an extension type with this storage in place of its own
abbrev over : ExtDType → DType → ExtDType
over e t = record { name = e.name; unit = e.unit; zone = e.zone; storage = t }

layer_exact : (y : DType-F KnownType KnownExtension) → IsExact (roll-DType (plain_layer y))
layer_exact DType-F.Null = layer_gives DType-F.Null ∙ sym dtypes.rolls-Null
layer_exact (DType-F.Bool n) = layer_gives (DType-F.Bool n) ∙ sym (dtypes.rolls-Bool n)
layer_exact (DType-F.Primitive p n) = layer_gives (DType-F.Primitive p n) ∙ sym (dtypes.rolls-Primitive p n)
layer_exact (DType-F.Utf8 n) = layer_gives (DType-F.Utf8 n) ∙ sym (dtypes.rolls-Utf8 n)
layer_exact (DType-F.Binary n) = layer_gives (DType-F.Binary n) ∙ sym (dtypes.rolls-Binary n)
layer_exact (DType-F.List t n) = layer_gives (DType-F.List t.0 n) ∙ ap (λ (u : DType). dtypes.List u n) t.1 ∙ sym (dtypes.rolls-List t.0 n)
layer_exact (DType-F.FixedSizeList t w n) = layer_gives (DType-F.FixedSizeList t.0 w n) ∙ ap (λ (u : DType). dtypes.FixedSizeList u w n) t.1 ∙ sym (dtypes.rolls-FixedSizeList t.0 w n)
layer_exact (DType-F.Extension e) = layer_gives (DType-F.Extension e.0) ∙ ap (λ (u : DType). dtypes.Extension (over e.0 u)) e.1 ∙ sym (dtypes.rolls-Extension e.0)

pub dtype_exact : (t : DType) → dtype_of (logical_type t) ≡ t
dtype_exact t = ind-DType IsExact HasExact (λ x y is. subst (λ (z : DType-F DType ExtDType). IsExact (roll-DType z)) is (layer_exact y)) (λ x y is. subst (λ (z : ExtDType-F DType ExtDType). IsExact z.storage) is y.storage.1) t

-- the type is that of this plain type
pub dtype_from : (t : DType) (u : LogicalType) → logical_type t ≡ u → t ≡ dtype_of u
dtype_from t u is = sym (dtype_exact t) ∙ ap dtype_of is

-- ---- extensions

pub extension_logical : (e : ExtDType) → logical_type (dtypes.Extension e) ≡ extension_type e
extension_logical e = ap logical_type (sym (dtypes.rolls-Extension e)) ∙ type_of_extension e

pub extension_exact : (e : ExtDType) → dtype_of (extension_type e) ≡ dtypes.Extension e
extension_exact e = ap (λ (u : DType). dtypes.Extension (over e u)) (dtype_exact e.storage)

pub ext_dtype_exact : (e : ExtDType) → ext_dtype_of (extension_type e) ≡ Some e
ext_dtype_exact e = ap (λ (u : DType). Some (over e u)) (dtype_exact e.storage)
