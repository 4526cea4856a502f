-- The validity that an array has of its own: it covers the rows, and where it may hold nulls the type is nullable.
use Rattle.std.proofs.Common.{◌≡◌, ◌∙◌, ℕ, true, Option, Some, None, refl, ap}
use Rattle.coltypes.specs.declared.binary.BinaryKind.{BinaryKind}
use Rattle.coltypes.specs.declared.binary.BinaryKind.TheVariants.{Utf8, Binary}
use Rattle.coltypes.specs.declared.dtype.Nullability.{Nullability}
use Rattle.coltypes.specs.declared.dtype.Nullability.TheVariants.{NonNullable, Nullable}
use Rattle.coltypes.specs.declared.scalar.ScalarValue.{ScalarValue}
use Rattle.coltypes.specs.declared.validity.Validity.{Validity}
use Rattle.coltypes.specs.declared.validity.Validity.TheVariants as v
use Rattle.colbase.specs.Arrays.{Array, Sound, bool, constant, dtype, extension, fixed_size_list, len, list, listview, masked, masked_type, primitive, varbin, varbinview, binary_type}
use Rattle.coltypes.specs.CellOf.{cell_of}
use Rattle.coltypes.specs.Fits.{fits_type, is_nullable}
use Rattle.coltypes.specs.LogicalType.{LogicalType, nullability_of}
use Rattle.coltypes.specs.LogicalTypeOf.{logical_type}
use Rattle.coltypes.specs.Scalars.{constant_validity}
use Rattle.colbase.specs.Parts.{own_validity}
use Rattle.coltypes.specs.Valid.{Covers, validity_nullability}
use Rattle.colbase.proofs.Nullable.{made_nullable}
use Rattle.std.specs.Prelude.{option_map, IsTrue}

constant_covers : (o : Option ScalarValue) (to : Nullability) (n : ℕ) → Covers (constant_validity o to) n
constant_covers None to n = tt
constant_covers (Some x) NonNullable n = tt
constant_covers (Some x) Nullable n = tt

pub own_covers : (a : Array) → Sound a → Covers (own_validity a) (len a)
own_covers (constant x n) s = constant_covers x.value (nullability_of (logical_type x.dtype)) n
own_covers (masked c v) s = s.1
own_covers (extension e c) s = own_covers c s.0
own_covers (primitive values v) s = s
own_covers (bool bits v) s = s
own_covers (varbin offsets bs k v) s = s.1
own_covers (varbinview views buffers k v) s = s.0
own_covers (list c offsets v) s = s.2
own_covers (listview c offsets sizes v) s = s.2
own_covers (fixed_size_list c width n v) s = s.2

nullable_by : (n : Nullability) → is_nullable n ≡ true → n ≡ Nullable
nullable_by Nullable h = refl
nullable_by NonNullable h = absurd (cc)

constant_nullable : (o : Option ScalarValue) (t : LogicalType) → IsTrue (fits_type (option_map cell_of o) t) → (n : Nullability) → nullability_of t ≡ n → validity_nullability (constant_validity o n) ≡ Nullable → nullability_of t ≡ Nullable
constant_nullable None t f n e h = nullable_by (nullability_of t) f
constant_nullable (Some x) t f Nullable e h = e
constant_nullable (Some x) t f NonNullable e h = absurd (cc)

masked_nullable : (t : LogicalType) (w : Validity) → validity_nullability w ≡ Nullable → nullability_of (masked_type t w) ≡ Nullable
masked_nullable t v.NonNullable h = absurd (cc)
masked_nullable t v.AllValid h = nullable_by _ (made_nullable t)
masked_nullable t v.AllInvalid h = nullable_by _ (made_nullable t)
masked_nullable t (v.Array bits) h = nullable_by _ (made_nullable t)

binary_nullable : (k : BinaryKind) (n : Nullability) → nullability_of (binary_type k n) ≡ n
binary_nullable Utf8 n = refl
binary_nullable Binary n = refl

pub nullable_type : (a : Array) → Sound a → validity_nullability (own_validity a) ≡ Nullable → nullability_of (dtype a) ≡ Nullable
nullable_type (constant x n) s h = constant_nullable x.value (logical_type x.dtype) x.lawful (nullability_of (logical_type x.dtype)) refl h
nullable_type (masked c v) s h = masked_nullable (dtype c) v h
nullable_type (extension e c) s h = ap nullability_of s.1 ∙ nullable_type c s.0 h
nullable_type (primitive values v) s h = h
nullable_type (bool bits v) s h = h
nullable_type (varbin offsets bs k v) s h = binary_nullable k (validity_nullability v) ∙ h
nullable_type (varbinview views buffers k v) s h = binary_nullable k (validity_nullability v) ∙ h
nullable_type (list c offsets v) s h = h
nullable_type (listview c offsets sizes v) s h = h
nullable_type (fixed_size_list c width n v) s h = h
