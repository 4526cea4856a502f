-- A mask over an array of an accepted type: the array below has it too.
use Rattle.std.proofs.Common.{◌≡◌, true, Option, Some, None, refl}
use Rattle.std.specs.Prelude.{IsSome}
use Rattle.coltypes.specs.declared.validity.Validity.{Validity}
use Rattle.coltypes.specs.declared.validity.Validity.TheVariants as v
use Rattle.coltypes.specs.declared.dtype.PType.{PType}
use Rattle.coltypes.specs.declared.dtype.Nullability.{Nullability}
use Rattle.coltypes.specs.declared.dtype.Nullability.TheVariants.{Nullable}
use Rattle.coltypes.specs.LogicalType as t
use Rattle.coltypes.specs.Fits.{storage_type}
use Rattle.colbase.specs.Parts.{bits_of, values_of}
use Rattle.colbase.specs.Layouts.{is_constant}
use Rattle.coltypes.specs.declared.binary.BinaryKind.TheVariants.{Utf8, Binary}
use Rattle.colbase.specs.Arrays.{Array, constant, masked, extension, primitive, bool, varbin, varbinview, list, listview, fixed_size_list, dtype, masked_type, constant_cell}
use Rattle.rowelems.specs.Unmasked.{unmasked}
use Rattle.coltypes.specs.declared.dtype.PType.TheVariants as k
use Rattle.coltypes.specs.declared.values.PrimitiveValues.{PrimitiveValues}
use Rattle.coltypes.specs.Values.{ptype_of}
use Rattle.rowelems.specs.Reading.{is_bool, is_integer}
use Rattle.coltypes.specs.Equal.{same_ptype}

bool_made_nullable : (x : t.LogicalType) (n : Nullability) → is_bool (t.with_nullability x n) ≡ true → is_bool x ≡ true
bool_made_nullable (t.bool m) n h = refl
bool_made_nullable t.null n h = h
bool_made_nullable (t.primitive p m) n h = h
bool_made_nullable (t.utf8 m) n h = h
bool_made_nullable (t.binary m) n h = h
bool_made_nullable (t.list x m) n h = h
bool_made_nullable (t.fixed_size_list x w m) n h = h
bool_made_nullable (t.extension name unit z x) n h = h

bool_below : (x : t.LogicalType) (m : Validity) → is_bool (masked_type x m) ≡ true → is_bool x ≡ true
bool_below x v.NonNullable h = h
bool_below x v.AllValid h = bool_made_nullable x Nullable h
bool_below x v.AllInvalid h = bool_made_nullable x Nullable h
bool_below x (v.Array bits) h = bool_made_nullable x Nullable h

pub bool-unmasked : (a : Array) → is_bool (dtype a) ≡ true → is_bool (dtype (unmasked a)) ≡ true
bool-unmasked (masked c m) h = bool-unmasked c (bool_below (dtype c) m h)
bool-unmasked (constant s n) h = h
bool-unmasked (extension e c) h = h
bool-unmasked (primitive values m) h = h
bool-unmasked (bool bits m) h = h
bool-unmasked (varbin offsets bs k m) h = h
bool-unmasked (varbinview views buffers k m) h = h
bool-unmasked (list c offsets m) h = h
bool-unmasked (listview c offsets sizes m) h = h
bool-unmasked (fixed_size_list c width n m) h = h

-- below its masks an array of truth values is of the boolean layout or a constant
pub bool-layouts : (a : Array) → is_bool (dtype a) ≡ true → bits_of (unmasked a) ≡ None → is_constant (unmasked a) ≡ true
bool-layouts (masked c m) h e = bool-layouts c (bool_below (dtype c) m h) e
bool-layouts (constant s n) h e = refl
bool-layouts (bool bits m) h e = absurd (cc)
bool-layouts (extension x c) h e = absurd (cc)
bool-layouts (primitive values m) h e = absurd (cc)
bool-layouts (varbin offsets bs Utf8 m) h e = absurd (cc)
bool-layouts (varbin offsets bs Binary m) h e = absurd (cc)
bool-layouts (varbinview views buffers Utf8 m) h e = absurd (cc)
bool-layouts (varbinview views buffers Binary m) h e = absurd (cc)
bool-layouts (list c offsets m) h e = absurd (cc)
bool-layouts (listview c offsets sizes m) h e = absurd (cc)
bool-layouts (fixed_size_list c width n m) h e = absurd (cc)

-- a batch constant that is no extension is a constant below its mask
pub constant-unmasked : (a : Array) → is_bool (dtype a) ≡ true → IsSome (constant_cell a) → is_constant (unmasked a) ≡ true
constant-unmasked (constant s n) h e = refl
constant-unmasked (masked (constant s n) m) h e = refl
constant-unmasked (extension x c) h e = absurd (cc)
constant-unmasked _ h e = absurd (cc)

same_kind : (p q : PType) → same_ptype p q ≡ true → q ≡ p
same_kind k.I8 k.I8 h = refl
same_kind k.I16 k.I16 h = refl
same_kind k.I32 k.I32 h = refl
same_kind k.I64 k.I64 h = refl
same_kind k.U8 k.U8 h = refl
same_kind k.U16 k.U16 h = refl
same_kind k.U32 k.U32 h = refl
same_kind k.U64 k.U64 h = refl
same_kind _ _ h = absurd (cc)

pub integer-made-nullable : (p : PType) (x : t.LogicalType) (n : Nullability) → is_integer p (t.with_nullability x n) ≡ true → is_integer p x ≡ true
integer-made-nullable p (t.primitive q m) n h = h
integer-made-nullable p (t.bool m) n h = h
integer-made-nullable p t.null n h = h
integer-made-nullable p (t.utf8 m) n h = h
integer-made-nullable p (t.binary m) n h = h
integer-made-nullable p (t.list x m) n h = h
integer-made-nullable p (t.fixed_size_list x w m) n h = h
integer-made-nullable p (t.extension name unit z x) n h = h

integer_below : (p : PType) (x : t.LogicalType) (m : Validity) → is_integer p (masked_type x m) ≡ true → is_integer p x ≡ true
integer_below p x v.NonNullable h = h
integer_below p x v.AllValid h = integer-made-nullable p x Nullable h
integer_below p x v.AllInvalid h = integer-made-nullable p x Nullable h
integer_below p x (v.Array bits) h = integer-made-nullable p x Nullable h

pub integer-unmasked : (p : PType) (a : Array) → is_integer p (dtype a) ≡ true → is_integer p (dtype (unmasked a)) ≡ true
integer-unmasked p (masked c m) h = integer-unmasked p c (integer_below p (dtype c) m h)
integer-unmasked p (constant s n) h = h
integer-unmasked p (extension e c) h = h
integer-unmasked p (primitive values m) h = h
integer-unmasked p (bool bits m) h = h
integer-unmasked p (varbin offsets bs k m) h = h
integer-unmasked p (varbinview views buffers k m) h = h
integer-unmasked p (list c offsets m) h = h
integer-unmasked p (listview c offsets sizes m) h = h
integer-unmasked p (fixed_size_list c width n m) h = h

-- below its masks an array of an integer type has values of that type or is a constant
pub integer-layouts : {X : Type 0} (p : PType) (lent : Option PrimitiveValues → Option X) → ((w : PrimitiveValues) → ptype_of w ≡ p → IsSome (lent (Some w)))
    → (a : Array) → is_integer p (dtype a) ≡ true → lent (values_of (unmasked a)) ≡ None → is_constant (unmasked a) ≡ true
integer-layouts p lent f (masked c m) h e = integer-layouts p lent f c (integer_below p (dtype c) m h) e
integer-layouts p lent f (constant s n) h e = refl
integer-layouts p lent f (primitive values m) h e = absurd (let s = f values (same_kind p (ptype_of values) h) in cc)
integer-layouts p lent f (bool bits m) h e = absurd (cc)
integer-layouts p lent f (extension x c) h e = absurd (cc)
integer-layouts p lent f (varbin offsets bs Utf8 m) h e = absurd (cc)
integer-layouts p lent f (varbin offsets bs Binary m) h e = absurd (cc)
integer-layouts p lent f (varbinview views buffers Utf8 m) h e = absurd (cc)
integer-layouts p lent f (varbinview views buffers Binary m) h e = absurd (cc)
integer-layouts p lent f (list c offsets m) h e = absurd (cc)
integer-layouts p lent f (listview c offsets sizes m) h e = absurd (cc)
integer-layouts p lent f (fixed_size_list c width n m) h e = absurd (cc)

pub constant-integer : (p : PType) (a : Array) → is_integer p (dtype a) ≡ true → IsSome (constant_cell a) → is_constant (unmasked a) ≡ true
constant-integer p (constant s n) h e = refl
constant-integer p (masked (constant s n) m) h e = refl
constant-integer p (extension x c) h e = absurd (cc)
constant-integer p _ h e = absurd (cc)

-- an integer type is what it stores
pub integer-stored : (p : PType) (x : t.LogicalType) → is_integer p x ≡ true → is_integer p (storage_type x) ≡ true
integer-stored p (t.primitive q n) h = h
integer-stored p t.null h = absurd (cc)
integer-stored p (t.bool n) h = absurd (cc)
integer-stored p (t.utf8 n) h = absurd (cc)
integer-stored p (t.binary n) h = absurd (cc)
integer-stored p (t.list x n) h = absurd (cc)
integer-stored p (t.fixed_size_list x w n) h = absurd (cc)
integer-stored p (t.extension name unit z x) h = absurd (cc)
