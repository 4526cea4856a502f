-- The cells of an array of numbers of 64 bits are in range, so that it is decoded unless memory runs out.
use Rattle.std.proofs.Common.{◌≡◌, ℕ, ◌<◌, Bool, true, false, Option, Some, None, Result, Ok, Err, refl, subst, inl, inr}
use Rattle.std.specs.Prelude.{IfErr, IsTrue, if◌then◌else◌, option_map}
use Rattle.coltypes.specs.Cell as cells
use Rattle.coltypes.specs.Cell.{Cell, number}
use Rattle.coltypes.specs.CellOf.{cell_of}
use Rattle.coltypes.specs.Equal.{same_ptype}
use Rattle.coltypes.specs.Fits.{fits, fits_type, in_range}
use Rattle.coltypes.specs.LogicalType as types
use Rattle.coltypes.specs.LogicalType.{LogicalType}
use Rattle.coltypes.specs.LogicalTypeOf.{logical_type}
use Rattle.coltypes.specs.Valid.{valid_at}
use Rattle.coltypes.specs.Values.{count, number_at, ptype_of}
use Rattle.coltypes.specs.declared.binary.BinaryKind.TheVariants.{Utf8, Binary}
use Rattle.coltypes.specs.declared.dtype.PType.{PType}
use Rattle.coltypes.specs.declared.dtype.PType.TheVariants as k
use Rattle.coltypes.specs.declared.dtype.Nullability.TheVariants.{Nullable}
use Rattle.coltypes.specs.declared.fault.Fault.{Fault}
use Rattle.coltypes.specs.declared.fault.Fault.TheVariants.{Memory}
use Rattle.coltypes.specs.declared.scalar.Scalar.{Scalar}
use Rattle.coltypes.specs.declared.validity.Validity.{Validity}
use Rattle.coltypes.specs.declared.validity.Validity.TheVariants as v
use Rattle.coltypes.specs.declared.values.PrimitiveValues.{PrimitiveValues}
use Rattle.colbase.specs.Arrays.{Array, MustRead, constant, masked, primitive, varbin, varbinview, constant_cell, dtype, masked_type, row}
use Rattle.colbase.specs.Parts.{child_of, scalar_of, values_of}
use Rattle.rowelems.specs.Reading.{DecodeCause, IsNumberOf, is_integer}
use Rattle.rowelems.proofs.Types.{integer-made-nullable}

-- each cell that must be read is a number in range
abbrev pub IsInRange : Array → Type 0
IsInRange a = (x : Cell) → MustRead a x → IsNumberOf k.I64 x

only_memory : (a : Array) (e : Fault) → IsInRange a → DecodeCause (IsNumberOf k.I64) a e → e ≡ Memory
only_memory a e read (inl is) = is
only_memory a e read (inr (is, unread)) = absurd (unread.unread (read unread.cell unread.must))

-- decoding fails by want of memory alone
pub decoded_or_memory : {X : Type 0} (a : Array) (r : Result X Fault) → IsInRange a → IfErr r (DecodeCause (IsNumberOf k.I64) a) → IfErr r (λ e. e ≡ Memory)
decoded_or_memory a (Ok x) read cause = tt
decoded_or_memory a (Err e) read cause = only_memory a e read cause

-- ---- below a mask

shown : (valid : Bool) (o : Option Cell) (x : Cell) → (if valid then o else None) ≡ Some x → o ≡ Some x
shown true o x e = e
shown false o x e = absurd (cc)

constant_below : (c : Array) (m : Validity) (x : Cell) → constant_cell (masked c m) ≡ Some x → constant_cell c ≡ Some x
constant_below (constant s n) m x e = e
constant_below _ m x e = absurd (cc)

must_below : (c : Array) (m : Validity) (x : Cell) → MustRead (masked c m) x → MustRead c x
must_below c m x (inl (i, within, is)) = inl (i, within, shown (valid_at m i) (row c i) x is)
must_below c m x (inr (some, is)) = inr (some, constant_below c m x is)

pub below_mask : (a c : Array) → child_of a ≡ Some c → IsInRange c → IsInRange a
below_mask (masked c m) d is read = λ x must. read x (subst (λ (b : Array). MustRead b x) (let same : c ≡ d = cc in same) (must_below c m x must))
below_mask _ d is read = absurd (cc)

integer_below : (x : LogicalType) (m : Validity) → is_integer k.I64 (masked_type x m) ≡ true → is_integer k.I64 x ≡ true
integer_below x v.NonNullable h = h
integer_below x v.AllValid h = integer-made-nullable k.I64 x Nullable h
integer_below x v.AllInvalid h = integer-made-nullable k.I64 x Nullable h
integer_below x (v.Array bits) h = integer-made-nullable k.I64 x Nullable h

pub child_integer : (a c : Array) → child_of a ≡ Some c → is_integer k.I64 (dtype a) ≡ true → is_integer k.I64 (dtype c) ≡ true
child_integer (masked c m) d is h = subst (λ (b : Array). is_integer k.I64 (dtype b) ≡ true) (let same : c ≡ d = cc in same) (integer_below (dtype c) m h)
child_integer _ d is h = absurd (cc)

-- ---- stored numbers

same_kind : (p : PType) → same_ptype k.I64 p ≡ true → p ≡ k.I64
same_kind k.I64 h = refl
same_kind _ h = absurd (cc)

-- each number is in the range of its type
abbrev pub AreInRange : PrimitiveValues → Type 0
AreInRange w = (i : ℕ) → i < count w → IsTrue (in_range (ptype_of w) (number_at w i))

stored_in_range : (w : PrimitiveValues) (m : Validity) → is_integer k.I64 (dtype (primitive w m)) ≡ true → AreInRange w → IsInRange (primitive w m)
stored_in_range w m h inside x (inl (i, within, is)) =
    let cell : number (number_at w i) ≡ x = let e = shown (valid_at m i) (Some (number (number_at w i))) x is in cc in
    subst (IsNumberOf k.I64) cell (subst (λ (p : PType). IsTrue (in_range p (number_at w i))) (same_kind (ptype_of w) h) (inside i within))
stored_in_range w m h inside x (inr (some, is)) = let impossible : ◌≡◌ {A = Option Cell} None (Some x) = is in absurd (cc)

pub values_in_range : (a : Array) (w : PrimitiveValues) → values_of a ≡ Some w → is_integer k.I64 (dtype a) ≡ true → AreInRange w → IsInRange a
values_in_range (primitive u m) w is h inside = stored_in_range u m h (subst AreInRange (let same : w ≡ u = cc in same) inside)
values_in_range _ w is h inside = absurd (cc)

-- ---- a constant

number_fits : (t : LogicalType) (x : Cell) → is_integer k.I64 t ≡ true → fits t x ≡ true → IsNumberOf k.I64 x
number_fits (types.primitive p n) (number z) h e = subst (λ (q : PType). IsTrue (in_range q z)) (same_kind p h) e
number_fits (types.primitive p n) (cells.truth b) h e = absurd (cc)
number_fits (types.primitive p n) (cells.bytes bs) h e = absurd (cc)
number_fits (types.primitive p n) (cells.list cs) h e = absurd (cc)
number_fits _ x h e = absurd (cc)

constant_in_range : (s : Scalar) (n : ℕ) → is_integer k.I64 (logical_type s.dtype) ≡ true → IsTrue (fits_type (option_map cell_of s.value) (logical_type s.dtype)) → (x : Cell) → option_map cell_of s.value ≡ Some x → IsNumberOf k.I64 x
constant_in_range s n h lawful x is = number_fits (logical_type s.dtype) x h (subst (λ (o : Option Cell). IsTrue (fits_type o (logical_type s.dtype))) is lawful)

each_constant : (s : Scalar) (n : ℕ) → is_integer k.I64 (logical_type s.dtype) ≡ true → IsTrue (fits_type (option_map cell_of s.value) (logical_type s.dtype)) → IsInRange (constant s n)
each_constant s n h lawful x (inl (i, within, is)) = constant_in_range s n h lawful x is
each_constant s n h lawful x (inr (some, is)) = constant_in_range s n h lawful x is

pub scalar_in_range : (a : Array) (s : Scalar) → scalar_of a ≡ Some s → is_integer k.I64 (dtype a) ≡ true → IsTrue (fits_type (option_map cell_of s.value) (logical_type s.dtype)) → IsInRange a
scalar_in_range (constant s n) t is h lawful =
    let same : t ≡ s = cc in
    each_constant s n h (subst (λ (u : Scalar). IsTrue (fits_type (option_map cell_of u.value) (logical_type u.dtype))) same lawful)
scalar_in_range _ t is h lawful = absurd (cc)

-- nothing else has the type
pub no_others : (a : Array) → child_of a ≡ None → values_of a ≡ None → scalar_of a ≡ None → is_integer k.I64 (dtype a) ≡ true → ⊥
no_others (constant s n) child values scalar h = cc
no_others (masked c m) child values scalar h = cc
no_others (primitive w m) child values scalar h = cc
no_others (varbin offsets bs Utf8 m) child values scalar h = cc
no_others (varbin offsets bs Binary m) child values scalar h = cc
no_others (varbinview views buffers Utf8 m) child values scalar h = cc
no_others (varbinview views buffers Binary m) child values scalar h = cc
no_others _ child values scalar h = cc
