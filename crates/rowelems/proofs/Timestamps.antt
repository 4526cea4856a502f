-- Arrays of timestamps: below its masks one is an extension of numbers of 64 bits, or a constant.
use Rattle.std.proofs.Common.{◌≡◌, ◌∙◌, ℕ, Bool, true, false, ◌&&◌, Some, None, refl, ap, sym, subst}
use Rattle.std.specs.Prelude.{pos, IsSome, bytes_eq}
use Rattle.coltypes.specs.declared.validity.Validity.{Validity}
use Rattle.coltypes.specs.declared.validity.Validity.TheVariants as v
use Rattle.coltypes.specs.declared.dtype.PType.TheVariants as k
use Rattle.coltypes.specs.declared.dtype.Nullability.{Nullability}
use Rattle.coltypes.specs.declared.dtype.Nullability.TheVariants.{Nullable}
use Rattle.coltypes.specs.declared.binary.BinaryKind.TheVariants.{Utf8, Binary}
use Rattle.coltypes.specs.LogicalType as t
use Rattle.coltypes.specs.LogicalTypeOf.{logical_type}
use Rattle.coltypes.specs.Cell.{Cell, number}
use Rattle.coltypes.specs.Fits.{storage_type}
use Rattle.colbase.specs.Parts.{storage_of}
use Rattle.colbase.specs.Layouts.{is_constant}
use Rattle.colbase.specs.Arrays.{Array, constant, masked, extension, primitive, bool, varbin, varbinview, list, listview, fixed_size_list, Sound, len, dtype, masked_type, constant_cell}
use Rattle.rowelems.specs.Shown.{stored_or}
use Rattle.rowelems.specs.Elements.{shown_number}
use Rattle.rowelems.specs.Unmasked.{unmasked}
use Rattle.rowelems.specs.Reading.{is_integer, is_time_unit, is_timestamp, timestamp_name}
use Rattle.rowelems.proofs.Types.{integer-made-nullable, integer-stored}
use Rattle.rowelems.proofs.Payload.{len-unmasked, shown-unmasked, shown-stored}

both_true : (a b c : Bool) → (a && (b && c)) ≡ true → c ≡ true
both_true true true c h = h
both_true true false c h = absurd (cc)
both_true false b c h = absurd (cc)

third_same : (a b c d : Bool) → (c ≡ true → d ≡ true) → (a && (b && c)) ≡ true → (a && (b && d)) ≡ true
third_same true true c d f h = f h
third_same true false c d f h = absurd (cc)
third_same false b c d f h = absurd (cc)

time_made_nullable : (x : t.LogicalType) (n : Nullability) → is_timestamp (t.with_nullability x n) ≡ true → is_timestamp x ≡ true
time_made_nullable (t.extension name unit z x) n h =
    third_same (bytes_eq name timestamp_name) (is_time_unit unit) (is_integer k.I64 (t.with_nullability x n)) (is_integer k.I64 x) (integer-made-nullable k.I64 x n) h
time_made_nullable (t.primitive q m) n h = h
time_made_nullable (t.bool m) n h = h
time_made_nullable t.null n h = h
time_made_nullable (t.utf8 m) n h = h
time_made_nullable (t.binary m) n h = h
time_made_nullable (t.list x m) n h = h
time_made_nullable (t.fixed_size_list x w m) n h = h

time_below : (x : t.LogicalType) (m : Validity) → is_timestamp (masked_type x m) ≡ true → is_timestamp x ≡ true
time_below x v.NonNullable h = h
time_below x v.AllValid h = time_made_nullable x Nullable h
time_below x v.AllInvalid h = time_made_nullable x Nullable h
time_below x (v.Array bits) h = time_made_nullable x Nullable h

time_unmasked : (a : Array) → is_timestamp (dtype a) ≡ true → is_timestamp (dtype (unmasked a)) ≡ true
time_unmasked (masked c m) h = time_unmasked c (time_below (dtype c) m h)
time_unmasked (constant s n) h = h
time_unmasked (extension e c) h = h
time_unmasked (primitive values m) h = h
time_unmasked (bool bits m) h = h
time_unmasked (varbin offsets bs k m) h = h
time_unmasked (varbinview views buffers k m) h = h
time_unmasked (list c offsets m) h = h
time_unmasked (listview c offsets sizes m) h = h
time_unmasked (fixed_size_list c width n m) h = h

time_stored : (x : t.LogicalType) → is_timestamp x ≡ true → is_integer k.I64 (storage_type x) ≡ true
time_stored (t.extension name unit z x) h = integer-stored k.I64 x (both_true (bytes_eq name timestamp_name) (is_time_unit unit) (is_integer k.I64 x) h)
time_stored t.null h = absurd (cc)
time_stored (t.primitive q n) h = absurd (cc)
time_stored (t.bool n) h = absurd (cc)
time_stored (t.utf8 n) h = absurd (cc)
time_stored (t.binary n) h = absurd (cc)
time_stored (t.list x n) h = absurd (cc)
time_stored (t.fixed_size_list x w n) h = absurd (cc)

-- timestamps are stored as numbers of 64 bits, also below their masks
pub timestamp-stored : (a s : Array) → s ≡ unmasked a → is_timestamp (dtype a) ≡ true → is_integer k.I64 (storage_type (dtype s)) ≡ true
timestamp-stored a s e h = subst (λ (b : Array). is_integer k.I64 (storage_type (dtype b)) ≡ true) (sym e) (time_stored (dtype (unmasked a)) (time_unmasked a h))

storage_typed : (s c : Array) → Sound s → storage_of s ≡ Some c → is_timestamp (dtype s) ≡ true → is_integer k.I64 (dtype c) ≡ true
storage_typed (extension e d) c w o h =
    subst (λ (b : Array). is_integer k.I64 (dtype b) ≡ true) (let same : d ≡ c = cc in same)
    (subst (λ (x : t.LogicalType). is_integer k.I64 x ≡ true) w.1 (both_true (bytes_eq e.name timestamp_name) (is_time_unit e.unit) (is_integer k.I64 (logical_type e.storage)) h))
storage_typed _ c w o h = absurd (cc)

-- the storage of the extension below the masks is of the integer type
pub timestamp-storage : (a s c : Array) → s ≡ unmasked a → Sound s → storage_of s ≡ Some c → is_timestamp (dtype a) ≡ true → is_integer k.I64 (dtype c) ≡ true
timestamp-storage a s c e w o h = storage_typed s c w o (subst (λ (b : Array). is_timestamp (dtype b) ≡ true) (sym e) (time_unmasked a h))

-- below its masks an array of timestamps is of the extension layout or a constant
pub timestamp-layouts : (a : Array) → is_timestamp (dtype a) ≡ true → storage_of (unmasked a) ≡ None → is_constant (unmasked a) ≡ true
timestamp-layouts (masked c m) h o = timestamp-layouts c (time_below (dtype c) m h) o
timestamp-layouts (constant s n) h o = refl
timestamp-layouts (extension x c) h o = absurd (cc)
timestamp-layouts (primitive values m) h o = absurd (cc)
timestamp-layouts (bool bits m) h o = absurd (cc)
timestamp-layouts (varbin offsets bs Utf8 m) h o = absurd (cc)
timestamp-layouts (varbin offsets bs Binary m) h o = absurd (cc)
timestamp-layouts (varbinview views buffers Utf8 m) h o = absurd (cc)
timestamp-layouts (varbinview views buffers Binary m) h o = absurd (cc)
timestamp-layouts (list c offsets m) h o = absurd (cc)
timestamp-layouts (listview c offsets sizes m) h o = absurd (cc)
timestamp-layouts (fixed_size_list c width n m) h o = absurd (cc)

within : (s c : Array) → storage_of s ≡ Some c → (len c ≡ len s) × ((d : Cell) (i : ℕ) → stored_or d c i ≡ stored_or d s i)
within (extension e x) c o =
    let same : x ≡ c = cc in
    (ap len (sym same), λ d i. ap (λ (b : Array). stored_or d b i) (sym same))
within _ c o = absurd (cc)

-- the storage has as many rows, and shows the same number at each
pub storage-len : (a s c : Array) → s ≡ unmasked a → storage_of s ≡ Some c → len c ≡ len a
storage-len a s c e o = (within s c o).0 ∙ ap len e ∙ len-unmasked a

pub storage-shown : (a s c : Array) → s ≡ unmasked a → storage_of s ≡ Some c → (i : ℕ) → shown_number c i ≡ shown_number a i
storage-shown a s c e o i =
    shown-stored (number (pos 0)) c i
    ∙ (within s c o).1 (number (pos 0)) i
    ∙ ap (λ (b : Array). stored_or (number (pos 0)) b i) e
    ∙ sym (shown-unmasked (number (pos 0)) a i)

constant_within : (a c : Array) → storage_of (unmasked a) ≡ Some c → IsSome (constant_cell a) → constant_cell c ≡ constant_cell a
constant_within (constant s n) c o h = absurd (cc)
constant_within (masked (constant s n) m) c o h = absurd (cc)
constant_within (extension e (constant s n)) c o h = ap constant_cell (let same : c ≡ constant s n = cc in same)
constant_within _ c o h = absurd (cc)

-- the storage of an extension that is a batch constant has its value
pub storage-constant : (a s c : Array) → s ≡ unmasked a → storage_of s ≡ Some c → IsSome (constant_cell a) → constant_cell c ≡ constant_cell a
storage-constant a s c e o h = constant_within a c (ap storage_of (sym e) ∙ o) h
