-- What one more mask does to the rows of an array.
use Rattle.std.proofs.Common.{◌≡◌, ◌∙◌, ℕ, ◌<◌, Bool, true, false, ◌&&◌, List, length, Option, None, refl, ap, sym, subst, arith}
use Rattle.std.specs.Prelude.{cond, option_map}
use Rattle.bitlane.specs.Bits.{bit, tabulate}
use Rattle.bitlane.proofs.Tables.{length-tabulate, get_or-tabulate, tabulate-same}
use Rattle.coltypes.specs.declared.dtype.Nullability.{Nullability}
use Rattle.coltypes.specs.declared.dtype.Nullability.TheVariants.{Nullable, NonNullable}
use Rattle.coltypes.specs.declared.dtype.ExtDType.{ExtDType}
use Rattle.coltypes.specs.declared.scalar.Scalar.{Scalar}
use Rattle.coltypes.specs.declared.scalar.ScalarValue.{ScalarValue}
use Rattle.coltypes.specs.declared.values.PrimitiveValues.{PrimitiveValues}
use Rattle.coltypes.specs.declared.validity.Validity.{Validity}
use Rattle.coltypes.specs.declared.validity.Validity.TheVariants as v
use Rattle.coltypes.specs.Cell.{Cell}
use Rattle.coltypes.specs.CellOf.{cell_of}
use Rattle.coltypes.specs.Fits.{is_nullable, fits_type}
use Rattle.coltypes.specs.LogicalType as types
use Rattle.coltypes.specs.LogicalTypeOf.{extension_type, logical_type}
use Rattle.coltypes.specs.Valid.{Covers, validity_and, validity_nullability}
use Rattle.coltypes.specs.Values.{count, ptype_of}
use Rattle.colbase.specs.Arrays.{Array, constant, masked, extension, primitive, bool, dtype, len, masked_type, payload, row, rows, stored, if_valid}
use Rattle.colbase.specs.Hides.{Hides, Retypes, shown_row}

pub covers_and : (w : Validity) (bits : List Bool) (n : ℕ) → Covers w n → length bits ≡ n → Covers (validity_and w (v.Array bits)) n
covers_and v.NonNullable bits n h k = k
covers_and v.AllValid bits n h k = k
covers_and v.AllInvalid bits n h k = tt
covers_and (v.Array xs) bits n h k = length-tabulate (λ i. bit xs i && bit bits i) (length xs) ∙ h

nullable_and : (w : Validity) (bits : List Bool) → validity_nullability (validity_and w (v.Array bits)) ≡ Nullable
nullable_and v.NonNullable bits = refl
nullable_and v.AllValid bits = refl
nullable_and v.AllInvalid bits = refl
nullable_and (v.Array xs) bits = refl

masked_and : (t : types.LogicalType) (w : Validity) (bits : List Bool) → masked_type t (validity_and w (v.Array bits)) ≡ types.with_nullability t Nullable
masked_and t v.NonNullable bits = refl
masked_and t v.AllValid bits = refl
masked_and t v.AllInvalid bits = refl
masked_and t (v.Array xs) bits = refl

twice : (t : types.LogicalType) → types.with_nullability (types.with_nullability t Nullable) Nullable ≡ types.with_nullability t Nullable
twice types.null = refl
twice (types.bool n) = refl
twice (types.primitive p n) = refl
twice (types.utf8 n) = refl
twice (types.binary n) = refl
twice (types.list t n) = refl
twice (types.fixed_size_list t width n) = refl
twice (types.extension name unit time_zone t) = ap (types.extension name unit time_zone) (twice t)

already : (t : types.LogicalType) → is_nullable (types.nullability_of t) ≡ true → t ≡ types.with_nullability t Nullable
already types.null h = refl
already (types.bool Nullable) h = refl
already (types.bool NonNullable) h = absurd (cc)
already (types.primitive p Nullable) h = refl
already (types.primitive p NonNullable) h = absurd (cc)
already (types.utf8 Nullable) h = refl
already (types.utf8 NonNullable) h = absurd (cc)
already (types.binary Nullable) h = refl
already (types.binary NonNullable) h = absurd (cc)
already (types.list t Nullable) h = refl
already (types.list t NonNullable) h = absurd (cc)
already (types.fixed_size_list t width Nullable) h = refl
already (types.fixed_size_list t width NonNullable) h = absurd (cc)
already (types.extension name unit time_zone t) h = ap (types.extension name unit time_zone) (already t h)

masked_twice : (t : types.LogicalType) (w : Validity) → types.with_nullability t Nullable ≡ types.with_nullability (masked_type t w) Nullable
masked_twice t v.NonNullable = refl
masked_twice t v.AllValid = sym (twice t)
masked_twice t v.AllInvalid = sym (twice t)
masked_twice t (v.Array xs) = sym (twice t)

both_tests : (a b : Bool) (c : Option Cell) → cond (a && b) c None ≡ cond b (cond a c None) None
both_tests true true c = refl
both_tests true false c = refl
both_tests false true c = refl
both_tests false false c = refl

abbrev no_cell : Option Cell
no_cell = None

never : (b : Bool) → no_cell ≡ cond b no_cell None
never true = refl
never false = refl

-- null by either is null where the truth value is false, and else null by the validity
and_row : (w : Validity) (bits : List Bool) (n i : ℕ) (c : Option Cell) → Covers w n → i < n → if_valid (validity_and w (v.Array bits)) i c ≡ cond (bit bits i) (if_valid w i c) None
and_row v.NonNullable bits n i c h k = refl
and_row v.AllValid bits n i c h k = refl
and_row v.AllInvalid bits n i c h k = never (bit bits i)
and_row (v.Array xs) bits n i c h k =
    ap (λ b. cond b c None) (get_or-tabulate (λ j. bit xs j && bit bits j) (length xs) i false (omega (arith, h))) ∙ both_tests (bit xs i) (bit bits i) c

pub hides_primitive : (x : PrimitiveValues) (w : Validity) (bits : List Bool) → Covers w (count x) → Hides (primitive x w) bits (primitive x (validity_and w (v.Array bits)))
hides_primitive x w bits h = record {
  counted = refl;
  typed = ap (λ n. types.primitive (ptype_of x) n) (nullable_and w bits);
  shown = λ i k. and_row w bits (count x) i _ h k;
  kept = λ i k. refl;
}

pub hides_bool : (xs : List Bool) (w : Validity) (bits : List Bool) → Covers w (length xs) → Hides (bool xs w) bits (bool xs (validity_and w (v.Array bits)))
hides_bool xs w bits h = record {
  counted = refl;
  typed = ap types.bool (nullable_and w bits);
  shown = λ i k. and_row w bits (length xs) i _ h k;
  kept = λ i k. refl;
}

pub hides_masked : (c : Array) (w : Validity) (bits : List Bool) → Covers w (len c) → Hides (masked c w) bits (masked c (validity_and w (v.Array bits)))
hides_masked c w bits h = record {
  counted = refl;
  typed = masked_and (dtype c) w bits ∙ masked_twice (dtype c) w;
  shown = λ i k. and_row w bits (len c) i _ h k;
  kept = λ i k. refl;
}

pub hides_whole : (c : Array) (bits : List Bool) → Hides c bits (masked c (v.Array bits))
hides_whole c bits = record {
  counted = refl;
  typed = refl;
  shown = λ i k. refl;
  kept = λ i k. refl;
}

null_shown : (b : Bool) (o : Option ScalarValue) → o ≡ None → option_map cell_of o ≡ cond b (option_map cell_of o) None
null_shown true o h = refl
null_shown false o h = ap (option_map cell_of) h

pub hides_null : (s : Scalar) (n : ℕ) (bits : List Bool) → s.value ≡ None → Hides (constant s n) bits (constant s n)
hides_null s n bits h = record {
  counted = refl;
  typed = already (logical_type s.dtype) (ap (λ o. fits_type (option_map cell_of o) (logical_type s.dtype)) (sym h) ∙ s.lawful);
  shown = λ i k. null_shown (bit bits i) s.value h;
  kept = λ i k. refl;
}

pub hides_extension : (e : ExtDType) (c d a : Array) (bits : List Bool) → Hides c bits d → Retypes d (types.with_nullability (extension_type e) Nullable) a → Hides (extension e c) bits a
hides_extension e c d a bits h r = record {
  counted = r.counted ∙ h.counted;
  typed = r.typed;
  shown = λ i k. r.shown i (rw h.counted k) ∙ h.shown i k;
  kept = λ i k. r.kept i (rw h.counted k) ∙ h.kept i k;
}

pub retypes_extension : (e : ExtDType) (c : Array) (t : types.LogicalType) → extension_type e ≡ t → Retypes c t (extension e c)
retypes_extension e c t h = record { counted = refl; typed = h; shown = λ i k. refl; kept = λ i k. refl }

pub rows_hidden : (c a : Array) (bits : List Bool) → Hides c bits a → rows a ≡ tabulate (shown_row bits (row c)) (len c)
rows_hidden c a bits h = ap (tabulate (row a)) h.counted ∙ tabulate-same (row a) (shown_row bits (row c)) (len c) h.shown

pub payload_hidden : (c a : Array) (bits : List Bool) → Hides c bits a → payload a ≡ payload c
payload_hidden c a bits h = ap (tabulate (stored a)) h.counted ∙ tabulate-same (stored a) (stored c) (len c) h.kept

-- the storage types of two extension types that are one
pub storage_same : (e : ExtDType) (f : ExtDType) (to : Nullability) → extension_type f ≡ types.with_nullability (extension_type e) to → logical_type f.storage ≡ types.with_nullability (logical_type e.storage) to
storage_same e f to h = cc

pub hides_same : (c d a b : Array) (bits : List Bool) → c ≡ d → a ≡ b → Hides d bits b → Hides c bits a
hides_same c d a b bits e f h =
    let P : Array → Type 0 = λ x. Hides x bits a in
    let Q : Array → Type 0 = λ x. Hides d bits x in
    subst P (sym e) (subst Q (sym f) h)
