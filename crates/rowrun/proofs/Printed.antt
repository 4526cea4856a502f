-- A truncation is of a type that is printed.
use Rattle.std.proofs.Common.{◌≡◌, ◌∙◌, ℤ, Bool, true, false, ◌&&◌, List, [], ◌∷◌, Option, Some, None, refl, ap, sym}
use Rattle.std.specs.Prelude.{if◌then◌else◌, unwrap_or, bytes_eq, IfOk, Result, Ok, Err}
use Rattle.colbase.specs.Arrays.{Array, dtype}
use Rattle.coltypes.specs.declared.fault.Fault.{Fault}
use Rattle.coltypes.specs.LogicalType.{LogicalType, null, bool, primitive, utf8, binary, list, fixed_size_list, extension, with_nullability}
use Rattle.coltypes.specs.declared.dtype.Nullability.{Nullability}
use Rattle.coltypes.specs.declared.dtype.Nullability.TheVariants.{Nullable, NonNullable}
use Rattle.coltypes.specs.declared.dtype.PType.TheVariants.{I8, I16, I32, I64, U8, U16, U32, U64}
use Rattle.rowelems.specs.Reading.{is_integer, is_time_unit, is_timestamp, timestamp_name}
use Rattle.rowplan.specs.Law.{RowLaw}
use Rattle.rowplan.specs.Outputs.{any_nullable, made_nullable, output_type, stated_type}
use Rattle.rowexec.specs.Batch.{StatedAs}
use Rattle.rowsample.specs.Functions.{first_label, truncates}
use Rattle.rowjson.specs.Text.{is_i64, is_printed}

integer_stays : (t : LogicalType) (n : Nullability) → is_integer I64 (with_nullability t n) ≡ is_integer I64 t
integer_stays null n = refl
integer_stays (bool m) n = refl
integer_stays (primitive p m) n = refl
integer_stays (utf8 m) n = refl
integer_stays (binary m) n = refl
integer_stays (list t m) n = refl
integer_stays (fixed_size_list t width m) n = refl
integer_stays (extension name unit time_zone t) n = refl

timestamp_stays : (t : LogicalType) (n : Nullability) → is_timestamp (with_nullability t n) ≡ is_timestamp t
timestamp_stays null n = refl
timestamp_stays (bool m) n = refl
timestamp_stays (primitive p m) n = refl
timestamp_stays (utf8 m) n = refl
timestamp_stays (binary m) n = refl
timestamp_stays (list t m) n = refl
timestamp_stays (fixed_size_list t width m) n = refl
timestamp_stays (extension name unit time_zone t) n = ap (λ (b : Bool). bytes_eq name timestamp_name && (is_time_unit unit && b)) (integer_stays t n)

made_timestamp : (some : Bool) (t : LogicalType) → is_timestamp (made_nullable some t) ≡ is_timestamp t
made_timestamp false t = refl
made_timestamp true t = timestamp_stays t Nullable

integer_printed : (t : LogicalType) → is_integer I64 t ≡ true → is_i64 t ≡ true
integer_printed (primitive I64 n) e = refl
integer_printed (primitive I8 n) e = cc
integer_printed (primitive I16 n) e = cc
integer_printed (primitive I32 n) e = cc
integer_printed (primitive U8 n) e = cc
integer_printed (primitive U16 n) e = cc
integer_printed (primitive U32 n) e = cc
integer_printed (primitive U64 n) e = cc
integer_printed _ e = absurd (cc)

last_true : (a b c : Bool) → a && (b && c) ≡ true → c ≡ true
last_true true true c e = e
last_true true false c e = cc
last_true false b c e = cc

timestamp_printed : (t : LogicalType) → is_timestamp t ≡ true → is_printed t ≡ true
timestamp_printed (extension name unit time_zone t) e = integer_printed t (last_true (bytes_eq name timestamp_name) (is_time_unit unit) (is_integer I64 t) e)
timestamp_printed _ e = absurd (cc)

-- numbers, nullable or not, and under the label of a timestamp type
numbers_printed : (some : Bool) → is_printed (made_nullable some (primitive I64 NonNullable)) ≡ true
numbers_printed false = refl
numbers_printed true = refl

under_label : (some test : Bool) (t : LogicalType) → is_timestamp t ≡ test → is_printed (made_nullable some (output_type (primitive I64 NonNullable) (if test then Some (with_nullability t NonNullable) else None))) ≡ true
under_label some false t is = numbers_printed some
under_label some true t is = timestamp_printed _ (made_timestamp some (with_nullability t NonNullable) ∙ timestamp_stays t NonNullable ∙ is)

stated_printed : (types : List LogicalType) → is_printed (stated_type (output_type (primitive I64 NonNullable) (first_label types)) types) ≡ true
stated_printed [] = refl
stated_printed (t ∷ types) = under_label (any_nullable (t ∷ types)) (is_timestamp t) t refl

same_storage : (s : LogicalType) → Some (primitive I64 NonNullable) ≡ Some s → s ≡ primitive I64 NonNullable
same_storage s e = sym (ap (λ (o : Option LogicalType). unwrap_or o null) e)

truncation_printed : (ticks : ℤ) (types : List LogicalType) (t : LogicalType) → StatedAs (truncates ticks types) types t → is_printed t ≡ true
truncation_printed ticks types t stated =
    ap is_printed stated.is
    ∙ ap (λ (s : LogicalType). is_printed (stated_type (output_type s (first_label types)) types)) (same_storage stated.storage stated.stored)
    ∙ stated_printed types

-- what an engine says of its column
pub truncations_printed : (ticks : ℤ) (types : List LogicalType) (r : Result Array Fault) → IfOk r (λ a. StatedAs (truncates ticks types) types (dtype a)) → IfOk r (λ a. is_printed (dtype a) ≡ true)
truncations_printed ticks types (Ok a) stated = truncation_printed ticks types (dtype a) stated
truncations_printed ticks types (Err e) stated = tt

-- so is a result of numbers without a label
pub numbers_stated : {E : Type 0} (law : RowLaw E) (types : List LogicalType) (r : Result Array Fault) → law.output.storage ≡ Some (primitive I64 NonNullable) → law.output.label ≡ None
    → IfOk r (λ a. StatedAs law types (dtype a)) → IfOk r (λ a. is_printed (dtype a) ≡ true)
numbers_stated law types (Ok a) storage label stated =
    ap is_printed stated.is
    ∙ ap (λ (l : Option LogicalType). is_printed (stated_type (output_type stated.storage l) types)) label
    ∙ ap (λ (s : LogicalType). is_printed (stated_type s types)) (same_storage stated.storage (sym storage ∙ stated.stored))
    ∙ numbers_printed (any_nullable types)
numbers_stated law types (Err e) storage label stated = tt
