-- A value of a type is a value of the type made nullable.
use Rattle.std.proofs.Common.{◌≡◌, ◌∙◌, ℕ, true, false, Option, Some, None, refl}
use Rattle.std.specs.Prelude.{IsTrue}
use Rattle.coltypes.specs.declared.dtype.Nullability.{Nullability}
use Rattle.coltypes.specs.declared.dtype.Nullability.TheVariants.{Nullable}
use Rattle.coltypes.specs.declared.validity.Validity.{Validity}
use Rattle.coltypes.specs.declared.validity.Validity.TheVariants as v
use Rattle.coltypes.specs.Cell.{Cell, truth, number, bytes, list as list_cell}
use Rattle.coltypes.specs.Fits.{fits, fits_type, is_nullable}
use Rattle.coltypes.specs.LogicalType.{LogicalType, null, bool, primitive, utf8, binary, list, fixed_size_list, extension, nullability_of, with_nullability}
use Rattle.coltypes.specs.Valid.{valid_at}
use Rattle.colbase.specs.Arrays.{masked_type}

pub fits-with_nullability : (t : LogicalType) (to : Nullability) (c : Cell) → fits (with_nullability t to) c ≡ fits t c
fits-with_nullability null to c = refl
fits-with_nullability (bool n) to (truth b) = refl
fits-with_nullability (bool n) to (number z) = refl
fits-with_nullability (bool n) to (bytes xs) = refl
fits-with_nullability (bool n) to (list_cell cs) = refl
fits-with_nullability (primitive p n) to (truth b) = refl
fits-with_nullability (primitive p n) to (number z) = refl
fits-with_nullability (primitive p n) to (bytes xs) = refl
fits-with_nullability (primitive p n) to (list_cell cs) = refl
fits-with_nullability (utf8 n) to (truth b) = refl
fits-with_nullability (utf8 n) to (number z) = refl
fits-with_nullability (utf8 n) to (bytes xs) = refl
fits-with_nullability (utf8 n) to (list_cell cs) = refl
fits-with_nullability (binary n) to (truth b) = refl
fits-with_nullability (binary n) to (number z) = refl
fits-with_nullability (binary n) to (bytes xs) = refl
fits-with_nullability (binary n) to (list_cell cs) = refl
fits-with_nullability (list t n) to (truth b) = refl
fits-with_nullability (list t n) to (number z) = refl
fits-with_nullability (list t n) to (bytes xs) = refl
fits-with_nullability (list t n) to (list_cell cs) = refl
fits-with_nullability (fixed_size_list t width n) to (truth b) = refl
fits-with_nullability (fixed_size_list t width n) to (number z) = refl
fits-with_nullability (fixed_size_list t width n) to (bytes xs) = refl
fits-with_nullability (fixed_size_list t width n) to (list_cell cs) = refl
fits-with_nullability (extension name unit time_zone t) to (truth b) = fits-with_nullability t to (truth b)
fits-with_nullability (extension name unit time_zone t) to (number z) = fits-with_nullability t to (number z)
fits-with_nullability (extension name unit time_zone t) to (bytes xs) = fits-with_nullability t to (bytes xs)
fits-with_nullability (extension name unit time_zone t) to (list_cell cs) = fits-with_nullability t to (list_cell cs)

pub made_nullable : (t : LogicalType) → is_nullable (nullability_of (with_nullability t Nullable)) ≡ true
made_nullable null = refl
made_nullable (bool n) = refl
made_nullable (primitive p n) = refl
made_nullable (utf8 n) = refl
made_nullable (binary n) = refl
made_nullable (list t n) = refl
made_nullable (fixed_size_list t width n) = refl
made_nullable (extension name unit time_zone t) = made_nullable t

pub nullable_fits : (o : Option Cell) (t : LogicalType) → IsTrue (fits_type o t) → IsTrue (fits_type o (with_nullability t Nullable))
nullable_fits None t h = made_nullable t
nullable_fits (Some c) t h = fits-with_nullability t Nullable c ∙ h

pub masked_fits : (o : Option Cell) (t : LogicalType) (w : Validity) → IsTrue (fits_type o t) → IsTrue (fits_type o (masked_type t w))
masked_fits o t v.NonNullable h = h
masked_fits o t v.AllValid h = nullable_fits o t h
masked_fits o t v.AllInvalid h = nullable_fits o t h
masked_fits o t (v.Array bits) h = nullable_fits o t h

-- a mask that makes a row null makes the type nullable
pub masked_null : (t : LogicalType) (w : Validity) (i : ℕ) → valid_at w i ≡ false → is_nullable (nullability_of (masked_type t w)) ≡ true
masked_null t v.NonNullable i h = absurd (cc)
masked_null t v.AllValid i h = absurd (cc)
masked_null t v.AllInvalid i h = made_nullable t
masked_null t (v.Array bits) i h = made_nullable t
