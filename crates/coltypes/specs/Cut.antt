-- The part of a validity and of values from a to below b.
use Rattle.std.specs.Prelude.{ℕ, slice_range}
use Rattle.coltypes.specs.declared.validity.Validity.{Validity}
use Rattle.coltypes.specs.declared.validity.Validity.TheVariants as v
use Rattle.coltypes.specs.declared.values.PrimitiveValues.{PrimitiveValues}
use Rattle.coltypes.specs.declared.values.PrimitiveValues.TheVariants as p

abbrev pub cut_validity : Validity → ℕ → ℕ → Validity
cut_validity (v.Array bits) a b = v.Array (slice_range bits a b)
cut_validity v a b = v

abbrev pub cut_values : PrimitiveValues → ℕ → ℕ → PrimitiveValues
cut_values (p.I8 xs) a b = p.I8 (slice_range xs a b)
cut_values (p.I16 xs) a b = p.I16 (slice_range xs a b)
cut_values (p.I32 xs) a b = p.I32 (slice_range xs a b)
cut_values (p.I64 xs) a b = p.I64 (slice_range xs a b)
cut_values (p.U8 xs) a b = p.U8 (slice_range xs a b)
cut_values (p.U16 xs) a b = p.U16 (slice_range xs a b)
cut_values (p.U32 xs) a b = p.U32 (slice_range xs a b)
cut_values (p.U64 xs) a b = p.U64 (slice_range xs a b)
