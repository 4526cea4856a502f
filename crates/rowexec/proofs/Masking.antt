-- Validities joined, and types made nullable.
use Rattle.std.proofs.Common.{◌≡◌, ◌∙◌, ℕ, ◌<◌, Bool, true, false, ◌&&◌, List, ◌∷◌, length, Option, None, Some, Result, Ok, Err, inl, inr, refl, ap, arith, subst}
use Rattle.std.specs.Prelude.{IfErr, is_some, option_map}
use Rattle.bitlane.specs.Bits.{bit}
use Rattle.bitlane.proofs.Tables.{get_or-tabulate, length-tabulate}
use Rattle.colbase.specs.Arrays.{Array, dtype, len, row}
use Rattle.colbase.specs.Casts.{Casts, refused_null}
use Rattle.coltypes.specs.Cell.{Cell}
use Rattle.coltypes.specs.LogicalType.{LogicalType, bool, binary, extension, fixed_size_list, list, null, nullability_of, primitive, utf8, with_nullability}
use Rattle.coltypes.specs.Valid.{Covers, valid_at, validity_and}
use Rattle.coltypes.specs.declared.dtype.Nullability.{Nullability}
use Rattle.coltypes.specs.declared.dtype.Nullability.TheVariants.{Nullable, NonNullable}
use Rattle.coltypes.specs.declared.fault.Fault.{Fault}
use Rattle.coltypes.specs.declared.fault.Fault.TheVariants.{Cast, Memory}
use Rattle.coltypes.specs.declared.validity.Validity.{Validity}
use Rattle.coltypes.specs.declared.validity.Validity.TheVariants as v
use Rattle.rowexec.specs.Rows.{EachHasRows, full_cells, with_cell}

and_true : (a : Bool) → a ≡ (a && true)
and_true true = refl
and_true false = refl

and_false : (a : Bool) → false ≡ (a && false)
and_false true = refl
and_false false = refl

pub valid_and : (x y : Validity) (i n : ℕ) → Covers x n → Covers y n → i < n → valid_at (validity_and x y) i ≡ (valid_at x i && valid_at y i)
valid_and v.AllInvalid y i n p q h = refl
valid_and v.NonNullable y i n p q h = refl
valid_and v.AllValid v.NonNullable i n p q h = refl
valid_and v.AllValid v.AllValid i n p q h = refl
valid_and v.AllValid v.AllInvalid i n p q h = refl
valid_and v.AllValid (v.Array b) i n p q h = refl
valid_and (v.Array a) v.NonNullable i n p q h = and_true (bit a i)
valid_and (v.Array a) v.AllValid i n p q h = and_true (bit a i)
valid_and (v.Array a) v.AllInvalid i n p q h = and_false (bit a i)
valid_and (v.Array a) (v.Array b) i n p q h = get_or-tabulate (λ j. bit a j && bit b j) (length a) i false (omega (arith, h, p))

pub covers_and : (x y : Validity) (n : ℕ) → Covers x n → Covers y n → Covers (validity_and x y) n
covers_and v.AllInvalid y n p q = tt
covers_and v.NonNullable y n p q = q
covers_and v.AllValid v.NonNullable n p q = tt
covers_and v.AllValid v.AllValid n p q = tt
covers_and v.AllValid v.AllInvalid n p q = tt
covers_and v.AllValid (v.Array b) n p q = q
covers_and (v.Array a) v.NonNullable n p q = p
covers_and (v.Array a) v.AllValid n p q = p
covers_and (v.Array a) v.AllInvalid n p q = tt
covers_and (v.Array a) (v.Array b) n p q = length-tabulate (λ j. bit a j && bit b j) (length a) ∙ p

both_there : (o : Option Cell) (rest : Option (List Cell)) → is_some (with_cell o rest) ≡ (is_some o && is_some rest)
both_there (Some c) (Some cells) = refl
both_there (Some c) None = refl
both_there None rest = refl

pub full_both : (columns : List Array) (a : Array) (others : List Array) (i : ℕ) (p q : Bool) → columns ≡ a ∷ others → p ≡ is_some (row a i) → q ≡ is_some (full_cells others i) → (p && q) ≡ is_some (full_cells columns i)
full_both columns a others i p q e h k =
    let whole = ap (λ xs. is_some (full_cells xs i)) e in
    let pair = both_there (row a i) (full_cells others i) in
    cc (whole, h, k, pair)

pub rows_of_others : (n : ℕ) (columns : List Array) (a : Array) (others : List Array) → columns ≡ a ∷ others → EachHasRows n columns → (len a ≡ n) × EachHasRows n others
rows_of_others n columns a others e h =
    let P : List Array → Type 0 = λ xs. EachHasRows n xs in
    subst P e h

pub nullable_made : (t : LogicalType) → nullability_of (with_nullability t Nullable) ≡ Nullable
nullable_made null = refl
nullable_made (bool n) = refl
nullable_made (primitive p n) = refl
nullable_made (utf8 n) = refl
nullable_made (binary n) = refl
nullable_made (list t n) = refl
nullable_made (fixed_size_list t width n) = refl
nullable_made (extension name unit time_zone t) = nullable_made t

none_refused : (a : Array) (n : Nullability) (e : Fault) → n ≡ Nullable → option_map (λ i. Cast i) (refused_null a n) ≡ Some e → ⊥
none_refused a Nullable e p h = absurd (cc)
none_refused a NonNullable e p h = absurd (cc)

pub cast_errors : (r : Result Array Fault) (a : Array) → Casts r a Nullable → IfErr r (λ e. e ≡ Memory)
cast_errors (Ok b) a h = tt
cast_errors (Err e) a (inl m) = m
cast_errors (Err e) a (inr h) = absurd (none_refused a (nullability_of (with_nullability (dtype a) Nullable)) e (nullable_made (dtype a)) h)
