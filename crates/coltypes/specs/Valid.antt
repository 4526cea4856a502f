-- Which rows a validity makes null.
use Rattle.std.specs.Prelude.{◌≡◌, ℕ, Bool, true, false, length}
use Rattle.bitlane.specs.Bits.{bit, both}
use Rattle.coltypes.specs.declared.validity.Validity.{Validity}
use Rattle.coltypes.specs.declared.validity.Validity.TheVariants.{NonNullable, AllValid, AllInvalid, Array}
use Rattle.coltypes.specs.declared.validity.ValidityKind.{ValidityKind}
use Rattle.coltypes.specs.declared.validity.ValidityKind.TheVariants as kind
use Rattle.coltypes.specs.declared.dtype.Nullability.{Nullability}
use Rattle.coltypes.specs.declared.dtype.Nullability.TheVariants as nullability

-- whether row i is not null
abbrev pub valid_at : Validity → ℕ → Bool
valid_at NonNullable i = true
valid_at AllValid i = true
valid_at AllInvalid i = false
valid_at (Array bits) i = bit bits i

abbrev pub validity_nullability : Validity → Nullability
validity_nullability NonNullable = nullability.NonNullable
validity_nullability _ = nullability.Nullable

abbrev pub validity_kind : Validity → ValidityKind
validity_kind NonNullable = kind.NoNulls
validity_kind AllValid = kind.NoNulls
validity_kind AllInvalid = kind.AllNull
validity_kind (Array bits) = kind.MayHoldNulls

-- a validity array has one truth value for each row
abbrev pub Covers : Validity → ℕ → Type 0
Covers (Array bits) n = length bits ≡ n
Covers _ n = Unit {0}

-- two validity arrays have as many truth values
abbrev pub LengthsAgree : Validity → Validity → Type 0
LengthsAgree (Array a) (Array b) = length a ≡ length b
LengthsAgree _ _ = Unit {0}

-- null where either is: where one has no nulls, the other
abbrev pub validity_and : Validity → Validity → Validity
validity_and AllInvalid w = AllInvalid
validity_and NonNullable w = w
validity_and AllValid NonNullable = AllValid
validity_and AllValid w = w
validity_and (Array a) AllInvalid = AllInvalid
validity_and (Array a) (Array b) = Array (both a b)
validity_and (Array a) w = Array a

-- under a type that is not nullable that no row is null, and else the same rows
abbrev pub cast_validity : Validity → Nullability → Validity
cast_validity w nullability.NonNullable = NonNullable
cast_validity NonNullable nullability.Nullable = AllValid
cast_validity w nullability.Nullable = w
