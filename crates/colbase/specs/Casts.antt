-- Arrays whose type is made nullable or not.
use Rattle.std.specs.Prelude.{◌≡◌, ℕ, ◌<◌, Option, Some, None, IsSome, Result, MatchResult, option_map, ◌⊎◌}
use Rattle.coltypes.specs.declared.dtype.Nullability.{Nullability}
use Rattle.coltypes.specs.declared.dtype.Nullability.TheVariants.{Nullable, NonNullable}
use Rattle.coltypes.specs.declared.fault.Fault.{Fault}
use Rattle.coltypes.specs.declared.fault.Fault.TheVariants.{Memory, Cast}
use Rattle.coltypes.specs.LogicalType.{nullability_of, with_nullability}
use Rattle.colbase.specs.Arrays.{Array, dtype, len, payload, row, rows}
use Rattle.colbase.specs.Faults.{lowest, null_at}

-- no row is null
abbrev pub NoNull : Array → Type 0
NoNull a = (i : ℕ) → i < len a → IsSome (row a i)

-- a null row where none may be, the lowest
abbrev pub refused_null : Array → Nullability → Option ℕ
refused_null a NonNullable = lowest (null_at a) (len a)
refused_null a Nullable = None

-- a null row where the type made nullable or not is not nullable, the lowest
abbrev pub cast_check : Array → Nullability → Option ℕ
cast_check a to = refused_null a (nullability_of (with_nullability (dtype a) to))

-- The answer of a cast: the same rows and payload in the type made nullable or not, where the check passes. Else the null
-- row that it tells, and want of memory is free.
abbrev pub Casts : Result Array Fault → Array → Nullability → Type 0
Casts r a to = MatchResult r (λ b. (cast_check a to ≡ None) × (dtype b ≡ with_nullability (dtype a) to) × (rows b ≡ rows a) × (payload b ≡ payload a))
    (λ e. (e ≡ Memory) ⊎ (option_map (λ i. Cast i) (cast_check a to) ≡ Some e))
