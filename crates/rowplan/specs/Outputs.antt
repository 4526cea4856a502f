-- The type of a row function's output, and when a declared type fits what is stored.
use Rattle.std.specs.Prelude.{◌≡◌, Bool, ◌||◌, false, List, [], ◌∷◌, Option, None, Some, ⊤, ◌⊎◌}
use Rattle.coltypes.specs.declared.dtype.Nullability.TheVariants.{Nullable, NonNullable}
use Rattle.coltypes.specs.Fits.{is_nullable}
use Rattle.coltypes.specs.LogicalType.{LogicalType, extension, nullability_of, with_nullability}

-- the type of what is stored, where there is one, and the type under which it is shown, where one is declared
pub record Output : Type 0 where
  pub storage : Option LogicalType
  pub label : Option LogicalType

-- an extension type whose storage is exactly this type
abbrev pub IsExtensionOver : LogicalType → LogicalType → Type 0
IsExtensionOver s (extension name unit time_zone t) = t ≡ s
IsExtensionOver s _ = ⊥

-- a declared type is not nullable, and is the storage type or an extension over it
abbrev pub LabelFits : LogicalType → Option LogicalType → Type 0
LabelFits s None = ⊤
LabelFits s (Some l) = (nullability_of l ≡ NonNullable) × ((l ≡ s) ⊎ IsExtensionOver s l)

-- the storage type is there and is not nullable, and the label fits it
abbrev pub InOrder : Option LogicalType → Option LogicalType → Type 0
InOrder None label = ⊥
InOrder (Some s) label = (nullability_of s ≡ NonNullable) × LabelFits s label

-- the type of the output, before it is made nullable
abbrev pub output_type : LogicalType → Option LogicalType → LogicalType
output_type s None = s
output_type s (Some l) = l

abbrev pub any_nullable : List LogicalType → Bool
any_nullable [] = false
any_nullable (t ∷ types) = is_nullable (nullability_of t) || any_nullable types

abbrev pub made_nullable : Bool → LogicalType → LogicalType
made_nullable false t = t
made_nullable _ t = with_nullability t Nullable

-- the output type, made nullable where some argument's type is
abbrev pub stated_type : LogicalType → List LogicalType → LogicalType
stated_type output types = made_nullable (any_nullable types) output
