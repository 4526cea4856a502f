-- The type under which an output is shown, by the label that a plan holds.
use Rattle.std.specs.Prelude.{Option, None, Some}
use Rattle.coltypes.specs.declared.dtype.ExtDType.{ExtDType}
use Rattle.coltypes.specs.LogicalType.{LogicalType}
use Rattle.coltypes.specs.LogicalTypeOf.{logical_type, extension_type}

-- the type under which values of this type are shown
abbrev pub shown_as : Option ExtDType → LogicalType → LogicalType
shown_as None storage = storage
shown_as (Some e) storage = extension_type e

-- the storage type that a label names
abbrev pub label_storage : Option ExtDType → LogicalType → LogicalType
label_storage None storage = storage
label_storage (Some e) storage = logical_type e.storage
