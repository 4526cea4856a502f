-- The parts of an array's layout.
use Rattle.std.specs.Prelude.{ℕ, Bool, List, Option, Some, None}
use Rattle.coltypes.specs.declared.validity.Validity.{Validity}
use Rattle.coltypes.specs.declared.values.PrimitiveValues.{PrimitiveValues}
use Rattle.coltypes.specs.declared.scalar.Scalar.{Scalar}
use Rattle.coltypes.specs.declared.binary.BinaryView.{BinaryView}
use Rattle.coltypes.specs.LogicalType.{nullability_of}
use Rattle.coltypes.specs.LogicalTypeOf.{logical_type}
use Rattle.coltypes.specs.Scalars.{constant_validity}
use Rattle.colbase.specs.Arrays.{Array, constant, masked, extension, primitive, bool, varbin, varbinview, list, listview, fixed_size_list}

-- the scalar of the constant layout
abbrev pub scalar_of : Array → Option Scalar
scalar_of (constant s n) = Some s
scalar_of _ = None

-- the child of the masked layout
abbrev pub child_of : Array → Option Array
child_of (masked c v) = Some c
child_of _ = None

-- the storage of the extension layout
abbrev pub storage_of : Array → Option Array
storage_of (extension e c) = Some c
storage_of _ = None

-- the numbers of the primitive layout
abbrev pub values_of : Array → Option PrimitiveValues
values_of (primitive values v) = Some values
values_of _ = None

-- the truth values of the boolean layout
abbrev pub bits_of : Array → Option (List Bool)
bits_of (bool bits v) = Some bits
bits_of _ = None

-- the bytes that offsets point into
abbrev pub bytes_of : Array → Option (List ℕ)
bytes_of (varbin offsets bs k v) = Some bs
bytes_of _ = None

abbrev pub views_of : Array → Option (List BinaryView)
views_of (varbinview views buffers k v) = Some views
views_of _ = None

-- the buffers that views name
abbrev pub buffers_of : Array → Option (List (List ℕ))
buffers_of (varbinview views buffers k v) = Some buffers
buffers_of _ = None

-- the elements of the three list layouts
abbrev pub elements_of : Array → Option Array
elements_of (list c offsets v) = Some c
elements_of (listview c offsets sizes v) = Some c
elements_of (fixed_size_list c width n v) = Some c
elements_of _ = None

-- the offsets of the three layouts that have some
abbrev pub offsets_of : Array → Option (List ℕ)
offsets_of (varbin offsets bs k v) = Some offsets
offsets_of (list c offsets v) = Some offsets
offsets_of (listview c offsets sizes v) = Some offsets
offsets_of _ = None

-- the sizes of the list view layout
abbrev pub sizes_of : Array → Option (List ℕ)
sizes_of (listview c offsets sizes v) = Some sizes
sizes_of _ = None

-- the validity that a layout has, or that its storage has
abbrev pub own_validity : Array → Validity
own_validity (constant s n) = constant_validity s.value (nullability_of (logical_type s.dtype))
own_validity (masked c v) = v
own_validity (extension e c) = own_validity c
own_validity (primitive values v) = v
own_validity (bool bits v) = v
own_validity (varbin offsets bs k v) = v
own_validity (varbinview views buffers k v) = v
own_validity (list c offsets v) = v
own_validity (listview c offsets sizes v) = v
own_validity (fixed_size_list c width n v) = v
