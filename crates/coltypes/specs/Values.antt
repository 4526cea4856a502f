-- The numbers of a primitive array, by their type.
use Rattle.std.specs.Prelude.{ℕ, ℤ, List, Option, Some, None, pos, length, slice_index_or}
use Rattle.coltypes.specs.declared.values.PrimitiveValues.{PrimitiveValues}
use Rattle.coltypes.specs.declared.values.PrimitiveValues.TheVariants as v
use Rattle.coltypes.specs.declared.dtype.PType.{PType}
use Rattle.coltypes.specs.declared.dtype.PType.TheVariants as ptype

abbrev pub count : PrimitiveValues → ℕ
count (v.I8 xs) = length xs
count (v.I16 xs) = length xs
count (v.I32 xs) = length xs
count (v.I64 xs) = length xs
count (v.U8 xs) = length xs
count (v.U16 xs) = length xs
count (v.U32 xs) = length xs
count (v.U64 xs) = length xs

abbrev pub number_at : PrimitiveValues → ℕ → ℤ
number_at (v.I8 xs) i = slice_index_or xs i (pos 0)
number_at (v.I16 xs) i = slice_index_or xs i (pos 0)
number_at (v.I32 xs) i = slice_index_or xs i (pos 0)
number_at (v.I64 xs) i = slice_index_or xs i (pos 0)
number_at (v.U8 xs) i = pos (slice_index_or xs i 0)
number_at (v.U16 xs) i = pos (slice_index_or xs i 0)
number_at (v.U32 xs) i = pos (slice_index_or xs i 0)
number_at (v.U64 xs) i = pos (slice_index_or xs i 0)

abbrev pub ptype_of : PrimitiveValues → PType
ptype_of (v.I8 xs) = ptype.I8
ptype_of (v.I16 xs) = ptype.I16
ptype_of (v.I32 xs) = ptype.I32
ptype_of (v.I64 xs) = ptype.I64
ptype_of (v.U8 xs) = ptype.U8
ptype_of (v.U16 xs) = ptype.U16
ptype_of (v.U32 xs) = ptype.U32
ptype_of (v.U64 xs) = ptype.U64

-- the values, where they are there and of this type
abbrev pub i8_of : Option PrimitiveValues → Option (List ℤ)
i8_of (Some (v.I8 xs)) = Some xs
i8_of _ = None

abbrev pub i16_of : Option PrimitiveValues → Option (List ℤ)
i16_of (Some (v.I16 xs)) = Some xs
i16_of _ = None

abbrev pub i32_of : Option PrimitiveValues → Option (List ℤ)
i32_of (Some (v.I32 xs)) = Some xs
i32_of _ = None

abbrev pub i64_of : Option PrimitiveValues → Option (List ℤ)
i64_of (Some (v.I64 xs)) = Some xs
i64_of _ = None

abbrev pub u8_of : Option PrimitiveValues → Option (List ℕ)
u8_of (Some (v.U8 xs)) = Some xs
u8_of _ = None

abbrev pub u16_of : Option PrimitiveValues → Option (List ℕ)
u16_of (Some (v.U16 xs)) = Some xs
u16_of _ = None

abbrev pub u32_of : Option PrimitiveValues → Option (List ℕ)
u32_of (Some (v.U32 xs)) = Some xs
u32_of _ = None

abbrev pub u64_of : Option PrimitiveValues → Option (List ℕ)
u64_of (Some (v.U64 xs)) = Some xs
u64_of _ = None
