-- The bytes that a view stands for.
use Rattle.std.specs.Prelude.{ℕ, ◌+◌, ◌<◌, ◌≤◌, List, [], length, Option, Some, None, take, slice_range, slice_index_or, if◌then◌else◌, nat_lt}
use Rattle.coltypes.specs.declared.binary.BinaryView.{BinaryView}
use Rattle.coltypes.specs.declared.binary.BinaryView.TheVariants.{Inline, Ref}

-- the view at an index, and an empty one past the end
abbrev pub view_at : List BinaryView → ℕ → BinaryView
view_at views i = slice_index_or views i (Inline 0 [])

-- this many bytes at this offset, where they lie inside
abbrev pub bytes_within : List ℕ → ℕ → ℕ → Option (List ℕ)
bytes_within bs offset len = if nat_lt (length bs) (offset + len) then None else Some (slice_range bs offset (offset + len))

-- the bytes, where the view is inline, or names a buffer and lies inside it
abbrev pub view_bytes : BinaryView → List (List ℕ) → Option (List ℕ)
view_bytes (Inline len bs) buffers = Some (take len bs)
view_bytes (Ref buffer offset len) buffers =
    if nat_lt buffer (length buffers) then bytes_within (slice_index_or buffers buffer []) offset len else None

-- an inline view has no more bytes than it holds
abbrev pub IsShort : BinaryView → Type 0
IsShort (Inline len bs) = len ≤ 12
IsShort (Ref buffer offset len) = Unit {0}

abbrev pub EachIsShort : List BinaryView → Type 0
EachIsShort views = (i : ℕ) → i < length views → IsShort (view_at views i)
