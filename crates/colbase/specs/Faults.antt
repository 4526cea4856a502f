-- The checks of the layouts' constructors: each is None where it passes, and else what is told.
use Rattle.std.specs.Prelude.{◌≡◌, ◌≢◌, ℕ, zero, suc, ◌+◌, ◌-◌, ◌*◌, ◌^◌, ◌==◌, Bool, true, false, ◌&&◌, List, length, Option, Some, None, Result, MatchResult, option_map, is_some, not, ◌⊎◌, if◌then◌else◌, slice_index, nat_lt, min}
use Rattle.coltypes.specs.declared.validity.Validity.{Validity}
use Rattle.coltypes.specs.declared.binary.BinaryView.{BinaryView}
use Rattle.coltypes.specs.declared.dtype.ExtDType.{ExtDType}
use Rattle.coltypes.specs.declared.fault.Fault.{Fault}
use Rattle.coltypes.specs.declared.fault.Fault.TheVariants.{Memory, Layout}
use Rattle.coltypes.specs.declared.fault.LayoutFault.{LayoutFault}
use Rattle.coltypes.specs.declared.fault.LayoutFault.TheVariants as f
use Rattle.coltypes.specs.LogicalTypeOf.{logical_type}
use Rattle.coltypes.specs.Valid.{valid_at}
use Rattle.coltypes.specs.Views.{view_at, view_bytes}
use Rattle.coltypes.specs.Checks.{first_of, length_check}
use Rattle.colbase.specs.Arrays.{Array, extension, dtype, len, row}

abbrev pub or_here : Option ℕ → Bool → ℕ → Option ℕ
or_here (Some i) here n = Some i
or_here None true n = Some n
or_here None false n = None

-- the lowest number below n at which the test holds
abbrev pub lowest : (ℕ → Bool) → ℕ → Option ℕ
lowest test zero = None
lowest test (suc n) = or_here (lowest test n) (test n) n

abbrev pub null_at : Array → ℕ → Bool
null_at c i = not (is_some (row c i))

-- a null of the child, the lowest
abbrev pub null_check : Array → Option LayoutFault
null_check c = option_map (λ i. f.MaskedNull i) (lowest (null_at c) (len c))

-- no offset at all
abbrev pub some_check : List ℕ → Option LayoutFault
some_check offsets = if length offsets == 0 then Some f.OffsetsEmpty else None

abbrev pub falls_at : List ℕ → ℕ → Bool
falls_at offsets i = nat_lt (slice_index offsets (i + 1)) (slice_index offsets i)

-- an offset below the one before it, the lowest
abbrev pub rising_check : List ℕ → Option LayoutFault
rising_check offsets = option_map (λ i. f.OffsetsDecrease (i + 1)) (lowest (falls_at offsets) (length offsets - 1))

-- a last offset past the bytes or elements
abbrev pub last_check : List ℕ → ℕ → Option LayoutFault
last_check offsets limit = if nat_lt limit (slice_index offsets (length offsets - 1)) then Some (f.OffsetsPass (slice_index offsets (length offsets - 1)) limit) else None

-- the checks of offsets, in their order
abbrev pub offsets_check : List ℕ → ℕ → Validity → Option LayoutFault
offsets_check offsets limit v =
    first_of (some_check offsets) (first_of (length_check v (length offsets - 1)) (first_of (rising_check offsets) (last_check offsets limit)))

abbrev pub outside_at : List BinaryView → List (List ℕ) → Validity → ℕ → Bool
outside_at views buffers v i = valid_at v i && not (is_some (view_bytes (view_at views i) buffers))

-- a view of a row that is not null, which names no buffer or leaves it, the lowest
abbrev pub view_check : List BinaryView → List (List ℕ) → Validity → Option LayoutFault
view_check views buffers v = option_map (λ i. f.ViewOutside i) (lowest (outside_at views buffers v) (length views))

abbrev pub passes_at : List ℕ → List ℕ → ℕ → Validity → ℕ → Bool
passes_at offsets sizes limit v i = valid_at v i && nat_lt limit (slice_index offsets i + slice_index sizes i)

-- a range of a row that is not null, which passes the elements, the lowest
abbrev pub range_check : List ℕ → List ℕ → ℕ → Validity → Option LayoutFault
range_check offsets sizes limit v = option_map (λ i. f.RangePasses i limit) (lowest (passes_at offsets sizes limit v) (length offsets))

-- the number of elements of lists of one width, or the largest index where there would be more
abbrev pub element_count : ℕ → ℕ → ℕ
element_count n width = min (n * width) (2 ^ 64 - 1)

-- The answer of a constructor: this array, where the check passes. Else the check's fault, and want of memory is free.
abbrev pub Builds : Result Array Fault → Option LayoutFault → Array → Type 0
Builds r check a = MatchResult r (λ b. (check ≡ None) × (b ≡ a)) (λ e. (e ≡ Memory) ⊎ (option_map Layout check ≡ Some e))

-- the same for an extension, whose storage has the type that it names
abbrev pub BuildsExtension : Result Array Fault → ExtDType → Array → Type 0
BuildsExtension r e c = MatchResult r (λ b. (logical_type e.storage ≡ dtype c) × (b ≡ extension e c))
    (λ x. (x ≡ Memory) ⊎ ((x ≡ Layout f.ExtStorage) × (logical_type e.storage ≢ dtype c)))
