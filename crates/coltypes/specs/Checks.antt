-- Checks of lengths: each is None where it passes, and else what is told.
use Rattle.std.specs.Prelude.{ℕ, ◌==◌, length, Option, Some, None, if◌then◌else◌}
use Rattle.coltypes.specs.declared.fault.LayoutFault.{LayoutFault}
use Rattle.coltypes.specs.declared.fault.LayoutFault.TheVariants as f
use Rattle.coltypes.specs.declared.validity.Validity.{Validity}
use Rattle.coltypes.specs.declared.validity.Validity.TheVariants as v

-- the first of two checks that fails
abbrev pub first_of : Option LayoutFault → Option LayoutFault → Option LayoutFault
first_of (Some f) next = Some f
first_of None next = next

-- two lengths that differ
abbrev pub same_length_check : ℕ → ℕ → Option LayoutFault
same_length_check expected actual = if actual == expected then None else Some (f.Length expected actual)

-- a validity array of another length than the rows
abbrev pub length_check : Validity → ℕ → Option LayoutFault
length_check (v.Array bits) n = same_length_check n (length bits)
length_check _ n = None
