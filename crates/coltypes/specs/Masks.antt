-- The rows that a mask selects.
use Rattle.std.specs.Prelude.{ℕ, Bool, true, false, List, ◌==◌, length, count_by, if◌then◌else◌}
use Rattle.bitlane.specs.Bits.{tabulate}
use Rattle.coltypes.specs.declared.mask.Mask.{Mask}
use Rattle.coltypes.specs.declared.mask.Mask.TheVariants as m
use Rattle.coltypes.specs.declared.validity.Validity.{Validity}
use Rattle.coltypes.specs.declared.validity.Validity.TheVariants as v

-- one truth value for each row
abbrev pub mask_bits : Mask → List Bool
mask_bits (m.AllTrue n) = tabulate (λ i. true) n
mask_bits (m.AllFalse n) = tabulate (λ i. false) n
mask_bits (m.Values bits) = bits

-- the mask of these truth values: of one that has both values itself
abbrev pub mask_of_bits : List Bool → ℕ → Mask
mask_of_bits bits trues = if trues == length bits then m.AllTrue (length bits) else if trues == 0 then m.AllFalse (length bits) else m.Values bits

-- the rows that a validity of n rows says are not null
abbrev pub validity_mask : Validity → ℕ → Mask
validity_mask v.NonNullable n = m.AllTrue n
validity_mask v.AllValid n = m.AllTrue n
validity_mask v.AllInvalid n = m.AllFalse n
validity_mask (v.Array bits) n = mask_of_bits bits (count_by (λ b. b) bits)
