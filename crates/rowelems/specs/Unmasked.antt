-- The array below its masks, which has the same payload, and the constant of a batch.
use Rattle.std.specs.Prelude.{Option, Some, None}
use Rattle.colbase.specs.Arrays.{Array, constant, masked, extension}

-- the array below each mask
abbrev pub unmasked : Array → Array
unmasked (masked c v) = unmasked c
unmasked a = a

-- the array that has one value for the batch: a constant, the constant below a mask, or an extension of a constant
abbrev pub batch_constant : Array → Option Array
batch_constant (constant s n) = Some (constant s n)
batch_constant (masked (constant s n) v) = Some (constant s n)
batch_constant (extension e (constant s n)) = Some (extension e (constant s n))
batch_constant _ = None
