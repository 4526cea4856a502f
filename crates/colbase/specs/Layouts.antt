-- Which layout an array has.
use Rattle.std.specs.Prelude.{Bool, true, false}
use Rattle.colbase.specs.Arrays.{Array, constant, masked, extension, primitive, bool}

abbrev pub is_constant : Array → Bool
is_constant (constant s n) = true
is_constant _ = false

abbrev pub is_masked : Array → Bool
is_masked (masked c v) = true
is_masked _ = false

abbrev pub is_extension : Array → Bool
is_extension (extension e c) = true
is_extension _ = false

abbrev pub is_primitive : Array → Bool
is_primitive (primitive values v) = true
is_primitive _ = false

abbrev pub is_bool : Array → Bool
is_bool (bool bits v) = true
is_bool _ = false
