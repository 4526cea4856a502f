-- The array that a program's layout is.
use Rattle.colbase.specs.declared.array.Layout.{Layout}
use Rattle.colbase.specs.declared.array.Layout.TheVariants as l
use Rattle.colbase.specs.Arrays.{Array, constant, masked, extension, primitive, bool}

abbrev pub array_of : Layout → Array
array_of (l.Constant s n) = constant s n
array_of (l.Masked c v) = masked c v
array_of (l.Extension e c) = extension e c
array_of (l.Primitive values v) = primitive values v
array_of (l.Bool bits v) = bool bits v
