-- The arrays in a layout are less deep than the layout.
use Rattle.std.specs.Prelude.{◌≤◌}
use Rattle.std.proofs.Common.{arith, max}
use Rattle.colbase.specs.declared.array.Layout.{Layout}
use Rattle.colbase.specs.declared.array.Layout.TheVariants as l
use Rattle.colbase.specs.declared.array.ArrayRef.TheDeep.{deep-Layout}
use Rattle.colbase.specs.Arrays.{depth}
use Rattle.colbase.specs.ArrayOf.{array_of}

layout_falls : (x : Layout) → deep-Layout x ≤ depth (array_of x)
layout_falls (l.Constant s n) = omega arith
layout_falls (l.Masked c v) = omega arith
layout_falls (l.Extension e c) = omega arith
layout_falls (l.Primitive values v) = omega arith
layout_falls (l.Bool bits v) = omega arith

pub array_falls : (x : Layout) → max (max (deep-Layout x) 0) 0 ≤ depth (array_of x)
array_falls x = omega (arith, layout_falls x)
