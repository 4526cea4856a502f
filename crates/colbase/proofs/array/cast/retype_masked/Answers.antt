use Rattle.std.proofs.Common.{◌≡◌}
use Rattle.coltypes.specs.declared.dtype.Nullability.TheVariants.{Nullable}
use Rattle.colbase.specs.Arrays.{Array, dtype, masked}
use Rattle.colbase.specs.Hides.{Retypes}
use Rattle.coltypes.specs.LogicalType.{with_nullability}
use Rattle.colbase.proofs.Casting.{retypes_mask}
use Rattle.colbase.proofs.Results.{if_ok-map}
use Rattle.colbase.proofs.array.cast.retype_masked.Goals as goal

pub returns-clause-retyped : goal.returns-clause-retyped
returns-clause-retyped c =
    let old = masked c.args.child.now c.args.v.now in
    let IsMade : Array → Type 0 = λ a. a ≡ masked c.share.result c.with_nullability-validity.result in
    if_ok-map IsMade (Retypes old (with_nullability (dtype old) Nullable)) c.make.result
    (λ a e. retypes_mask c.args.child.now c.share.result a c.args.v.now c.with_nullability-validity.result c.share.ensures c.with_nullability-validity.ensures e) c.make.ensures.made
