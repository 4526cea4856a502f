use Rattle.std.proofs.Common.{◌∙◌, ap, sym}
use Rattle.coltypes.specs.LogicalType.{nullability_of, with_nullability}
use Rattle.colbase.proofs.Casting.{casts_retyped, passes}
use Rattle.colbase.proofs.array.ArrayRef.cast.Goals as goal

pub retype-requires : goal.retype-requires
retype-requires c = passes c.args.self.now c.nullability_with-to.result (sym c.in_default.ensures)

pub returns : goal.returns
returns c =
    casts_retyped c.args.self.now c.args.to c.nullability_with-to.result c.retype.result
    (c.nullability_with-to.ensures ∙ ap (λ t. nullability_of (with_nullability t c.args.to)) c.dtype.ensures) (sym c.in_default.ensures) c.retype.ensures.retyped c.retype.ensures.errors
