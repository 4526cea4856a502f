use Rattle.std.proofs.Common.{◌∙◌, List, ap, map}
use Rattle.coltypes.specs.Cell.{list_of}
use Rattle.coltypes.specs.declared.scalar.Scalar.{Scalar}
use Rattle.coltypes.specs.LogicalTypeOf.{logical_type}
use Rattle.coltypes.specs.Scalars.{scalar_cell}
use Rattle.coltypes.proofs.Scalars.{list_fits}
use Rattle.coltypes.proofs.scalar.Scalar.list.Goals as goal

pub made-requires : goal.made-requires
made-requires c =
    list_fits c.args.values.items (logical_type c.args.element) _ c.args.nullability c.in_ok-value.value c.requires
    (c.in_ok-value.ensures.made ∙ ap (λ (ss : List Scalar). list_of (map scalar_cell ss)) c.as_slice.ensures.value)
    (c.in_ok-dtype.ensures.made)
