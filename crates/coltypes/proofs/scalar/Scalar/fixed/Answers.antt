use Rattle.std.proofs.Common.{◌∙◌, List, length, ap, map, sym}
use Rattle.coltypes.specs.Cell.{list_of}
use Rattle.coltypes.specs.declared.scalar.Scalar.{Scalar}
use Rattle.coltypes.specs.LogicalType.{fixed_size_list}
use Rattle.coltypes.specs.LogicalTypeOf.{logical_type}
use Rattle.coltypes.specs.Scalars.{scalar_cell}
use Rattle.coltypes.proofs.Scalars.{fixed_fits}
use Rattle.coltypes.proofs.scalar.Scalar.fixed.Goals as goal

pub made-requires : goal.made-requires
made-requires c =
    fixed_fits c.args.values.items (logical_type c.args.element) _ c.args.nullability c.in_ok-value.value c.requires.typed
    (c.in_ok-value.ensures.made ∙ ap (λ (ss : List Scalar). list_of (map scalar_cell ss)) c.as_slice.ensures.value)
    (c.in_ok-dtype.ensures.made ∙ ap (λ n. fixed_size_list (logical_type c.args.element) n c.args.nullability) (c.len-width.ensures ∙ sym c.as_slice.ensures.len ∙ ap length c.as_slice.ensures.value))
