use Rattle.std.proofs.Common.{◌≡◌, ◌∙◌, ap, arith}
use Rattle.std.specs.Prelude.{IsSome, option_map}
use Rattle.std.proofs.lemmas.Bool.Decides.{nat_tests}
use Rattle.coltypes.specs.declared.dtype.Nullability.TheVariants.{NonNullable}
use Rattle.coltypes.specs.CellOf.{cell_of}
use Rattle.coltypes.specs.LogicalType.{with_nullability}
use Rattle.coltypes.specs.LogicalTypeOf.{logical_type}
use Rattle.colbase.proofs.Casting.{value_fits, value_there}
use Rattle.colbase.proofs.array.cast.retype_constant.Goals.{else-rows-eq0-via-then-rows-eq0+else-is_null, else-rows-eq0-via-else-rows-eq0}
use Rattle.colbase.proofs.array.cast.retype_constant.Goals as goal

pub made-scalar-requires : goal.made-scalar-requires
made-scalar-requires c =
    let there : c.args.to ≡ NonNullable → IsSome (option_map cell_of c.args.s.now.value) =
    elim c.else-rows-eq0.branch [ else-rows-eq0-via-then-rows-eq0+else-is_null w ↦ (λ e. value_there c.args.s.now.value w.is_null.result w.is_null.ensures w.if-is_null.false) | else-rows-eq0-via-else-rows-eq0 w ↦ (λ e. c.requires e 0 (let h = w.if-rows-eq0.false in grind (arith, nat_tests))) ] in
    value_fits c.args.s.now c.share_value.result (logical_type c.in_ok-dtype.dtype) c.args.to c.share_value.ensures
    (c.in_ok-dtype.ensures.changed ∙ ap (λ d. with_nullability (logical_type d) c.args.to) c.dtype.ensures) there
