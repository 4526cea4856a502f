use Rattle.std.proofs.Common.{◌≡◌, ◌+◌, ◌<◌, ◌^◌, length, ap, ◌∙◌, arith}
use Rattle.std.proofs.lemmas.Grind.{common_steps}
use Rattle.rowelems.specs.Argument.{placed}
use Rattle.rowtypes.proofs.SidesFail.{validated_err, validated_ok, validated_second}
use Rattle.rowtypes.proofs.both.BothElementTuple.validate.Goals as goal

pub returns-in-Err : goal.returns-in-Err
returns-in-Err g c =
    let n = g.A.ElementTuple.ARITY in
    let e : length c.split_types.result.0.now ≡ n = c.split_types.ensures.first ∙ c.ARITY.ensures in
    validated_err n g.A.ElementTuple.elements.accepts g.B.ElementTuple.elements.accepts c.args.types.now c.split_types.result.0.now c.split_types.result.1.now _ c.split_types.ensures.joined e c.in-Err.ensures

pub returns-in-Ok : goal.returns-in-Ok
returns-in-Ok g c =
    let n = g.A.ElementTuple.ARITY in
    let e : length c.split_types.result.0.now ≡ n = c.split_types.ensures.first ∙ c.ARITY.ensures in
    validated_ok n g.A.ElementTuple.elements.accepts g.B.ElementTuple.elements.accepts c.args.types.now c.split_types.result.0.now c.split_types.result.1.now c.split_types.ensures.joined e c.in_default.ensures c.in-Ok.ensures

pub returns-in-Err-validate : goal.returns-in-Err-validate
returns-in-Err-validate g c =
    let n = g.A.ElementTuple.ARITY in
    let e : length c.split_types.result.0.now ≡ n = c.split_types.ensures.first ∙ c.ARITY.ensures in
    let small : n + length c.split_types.result.1.now < 2 ^ 64 = grind (arith, common_steps, c.requires, c.split_types.ensures.joined) in
    let p = c.at_place.ensures ∙ ap (λ k. placed k c.in-Err-validate.fault) c.ARITY-in-Err-validate.ensures in
    validated_second n g.A.ElementTuple.elements.accepts g.B.ElementTuple.elements.accepts c.args.types.now c.split_types.result.0.now c.split_types.result.1.now _ _ c.split_types.ensures.joined e small c.in_default.ensures c.in-Err-validate.ensures p
