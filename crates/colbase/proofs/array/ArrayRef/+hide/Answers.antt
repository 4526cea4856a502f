use Rattle.std.proofs.Common.{◌≡◌, ◌∙◌, ap, sym, subst}
use Rattle.coltypes.specs.declared.validity.Validity.TheVariants as v
use Rattle.colbase.specs.ArrayOf.{array_of}
use Rattle.colbase.specs.Arrays.{Array, Sound, bool, constant, masked, primitive}
use Rattle.colbase.specs.Hides.{Hides}
use Rattle.coltypes.specs.Valid.{validity_and}
use Rattle.colbase.proofs.HiddenRows.{hides_bool, hides_masked, hides_null, hides_primitive, hides_same}
use Rattle.colbase.proofs.Results.{if_ok-map}
use Rattle.colbase.proofs.array.ArrayRef.+hide.Goals as goal

pub returns-then-is_null-clause-hidden : goal.returns-then-is_null-clause-hidden
returns-then-is_null-clause-hidden t c =
    let s = c.in-Constant.s in
    let n = c.in-Constant.field-1 in
    let whole : c.args.self.now ≡ constant s n =
    sym c.self.view_is ∙ ap (λ x. array_of x.layout) (sym c.get.ensures) ∙ ap array_of c.in-Constant.is in
    hides_same c.args.self.now (constant s n) c.share.result (constant s n) c.args.valid.now whole (c.share.ensures ∙ whole)
    (hides_null s n c.args.valid.now (c.is_null.ensures.0 c.if-is_null.true))

pub returns-in-Masked-clause-hidden : goal.returns-in-Masked-clause-hidden
returns-in-Masked-clause-hidden t c =
    let x = c.in-Masked.child in
    let w = c.in-Masked.v in
    let bits = c.args.valid.now in
    let whole : c.args.self.now ≡ masked x w =
    sym c.self.view_is ∙ ap (λ y. array_of y.layout) (sym c.get.ensures) ∙ ap array_of c.in-Masked.is in
    let made : Array = masked x (validity_and w (v.Array bits)) in
    let IsMade : Array → Type 0 = λ b. b ≡ made in
    let sound : Sound (masked x w) = subst Sound whole c.checks.ensures in
    if_ok-map IsMade (Hides c.args.self.now bits) c.hide_masked.result
    (λ b e. hides_same c.args.self.now (masked x w) b made bits whole e (hides_masked x w bits sound.1)) c.hide_masked.ensures.made

pub returns-in-Primitive-clause-hidden : goal.returns-in-Primitive-clause-hidden
returns-in-Primitive-clause-hidden t c =
    let x = c.in-Primitive.values in
    let w = c.in-Primitive.v in
    let bits = c.args.valid.now in
    let whole : c.args.self.now ≡ primitive x w =
    sym c.self.view_is ∙ ap (λ y. array_of y.layout) (sym c.get.ensures) ∙ ap array_of c.in-Primitive.is in
    let made : Array = primitive x (validity_and w (v.Array bits)) in
    let IsMade : Array → Type 0 = λ b. b ≡ made in
    let sound : Sound (primitive x w) = subst Sound whole c.checks.ensures in
    if_ok-map IsMade (Hides c.args.self.now bits) c.hide_primitive.result
    (λ b e. hides_same c.args.self.now (primitive x w) b made bits whole e (hides_primitive x w bits sound)) c.hide_primitive.ensures.made

pub returns-in-Bool-clause-hidden : goal.returns-in-Bool-clause-hidden
returns-in-Bool-clause-hidden t c =
    let x = c.in-Bool.bits in
    let w = c.in-Bool.v in
    let bits = c.args.valid.now in
    let whole : c.args.self.now ≡ bool x w =
    sym c.self.view_is ∙ ap (λ y. array_of y.layout) (sym c.get.ensures) ∙ ap array_of c.in-Bool.is in
    let made : Array = bool x (validity_and w (v.Array bits)) in
    let IsMade : Array → Type 0 = λ b. b ≡ made in
    let sound : Sound (bool x w) = subst Sound whole c.checks.ensures in
    if_ok-map IsMade (Hides c.args.self.now bits) c.hide_bool.result
    (λ b e. hides_same c.args.self.now (bool x w) b made bits whole e (hides_bool x w bits sound)) c.hide_bool.ensures.made
