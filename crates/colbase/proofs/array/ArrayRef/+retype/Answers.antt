use Rattle.std.proofs.Common.{rules, ◌≡◌, ◌∙◌, ap, sym, subst}
use Rattle.colbase.specs.ArrayOf.{array_of}
use Rattle.colbase.specs.Arrays.{bool, dtype, extension, masked, primitive}
use Rattle.colbase.specs.Casts.{NoNull}
use Rattle.colbase.specs.Hides.{Retypes}
use Rattle.coltypes.specs.LogicalType.{nullability_of, with_nullability}
use Rattle.colbase.proofs.Casting.{retypes_at, retypes_child, retypes_same}
use Rattle.colbase.proofs.Results.{if_ok-map}
use Rattle.colbase.proofs.array.ArrayRef.+retype.Goals as goal

pub returns-then-has_nullability-clause-retyped : goal.returns-then-has_nullability-clause-retyped
returns-then-has_nullability-clause-retyped t c =
    retypes_same c.args.self.now c.share.result c.args.to (ap nullability_of (sym c.dtype.ensures) ∙ c.has_nullability.ensures.0 c.if-has_nullability.true) c.share.ensures

pub retype-requires-in-Extension : goal.retype-requires-in-Extension
retype-requires-in-Extension t c =
    let whole : c.args.self.now ≡ extension c.in-Extension.e c.in-Extension.storage =
    sym c.self.view_is ∙ ap (λ x. array_of x.layout) (sym c.get.ensures) ∙ ap array_of c.in-Extension.is in
    (search rules, λ e. subst NoNull whole (c.requires e))

pub retype_primitive-requires-clause-nulls : goal.retype_primitive-requires-clause-nulls
retype_primitive-requires-clause-nulls t c e =
    let whole : c.args.self.now ≡ primitive c.in-Primitive.values c.in-Primitive.v =
    sym c.self.view_is ∙ ap (λ x. array_of x.layout) (sym c.get.ensures) ∙ ap array_of c.in-Primitive.is in
    subst NoNull whole (c.requires e)

pub retype_bool-requires-clause-nulls : goal.retype_bool-requires-clause-nulls
retype_bool-requires-clause-nulls t c e =
    let whole : c.args.self.now ≡ bool c.in-Bool.bits c.in-Bool.v =
    sym c.self.view_is ∙ ap (λ x. array_of x.layout) (sym c.get.ensures) ∙ ap array_of c.in-Bool.is in
    subst NoNull whole (c.requires e)

pub returns-in-NonNullable-clause-retyped : goal.returns-in-NonNullable-clause-retyped
returns-in-NonNullable-clause-retyped t c =
    let x = c.in-Masked.child in
    let w = c.in-Masked.v in
    let old = c.args.self.now in
    let to = c.args.to in
    let whole : old ≡ masked x w =
    sym c.self.view_is ∙ ap (λ y. array_of y.layout) (sym c.get.ensures) ∙ ap array_of c.in-Masked.is in
    let none : NoNull (masked x w) = subst NoNull whole (c.requires c.in-NonNullable.is) in
    if_ok-map (Retypes x (with_nullability (dtype x) to)) (Retypes old (with_nullability (dtype old) to)) c.retype.result
    (λ a r. retypes_at old (masked x w) a to whole (retypes_child x w a to none r)) c.retype.ensures.retyped
