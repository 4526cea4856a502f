use Rattle.std.proofs.Common.{◌≡◌, ◌∙◌, ap, sym, subst}
use Rattle.colbase.specs.ArrayOf.{array_of}
use Rattle.colbase.specs.Arrays.{Sound, bool, len, masked, primitive}
use Rattle.coltypes.specs.Keep.{keep, keep_validity, keep_values}
use Rattle.colbase.proofs.KeptRows.{selects_bool, selects_masked, selects_primitive, selects_same, sound_bool, sound_masked, sound_primitive}
use Rattle.colbase.proofs.array.ArrayRef.+select.Goals as goal

pub select_layout-returns-in_ok-filter-in-Masked-clause-selected : goal.select_layout-returns-in_ok-filter-in-Masked-clause-selected
select_layout-returns-in_ok-filter-in-Masked-clause-selected t c =
    let x = c.in-Masked.child in
    let w = c.in-Masked.v in
    let d = c.in_ok-child-in-Masked.child in
    let bits = c.args.bits.now in
    let whole : c.args.self.now ≡ masked x w =
    sym c.self.view_is ∙ ap (λ y. array_of y.layout) (sym c.get.ensures) ∙ ap array_of c.in-Masked.is in
    let sound : Sound (masked x w) = subst Sound whole c.checks.ensures in
    selects_same c.args.self.now (masked x w) _ (masked d (keep_validity bits w)) bits whole (ap (masked d) c.in_ok-filter-in-Masked.ensures.kept)
    (selects_masked x d w bits sound.1 (c.requires.covers ∙ ap len whole) c.in_ok-child-in-Masked.ensures.selected)

pub select_layout-returns-in_ok-filter-in-Masked-clause-sound : goal.select_layout-returns-in_ok-filter-in-Masked-clause-sound
select_layout-returns-in_ok-filter-in-Masked-clause-sound t c =
    let x = c.in-Masked.child in
    let w = c.in-Masked.v in
    let d = c.in_ok-child-in-Masked.child in
    let bits = c.args.bits.now in
    let whole : c.args.self.now ≡ masked x w =
    sym c.self.view_is ∙ ap (λ y. array_of y.layout) (sym c.get.ensures) ∙ ap array_of c.in-Masked.is in
    subst Sound (sym (ap (masked d) c.in_ok-filter-in-Masked.ensures.kept))
    (sound_masked x d w bits (subst Sound whole c.checks.ensures) (c.requires.covers ∙ ap len whole) c.in_ok-child-in-Masked.ensures.selected c.checks-in-Masked.ensures)

pub select_layout-returns-in_ok-filter-in-Primitive-clause-selected : goal.select_layout-returns-in_ok-filter-in-Primitive-clause-selected
select_layout-returns-in_ok-filter-in-Primitive-clause-selected t c =
    let x = c.in-Primitive.values in
    let w = c.in-Primitive.v in
    let bits = c.args.bits.now in
    let whole : c.args.self.now ≡ primitive x w =
    sym c.self.view_is ∙ ap (λ y. array_of y.layout) (sym c.get.ensures) ∙ ap array_of c.in-Primitive.is in
    selects_same c.args.self.now (primitive x w) _ (primitive (keep_values bits x) (keep_validity bits w)) bits whole
    (ap (λ y. primitive y c.in_ok-filter-in-Primitive.field-0) c.in_ok-values-in-Primitive.ensures.kept ∙ ap (primitive (keep_values bits x)) c.in_ok-filter-in-Primitive.ensures.kept)
    (selects_primitive x w bits (subst Sound whole c.checks.ensures) (c.requires.covers ∙ ap len whole))

pub select_layout-returns-in_ok-filter-in-Primitive-clause-sound : goal.select_layout-returns-in_ok-filter-in-Primitive-clause-sound
select_layout-returns-in_ok-filter-in-Primitive-clause-sound t c =
    let x = c.in-Primitive.values in
    let w = c.in-Primitive.v in
    let bits = c.args.bits.now in
    let whole : c.args.self.now ≡ primitive x w =
    sym c.self.view_is ∙ ap (λ y. array_of y.layout) (sym c.get.ensures) ∙ ap array_of c.in-Primitive.is in
    subst Sound (sym (ap (λ y. primitive y c.in_ok-filter-in-Primitive.field-0) c.in_ok-values-in-Primitive.ensures.kept ∙ ap (primitive (keep_values bits x)) c.in_ok-filter-in-Primitive.ensures.kept))
    (sound_primitive x w bits (subst Sound whole c.checks.ensures) (c.requires.covers ∙ ap len whole))

pub select_layout-returns-in_ok-filter-in-Bool-clause-selected : goal.select_layout-returns-in_ok-filter-in-Bool-clause-selected
select_layout-returns-in_ok-filter-in-Bool-clause-selected t c =
    let x = c.in-Bool.truths in
    let w = c.in-Bool.v in
    let bits = c.args.bits.now in
    let whole : c.args.self.now ≡ bool x w =
    sym c.self.view_is ∙ ap (λ y. array_of y.layout) (sym c.get.ensures) ∙ ap array_of c.in-Bool.is in
    selects_same c.args.self.now (bool x w) _ (bool (keep bits x) (keep_validity bits w)) bits whole
    (ap (λ y. bool y c.in_ok-filter-in-Bool.field-0) c.in_ok-truths-in-Bool.ensures.kept ∙ ap (bool (keep bits x)) c.in_ok-filter-in-Bool.ensures.kept)
    (selects_bool x w bits (subst Sound whole c.checks.ensures) (c.requires.covers ∙ ap len whole))

pub select_layout-returns-in_ok-filter-in-Bool-clause-sound : goal.select_layout-returns-in_ok-filter-in-Bool-clause-sound
select_layout-returns-in_ok-filter-in-Bool-clause-sound t c =
    let x = c.in-Bool.truths in
    let w = c.in-Bool.v in
    let bits = c.args.bits.now in
    let whole : c.args.self.now ≡ bool x w =
    sym c.self.view_is ∙ ap (λ y. array_of y.layout) (sym c.get.ensures) ∙ ap array_of c.in-Bool.is in
    subst Sound (sym (ap (λ y. bool y c.in_ok-filter-in-Bool.field-0) c.in_ok-truths-in-Bool.ensures.kept ∙ ap (bool (keep bits x)) c.in_ok-filter-in-Bool.ensures.kept))
    (sound_bool x w bits (subst Sound whole c.checks.ensures) (c.requires.covers ∙ ap len whole))
