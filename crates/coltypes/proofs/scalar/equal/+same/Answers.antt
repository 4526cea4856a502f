use Rattle.std.proofs.Common.{◌∙◌, ap, sym}
use Rattle.std.specs.Prelude.{option_map}
use Rattle.coltypes.specs.CellOf.{cell_of}
use Rattle.coltypes.proofs.EqualCells.{differ_at, values_same, lists_alike, some_cell}
use Rattle.coltypes.proofs.scalar.equal.+same.Goals as goal

pub same_value-returns-in-List-List : goal.same_value-returns-in-List-List
same_value-returns-in-List-List t c =
    let f = c.as_slice-in-List-List.ensures ∙ c.get.ensures in
    let g = c.as_slice-in-List-List-2.ensures ∙ c.get-in-List-List.ensures in
    let e = rw (f, g) at c.same_values.ensures in
    let a = ap cell_of c.in-List-List.is-0 in
    let b = ap cell_of c.in-List-List.is-1 in
    (λ h. a ∙ lists_alike _ _ (e.0 h) ∙ sym b, λ h. e.1 (values_same _ _ (sym a ∙ h ∙ b)))

pub same_values-returns-then-not-same_value : goal.same_values-returns-then-not-same_value
same_values-returns-then-not-same_value t c =
    let no = c.if-not-same_value.ensures in (
      λ h. absurd (cc),
      λ e. absurd (differ_at (option_map cell_of) c.args.xs.now c.args.ys.now c.loop-i.i c.index-xs-i.result c.index-ys-i.result
          c.loop-i-test.true c.if-xs-ys.false c.index-xs-i.is c.index-ys-i.is
          (λ k. let f = no.1 (some_cell _ _ (sym (ap (option_map cell_of) c.in-Some-Some.is-0) ∙ k ∙ ap (option_map cell_of) c.in-Some-Some.is-1)) in cc) e),
    )

pub same_values-returns-in_default : goal.same_values-returns-in_default
same_values-returns-in_default t c = (
  λ h. absurd (cc),
  λ e. absurd (differ_at (option_map cell_of) c.args.xs.now c.args.ys.now c.loop-i.i c.index-xs-i.result c.index-ys-i.result
      c.loop-i-test.true c.if-xs-ys.false c.index-xs-i.is c.index-ys-i.is
      (λ k. let f = sym (ap (option_map cell_of) c.in_default.is-0) ∙ k ∙ ap (option_map cell_of) c.in_default.is-1 in cc) e),
)

pub same_values-returns-in_default-2 : goal.same_values-returns-in_default-2
same_values-returns-in_default-2 t c = (
  λ h. absurd (cc),
  λ e. absurd (differ_at (option_map cell_of) c.args.xs.now c.args.ys.now c.loop-i.i c.index-xs-i.result c.index-ys-i.result
      c.loop-i-test.true c.if-xs-ys.false c.index-xs-i.is c.index-ys-i.is
      (λ k. let f = sym (ap (option_map cell_of) c.in_default.is-0) ∙ k ∙ ap (option_map cell_of) c.in_default.is-1 in cc) e),
)
