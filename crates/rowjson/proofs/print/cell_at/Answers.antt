use Rattle.std.proofs.Common.{rules, refl, sym, ◌∙◌, get_or, pos, w64, SFits}
use Rattle.std.proofs.lemmas.Int.{to_z-of_z}
use Rattle.rowjson.proofs.Lines.{valid_row, null_row}
use Rattle.rowjson.proofs.print.cell_at.Goals as goal

pub returns-then-is_valid : goal.returns-then-is_valid
returns-then-is_valid c =
    let fits : SFits w64 (get_or c.args.values.now c.args.index (pos 0)) = search rules in
    simp to_z-of_z (valid_row c.args.array.now c.args.values.now c.args.index _ c.requires.shows c.requires.within (sym c.is_valid.ensures ∙ c.if-is_valid.true) refl)

pub returns-else-is_valid : goal.returns-else-is_valid
returns-else-is_valid c = null_row _ (sym c.is_valid.ensures ∙ c.if-is_valid.false)
