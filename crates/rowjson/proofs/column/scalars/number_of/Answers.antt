use Rattle.std.proofs.Common.{rules, sym, ◌∙◌, SFits}
use mir.Syntax.{w128}
use Rattle.std.proofs.lemmas.Int.{to_z-of_z}
use Rattle.rowjson.proofs.Exact.{number_made, number_refused}
use Rattle.rowjson.proofs.column.scalars.number_of.Goals as goal

pub returns-then-in_range : goal.returns-then-in_range
returns-then-in_range c =
    let fits : SFits w128 c.args.number = search rules in
    (number_made c.int.result c.args.number c.args.ptype c.args.nullability c.int.ensures.dtype (simp to_z-of_z at c.int.ensures.value))

pub returns-else-in_range : goal.returns-else-in_range
returns-else-in_range c =
    let fits : SFits w128 c.args.number = search rules in
    number_refused c.args.number c.args.ptype c.args.nullability (simp to_z-of_z at (sym c.in_range.ensures ∙ c.if-in_range.false))
