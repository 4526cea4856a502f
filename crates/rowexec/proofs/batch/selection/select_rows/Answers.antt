use Rattle.std.proofs.Common.{ap, inl, inr, sym}
use Rattle.coltypes.specs.Valid.{valid_at}
use Rattle.rowexec.specs.Counts.{runs_valid_only}
use Rattle.rowexec.proofs.Selecting.{all_valid, selected}
use Rattle.rowexec.proofs.batch.selection.select_rows.Goals as goal

pub returns-in-NonNullable : goal.returns-in-NonNullable
returns-in-NonNullable c = all_valid c.args.policy c.args.row_count c.args.columns.now c.args.full.now (sym c.if-is_one_row.ensures) c.requires.rows c.requires.tells (λ i h. elim c.in-NonNullable.is [
  | inl e ↦ ap (λ v. valid_at v i) e
  | inr e ↦ ap (λ v. valid_at v i) e
])

pub returns-in-ValidOnly : goal.returns-in-ValidOnly
returns-in-ValidOnly c = selected c.args.policy c.args.row_count c.args.columns.now c.args.full.now c.select_valid.result (ap runs_valid_only c.in-ValidOnly.is) (sym c.if-is_one_row.ensures) c.requires.rows c.requires.tells c.select_valid.ensures
