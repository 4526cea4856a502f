use Rattle.std.proofs.Common.{◌∙◌, ap, subst, sym}
use Rattle.colbase.specs.Arrays.{len}
use Rattle.coltypes.specs.declared.validity.Validity.{Validity}
use Rattle.coltypes.specs.Valid.{Covers, valid_at, validity_nullability}
use Rattle.colbase.proofs.OwnValidity.{nullable_type, own_covers}
use Rattle.colbase.proofs.Rows.{valid_rows}
use Rattle.colbase.proofs.array.ArrayRef.validity.Goals as goal

pub returns-clause-tells : goal.returns-clause-tells
returns-clause-tells c i h = ap (λ v. valid_at v i) c.own_validity.ensures ∙ valid_rows c.args.self.now c.checks.ensures i h

pub returns-clause-covers : goal.returns-clause-covers
returns-clause-covers c =
    let P : Validity → Type 0 = λ w. Covers w (len c.args.self.now) in
    subst P (sym c.own_validity.ensures) (own_covers c.args.self.now c.checks.ensures)

pub returns-clause-nullable : goal.returns-clause-nullable
returns-clause-nullable c = λ h. nullable_type c.args.self.now c.checks.ensures (ap validity_nullability (sym c.own_validity.ensures) ∙ h)
