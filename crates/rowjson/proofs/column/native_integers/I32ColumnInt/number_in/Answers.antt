use Rattle.std.proofs.Common.{rules, w32, w64, SFits, ◌∙◌, sym}
use Rattle.std.proofs.lemmas.Int.{to_z-of_z}
use Rattle.coltypes.specs.declared.dtype.PType.TheVariants as ptype
use Rattle.rowjson.proofs.Ranges.{fits_decides, signed_read}
use Rattle.rowjson.proofs.column.native_integers.I32ColumnInt.number_in.Goals as goal

pub returns : goal.returns
returns c =
    let z = c.in_ok-as_i64.field-0 in
    let wide : SFits w64 z = search rules in
    c.ok.ensures.value ∙ signed_read ptype.I32 (SFits w32 z) _ z c.try_from.result (fits_decides w32 z) (sym c.in_ok-as_i64.ensures) (simp to_z-of_z at c.try_from.ensures)
