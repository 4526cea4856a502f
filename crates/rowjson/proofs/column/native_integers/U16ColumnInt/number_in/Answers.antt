use Rattle.std.proofs.Common.{sym, ◌∙◌}
use Rattle.coltypes.specs.declared.dtype.PType.TheVariants as ptype
use Rattle.rowjson.proofs.Ranges.{fits_bits, unsigned_read}
use Rattle.rowjson.proofs.column.native_integers.U16ColumnInt.number_in.Goals as goal

pub returns : goal.returns
returns c =
    let n = c.in_ok-as_u64.field-0 in
    c.ok.ensures.value ∙ unsigned_read ptype.U16 _ _ n c.try_from.result (fits_bits 16 n) (sym c.in_ok-as_u64.ensures) c.try_from.ensures
