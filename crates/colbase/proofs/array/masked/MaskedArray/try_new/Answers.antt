use Rattle.std.proofs.Common.{sym, refl}
use Rattle.colbase.proofs.Rows.{present_rows}
use Rattle.colbase.proofs.array.masked.MaskedArray.try_new.Goals as goal

pub make-requires-clause-sound : goal.make-requires-clause-sound
make-requires-clause-sound c =
    let a = c.in_default-lowest_null.ensures in
    let b = c.in_default.ensures.covers in
    let b2 = rw c.len-len.ensures at (b refl) in
    (c.checks.ensures, b2, present_rows c.args.child (sym a))
