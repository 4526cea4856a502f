use Rattle.std.proofs.Common.{◌∙◌, true, false, ap, sym}
use Rattle.bitlane.specs.Bits.{bit}
use Rattle.bitlane.proofs.Tables.{length-tabulate, get_or-tabulate}
use Rattle.coltypes.specs.Masks.{mask_bits}
use Rattle.coltypes.proofs.mask.Mask.value.Goals as goal

pub returns-in-AllTrue : goal.returns-in-AllTrue
returns-in-AllTrue c =
    let h = rw length-tabulate at (rw c.in-AllTrue.is at c.requires) in
    sym (get_or-tabulate (λ i. true) c.in-AllTrue.field-0 c.args.index false h) ∙ ap (λ m. bit (mask_bits m) c.args.index) (sym c.in-AllTrue.is)

pub returns-in-AllFalse : goal.returns-in-AllFalse
returns-in-AllFalse c =
    let h = rw length-tabulate at (rw c.in-AllFalse.is at c.requires) in
    sym (get_or-tabulate (λ i. false) c.in-AllFalse.field-0 c.args.index false h) ∙ ap (λ m. bit (mask_bits m) c.args.index) (sym c.in-AllFalse.is)
