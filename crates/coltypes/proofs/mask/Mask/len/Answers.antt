use Rattle.std.proofs.Common.{◌∙◌, true, false, length, ap, sym}
use Rattle.bitlane.proofs.Tables.{length-tabulate}
use Rattle.coltypes.specs.Masks.{mask_bits}
use Rattle.coltypes.proofs.mask.Mask.len.Goals as goal

pub returns-in-AllTrue : goal.returns-in-AllTrue
returns-in-AllTrue c = sym (length-tabulate (λ i. true) c.in-AllTrue.n) ∙ ap (λ m. length (mask_bits m)) (sym c.in-AllTrue.is)

pub returns-in-AllFalse : goal.returns-in-AllFalse
returns-in-AllFalse c = sym (length-tabulate (λ i. false) c.in-AllFalse.n) ∙ ap (λ m. length (mask_bits m)) (sym c.in-AllFalse.is)
