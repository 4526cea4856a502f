use Rattle.std.proofs.Common.{◌∙◌, ap, sym}
use Rattle.std.specs.Prelude.{count_by}
use Rattle.coltypes.specs.Masks.{mask_bits}
use Rattle.coltypes.proofs.Masks.{count_all, count_none}
use Rattle.coltypes.proofs.mask.Mask.true_count.Goals as goal

pub returns-in-AllTrue : goal.returns-in-AllTrue
returns-in-AllTrue c = sym (count_all c.in-AllTrue.n) ∙ ap (λ m. count_by (λ b. b) (mask_bits m)) (sym c.in-AllTrue.is)

pub returns-in-AllFalse : goal.returns-in-AllFalse
returns-in-AllFalse c = sym (count_none c.in-AllFalse.field-0) ∙ ap (λ m. count_by (λ b. b) (mask_bits m)) (sym c.in-AllFalse.is)
