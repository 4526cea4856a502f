use Rattle.std.proofs.Common.{◌∙◌, length, ap}
use Rattle.bitlane.specs.Bits.{bit}
use Rattle.coltypes.specs.Masks.{mask_bits}
use Rattle.coltypes.proofs.Masks.{tells_rows}
use Rattle.coltypes.proofs.validity.Validity.execute_mask.Goals as goal

pub returns-clause-rows : goal.returns-clause-rows
returns-clause-rows c = ap (λ m. length (mask_bits m)) c.mask.ensures ∙ (tells_rows c.args.self.now c.args.len c.requires).rows

pub returns-clause-tells : goal.returns-clause-tells
returns-clause-tells c i h = ap (λ m. bit (mask_bits m) i) c.mask.ensures ∙ (tells_rows c.args.self.now c.args.len c.requires).tells i h
