use Rattle.std.proofs.Common.{◌∙◌, ap, sym, false}
use Rattle.coltypes.specs.Cell.{truth}
use Rattle.rowelems.specs.Shown.{stored_or}
use Rattle.rowelems.proofs.Types.{bool-unmasked, constant-unmasked}
use Rattle.rowelems.proofs.Payload.{constant-shown}
use Rattle.rowelems.proofs.element.boolean.constant_bit.Goals as goal

pub stored_bit-requires-clause-accepted : goal.stored_bit-requires-clause-accepted
stored_bit-requires-clause-accepted c = rw c.below_masks.ensures (bool-unmasked c.args.array.now c.requires.accepted)

pub stored_bit-requires-clause-constant : goal.stored_bit-requires-clause-constant
stored_bit-requires-clause-constant c = rw c.below_masks.ensures (constant-unmasked c.args.array.now c.requires.accepted c.requires.constant)

pub returns : goal.returns
returns c = constant-shown (truth false) c.args.array.now (truth c.stored_bit.result) c.requires.constant (ap (λ a. stored_or (truth false) a 0) (sym c.below_masks.ensures) ∙ c.stored_bit.ensures 0)
