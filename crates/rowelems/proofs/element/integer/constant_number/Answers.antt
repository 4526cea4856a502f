use Rattle.std.proofs.Common.{◌∙◌, ap, sym}
use Rattle.std.specs.Prelude.{pos}
use Rattle.coltypes.specs.Cell.{number}
use Rattle.rowelems.specs.Shown.{stored_or}
use Rattle.colbase.specs.Arrays.{dtype}
use Rattle.rowelems.specs.Unmasked.{unmasked}
use Rattle.rowelems.proofs.Types.{integer-unmasked, integer-stored, constant-integer}
use Rattle.rowelems.proofs.Payload.{constant-shown}
use Rattle.rowelems.proofs.element.integer.constant_number.Goals as goal

pub stored_number-requires-clause-accepted : goal.stored_number-requires-clause-accepted
stored_number-requires-clause-accepted g c = rw c.below_masks.ensures (integer-stored g.T.NativeInt.ptype (dtype (unmasked c.args.array.now)) (integer-unmasked g.T.NativeInt.ptype c.args.array.now c.requires.accepted))

pub stored_number-requires-clause-constant : goal.stored_number-requires-clause-constant
stored_number-requires-clause-constant g c = rw c.below_masks.ensures (constant-integer g.T.NativeInt.ptype c.args.array.now c.requires.accepted c.requires.constant)

pub returns : goal.returns
returns g c = constant-shown (number (pos 0)) c.args.array.now (number (g.T.NativeInt.number c.stored_number.result)) c.requires.constant (ap (λ a. stored_or (number (pos 0)) a 0) (sym c.below_masks.ensures) ∙ c.stored_number.ensures 0)
