use Rattle.std.proofs.Common.{rules, w64, SFits, ◌∙◌, ap, sym}
use Rattle.std.specs.Prelude.{pos}
use Rattle.std.proofs.lemmas.Int.{to_z-of_z}
use Rattle.coltypes.specs.Cell.{number}
use Rattle.rowelems.specs.Shown.{stored_or}
use Rattle.rowelems.proofs.Payload.{constant-shown}
use Rattle.rowelems.proofs.Timestamps.{timestamp-stored}
use Rattle.rowelems.proofs.element.timestamp_row.constant_timestamp.Goals as goal

pub stored_number-requires-clause-accepted : goal.stored_number-requires-clause-accepted
stored_number-requires-clause-accepted c = timestamp-stored c.args.array.now c.below_masks-outer.result.now c.below_masks-outer.ensures c.requires.accepted

pub returns-in-None : goal.returns-in-None
returns-in-None c =
    let fits : SFits w64 c.stored_number.result = search rules in
    simp (to_z-of_z, fits)
    (constant-shown (number (pos 0)) c.args.array.now (number c.stored_number.result) c.requires.constant (ap (λ a. stored_or (number (pos 0)) a 0) (sym c.below_masks-outer.ensures) ∙ c.stored_number.ensures 0))
