use Rattle.std.proofs.Common.{◌∙◌, length, get_or, Some, ap, true}
use Rattle.std.specs.Prelude.{count_by}
use Rattle.coltypes.specs.Keep.{place}
use Rattle.bitlane.proofs.Joins.{Joined-map}
use Rattle.rowloops.proofs.SetPlaces.{counted_within}
use Rattle.rowloops.proofs.Written.{written}
use Rattle.rowloops.proofs.filtered.build_filtered_rows.Goals as goal

pub returns-in-Ok-finish-clause-len : goal.returns-in-Ok-finish-clause-len
returns-in-Ok-finish-clause-len g c =
    let b = c.in-Ok.buffer in
    let xs = c.map_checked_filtered_into-evidence.new.out in
    let B = g.Out.Buffer.OutputBuffer in
    let d = g.Out.OutputElement.placeholder in
    (written B.element_type B.states d c.slots.result.now (B.places b) xs (B.places (B.with_places b xs)) c.len-rows.result (length c.args.valid.now) c.in-Ok-finish.values c.in-Ok.ensures.places c.slots.ensures.value c.map_checked_filtered_into-evidence.auto.out c.len-rows.ensures (g.met.Out.Buffer.OutputBuffer.places_there b xs) c.in-Ok-finish.ensures.column).counted

pub returns-in-Ok-finish-clause-rows : goal.returns-in-Ok-finish-clause-rows
returns-in-Ok-finish-clause-rows g c =
    let b = c.in-Ok.buffer in
    let xs = c.map_checked_filtered_into-evidence.new.out in
    let B = g.Out.Buffer.OutputBuffer in
    let d = g.Out.OutputElement.placeholder in
    let rows = written B.element_type B.states d c.slots.result.now (B.places b) xs (B.places (B.with_places b xs)) c.len-rows.result (length c.args.valid.now) c.in-Ok-finish.values c.in-Ok.ensures.places c.slots.ensures.value c.map_checked_filtered_into-evidence.auto.out c.len-rows.ensures (g.met.Out.Buffer.OutputBuffer.places_there b xs) c.in-Ok-finish.ensures.column in
    Joined-map _ _ (λ _. true) _ _ (count_by (λ b. b) c.args.valid.now) _
    (λ j v below there.
    let i = place c.args.valid.now j in
    record {
      value = get_or xs i d;
      maps = there d;
      is = rows.each i (counted_within c.args.valid.now j below) ∙ ap (λ x. Some x) (g.met.Out.OutputElement.buffer_states (get_or xs i d));
    })
    c.map_checked_filtered_into-evidence.ensures
