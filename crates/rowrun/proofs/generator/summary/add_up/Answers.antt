use Rattle.std.proofs.Common.{◌≡◌, ◌∙◌, ℤ, ◌+ℤ◌, pos, Bool, Some, None, get_or, if◌then◌else◌, w64, SFits, to_z, of_z, rules, arith, ap, sym}
use Rattle.std.proofs.lemmas.Int.{to_z-of_z}
use Rattle.coltypes.specs.Masks.{mask_bits}
use Rattle.rowrun.specs.Generator.{marked_at}
use Rattle.rowrun.proofs.Tallied.{fits_more, row_tallied}
use Rattle.rowrun.proofs.generator.summary.add_up.Goals as goal

pub with-tally-requires-clause-fits : goal.with-tally-requires-clause-fits
with-tally-requires-clause-fits c =
    let numbers = c.args.numbers.now in
    let bits = mask_bits c.args.marks.now in
    let i = c.loop-i.i in
    let fits : SFits w64 (get_or numbers i (pos 0)) = search rules in
    λ marked. simp to_z-of_z (fits_more (marked_at numbers bits) i c.loop-i.tally.nulls c.loop-i.tally.sum (get_or numbers i (pos 0)) c.loop-i.invariant
    (ap (λ (b : Bool). if b then Some (get_or numbers i (pos 0)) else None) (sym c.value.ensures ∙ marked)) (c.requires.small i c.loop-i-test.true) (omega (arith, c.loop-i-test.true, c.requires.few)))

pub loop-i-preserved : goal.loop-i-preserved
loop-i-preserved c =
    let numbers = c.args.numbers.now in
    let bits = mask_bits c.args.marks.now in
    let i = c.loop-i.i in
    let fits : SFits w64 (get_or numbers i (pos 0)) = search rules in
    let read : to_z w64 (of_z w64 (get_or numbers i (pos 0))) ≡ get_or numbers i (pos 0) = to_z-of_z w64 (get_or numbers i (pos 0)) fits in
    row_tallied (marked_at numbers bits) i c.loop-i.tally.nulls c.with-tally.result.nulls c.loop-i.tally.sum (get_or numbers i (pos 0)) c.with-tally.result.sum c.value.result c.loop-i.invariant
    (ap (λ (b : Bool). if b then Some (get_or numbers i (pos 0)) else None) (sym c.value.ensures)) (c.requires.small i c.loop-i-test.true) c.with-tally.ensures.nulls
    (c.with-tally.ensures.sum ∙ ap (λ (z : ℤ). c.loop-i.tally.sum +ℤ (if c.value.result then z else pos 0)) read)
