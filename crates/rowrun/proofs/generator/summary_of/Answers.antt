use Rattle.std.proofs.Common.{◌≡◌, ◌∙◌, ℕ, ◌<◌, length, sym, subst}
use Rattle.std.specs.Prelude.{is_some}
use Rattle.bitlane.specs.Bits.{bit}
use Rattle.colbase.specs.Arrays.{len, row}
use Rattle.coltypes.specs.Masks.{mask_bits}
use Rattle.rowrun.specs.Generator.{marked_at}
use Rattle.rowjson.specs.Shows.{Shows}
use Rattle.rowrun.proofs.GeneratedSums.{marked_sums, small_marked, summary_is}
use Rattle.rowrun.proofs.generator.summary_of.Goals as goal

pub add_up-requires-clause-small : goal.add_up-requires-clause-small
add_up-requires-clause-small g c =
    let array = c.in_ok-array.array in
    let numbers = c.as_slice.result.now in
    let bits = mask_bits c.execute_mask-marks.result in
    let shows : Shows array numbers = subst (Shows array) (sym c.as_slice.ensures) c.in_ok-numbers.ensures.shows in
    let tells : (i : ℕ) → i < len array → bit bits i ≡ is_some (row array i) =
    λ i within. c.execute_mask-marks.ensures.tells i (subst (λ (k : ℕ). i < k) (sym c.len.ensures) within) ∙ c.validity.ensures.tells i within in
    let same = marked_sums c.args.rows array numbers bits c.in_ok-array.ensures.counted shows c.in_ok-array.ensures.sums tells in
    λ i within. small_marked c.args.rows numbers bits same i (subst (λ (k : ℕ). i < k) (shows.counted ∙ c.in_ok-array.ensures.counted) within)

pub returns-clause-summary : goal.returns-clause-summary
returns-clause-summary g c =
    let array = c.in_ok-array.array in
    let numbers = c.as_slice.result.now in
    let bits = mask_bits c.execute_mask-marks.result in
    let shows : Shows array numbers = subst (Shows array) (sym c.as_slice.ensures) c.in_ok-numbers.ensures.shows in
    let tells : (i : ℕ) → i < len array → bit bits i ≡ is_some (row array i) =
    λ i within. c.execute_mask-marks.ensures.tells i (subst (λ (k : ℕ). i < k) (sym c.len.ensures) within) ∙ c.validity.ensures.tells i within in
    let same = marked_sums c.args.rows array numbers bits c.in_ok-array.ensures.counted shows c.in_ok-array.ensures.sums tells in
    let text = summary_is c.args.rows (length numbers) c.add_up.result.nulls c.add_up.result.sum (marked_at numbers bits) (shows.counted ∙ c.in_ok-array.ensures.counted) same c.add_up.ensures.nulls c.add_up.ensures.sum in
    c.in_ok-text.ensures ∙ text
