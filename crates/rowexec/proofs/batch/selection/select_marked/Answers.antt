use Rattle.std.proofs.Common.{◌≡◌, ◌<◌, ℕ, Bool, List, length, refl, subst, sym}
use Rattle.bitlane.specs.Bits.{bit}
use Rattle.coltypes.specs.Keep.{trues}
use Rattle.rowexec.proofs.Selecting.{some_mark, some_marked, some_unmarked}
use Rattle.rowexec.proofs.batch.selection.select_marked.Goals as goal

pub returns-then-is_each : goal.returns-then-is_each
returns-then-is_each c = c.if-is_each.ensures.each refl

pub returns-then-is_each-2 : goal.returns-then-is_each-2
returns-then-is_each-2 c = (c.if-is_each-2.ensures.each refl, some_mark c.args.bits.now (c.if-is_each.ensures.other refl))

pub returns : goal.returns
returns c =
    let bits = c.args.bits.now in
    let Marks : List Bool → Type 0 = λ m. (length m ≡ length bits) × ((i : ℕ) → i < length bits → bit m i ≡ bit bits i) × (0 < trues m) × (trues m < length bits) in
    subst Marks (sym c.share.ensures) (refl, (λ i h. refl), some_marked bits (c.if-is_each-2.ensures.other refl), some_unmarked bits (c.if-is_each.ensures.other refl))
