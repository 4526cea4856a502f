use Rattle.std.proofs.Common.{rules, ◌≡◌, ◌∙◌, length, Bool, false, not, IfOk, subst, List, map, ap}
use Rattle.bitlane.specs.Bits.{bit, tabulate}
use Rattle.bitlane.proofs.Collected.{collected}
use Rattle.bitlane.proofs.Tables.{tabulate-map}
use Rattle.bitlane.proofs.bits.BitBuffer.not.Goals as goal

pub returns : goal.returns
returns c =
    let xs : List Bool = c.as_slice-bits.result.now in
    let of_slice : IfOk c.collect_bool_in.result (λ b. b ≡ tabulate (λ i. not (bit xs i)) (length xs)) =
    collected _ (λ i. not (bit xs i)) (length xs) _ (λ i b g lt k. search rules) _ c.collect_bool_in.ensures.len c.collect_bool_in.ensures.calls in
    let same : tabulate (λ i. not (bit xs i)) (length xs) ≡ map not c.args.self.now =
    tabulate-map not xs false ∙ ap (map not) (c.as_slice-bits.ensures ∙ c.self.view_is) in
    let Is : List Bool → Type 0 = λ l. IfOk c.collect_bool_in.result (λ b. b ≡ l) in
    subst Is same of_slice
