use Rattle.std.proofs.Common.{rules, ◌≡◌, ◌∙◌, length, Bool, ◌&&◌, IfOk, subst, List, ap}
use Rattle.bitlane.specs.Bits.{bit, both}
use Rattle.bitlane.proofs.Collected.{collected}
use Rattle.bitlane.proofs.bits.BitBuffer.and.Goals as goal

pub returns : goal.returns
returns c =
    let xs : List Bool = c.as_slice-xs.result.now in
    let ys : List Bool = c.as_slice-ys.result.now in
    let of_slices : IfOk c.collect_bool_in.result (λ b. b ≡ both xs ys) =
    collected _ (λ i. bit xs i && bit ys i) (length xs) _ (λ i b g lt k. search rules) _ c.collect_bool_in.ensures.len c.collect_bool_in.ensures.calls in
    let same : both xs ys ≡ both c.args.self.now c.args.other.now =
    ap (λ l. both l ys) (c.as_slice-xs.ensures ∙ c.self.view_is) ∙ ap (λ l. both c.args.self.now l) (c.as_slice-ys.ensures ∙ c.other.view_is) in
    let Is : List Bool → Type 0 = λ l. IfOk c.collect_bool_in.result (λ b. b ≡ l) in
    subst Is same of_slices
