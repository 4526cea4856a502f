use Rattle.std.proofs.Common.{rules, ℕ, ◌<◌, Bool, false, IfOk, get_or, subst}
use Rattle.bitlane.specs.Maps.{MapsTo}
use Rattle.bitlane.proofs.Collected.{collected-each}
use Rattle.rowloops.proofs.Results.{ok_then}
use Rattle.rowloops.proofs.packed_bool.collect_bits.Goals as goal

pub returns-then-multiversioned-clause-items : goal.returns-then-multiversioned-clause-items
returns-then-multiversioned-clause-items g c =
    let May : ℕ → Bool → Type 0 = λ i b. MapsTo (g.S.IndexedSource.item_at c.args.source.now i) (goal.A-post g c.args.apply) b in
    let Each : ℕ → Type 0 = λ n. IfOk c.collect_bool_multiversioned_in.result (λ bits. (i : ℕ) (d : Bool) → i < n → May i (get_or bits i d)) in
    let each : Each (g.S.IndexedSource.count c.args.source.now) = subst Each c.len-rows.ensures (collected-each _ May _ _ (λ i x h k. search rules) (λ bits. bits) _ c.collect_bool_multiversioned_in.ensures.len c.collect_bool_multiversioned_in.ensures.calls) in
    ok_then _ _ c.collect_bool_multiversioned_in.result (λ bits h i below. h i false below) each

pub returns-clause-items : goal.returns-clause-items
returns-clause-items g c =
    let May : ℕ → Bool → Type 0 = λ i b. MapsTo (g.S.IndexedSource.item_at c.args.source.now i) (goal.A-post g c.args.apply) b in
    let Each : ℕ → Type 0 = λ n. IfOk c.collect_bool_in.result (λ bits. (i : ℕ) (d : Bool) → i < n → May i (get_or bits i d)) in
    let each : Each (g.S.IndexedSource.count c.args.source.now) = subst Each c.len-rows.ensures (collected-each _ May _ _ (λ i x h k. search rules) (λ bits. bits) _ c.collect_bool_in.ensures.len c.collect_bool_in.ensures.calls) in
    ok_then _ _ c.collect_bool_in.result (λ bits h i below. h i false below) each
