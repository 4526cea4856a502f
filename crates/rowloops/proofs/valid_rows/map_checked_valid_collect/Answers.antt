use Rattle.std.proofs.Common.{rules, ◌≡◌, ◌∙◌, ◌+◌, ◌<◌, ◌++◌, ◌∷◌, [], List, false, get_or, length, ap, arith, refl, subst, sym, true}
use Rattle.std.proofs.lemmas.List.{length-append}
use Rattle.std.proofs.lemmas.List.Sums.{count_by_more_no, count_by_more_yes}
use Rattle.bitlane.specs.Bits.{bit}
use Rattle.bitlane.specs.Maps.{Joined, MapsTo}
use Rattle.bitlane.proofs.Joins.{Joined-at, Joined-none}
use Rattle.rowloops.proofs.Appended.{appended, passed}
use Rattle.rowloops.proofs.valid_rows.map_checked_valid_collect.Goals.{then-value, else-value}
use Rattle.rowloops.proofs.valid_rows.map_checked_valid_collect.Goals as goal

pub loop-i-init : goal.loop-i-init
loop-i-init g c = record {
  long = ap length c.in_ok-values.ensures.items;
  room = search rules;
  counted = refl;
  joined = Joined-none _ _ _ _ _ (g.met.V.FailureEvidence.default_is_neutral _ c.default-evidence.ensures);
}

pub loop-i-preserved : goal.loop-i-preserved
loop-i-preserved g c =
    let before = c.loop-i.values.items in
    let valid = c.args.valid.now in
    let i = c.loop-i.i in
    let within : i < length valid = omega (arith, c.loop-i-test.true, c.len-rows.ensures) in
    let V = g.V.FailureEvidence in
    let At : List g.row.T.Denot → g.row.V.Denot → Type 0 = λ vs e. Joined V.join V.neutral (bit valid) (λ k v. (d : g.row.T.Denot) → MapsTo (g.S.IndexedSource.item_at c.args.source.now k) (goal.F-post g c.args.apply) (get_or vs k d, v)) (i + 1) e in
    elim c.if-value.branch [
      | then-value w ↦
          let value = w.apply-value.result.0 in
          let set : bit valid i ≡ true = sym c.value.ensures ∙ w.if-value.true in
          let items : c.if-value.values.items ≡ before ++ value ∷ [] = ap (λ v. v.items) w.values-is ∙ w.push_reserved.ensures.items in
          let Here : List g.row.T.Denot → Type 0 = λ vs. At vs w.bitor_assign.new.self in
          let There : g.row.V.Denot → Type 0 = λ e. At c.if-value.values.items e in
          record {
            long = ap length items ∙ length-append before (value ∷ []) ∙ ap (λ n. n + 1) c.loop-i.invariant.long;
            room = search rules;
            counted = w.calls-is ∙ ap (λ n. n + 1) c.loop-i.invariant.counted ∙ sym (count_by_more_yes (λ b. b) valid i false within set);
            joined = subst There (sym w.evidence-is) (subst Here (sym items) (appended _ _ _ _ (bit valid) before i c.loop-i.evidence c.loop-i.invariant.long set c.loop-i.invariant.joined
                w.get.result w.get.ensures w.apply-value.result w.apply-value.ensures _ (g.met.V.FailureEvidence.or_joins _ _ _ w.bitor_assign.ensures.after)));
          }
      | else-value w ↦
          let value = w.default.result in
          let unset : bit valid i ≡ false = sym c.value.ensures ∙ w.if-value.false in
          let items : c.if-value.values.items ≡ before ++ value ∷ [] = ap (λ v. v.items) w.values-is ∙ w.push_reserved-else-value.ensures.items in
          let Here : List g.row.T.Denot → Type 0 = λ vs. At vs c.loop-i.evidence in
          let There : g.row.V.Denot → Type 0 = λ e. At c.if-value.values.items e in
          record {
            long = ap length items ∙ length-append before (value ∷ []) ∙ ap (λ n. n + 1) c.loop-i.invariant.long;
            room = search rules;
            counted = w.calls-is ∙ c.loop-i.invariant.counted ∙ sym (count_by_more_no (λ b. b) valid i false within unset);
            joined = subst There (sym w.evidence-is) (subst Here (sym items) (passed _ _ _ _ (bit valid) before value i c.loop-i.evidence c.loop-i.invariant.long unset c.loop-i.invariant.joined));
          }
    ]

pub returns-clause-joined : goal.returns-clause-joined
returns-clause-joined g c = Joined-at _ _ _ _ _ _ _ (omega (arith, c.len-rows.ensures, c.loop-i-test.false)) c.loop-i.invariant.joined
