use Rattle.std.proofs.Common.{rules, ◌∙◌, ◌+◌, ◌∷◌, [], List, get_or, length, ap, arith, refl, subst, sym, true}
use Rattle.std.proofs.lemmas.List.{length-append}
use Rattle.bitlane.specs.Maps.{Joined, MapsTo}
use Rattle.bitlane.proofs.Joins.{Joined-at, Joined-none}
use Rattle.rowloops.proofs.Appended.{appended}
use Rattle.rowloops.proofs.checked.map_checked_collect.Goals as goal

pub loop-i-init : goal.loop-i-init
loop-i-init g c = record {
  long = ap length c.in_ok-values.ensures.items;
  room = search rules;
  joined = Joined-none _ _ _ _ _ (g.met.V.FailureEvidence.default_is_neutral _ c.default-evidence.ensures);
}

pub loop-i-preserved : goal.loop-i-preserved
loop-i-preserved g c =
    let before = c.loop-i.values.items in
    let value = c.apply-value.result.0 in
    let V = g.V.FailureEvidence in
    let At : List g.row.T.Denot → Type 0 = λ vs. Joined V.join V.neutral (λ _. true) (λ k e. (d : g.row.T.Denot) → MapsTo (g.S.IndexedSource.item_at c.args.source.now k) (goal.F-post g c.args.apply) (get_or vs k d, e)) (c.loop-i.i + 1) c.bitor_assign.new.self in
    record {
      long = ap length c.push_reserved.ensures.items ∙ length-append before (value ∷ []) ∙ ap (λ n. n + 1) c.loop-i.invariant.long;
      room = search rules;
      joined = subst At (sym c.push_reserved.ensures.items) (appended _ _ _ _ (λ _. true) before c.loop-i.i c.loop-i.evidence c.loop-i.invariant.long refl c.loop-i.invariant.joined
          c.get.result c.get.ensures c.apply-value.result c.apply-value.ensures _ (g.met.V.FailureEvidence.or_joins _ _ _ c.bitor_assign.ensures.after));
    }

pub returns-clause-joined : goal.returns-clause-joined
returns-clause-joined g c = Joined-at _ _ _ _ _ _ _ (omega (arith, c.len-rows.ensures, c.loop-i-test.false)) c.loop-i.invariant.joined
