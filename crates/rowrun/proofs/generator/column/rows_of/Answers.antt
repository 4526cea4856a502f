use Rattle.std.proofs.Common.{◌≡◌, ◌∙◌, ◌==◌, ℤ, [], ◌∷◌, ◌++◌, refl, ap, w64, SFits, rules}
use Rattle.std.proofs.lemmas.Int.{to_z-of_z}
use Rattle.rowrun.proofs.Turning.{turned_more}
use Rattle.rowrun.proofs.generator.column.rows_of.Goals as goal

pub loop-preserved : goal.loop-preserved
loop-preserved c =
    let p = c.args.pattern in
    let fits : SFits w64 c.stored.result = search rules in
    let pushed : c.push.new.self.items ≡ c.loop.values.items ++ c.stored.result ∷ [] =
    c.in_ok-push.ensures.items ∙ ap (λ (z : ℤ). c.loop.values.items ++ z ∷ []) (to_z-of_z w64 c.stored.result fits) in
    turned_more p c.loop.counter c.loop.values.items c.push.new.self.items c.loop.marks.items c.push-in-loop.new.self.items c.loop.number c.loop.turn
    c.advanced-number.result c.advanced-turn.result c.stored.result (c.loop.turn == p.null_at)
    c.loop.invariant refl c.stored.ensures pushed c.in_ok-push-2.ensures.items
    c.advanced-number.ensures.sum c.advanced-number.ensures.within c.advanced-turn.ensures.sum c.advanced-turn.ensures.within
