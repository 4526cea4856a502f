use Rattle.std.proofs.Common.{◌≡◌, arith, length, ◌<◌, ◌++◌, ◌∷◌, [], ◌∙◌, sym, ap, Bool}
use Rattle.std.specs.Prelude.{unwrap_or, is_some}
use Rattle.rowjson.specs.Objects.{value_or_null}
use Rattle.rowjson.proofs.Items.{read_more}
use Rattle.rowjson.proofs.column.values.optional_values.Goals as goal

pub loop-item-preserved : goal.loop-item-preserved
loop-item-preserved g c =
    let value = g.T.ColumnValue in
    let cell = c.in-Some.cell in
    let values = c.loop-item.values.items in
    let marks = c.loop-item.marks.items in
    let within : c.loop-item.item-index < length c.args.items.now = omega arith in
    let stored : c.push.new.self.items ≡ values ++ unwrap_or cell value.under_null ∷ [] =
    c.in_ok-push.ensures.items ∙ ap (λ (x : g.row.T.Denot). values ++ x ∷ []) (c.unwrap_or.ensures ∙ ap (unwrap_or cell) c.under_null.ensures) in
    let marked : c.push-in-loop-item.new.self.items ≡ marks ++ is_some cell ∷ [] =
    c.in_ok-push-2.ensures.items ∙ ap (λ (b : Bool). marks ++ b ∷ []) c.is_some.ensures in
    read_more (value_or_null value.states) value.under_null c.args.items.now c.loop-item.item-index c.item-item.result _ _ _ _ cell _ within
    c.item-item.is (sym c.in-Some.ensures) stored marked c.loop-item.invariant
