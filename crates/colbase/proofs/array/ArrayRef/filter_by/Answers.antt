use Rattle.std.proofs.Common.{◌∙◌}
use Rattle.colbase.proofs.KeptRows.{filters_all, filters_empty, filters_values, trues-count_by}
use Rattle.colbase.proofs.array.ArrayRef.filter_by.Goals as goal

pub select-requires-clause-counted : goal.select-requires-clause-counted
select-requires-clause-counted c = c.true_count.ensures ∙ trues-count_by c.in-Values.bits

pub returns-in-AllTrue-clause-filtered : goal.returns-in-AllTrue-clause-filtered
returns-in-AllTrue-clause-filtered c = filters_all c.args.self.now c.share.result c.args.mask.now c.in-AllTrue.field-0 c.in-AllTrue.is c.requires c.share.ensures

pub returns-in-AllFalse-clause-filtered : goal.returns-in-AllFalse-clause-filtered
returns-in-AllFalse-clause-filtered c =
    filters_empty c.args.self.now c.args.mask.now c.in-AllFalse.field-0 c.slice.result c.in-AllFalse.is c.slice.ensures.rows c.slice.ensures.payload c.slice.ensures.dtype c.slice.ensures.must_read

pub returns-in-Values-clause-filtered : goal.returns-in-Values-clause-filtered
returns-in-Values-clause-filtered c = filters_values c.args.self.now c.args.mask.now c.in-Values.bits c.select.result c.in-Values.is c.requires c.select.ensures.selected
