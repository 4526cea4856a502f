use Rattle.std.proofs.Common.{rules, Bool}
use Rattle.std.proofs.lemmas.Iterator.{YieldsList-from_slice}
use Rattle.std.proofs.lemmas.Iterator.Search.{all_from_yields_List}
use borrow.Author.Tests.{tests}
use Rattle.rowjson.proofs.column.validity.all_true.Goals as goal

pub returns : goal.returns
returns c = all_from_yields_List (λ (m : Bool). m) _ _ _ c.all.ensures.ran (YieldsList-from_slice c.args.marks.now cc) (λ x b q k. search (rules, tests))
