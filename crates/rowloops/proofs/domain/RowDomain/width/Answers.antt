use Rattle.std.proofs.Common.{◌∙◌, ap, sym}
use Rattle.colbase.proofs.KeptRows.{trues-count_by}
use Rattle.rowloops.specs.Domain.{domain_of}
use Rattle.rowloops.proofs.domain.RowDomain.width.Goals as goal

pub returns-in-Filtered : goal.returns-in-Filtered
returns-in-Filtered c = c.true_count.ensures ∙ trues-count_by c.in-Filtered.marks.now ∙ ap (λ d. (domain_of d).width) (sym c.in-Filtered.is)
