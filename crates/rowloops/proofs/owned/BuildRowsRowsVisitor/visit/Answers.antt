use Rattle.std.proofs.Common.{◌∙◌, ◌<◌, ap, refl, subst, sym}
use Rattle.colbase.proofs.KeptRows.{trues-count_by}
use Rattle.rowloops.specs.Domain.{domain_of}
use Rattle.rowloops.proofs.OverDomains.{over_all, over_filtered, over_marked}
use Rattle.rowloops.proofs.owned.BuildRowsRowsVisitor.visit.Goals as goal

pub build_checked-requires : goal.build_checked-requires
build_checked-requires g c = record {
  callable = λ i x q below at lent.
      let here = subst (λ n. i < n) c.requires.count below in
      c.requires.ready i x q here (ap (λ d. (domain_of d).selected i) c.in-All.is) (c.requires.items i x here at) lent;
}

pub returns-in-All : goal.returns-in-All
returns-in-All g c =
    let made = c.build_checked.ensures in
    let r = c.build_checked.result in
    over_all _ _ (domain_of c.args.self.domain) c.in-All.field-0 _ (g.S.IndexedSource.item_at c.args.source) _ _ _ r.0 r.1 (ap domain_of c.in-All.is) c.requires.count c.requires.items made.dtype made.len made.rows made.errors made.most made.least

pub build_valid_rows-requires-clause-callable : goal.build_valid_rows-requires-clause-callable
build_valid_rows-requires-clause-callable g c = λ i x below marked at.
    let here = subst (λ n. i < n) (ap (λ d. (domain_of d).width) (sym c.in-Marked.is)) below in
    c.requires.ready i x _ here (ap (λ d. (domain_of d).selected i) c.in-Marked.is ∙ marked) (c.requires.items i x here at) refl

pub returns-in-Marked : goal.returns-in-Marked
returns-in-Marked g c =
    let made = c.build_valid_rows.ensures in
    let r = c.build_valid_rows.result in
    over_marked _ _ (domain_of c.args.self.domain) c.in-Marked.marks.now (g.S.IndexedSource.item_at c.args.source) _ _ _ r.0 r.1 (ap domain_of c.in-Marked.is) c.requires.items (λ x b p. (_, refl, p)) made.dtype made.len made.rows made.errors made.most made.least

pub build_filtered_rows-requires-clause-items : goal.build_filtered_rows-requires-clause-items
build_filtered_rows-requires-clause-items g c = c.requires.count ∙ ap (λ d. (domain_of d).width) c.in-Filtered.is ∙ sym (trues-count_by c.in-Filtered.marks.now)

pub build_filtered_rows-requires-clause-callable : goal.build_filtered_rows-requires-clause-callable
build_filtered_rows-requires-clause-callable g c = λ i x below at.
    let here = subst (λ n. i < n) (trues-count_by c.in-Filtered.marks.now ∙ ap (λ d. (domain_of d).width) (sym c.in-Filtered.is)) below in
    c.requires.ready i x _ here (ap (λ d. (domain_of d).selected i) c.in-Filtered.is) (c.requires.items i x here at) refl

pub returns : goal.returns
returns g c =
    let made = c.build_filtered_rows.ensures in
    let r = c.build_filtered_rows.result in
    over_filtered _ _ (domain_of c.args.self.domain) c.in-Filtered.marks.now (g.S.IndexedSource.item_at c.args.source) _ _ _ r.0 r.1 (ap domain_of c.in-Filtered.is) c.requires.items (λ x b p. (_, refl, p)) made.dtype made.len made.rows made.errors made.most made.least
