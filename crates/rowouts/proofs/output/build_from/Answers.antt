use Rattle.std.proofs.Common.{◌≡◌, ◌∙◌, ℕ, ◌<◌, get_or, map, Some, ap, sym, subst}
use Rattle.colbase.specs.Arrays.{column, len, row}
use Rattle.rowouts.specs.Outputs.{full_column, StatesAnswer}
use Rattle.rowouts.proofs.Columns.{full-len, full-row}
use Rattle.colbase.proofs.Results.{if_ok-map}
use Rattle.rowouts.proofs.output.build_from.Goals as goal

pub returns-clause-len : goal.returns-clause-len
returns-clause-len g c =
    let xs = c.in_ok-values.values.items in
    let V = g.T.ColumnValue in
    if_ok-map
    (λ a. column a ≡ full_column V.value_type (map V.value_cell xs))
    (λ a. len a ≡ g.S.IndexedSource.count c.args.source.now)
    c.column_of.result
    (λ a e. full-len a V.value_type V.value_cell xs e ∙ c.in_ok-values.ensures.len)
    c.column_of.ensures.column

pub returns-clause-rows : goal.returns-clause-rows
returns-clause-rows g c =
    let xs = c.in_ok-values.values.items in
    let V = g.T.ColumnValue in
    let d = g.T.OutputElement.placeholder in
    if_ok-map
    (λ a. column a ≡ full_column V.value_type (map V.value_cell xs))
    (λ a. (i : ℕ) → i < g.S.IndexedSource.count c.args.source.now → StatesAnswer (g.S.IndexedSource.item_at c.args.source.now i) (λ x r. g.F.Fn.post c.args.apply (x, tt) r) g.T.OutputElement.states (row a i))
    c.column_of.result
    (λ a e i h. record {
      value = get_or xs i d;
      maps = c.in_ok-values.ensures.items i d h;
      is = full-row a V.value_type V.value_cell xs i d e (subst (λ m. i < m) (sym c.in_ok-values.ensures.len) h) ∙ ap (λ x. Some x) (g.met.T.OutputElement.value_states (get_or xs i d));
    })
    c.column_of.ensures.column
