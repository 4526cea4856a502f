use Rattle.std.proofs.Common.{◌≡◌, ◌∙◌, ◌<◌, ℕ, Option, Some, ap, sym, subst}
use Rattle.colbase.specs.Arrays.{dtype, len, row, rows}
use Rattle.coltypes.specs.LogicalType.{LogicalType, nullability_of, with_nullability}
use Rattle.coltypes.specs.LogicalTypeOf.{logical_type}
use Rattle.coltypes.specs.Valid.{valid_at}
use Rattle.coltypes.specs.declared.dtype.Nullability.TheVariants.{NonNullable}
use Rattle.rowplan.specs.Outputs.{InOrder, any_nullable, made_nullable}
use Rattle.rowplan.specs.Plans.{plan_of}
use Rattle.rowexec.specs.Batch.{StatedAs}
use Rattle.rowexec.specs.Rows.{StrictRow, full_cells, types_of}
use Rattle.rowloops.proofs.Results.{ok_then}
use Rattle.rowexec.proofs.StrictRows.{output_not_null, relabel_type, relabelled_type, strict_row}
use Rattle.rowexec.proofs.Tables.{len_of_table, row_of_table}
use Rattle.rowexec.proofs.batch.answer.label_values.Goals as goal

pub relabel_output-requires : goal.relabel_output-requires
relabel_output-requires g c =
    let s = logical_type c.args.call.now.plan.now.storage in
    let b = c.is_any_nullable.result in
    let stored : dtype c.args.values ≡ s = cc (c.requires.values.stored, c.requires.call.plan_is.stored) in
    let typed : dtype c.in_ok-masked.masked ≡ made_nullable b s = c.in_ok-masked.ensures.dtype ∙ ap (made_nullable b) stored in
    typed ∙ relabel_type b s c.args.call.now.plan.now.not_nullable ∙ ap (λ t. with_nullability s (nullability_of t)) (sym typed)

pub returns-clause-len : goal.returns-clause-len
returns-clause-len g c =
    let masked = c.in_ok-masked.masked in
    ok_then (λ a. rows a ≡ rows masked) (λ a. len a ≡ c.args.call.now.row_count) c.relabel_output.result
    (λ a e. len_of_table a (row masked) (len masked) e ∙ c.in_ok-masked.ensures.len ∙ c.requires.values.counted) c.relabel_output.ensures.rows

pub returns-clause-rows : goal.returns-clause-rows
returns-clause-rows g c =
    let n = c.args.call.now.row_count in
    let columns = c.args.call.now.columns.now in
    let types = types_of columns in
    let masked = c.in_ok-masked.masked in
    let values = c.args.values in
    let full = c.args.call.now.full.now in
    let law = g.F.RowSpec.law c.args.call.now.options.now types in
    let given = c.requires.values in
    ok_then (λ a. rows a ≡ rows masked) (λ a. (i : ℕ) → i < n → StrictRow law (full_cells columns i) (row a i)) c.relabel_output.result
    (λ a e i h.
    let hm : i < len masked = subst (λ m. i < m) (sym (c.in_ok-masked.ensures.len ∙ given.counted)) h in
    let hv : i < len values = subst (λ m. i < m) (sym given.counted) h in
    let here = row_of_table a (row masked) (len masked) e i hm ∙ c.in_ok-masked.ensures.rows i hv in
    strict_row law (full_cells columns i) (valid_at full i) (row a i) (row values i) (c.requires.call.marks.tells i h) here (λ cs k. given.each i cs h k))
    c.relabel_output.ensures.rows

pub returns-clause-dtype : goal.returns-clause-dtype
returns-clause-dtype g c =
    let s = logical_type c.args.call.now.plan.now.storage in
    let b = c.is_any_nullable.result in
    let columns = c.args.call.now.columns.now in
    let types = types_of columns in
    let law = g.F.RowSpec.law c.args.call.now.options.now types in
    let masked = c.in_ok-masked.masked in
    let out = (plan_of c.args.call.now.plan.now).output in
    let stored : dtype c.args.values ≡ s = cc (c.requires.values.stored, c.requires.call.plan_is.stored) in
    let typed : dtype masked ≡ made_nullable b s = c.in_ok-masked.ensures.dtype ∙ ap (made_nullable b) stored in
    let InOrderBy : Option LogicalType → Type 0 = λ o. InOrder o law.output.label in
    let in_order : InOrder (Some s) law.output.label = subst InOrderBy c.requires.call.plan_is.stored c.requires.call.plan_is.in_order in
    let not_null : nullability_of out ≡ NonNullable = ap nullability_of c.requires.call.plan_is.output ∙ output_not_null s law.output.label in_order in
    let told : b ≡ any_nullable types = c.is_any_nullable.ensures ∙ ap any_nullable c.requires.call.types_are in
    ok_then (λ a. dtype a ≡ with_nullability out (nullability_of (dtype masked))) (λ a. StatedAs law types (dtype a)) c.relabel_output.result
    (λ a e. record {
      storage = s;
      stored = c.requires.call.plan_is.stored;
      is = e ∙ ap (λ t. with_nullability out (nullability_of t)) typed ∙ relabelled_type b s out c.args.call.now.plan.now.not_nullable not_null ∙ ap (λ x. made_nullable x out) told ∙ ap (made_nullable (any_nullable types)) c.requires.call.plan_is.output;
    })
    c.relabel_output.ensures.dtype
