use Rattle.std.proofs.Common.{◌≡◌, rules, Some, None, true, sym, ap, ◌∙◌}
use Rattle.std.specs.Prelude.{is_some}
use Rattle.serde_json.specs.Find.{as_null}
use Rattle.serde_json.specs.View.{view}
use Rattle.coltypes.specs.LogicalTypeOf.{logical_type}
use Rattle.coltypes.specs.declared.dtype.DType.{DType}
use Rattle.coltypes.specs.declared.dtype.DType.TheVariants as dtypes
use Rattle.coltypes.specs.declared.dtype.ExtDType.{ExtDType}
use Rattle.rowjson.specs.Scalars.{scalar_in, scalar_of}
use Rattle.rowjson.proofs.Exact.{named_read, null_read, stated_type, unnamed_read}
use Rattle.rowjson.proofs.column.scalars.+scalar.Goals as goal

pub extension_scalar_in-returns-in_err-storage : goal.extension_scalar_in-returns-in_err-storage
extension_scalar_in-returns-in_err-storage t c =
    let read : None ≡ scalar_in (logical_type c.args.ext.now.storage) (view c.args.value.now) = search rules in
    let none : c.from_residual.result ≡ None = search rules in
    none ∙ unnamed_read c.args.ext.now (view c.args.value.now) read

pub extension_scalar_in-under_name-requires : goal.extension_scalar_in-under_name-requires
extension_scalar_in-under_name-requires t c =
    let read : Some c.in_ok-storage.storage ≡ scalar_in (logical_type c.args.ext.now.storage) (view c.args.value.now) = search rules in
    stated_type c.args.ext.now.storage (view c.args.value.now) c.in_ok-storage.storage read ∙ ap (λ (e : ExtDType). e.storage) (sym c.share.ensures)

pub extension_scalar_in-returns : goal.extension_scalar_in-returns
extension_scalar_in-returns t c =
    let read : Some c.in_ok-storage.storage ≡ scalar_in (logical_type c.args.ext.now.storage) (view c.args.value.now) = search rules in
    let named = c.under_name.ensures.dtype ∙ ap (λ (e : ExtDType). dtypes.Extension e) c.share.ensures in
    named_read c.args.ext.now (view c.args.value.now) c.in_ok-storage.storage c.under_name.result read named c.under_name.ensures.value

pub scalar_in-returns-then-is_null : goal.scalar_in-returns-then-is_null
scalar_in-returns-then-is_null t c =
    let null : is_some (as_null (view c.args.value.now)) ≡ true = search rules in
    c.null_of.ensures ∙ ap (λ (u : DType). scalar_of u None) c.share.ensures ∙ sym (null_read c.args.dtype.now (view c.args.value.now) null)
