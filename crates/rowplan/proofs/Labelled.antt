-- Values under a label.
use Rattle.std.proofs.Common.{◌≡◌, ◌∙◌, Result, Ok, Err, inl, inr, refl, ap}
use Rattle.std.specs.Prelude.{IfOk, IfErr}
use Rattle.bitlane.proofs.Tables.{tabulate-same}
use Rattle.coltypes.specs.declared.dtype.ExtDType.{ExtDType}
use Rattle.coltypes.specs.declared.dtype.Nullability.{Nullability}
use Rattle.coltypes.specs.declared.fault.Fault.{Fault}
use Rattle.coltypes.specs.declared.fault.Fault.TheVariants.{Memory}
use Rattle.colbase.specs.Arrays.{Array, dtype, extension, len, payload, row, rows, stored}
use Rattle.colbase.specs.Faults.{BuildsExtension}
use Rattle.coltypes.specs.LogicalType.{with_nullability}
use Rattle.coltypes.specs.LogicalTypeOf.{extension_type, logical_type}

pub rows_labelled : (r : Result Array Fault) (e : ExtDType) (c : Array) → BuildsExtension r e c → IfOk r (λ a. rows a ≡ rows c)
rows_labelled (Ok a) e c h = ap rows h.1 ∙ tabulate-same (row (extension e c)) (row c) (len c) (λ i k. refl)
rows_labelled (Err x) e c h = tt

pub payload_labelled : (r : Result Array Fault) (e : ExtDType) (c : Array) → BuildsExtension r e c → IfOk r (λ a. payload a ≡ payload c)
payload_labelled (Ok a) e c h = ap payload h.1 ∙ tabulate-same (stored (extension e c)) (stored c) (len c) (λ i k. refl)
payload_labelled (Err x) e c h = tt

-- the storage of an extension type that was made nullable or not
pub storage_with : (e f : ExtDType) (n : Nullability) → extension_type f ≡ with_nullability (extension_type e) n → logical_type f.storage ≡ with_nullability (logical_type e.storage) n
storage_with e f n h = cc

pub errors_labelled : (r : Result Array Fault) (e : ExtDType) (c : Array) → logical_type e.storage ≡ dtype c → BuildsExtension r e c → IfErr r (λ x. x ≡ Memory)
errors_labelled (Ok a) e c s h = tt
errors_labelled (Err x) e c s (inl m) = m
errors_labelled (Err x) e c s (inr h) = absurd (h.1 s)
