-- Over which rows a visit may run: rows with nulls only where what is stored under a null may be read and any failure there is told
-- apart.
use Rattle.std.specs.Prelude.{Bool, true}
use Rattle.rowplan.specs.declared.batch_plan.RowPolicy.{RowPolicy}
use Rattle.rowplan.specs.declared.batch_plan.RowPolicy.TheVariants.{Dense, DenseWithRetry, ValidOnly}

-- a visit that writes one value a row, by whether each element is dense safe and decodes each column
abbrev pub owned_policy : Bool → Bool → RowPolicy
owned_policy true true = Dense
owned_policy _ _ = ValidOnly

-- the same of a visit whose failures are evidence
abbrev pub deferred_policy : Bool → Bool → RowPolicy
deferred_policy true true = DenseWithRetry
deferred_policy _ _ = ValidOnly
