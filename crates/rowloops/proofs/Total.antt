-- The rows of a callback that gives a value alone, as rows with the evidence of no failure.
use Rattle.std.proofs.Common.{◌≡◌, ℕ, zero, suc, ◌<◌, ◌≤◌, true, Option, arith, refl, sym, subst}
use Rattle.std.specs.Prelude.{Result, Ok, Err, IfOk, IfErr, MatchResult}
use Rattle.bitlane.specs.Maps.{Joined, none, more}
use Rattle.bitlane.specs.declared.failure_evidence.NoFailure.{NoFailure}
use Rattle.colbase.specs.Arrays.{Array, dtype, len, row}
use Rattle.coltypes.specs.Cell.{Cell}
use Rattle.coltypes.specs.LogicalType.{LogicalType}
use Rattle.coltypes.specs.declared.fault.Fault.{Fault}
use Rattle.coltypes.specs.declared.fault.Fault.TheVariants.{Memory}
use Rattle.rowouts.specs.Outputs.{StatesAnswer}
use Rattle.rowloops.specs.Answers.{StatesChecked}
use Rattle.rowloops.specs.Domain.{Domain, RunsTotal, all_rows}

-- the evidence of no failure stays what it is
pub total_rows : {X T : Type 0} (may_be : ℕ → X → Type 0) (post : X → T → Type 0) (states : T → Cell) (row : ℕ → Option Cell) (n : ℕ) (e : NoFailure)
    → ((i : ℕ) → i < n → StatesAnswer (may_be i) post states (row i))
    → Joined (λ (a b : NoFailure). a) e (λ i. true) (λ i v. StatesChecked (may_be i) (λ x r. post x r.0) states (row i) v) n e
total_rows may_be post states row zero e each = none
total_rows may_be post states row (suc n) e each =
    let here = each n (omega arith) in
    more (total_rows may_be post states row n e (λ i below. each i (omega (arith, below)))) refl
    (record { value = here.value; maps = record { item = here.maps.item; stands = here.maps.stands; answer = here.maps.answer }; is = here.is })

-- all rows that were packed, as a run over the domain of all rows
pub packed_over : {X T : Type 0} (post : X → T → Type 0) (domain : Domain) (n : ℕ) (may_be : ℕ → X → Type 0) (states : T → Cell) (stored : LogicalType) (told : Result Array Fault) (r : Result (Array × NoFailure) Fault) (steps : ℕ)
    → domain ≡ all_rows n → MatchResult told (λ a. r ≡ Ok (a, record {})) (λ e. r ≡ Err e)
    → IfOk told (λ a. dtype a ≡ stored) → IfOk told (λ a. len a ≡ n) → IfOk told (λ a. (i : ℕ) → i < n → StatesAnswer (may_be i) post states (row a i))
    → IfErr told (λ e. e ≡ Memory) → steps ≤ n → IfOk told (λ a. n ≤ steps) → RunsTotal domain may_be post states stored r steps
packed_over post domain n may_be states stored (Ok a) r steps is same typed long rows errors most least =
    let Of : Domain → Type 0 = λ d. RunsTotal d may_be post states stored r steps in
    let At : Result (Array × NoFailure) Fault → Type 0 = λ q. RunsTotal (all_rows n) may_be post states stored q steps in
    subst Of (sym is) (subst At (sym same) (record { dtype = typed; len = long; each = total_rows may_be post states (row a) n (record {}) rows; errors = tt; most = most; least = least }))
packed_over post domain n may_be states stored (Err e) r steps is same typed long rows errors most least =
    let Of : Domain → Type 0 = λ d. RunsTotal d may_be post states stored r steps in
    let At : Result (Array × NoFailure) Fault → Type 0 = λ q. RunsTotal (all_rows n) may_be post states stored q steps in
    subst Of (sym is) (subst At (sym same) (record { dtype = tt; len = tt; each = tt; errors = errors; most = most; least = tt }))
