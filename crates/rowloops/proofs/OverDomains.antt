-- What each loop left, told of the domain that it went over.
use Rattle.std.proofs.Common.{◌≡◌, ℕ, ◌<◌, ◌≤◌, Bool, true, List, length, refl, sym, subst}
use Rattle.std.specs.Prelude.{Result, IfOk, IfErr, count_by}
use Rattle.bitlane.specs.Bits.{bit}
use Rattle.bitlane.specs.Maps.{Joined}
use Rattle.colbase.specs.Arrays.{Array, dtype, len, row}
use Rattle.colbase.proofs.KeptRows.{trues-count_by}
use Rattle.coltypes.specs.Cell.{Cell}
use Rattle.coltypes.specs.Keep.{place, trues}
use Rattle.coltypes.specs.LogicalType.{LogicalType}
use Rattle.coltypes.specs.declared.fault.Fault.{Fault}
use Rattle.coltypes.specs.declared.fault.Fault.TheVariants.{Memory}
use Rattle.rowloops.specs.Answers.{StatesChecked}
use Rattle.rowloops.specs.Domain.{Domain, RunsOver, all_rows, filtered_rows, marked_rows}
use Rattle.rowloops.proofs.CheckedRows.{rows_again}

-- of all rows, of which a source has k
pub over_all : {X T E : Type 0} {post : X → T × E → Type 0} (join : E → E → E) (neutral : E) (domain : Domain) (n k : ℕ) (may_be stands : ℕ → X → Type 0) (states : T → Cell) (stored : LogicalType) (r : Result (Array × E) Fault) (steps : ℕ)
    → domain ≡ all_rows n → k ≡ domain.width → ((i : ℕ) (x : X) → i < domain.width → may_be i x → stands i x)
    → IfOk r (λ a. dtype a.0 ≡ stored) → IfOk r (λ a. len a.0 ≡ k)
    → IfOk r (λ a. Joined join neutral (λ i. true) (λ i v. StatesChecked (may_be i) (λ x b. post x b) states (row a.0 i) v) k a.1)
    → IfErr r (λ e. e ≡ Memory) → steps ≤ k → IfOk r (λ a. k ≤ steps) → RunsOver join neutral domain stands (λ x b. post x b) states stored r steps
over_all {X} {T} {E} {post} join neutral domain n k may_be stands states stored r steps is =
    let Of : Domain → Type 0 = λ d. k ≡ d.width → ((i : ℕ) (x : X) → i < d.width → may_be i x → stands i x)
    → IfOk r (λ a. dtype a.0 ≡ stored) → IfOk r (λ a. len a.0 ≡ k)
    → IfOk r (λ a. Joined join neutral (λ i. true) (λ i v. StatesChecked (may_be i) (λ x b. post x b) states (row a.0 i) v) k a.1)
    → IfErr r (λ e. e ≡ Memory) → steps ≤ k → IfOk r (λ a. k ≤ steps) → RunsOver join neutral d stands (λ x b. post x b) states stored r steps in
    let Long : ℕ → Type 0 = λ m. IfOk r (λ a. len a.0 ≡ m) in
    let Most : ℕ → Type 0 = λ m. steps ≤ m in
    let Least : ℕ → Type 0 = λ m. IfOk r (λ a. m ≤ steps) in
    subst Of (sym is)
    (λ counts tells typed long rows errors most least. record {
      dtype = typed;
      len = subst Long counts long;
      each = rows_again join neutral (λ i. true) may_be stands (λ x b. post x b) (λ x b. post x b) states (λ a i. row a i) k n r counts tells (λ x b p. p) rows;
      errors = errors;
      most = subst Most counts most;
      least = subst Least counts least;
    })

-- of the marked rows
pub over_marked : {X T E : Type 0} {post told : X → T × E → Type 0} (join : E → E → E) (neutral : E) (domain : Domain) (marks : List Bool) (may_be stands : ℕ → X → Type 0) (states : T → Cell) (stored : LogicalType) (r : Result (Array × E) Fault) (steps : ℕ)
    → domain ≡ marked_rows marks → ((i : ℕ) (x : X) → i < domain.width → may_be i x → stands i x) → ((x : X) (b : T × E) → post x b → told x b)
    → IfOk r (λ a. dtype a.0 ≡ stored) → IfOk r (λ a. len a.0 ≡ length marks)
    → IfOk r (λ a. Joined join neutral (bit marks) (λ i v. StatesChecked (may_be i) (λ x b. post x b) states (row a.0 i) v) (length marks) a.1)
    → IfErr r (λ e. e ≡ Memory) → steps ≤ count_by (λ b. b) marks → IfOk r (λ a. count_by (λ b. b) marks ≤ steps) → RunsOver join neutral domain stands (λ x b. told x b) states stored r steps
over_marked {X} {T} {E} {post} {told} join neutral domain marks may_be stands states stored r steps is =
    let Of : Domain → Type 0 = λ d. ((i : ℕ) (x : X) → i < d.width → may_be i x → stands i x) → ((x : X) (b : T × E) → post x b → told x b)
    → IfOk r (λ a. dtype a.0 ≡ stored) → IfOk r (λ a. len a.0 ≡ length marks)
    → IfOk r (λ a. Joined join neutral (bit marks) (λ i v. StatesChecked (may_be i) (λ x b. post x b) states (row a.0 i) v) (length marks) a.1)
    → IfErr r (λ e. e ≡ Memory) → steps ≤ count_by (λ b. b) marks → IfOk r (λ a. count_by (λ b. b) marks ≤ steps) → RunsOver join neutral d stands (λ x b. told x b) states stored r steps in
    let Most : ℕ → Type 0 = λ m. steps ≤ m in
    let Least : ℕ → Type 0 = λ m. IfOk r (λ a. m ≤ steps) in
    subst Of (sym is)
    (λ tells retells typed long rows errors most least. record {
      dtype = typed;
      len = long;
      each = rows_again join neutral (bit marks) may_be stands (λ x b. post x b) (λ x b. told x b) states (λ a i. row a i) (length marks) (length marks) r refl tells retells rows;
      errors = errors;
      most = subst Most (trues-count_by marks) most;
      least = subst Least (trues-count_by marks) least;
    })

-- of the rows of filtered columns
pub over_filtered : {X T E : Type 0} {post told : X → T × E → Type 0} (join : E → E → E) (neutral : E) (domain : Domain) (marks : List Bool) (may_be stands : ℕ → X → Type 0) (states : T → Cell) (stored : LogicalType) (r : Result (Array × E) Fault) (steps : ℕ)
    → domain ≡ filtered_rows marks → ((i : ℕ) (x : X) → i < domain.width → may_be i x → stands i x) → ((x : X) (b : T × E) → post x b → told x b)
    → IfOk r (λ a. dtype a.0 ≡ stored) → IfOk r (λ a. len a.0 ≡ length marks)
    → IfOk r (λ a. Joined join neutral (λ i. true) (λ i v. StatesChecked (may_be i) (λ x b. post x b) states (row a.0 (place marks i)) v) (count_by (λ b. b) marks) a.1)
    → IfErr r (λ e. e ≡ Memory) → steps ≤ count_by (λ b. b) marks → IfOk r (λ a. count_by (λ b. b) marks ≤ steps) → RunsOver join neutral domain stands (λ x b. told x b) states stored r steps
over_filtered {X} {T} {E} {post} {told} join neutral domain marks may_be stands states stored r steps is =
    let Of : Domain → Type 0 = λ d. ((i : ℕ) (x : X) → i < d.width → may_be i x → stands i x) → ((x : X) (b : T × E) → post x b → told x b)
    → IfOk r (λ a. dtype a.0 ≡ stored) → IfOk r (λ a. len a.0 ≡ length marks)
    → IfOk r (λ a. Joined join neutral (λ i. true) (λ i v. StatesChecked (may_be i) (λ x b. post x b) states (row a.0 (place marks i)) v) (count_by (λ b. b) marks) a.1)
    → IfErr r (λ e. e ≡ Memory) → steps ≤ count_by (λ b. b) marks → IfOk r (λ a. count_by (λ b. b) marks ≤ steps) → RunsOver join neutral d stands (λ x b. told x b) states stored r steps in
    let Most : ℕ → Type 0 = λ m. steps ≤ m in
    let Least : ℕ → Type 0 = λ m. IfOk r (λ a. m ≤ steps) in
    subst Of (sym is)
    (λ tells retells typed long rows errors most least. record {
      dtype = typed;
      len = long;
      each = rows_again join neutral (λ i. true) may_be stands (λ x b. post x b) (λ x b. told x b) states (λ a j. row a (place marks j)) (count_by (λ b. b) marks) (trues marks) r (trues-count_by marks) tells retells rows;
      errors = errors;
      most = subst Most (trues-count_by marks) most;
      least = subst Least (trues-count_by marks) least;
    })

-- the answers told by other words
pub runs_again : {X T E : Type 0} {post told : X → T × E → Type 0} (join : E → E → E) (neutral : E) (domain : Domain) (may_be : ℕ → X → Type 0) (states : T → Cell) (stored : LogicalType) (r : Result (Array × E) Fault) (steps : ℕ)
    → ((x : X) (b : T × E) → post x b → told x b) → RunsOver join neutral domain may_be (λ x b. post x b) states stored r steps → RunsOver join neutral domain may_be (λ x b. told x b) states stored r steps
runs_again {post = post} {told = told} join neutral domain may_be states stored r steps retells run = record {
  dtype = run.dtype;
  len = run.len;
  each = rows_again join neutral domain.selected may_be may_be (λ x b. post x b) (λ x b. told x b) states (λ a i. row a (domain.place i)) domain.width domain.width r refl (λ i x h m. m) retells run.each;
  errors = run.errors;
  most = run.most;
  least = run.least;
}
