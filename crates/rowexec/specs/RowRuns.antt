-- What a run over a domain of rows is made with, and what it leaves, by the law of the function: decoded columns, rows with joined
-- evidence, and the judgement of that evidence.
use Rattle.std.specs.Borrow.{Bor}
use Rattle.std.specs.Prelude.{◌≡◌, ◌≢◌, ◌⊎◌, ⊤, ℕ, ◌<◌, ◌≤◌, Bool, true, false, List, [], ◌∷◌, Option, None, Some, Result, Ok, Err, MatchOption, MatchResult, IfOk, IfSome, IsSome, is_some, if◌then◌else◌}
use Rattle.bitlane.specs.Maps.{Joined}
use Rattle.colbase.specs.Arrays.{Array, dtype, len, row}
use Rattle.coltypes.specs.Cell.{Cell}
use Rattle.coltypes.specs.LogicalType.{LogicalType}
use Rattle.coltypes.specs.declared.fault.Fault.{Fault}
use Rattle.coltypes.specs.declared.fault.Fault.TheVariants.{Row}
use Rattle.coltypes.specs.declared.fault.RowError.{RowError}
use Rattle.rowtypes.specs.Elements.{Elements}
use Rattle.rowtypes.specs.Rows.{AcceptsFrom, AgreesWith, DecodeFails, ReadsFrom, ReadsKnown, all_tolerant, decoded_lengths, each_length, shown_from}
use Rattle.rowplan.specs.Law.{RowLaw}
use Rattle.rowplan.specs.declared.batch_plan.RowPolicy.TheVariants.{Dense}
use Rattle.rowloops.specs.Answers.{AttemptIs, StatesChecked}
use Rattle.rowloops.specs.Domain.{Domain}
use Rattle.rowloops.specs.declared.attempt.Attempt.{Attempt}
use Rattle.rowloops.specs.declared.attempt.Attempt.TheVariants.{Rejected, Values}
use Rattle.rowexec.specs.Counts.{runs_valid_only}
use Rattle.rowexec.specs.Evidence.{joined}
use Rattle.rowexec.specs.Reads.{ReadsFull}
use Rattle.rowexec.specs.Rows.{Accepted, full_cells, types_of}

-- each argument has row i, and none is null there
abbrev pub FullAt : ℕ → List Array → Type 0
FullAt i [] = ⊤
FullAt i (a ∷ arrays) = (i < len a) × IsSome (row a i) × FullAt i arrays

-- no argument is null at any row that runs
abbrev pub EachFull : List Array → Domain → Type 0
EachFull columns domain = (i : ℕ) → i < domain.width → domain.selected i ≡ true → FullAt i columns

-- ---- what a run rests on

-- the types are those of the columns, whose elements accept them; each column that isn't one value has the domain's rows; and rows with a null run only where the policy has them
pub record IsReady {E : Type 0} (law : RowLaw E) (types : List LogicalType) (columns : List Array) (domain : Domain) : Type 0 where
  pub types_are : types ≡ types_of columns
  pub accepted : AcceptsFrom law.arguments.accepts 0 columns
  pub asked : each_length domain.width (decoded_lengths columns) ≡ true
  pub runs : (runs_valid_only law.policy ≡ false) ⊎ EachFull columns domain

-- the cells of each row that runs are read: by dense safe elements, or since none is null
abbrev pub ReadsBy : Bool → List Array → Domain → Type 0
ReadsBy safe columns domain = (safe ≡ true) ⊎ EachFull columns domain

-- ---- decoded columns

-- each argument can be decoded with its nulls
abbrev pub is_tolerant : {E : Type 0} → RowLaw E → List Array → Bool
is_tolerant law columns = all_tolerant law.arguments.tolerant 0 columns

-- the columns can be decoded for the domain
abbrev pub decodes : {E : Type 0} → RowLaw E → List Array → Domain → Bool
decodes law columns domain = if domain.tolerant then is_tolerant law columns else true

-- what the arguments show at a row without a null are its cells
abbrev pub ShowsFull : (ℕ → Array → ℕ → Cell) → List Array → Type 0
ShowsFull shown columns = (i : ℕ) (cells : List Cell) → full_cells columns i ≡ Some cells → shown_from shown 0 columns i ≡ cells

-- decoded columns of these lengths show what the law's elements show, read the values that are known before a row is, and each row that runs
pub record DecodedOver {E : Type 0} (law : RowLaw E) (reads : ℕ → Cell → Type 0) (columns : List Array) (domain : Domain) (lengths : List (Option ℕ)) (shows : ℕ → List Cell) (known : List (Option Cell)) : Type 0 where
  pub asked : each_length domain.width lengths ≡ true
  pub same : (i : ℕ) → i < domain.width → shows i ≡ shown_from law.arguments.shown 0 columns i
  pub known_read : ReadsKnown reads 0 known
  pub rows_read : (i : ℕ) → i < domain.width → domain.selected i ≡ true → ReadsFrom reads 0 (shows i)
  pub full : ShowsFull law.arguments.shown columns
  pub read : ReadsFull law columns domain.width

-- ---- callbacks

-- a callback may be called with each row that is read, where it is lent what was prepared of the known cells, which are those of the row
abbrev pub Callable : {K X P F : Type 0} → Elements → (K → List (Option Cell)) → (X → List Cell) → (K → Result P F → Type 0) → (Bor P → X → Type 0) → Type 0
Callable {K} {X} {P} elements known cells prepared pre =
    (k : K) (p : P) (q : Bor P) (e : X) → ReadsKnown elements.reads 0 (known k) → prepared k (Ok p) → q.now ≡ p
    → ReadsFrom elements.reads 0 (cells e) → AgreesWith (known k) (cells e) → pre q e

-- an answer of such a call
pub record Called {K X P F R : Type 0} (elements : Elements) (known : K → List (Option Cell)) (cells : X → List Cell) (prepared : K → Result P F → Type 0) (post : Bor P → X → R → Type 0) (e : X) (answer : R) : Type 0 where
  pub of : K
  pub value : P
  pub lent : Bor P
  pub known_read : ReadsKnown elements.reads 0 (known of)
  pub is_prepared : prepared of (Ok value)
  pub is_lent : lent.now ≡ value
  pub read : ReadsFrom elements.reads 0 (cells e)
  pub agrees : AgreesWith (known of) (cells e)
  pub answers : post lent e answer

-- ---- what a run leaves

-- rows of the storage type with joined evidence: the answer to what the arguments show at each row that runs stands at its place
pub record JoinedOver {E X R V : Type 0} (law : RowLaw E) (join : V → V → V) (neutral : V) (cells : X → List Cell) (states : R → Cell) (post : X → R × V → Type 0)
    (columns : List Array) (domain : Domain) (a : Array) (total : V) : Type 0 where
  pub stored : law.output.storage ≡ Some (dtype a)
  pub counted : len a ≡ domain.rows
  pub each : Joined join neutral domain.selected (λ i v. StatesChecked (λ e. cells e ≡ shown_from law.arguments.shown 0 columns i) post states (row a (domain.place i)) v) domain.width total
  pub full : ShowsFull law.arguments.shown columns
  pub read : ReadsFull law columns domain.width

-- the cells that the arguments show at a row that runs
abbrev pub selected_cells : (ℕ → Array → ℕ → Cell) → List Array → Domain → ℕ → Option (List Cell)
selected_cells shown columns domain i = if domain.selected i then Some (shown_from shown 0 columns i) else None

-- the evidence of the rows that run
abbrev pub evidence_over : {E : Type 0} → RowLaw E → List Array → Domain → E
evidence_over law columns domain = joined law.join law.neutral law.meaning (selected_cells law.arguments.shown columns domain) domain.width

-- rows of the storage type: at the place of each row that runs the outcome of what the arguments show there, which is accepted
pub record ColumnOver {E : Type 0} (law : RowLaw E) (columns : List Array) (domain : Domain) (a : Array) : Type 0 where
  pub stored : law.output.storage ≡ Some (dtype a)
  pub counted : len a ≡ domain.rows
  pub each : (i : ℕ) → i < domain.width → domain.selected i ≡ true → Accepted law (shown_from law.arguments.shown 0 columns i) (row a (domain.place i))
  pub full : ShowsFull law.arguments.shown columns
  pub read : ReadsFull law columns domain.width
  pub accepted : law.finish (evidence_over law columns domain) ≡ None

-- the evidence of the rows that run isn't accepted
pub record RejectedOver {E : Type 0} (law : RowLaw E) (columns : List Array) (domain : Domain) (error : RowError) : Type 0 where
  pub is_deferred : law.deferred ≡ true
  pub undense : law.policy ≢ Dense
  pub judged : law.finish (evidence_over law columns domain) ≡ Some error.0
  pub full : ShowsFull law.arguments.shown columns
  pub read : ReadsFull law columns domain.width

abbrev pub AttemptOver : {E : Type 0} → RowLaw E → List Array → Domain → Attempt → Type 0
AttemptOver law columns domain (Values a) = ColumnOver law columns domain a
AttemptOver law columns domain (Rejected error) = RejectedOver law columns domain error

-- what a run answered, and how often it called: it declines, before it calls anything, exactly where the columns can't be decoded for the domain; it calls `prepare` at most once; and it takes a step for each row that runs, and no other
pub record Ran {E X : Type 0} (law : RowLaw E) (columns : List Array) (domain : Domain) (Gives : X → Type 0) (answer : Result (Option X) Fault) (prepares steps : ℕ) : Type 0 where
  pub answered : MatchResult answer (λ o. MatchOption o ((prepares ≡ 0) × (steps ≡ 0)) Gives) (DecodeFails law.arguments.reads 0 columns)
  pub declines : IfOk answer (λ o. is_some o ≡ decodes law columns domain)
  pub prepared : prepares ≤ 1
  pub most : steps ≤ domain.count
  pub least : IfOk answer (λ o. IfSome o (λ x. domain.count ≤ steps))

abbrev pub RanJoined : {E X R V : Type 0} → RowLaw E → (V → V → V) → V → (X → List Cell) → (R → Cell) → (X → R × V → Type 0) → List Array → Domain → Result (Option (Array × V)) Fault → ℕ → ℕ → Type 0
RanJoined law join neutral cells states post columns domain = Ran law columns domain (λ r. JoinedOver law join neutral cells states post columns domain r.0 r.1)

abbrev pub RanOver : {E : Type 0} → RowLaw E → List Array → Domain → Result (Option Attempt) Fault → ℕ → ℕ → Type 0
RanOver law columns domain = Ran law columns domain (AttemptOver law columns domain)

-- ---- what follows of an answer

-- the evidence is judged, where rows ran
abbrev pub JudgedAs : {V : Type 0} → (V → Result ⊤ RowError → Type 0) → Result (Option (Array × V)) Fault → Result (Option Attempt) Fault → Type 0
JudgedAs post (Ok (Some r)) answer = MatchResult answer (λ o. MatchOption o ⊥ (AttemptIs (post r.1) r.0)) (λ e. ⊥)
JudgedAs post (Ok None) answer = answer ≡ Ok None
JudgedAs post (Err e) answer = answer ≡ Err e

-- rejected evidence is a fault
abbrev pub Decides : Result (Option Attempt) Fault → Result (Option Array) Fault → Type 0
Decides (Ok (Some (Values a))) answer = answer ≡ Ok (Some a)
Decides (Ok (Some (Rejected error))) answer = answer ≡ Err (Row error)
Decides (Ok None) answer = answer ≡ Ok None
Decides (Err e) answer = answer ≡ Err e
