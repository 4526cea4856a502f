-- Where rows fail: rejected evidence has a row that fails, and an answered column has none.
use Rattle.std.proofs.Common.{◌≡◌, ◌∙◌, ◌<◌, ℕ, zero, suc, Bool, List, Option, None, Some, arith, ap, refl, sym, subst}
use Rattle.bitlane.specs.Evidence.{JoinLaws}
use Rattle.colbase.specs.Arrays.{Array, row}
use Rattle.coltypes.specs.Cell.{Cell}
use Rattle.rowplan.specs.Law.{Lawful, RowLaw}
use Rattle.rowplan.specs.Outcomes.{FinishLaws, Outcome, done, failed}
use Rattle.rowexec.specs.Evidence.{FailingRow, OutcomeFails, evidence_of, joined, joined_with}
use Rattle.rowexec.specs.Rows.{Accepted, StrictRow, full_cells}
use Rattle.rowexec.proofs.JoinedRows.{evidence_within}
use Rattle.rowexec.proofs.Laws.{joins_lawfully, judges_lawfully}

-- evidence that isn't accepted is that of an outcome that fails
outcome_fails : {E : Type 0} (finish : E → Option ℕ) (neutral : E) (outcome : Outcome E) (code : ℕ) → finish (evidence_of neutral outcome) ≡ Some code → OutcomeFails finish outcome
outcome_fails finish neutral (done c e) code h = λ none. let impossible : ◌≡◌ {A = Option ℕ} None (Some code) = sym none ∙ h in absurd (cc)
outcome_fails finish neutral (failed k) code h = tt

one_more : {E : Type 0} (law : RowLaw E) (columns : List Array) (n : ℕ) → FailingRow law columns n → FailingRow law columns (suc n)
one_more law columns n f = record { place = f.place; below = omega (arith, f.below); cells = f.cells; full = f.full; fails = f.fails }

with_row_within : {E : Type 0} (in_range : E → Type 0) (law : RowLaw E) (total : E) (o : Option (List Cell)) → JoinLaws E in_range law.join law.neutral → ((cells : List Cell) → in_range (evidence_of law.neutral (law.meaning cells))) → in_range total → in_range (joined_with law.join law.neutral law.meaning total o)
with_row_within in_range law total None laws ranged before = before
with_row_within in_range law total (Some cells) laws ranged before = laws.stays_in_range total (evidence_of law.neutral (law.meaning cells)) before (ranged cells)

joined_within : {E : Type 0} (in_range : E → Type 0) (law : RowLaw E) (columns : List Array) → JoinLaws E in_range law.join law.neutral → ((cells : List Cell) → in_range (evidence_of law.neutral (law.meaning cells))) → (n : ℕ) → in_range (joined law.join law.neutral law.meaning (full_cells columns) n)
joined_within in_range law columns laws ranged zero = laws.neutral_in_range
joined_within in_range law columns laws ranged (suc n) = with_row_within in_range law (joined law.join law.neutral law.meaning (full_cells columns) n) (full_cells columns n) laws ranged (joined_within in_range law columns laws ranged n)

-- row n, whose own evidence is accepted or not, after rows whose evidence is accepted
by_own : {E : Type 0} (in_range : E → Type 0) (law : RowLaw E) (columns : List Array) (n code : ℕ) (total : E) (cells : List Cell) (own : Option ℕ) → FinishLaws E in_range law.join law.neutral law.finish → in_range total → in_range (evidence_of law.neutral (law.meaning cells))
    → full_cells columns n ≡ Some cells → law.finish (evidence_of law.neutral (law.meaning cells)) ≡ own → law.finish total ≡ None → law.finish (law.join total (evidence_of law.neutral (law.meaning cells))) ≡ Some code → FailingRow law columns (suc n)
by_own in_range law columns n code total cells None judges before here is own accepted rejected =
    let both = judges.accepts_join total (evidence_of law.neutral (law.meaning cells)) before here accepted own in
    let impossible : ◌≡◌ {A = Option ℕ} None (Some code) = sym both ∙ rejected in
    absurd (cc)
by_own in_range law columns n code total cells (Some k) judges before here is own accepted rejected = record {
  place = n;
  below = omega arith;
  cells = cells;
  full = is;
  fails = outcome_fails law.finish law.neutral (law.meaning cells) k own;
}

-- the rows before row n, whose evidence is accepted or not
by_total : {E : Type 0} (in_range : E → Type 0) (law : RowLaw E) (columns : List Array) (n code : ℕ) (total : E) (cells : List Cell) (before : Option ℕ) → FinishLaws E in_range law.join law.neutral law.finish → in_range total → in_range (evidence_of law.neutral (law.meaning cells))
    → ((k : ℕ) → law.finish total ≡ Some k → FailingRow law columns n) → full_cells columns n ≡ Some cells → law.finish total ≡ before → law.finish (law.join total (evidence_of law.neutral (law.meaning cells))) ≡ Some code → FailingRow law columns (suc n)
by_total in_range law columns n code total cells None judges ranged here earlier is before rejected =
    by_own in_range law columns n code total cells (law.finish (evidence_of law.neutral (law.meaning cells))) judges ranged here is refl before rejected
by_total in_range law columns n code total cells (Some k) judges ranged here earlier is before rejected = one_more law columns n (earlier k before)

by_row : {E : Type 0} (in_range : E → Type 0) (law : RowLaw E) (columns : List Array) (n code : ℕ) (total : E) (o : Option (List Cell)) → FinishLaws E in_range law.join law.neutral law.finish → in_range total → ((cells : List Cell) → in_range (evidence_of law.neutral (law.meaning cells)))
    → ((k : ℕ) → law.finish total ≡ Some k → FailingRow law columns n) → full_cells columns n ≡ o → law.finish (joined_with law.join law.neutral law.meaning total o) ≡ Some code → FailingRow law columns (suc n)
by_row in_range law columns n code total None judges ranged each earlier is rejected = one_more law columns n (earlier code rejected)
by_row in_range law columns n code total (Some cells) judges ranged each earlier is rejected = by_total in_range law columns n code total cells (law.finish total) judges ranged (each cells) earlier is refl rejected

-- where the joined evidence of the rows isn't accepted, some row fails
rejected_at : {E : Type 0} (in_range : E → Type 0) (law : RowLaw E) (columns : List Array) → JoinLaws E in_range law.join law.neutral → FinishLaws E in_range law.join law.neutral law.finish → ((cells : List Cell) → in_range (evidence_of law.neutral (law.meaning cells)))
    → (n code : ℕ) → law.finish (joined law.join law.neutral law.meaning (full_cells columns) n) ≡ Some code → FailingRow law columns n
rejected_at in_range law columns laws judges ranged zero code h = let impossible : ◌≡◌ {A = Option ℕ} None (Some code) = sym judges.accepts_neutral ∙ h in absurd (cc)
rejected_at in_range law columns laws judges ranged (suc n) code h =
    by_row in_range law columns n code (joined law.join law.neutral law.meaning (full_cells columns) n) (full_cells columns n) judges (joined_within in_range law columns laws ranged n) ranged (rejected_at in_range law columns laws judges ranged n) refl h

-- the same by the laws of a function
pub rejected_fails : {E : Type 0} {law : RowLaw E} {arity : ℕ} {infallible : Bool} {in_range : E → Type 0} {join : E → E → E} {neutral : E} (columns : List Array) (n code : ℕ) → Lawful law arity infallible in_range join neutral → JoinLaws E in_range join neutral
    → law.finish (joined law.join law.neutral law.meaning (full_cells columns) n) ≡ Some code → FailingRow law columns n
rejected_fails {E} {law} {in_range = in_range} columns n code lawful laws h =
    let own = joins_lawfully lawful laws in
    rejected_at in_range law columns own (judges_lawfully lawful) (λ cells. evidence_within in_range law.neutral (law.meaning cells) own.neutral_in_range (lawful.evidence_in_range cells)) n code h

evidence_same : {E : Type 0} (c d : Cell) (e f : E) → done c e ≡ done d f → e ≡ f
evidence_same c d e f h = cc

accepted_row : {E : Type 0} (law : RowLaw E) (cells : List Cell) (outcome : Outcome E) (r : Option Cell) → law.meaning cells ≡ outcome → Accepted law cells r → OutcomeFails law.finish outcome → ⊥
accepted_row law cells (done c e) r is a fails =
    let same : done c e ≡ done a.cell a.evidence = sym is ∙ a.outcome_is in
    fails (ap law.finish (evidence_same c a.cell e a.evidence same) ∙ a.accepted)
accepted_row law cells (failed code) r is a fails = let same : failed code ≡ done a.cell a.evidence = sym is ∙ a.outcome_is in absurd (cc)

strict_some : {E : Type 0} (law : RowLaw E) (o : Option (List Cell)) (cells : List Cell) (r : Option Cell) → o ≡ Some cells → StrictRow law o r → Accepted law cells r
strict_some law o cells r is h = subst (λ (p : Option (List Cell)). StrictRow law p r) is h

-- an answered column has no row that fails
pub none_fails : {E : Type 0} (law : RowLaw E) (columns : List Array) (n : ℕ) (a : Array) → ((i : ℕ) → i < n → StrictRow law (full_cells columns i) (row a i)) → FailingRow law columns n → ⊥
none_fails law columns n a rows f = accepted_row law f.cells (law.meaning f.cells) (row a f.place) refl (strict_some law (full_cells columns f.place) f.cells (row a f.place) f.full (rows f.place f.below)) f.fails
