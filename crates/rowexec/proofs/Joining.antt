-- Evidence that a loop joined is that of the rows that ran.
use Rattle.std.proofs.Common.{◌≡◌, ◌≢◌, ◌∙◌, ℕ, ◌<◌, Bool, true, false, List, Option, None, Some, ap, sym, subst, arith, refl, inl, inr}
use Rattle.std.specs.Prelude.{◌⊎◌, is_some}
use Rattle.std.proofs.lemmas.Bool.{cases_eq}
use Rattle.bitlane.specs.Evidence.{JoinLaws}
use Rattle.bitlane.specs.Maps.{Joined, none, more, skip}
use Rattle.coltypes.specs.Cell.{Cell}
use Rattle.rowplan.specs.Law.{Lawful, RowLaw}
use Rattle.rowplan.specs.Outcomes.{EvidenceIs, FinishLaws, Outcome, done}
use Rattle.rowloops.specs.Answers.{StatesChecked}
use Rattle.rowexec.specs.Evidence.{joined, joined_with}
use Rattle.rowexec.specs.Rows.{Accepted}
use Rattle.rowexec.proofs.Laws.{joined_as}

-- the row has cells, whose outcome is the cell of the answer's row and this evidence
pub record RowOutcome {E : Type 0} (meaning : List Cell → Outcome E) (cells : Option (List Cell)) (row : Option Cell) (evidence : E) : Type 0 where
  pub of : List Cell
  pub cell : Cell
  pub cells_are : cells ≡ Some of
  pub outcome_is : meaning of ≡ done cell evidence
  pub is : row ≡ Some cell

-- a join stays one where each value that is at a selected index by P is there by Q
pub selected_map : {E : Type 0} (join : E → E → E) (neutral : E) (selected : ℕ → Bool) (P Q : ℕ → E → Type 0) (n : ℕ) (total : E)
    → ((i : ℕ) (v : E) → i < n → selected i ≡ true → P i v → Q i v) → Joined join neutral selected P n total → Joined join neutral selected Q n total
selected_map join neutral selected P Q n total h none = none
selected_map join neutral selected P Q n total h (more {n = m} j s at) = more (selected_map join neutral selected P Q m _ (λ i v lt. h i v (omega arith)) j) s (h m _ (omega arith) s at)
selected_map join neutral selected P Q n total h (skip {n = m} j s) = skip (selected_map join neutral selected P Q m _ (λ i v lt. h i v (omega arith)) j) s

with_row : {E : Type 0} (join : E → E → E) (neutral : E) (meaning : List Cell → Outcome E) (cells : Option (List Cell)) (row : Option Cell) (before total v : E) → before ≡ total → RowOutcome meaning cells row v → join before v ≡ joined_with join neutral meaning total cells
with_row join neutral meaning cells row before total v e at = rw e (rw at.cells_are (rw at.outcome_is refl))

without_row : {E : Type 0} (join : E → E → E) (neutral : E) (meaning : List Cell → Outcome E) (cells : Option (List Cell)) (before total : E) → before ≡ total → is_some cells ≡ false → before ≡ joined_with join neutral meaning total cells
without_row join neutral meaning None before total e h = e
without_row join neutral meaning (Some cells) before total e h = absurd (cc)

-- the join is that of the rows that have cells
joined_total : {E : Type 0} (join : E → E → E) (neutral : E) (meaning : List Cell → Outcome E) (cells : ℕ → Option (List Cell)) (row : ℕ → Option Cell) (selected : ℕ → Bool) (n : ℕ) (total : E)
    → ((i : ℕ) → i < n → selected i ≡ is_some (cells i)) → Joined join neutral selected (λ i v. RowOutcome meaning (cells i) (row i) v) n total → total ≡ joined join neutral meaning cells n
joined_total join neutral meaning cells row selected n total same none = refl
joined_total join neutral meaning cells row selected n total same (more {n = m} {total = before} {v = v} j s at) =
    with_row join neutral meaning (cells m) (row m) before (joined join neutral meaning cells m) v (joined_total join neutral meaning cells row selected m before (λ i lt. same i (omega arith)) j) at
joined_total join neutral meaning cells row selected n total same (skip {n = m} {total = before} j s) =
    without_row join neutral meaning (cells m) before (joined join neutral meaning cells m) (joined_total join neutral meaning cells row selected m before (λ i lt. same i (omega arith)) j) (sym (same m (omega arith)) ∙ s)

row_in_range : {E : Type 0} (in_range : E → Type 0) (meaning : List Cell → Outcome E) (cells : Option (List Cell)) (row : Option Cell) (v : E) → ((of : List Cell) → EvidenceIs in_range (meaning of)) → RowOutcome meaning cells row v → in_range v
row_in_range {E} in_range meaning cells row v ranged at = subst (λ (o : Outcome E). EvidenceIs in_range o) at.outcome_is (ranged at.of)

total_in_range : {E : Type 0} (in_range : E → Type 0) (join : E → E → E) (neutral : E) (selected : ℕ → Bool) (At : ℕ → E → Type 0) (n : ℕ) (total : E) → JoinLaws E in_range join neutral → ((i : ℕ) (v : E) → At i v → in_range v) → Joined join neutral selected At n total → in_range total
total_in_range in_range join neutral selected At n total laws ranged none = laws.neutral_in_range
total_in_range in_range join neutral selected At n total laws ranged (more {n = m} {total = before} {v = v} j s at) = laws.stays_in_range before v (total_in_range in_range join neutral selected At m before laws ranged j) (ranged m v at)
total_in_range in_range join neutral selected At n total laws ranged (skip {n = m} {total = before} j s) = total_in_range in_range join neutral selected At m before laws ranged j

-- a value at the index, which is accepted
pub record AcceptedAt {E : Type 0} (finish : E → Option ℕ) (At : E → Type 0) : Type 0 where
  pub evidence : E
  pub at : At evidence
  pub accepted : finish evidence ≡ None

-- where the join is accepted, so is each value of it
each_accepted : {E : Type 0} (in_range : E → Type 0) (join : E → E → E) (neutral : E) (finish : E → Option ℕ) (selected : ℕ → Bool) (At : ℕ → E → Type 0) (n : ℕ) (total : E) → JoinLaws E in_range join neutral → FinishLaws E in_range join neutral finish → ((i : ℕ) (v : E) → At i v → in_range v)
    → Joined join neutral selected At n total → finish total ≡ None → (i : ℕ) → i < n → selected i ≡ true → AcceptedAt finish (At i)
each_accepted in_range join neutral finish selected At n total laws judges ranged none h i lt t = absurd (omega arith)
each_accepted {E} in_range join neutral finish selected At n total laws judges ranged (more {n = m} {total = before} {v = v} j s at) h i lt t =
    let parts = judges.accepts_parts before v (total_in_range in_range join neutral selected At m before laws ranged j) (ranged m v at) h in
    here_or_before (cases_eq i m) parts.1 (λ below. each_accepted in_range join neutral finish selected At m before laws judges ranged j parts.0 i below t)
  where
    here_or_before : (i ≡ m) ⊎ (i ≢ m) → finish v ≡ None → (i < m → AcceptedAt finish (At i)) → AcceptedAt finish (At i)
    here_or_before (inl e) q earlier = subst (λ (k : ℕ). AcceptedAt finish (At k)) (sym e) (record { evidence = v; at = at; accepted = q })
    here_or_before (inr ne) q earlier = earlier (omega arith)
each_accepted {E} in_range join neutral finish selected At n total laws judges ranged (skip {n = m} {total = before} j s) h i lt t =
    here_or_before (cases_eq i m) (λ below. each_accepted in_range join neutral finish selected At m before laws judges ranged j h i below t)
  where
    here_or_before : (i ≡ m) ⊎ (i ≢ m) → (i < m → AcceptedAt finish (At i)) → AcceptedAt finish (At i)
    here_or_before (inl e) earlier = absurd (cc (sym s, ap selected (sym e), t))
    here_or_before (inr ne) earlier = earlier (omega arith)

-- what the joined evidence of n rows says: whose it is, and of an accepted one that each row's is accepted
pub record JoinedRows {E : Type 0} (in_range : E → Type 0) (law : RowLaw E) (cells : ℕ → Option (List Cell)) (row : ℕ → Option Cell) (n : ℕ) (total : E) : Type 0 where
  pub is : total ≡ joined law.join law.neutral law.meaning cells n
  pub ranged : in_range total
  pub rows : law.finish total ≡ None → (i : ℕ) (of : List Cell) → i < n → cells i ≡ Some of → Accepted law of (row i)

same_cells : (o : Option (List Cell)) (a b : List Cell) → o ≡ Some a → o ≡ Some b → a ≡ b
same_cells o a b e h = cc (e, h)

accepted_row : {E : Type 0} (law : RowLaw E) (cells : Option (List Cell)) (row : Option Cell) (of : List Cell) → cells ≡ Some of → AcceptedAt law.finish (RowOutcome law.meaning cells row) → Accepted law of row
accepted_row law cells row of e a = record {
  cell = a.at.cell;
  evidence = a.evidence;
  is = a.at.is;
  outcome_is = ap law.meaning (same_cells cells of a.at.of e a.at.cells_are) ∙ a.at.outcome_is;
  accepted = a.accepted;
}

pub of_outcomes : {E : Type 0} (in_range : E → Type 0) (join : E → E → E) (neutral : E) (law : RowLaw E) (arity : ℕ) (infallible : Bool) (cells : ℕ → Option (List Cell)) (row : ℕ → Option Cell) (selected : ℕ → Bool) (n : ℕ) (total : E)
    → JoinLaws E in_range join neutral → Lawful law arity infallible in_range join neutral → ((i : ℕ) → i < n → selected i ≡ is_some (cells i))
    → Joined join neutral selected (λ i v. RowOutcome law.meaning (cells i) (row i) v) n total → JoinedRows in_range law cells row n total
of_outcomes {E} in_range join neutral law arity infallible cells row selected n total laws lawful same j =
    let At : ℕ → E → Type 0 = λ i v. RowOutcome law.meaning (cells i) (row i) v in
    let each_ranged : (i : ℕ) (v : E) → At i v → in_range v = λ i v at. row_in_range in_range law.meaning (cells i) (row i) v lawful.evidence_in_range at in
    record {
      is = joined_total join neutral law.meaning cells row selected n total same j ∙ joined_as cells n lawful;
      ranged = total_in_range in_range join neutral selected At n total laws each_ranged j;
      rows = λ accepted i of lt e. accepted_row law (cells i) (row i) of e (each_accepted in_range join neutral law.finish selected At n total laws lawful.finish_laws each_ranged j accepted i lt (same i lt ∙ ap is_some e));
    }

-- the cells of a row that has some
pub record HasCells (cells : Option (List Cell)) : Type 0 where
  pub of : List Cell
  pub is : cells ≡ Some of

pub some_cells : (cells : Option (List Cell)) → is_some cells ≡ true → HasCells cells
some_cells None h = absurd (cc)
some_cells (Some of) h = record { of = of; is = refl }

outcome_row : {X R E : Type 0} (meaning : List Cell → Outcome E) (cells_of : X → List Cell) (shows of : List Cell) (post : X → R × E → Type 0) (states : R → Cell) (cells : Option (List Cell)) (row : Option Cell) (v : E) → cells ≡ Some of → shows ≡ of
    → ((x : X) (r : R × E) → cells_of x ≡ shows → post x r → meaning (cells_of x) ≡ done (states r.0) r.1) → StatesChecked (λ x. cells_of x ≡ shows) post states row v → RowOutcome meaning cells row v
outcome_row meaning cells_of shows of post states cells row v e h agrees s = record {
  of = of;
  cell = states s.value;
  cells_are = e;
  outcome_is = ap meaning (sym (s.maps.stands ∙ h)) ∙ agrees s.maps.item (s.value, v) s.maps.stands s.maps.answer;
  is = s.is;
}

-- what a loop joined over the rows that have cells, from its callback's agreement with the meaning
pub joined_rows : {X R E : Type 0} {post : X → R × E → Type 0} (in_range : E → Type 0) (join : E → E → E) (neutral : E) (law : RowLaw E) (arity : ℕ) (infallible : Bool) (cells_of : X → List Cell) (shows : ℕ → List Cell) (states : R → Cell) (cells : ℕ → Option (List Cell)) (row : ℕ → Option Cell) (selected : ℕ → Bool) (n : ℕ) (total : E)
    → JoinLaws E in_range join neutral → Lawful law arity infallible in_range join neutral → ((i : ℕ) → i < n → selected i ≡ is_some (cells i))
    → ((i : ℕ) (of : List Cell) → i < n → cells i ≡ Some of → shows i ≡ of)
    → ((i : ℕ) → i < n → selected i ≡ true → (x : X) (r : R × E) → cells_of x ≡ shows i → post x r → law.meaning (cells_of x) ≡ done (states r.0) r.1)
    → Joined join neutral selected (λ i v. StatesChecked (λ x. cells_of x ≡ shows i) (λ x r. post x r) states (row i) v) n total → JoinedRows in_range law cells row n total
joined_rows {X} {R} {E} {post} in_range join neutral law arity infallible cells_of shows states cells row selected n total laws lawful same there agrees j =
    let Before : ℕ → E → Type 0 = λ i v. StatesChecked (λ x. cells_of x ≡ shows i) (λ x r. post x r) states (row i) v in
    let After : ℕ → E → Type 0 = λ i v. RowOutcome law.meaning (cells i) (row i) v in
    let step : (i : ℕ) (v : E) → i < n → selected i ≡ true → Before i v → After i v =
    λ i v lt t s.
    let has = some_cells (cells i) (sym (same i lt) ∙ t) in
    outcome_row law.meaning cells_of (shows i) has.of (λ x r. post x r) states (cells i) (row i) v has.is (there i has.of lt has.is) (agrees i lt t) s in
    of_outcomes in_range join neutral law arity infallible cells row selected n total laws lawful same (selected_map join neutral selected Before After n total step j)
