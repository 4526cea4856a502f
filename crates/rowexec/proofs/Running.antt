-- From decoded columns, and the loop over them, to what a run over a domain leaves.
use Rattle.std.proofs.Common.{◌≡◌, ◌∙◌, ℕ, ◌<◌, ◌≤◌, Bool, true, false, List, Option, None, Some, Result, Ok, Err, ap, arith, inl, inr, refl, subst, sym}
use Rattle.std.specs.Prelude.{IfOk, IfErr, IfSome, MatchResult, is_some, if◌then◌else◌}
use Rattle.bitlane.specs.Evidence.{JoinLaws}
use Rattle.colbase.specs.Arrays.{Array, row}
use Rattle.coltypes.specs.Cell.{Cell}
use Rattle.coltypes.specs.LogicalType.{LogicalType}
use Rattle.coltypes.specs.declared.fault.Fault.{Fault}
use Rattle.coltypes.specs.declared.fault.Fault.TheVariants.{Memory}
use Rattle.rowtypes.specs.Arguments.{ShowsConstant, ShowsRow}
use Rattle.rowtypes.specs.Elements.{Elements}
use Rattle.rowtypes.specs.Rows.{DecodeFails, HasRow, ReadsAllFrom, ReadsFrom, ReadsKnown, batch_values, decoded_lengths, each_length, shown_from}
use Rattle.rowtypes.proofs.Lengths.{has_row}
use Rattle.rowplan.specs.Law.{Lawful, RowLaw}
use Rattle.rowplan.specs.Outcomes.{EvidenceIs, done}
use Rattle.rowplan.specs.Visits.{Selects}
use Rattle.rowloops.specs.Answers.{StatesChecked}
use Rattle.rowloops.specs.Domain.{Domain, RunsOver}
use Rattle.rowloops.proofs.CheckedRows.{checked_as}
use Rattle.rowloops.proofs.WrittenJoins.{joined_each}
use Rattle.rowexec.specs.RowRuns.{ColumnOver, DecodedOver, JoinedOver, Ran, ReadsBy, decodes, selected_cells}
use Rattle.rowexec.proofs.Batches.{shown_same}
use Rattle.rowexec.proofs.FullRows.{shown_full}
use Rattle.rowexec.proofs.Joining.{JoinedRows, joined_rows, selected_map}
use Rattle.rowexec.proofs.Known.{reads_known}
use Rattle.rowexec.proofs.Neutral.{joined_nothing}
use Rattle.rowexec.proofs.Reading.{full_row_reads, reads_full}

-- ---- decoding

pub decoded_over : {E : Type 0} (law : RowLaw E) (elements : Elements) (safe : Bool) (columns : List Array) (domain : Domain) (lengths : List (Option ℕ)) (shows : ℕ → List Cell) (known : List (Option Cell)) (arity : ℕ) (types : List LogicalType)
    → Selects law arity elements types → ((k : ℕ) → ShowsConstant (elements.shown k)) → ((k : ℕ) → ShowsRow (elements.shown k))
    → each_length domain.width (decoded_lengths columns) ≡ true → ReadsBy safe columns domain
    → lengths ≡ decoded_lengths columns → ((i : ℕ) → HasRow lengths i → shows i ≡ shown_from elements.shown 0 columns i) → known ≡ batch_values columns → ReadsAllFrom elements.reads 0 columns
    → (safe ≡ true → (i : ℕ) → HasRow lengths i → ReadsFrom elements.reads 0 (shows i))
    → DecodedOver law elements.reads columns domain lengths shows known
decoded_over law elements safe columns domain lengths shows known arity types selects constant rowwise asked by long same knows all dense =
    let fits : each_length domain.width lengths ≡ true = ap (each_length domain.width) long ∙ asked in
    let there : (i : ℕ) → i < domain.width → HasRow lengths i = λ i h. has_row domain.width lengths fits i h in
    let lawful : (i : ℕ) → shown_from elements.shown 0 columns i ≡ shown_from law.arguments.shown 0 columns i = λ i. shown_same elements.shown law.arguments.shown selects.shown 0 columns i in
    record {
      asked = fits;
      same = λ i h. same i (there i h) ∙ lawful i;
      known_read = subst (λ k. ReadsKnown elements.reads 0 k) (sym knows) (reads_known elements.reads 0 columns all);
      rows_read = λ i h s. elim by [
        | inl e ↦ dense e i (there i h)
        | inr full ↦ full_row_reads elements.reads elements.shown constant rowwise columns i (shows i) (same i (there i h)) all (full i h s)
      ];
      full = λ i cells h. sym (lawful i) ∙ shown_full elements.shown constant rowwise 0 columns i cells h;
      read = reads_full law elements.reads columns domain.width selects.reads asked all;
    }

-- the same under the answer that a call gave
pub decoded_if : {E C : Type 0} (law : RowLaw E) (elements : Elements) (safe : Bool) (columns : List Array) (domain : Domain) (lengths : C → List (Option ℕ)) (shows : C → ℕ → List Cell) (known : C → List (Option Cell)) (arity : ℕ) (types : List LogicalType) (r : Result (Option C) Fault)
    → Selects law arity elements types → ((k : ℕ) → ShowsConstant (elements.shown k)) → ((k : ℕ) → ShowsRow (elements.shown k))
    → each_length domain.width (decoded_lengths columns) ≡ true → ReadsBy safe columns domain
    → IfOk r (λ o. IfSome o (λ c. lengths c ≡ decoded_lengths columns))
    → IfOk r (λ o. IfSome o (λ c. (i : ℕ) → HasRow (lengths c) i → shows c i ≡ shown_from elements.shown 0 columns i))
    → IfOk r (λ o. IfSome o (λ c. known c ≡ batch_values columns)) → IfOk r (λ o. IfSome o (λ c. ReadsAllFrom elements.reads 0 columns))
    → IfOk r (λ o. IfSome o (λ c. safe ≡ true → (i : ℕ) → HasRow (lengths c) i → ReadsFrom elements.reads 0 (shows c i)))
    → IfOk r (λ o. IfSome o (λ c. DecodedOver law elements.reads columns domain (lengths c) (shows c) (known c)))
decoded_if law elements safe columns domain lengths shows known arity types (Ok (Some c)) selects constant rowwise asked by long same knows all dense =
    decoded_over law elements safe columns domain (lengths c) (shows c) (known c) arity types selects constant rowwise asked by long same knows all dense
decoded_if law elements safe columns domain lengths shows known arity types (Ok None) selects constant rowwise asked by long same knows all dense = tt
decoded_if law elements safe columns domain lengths shows known arity types (Err e) selects constant rowwise asked by long same knows all dense = tt

pub told_as : {C : Type 0} (r : Result (Option C) Fault) (b d : Bool) → b ≡ d → IfOk r (λ o. is_some o ≡ b) → IfOk r (λ o. is_some o ≡ d)
told_as r b d e h = subst (λ (x : Bool). IfOk r (λ o. is_some o ≡ x)) e h

-- ---- what a loop leaves

pub joined_over : {E X R V : Type 0} (law : RowLaw E) (join : V → V → V) (neutral : V) (cells : X → List Cell) (states : R → Cell) (post told : X → R × V → Type 0) (columns : List Array) (domain : Domain)
    (reads : ℕ → Cell → Type 0) (lengths : List (Option ℕ)) (shows : ℕ → List Cell) (known : List (Option Cell)) (stored : LogicalType) (r : Result (Array × V) Fault) (steps : ℕ)
    → law.output.storage ≡ Some stored → DecodedOver law reads columns domain lengths shows known
    → ((i : ℕ) (e : X) (b : R × V) → i < domain.width → domain.selected i ≡ true → cells e ≡ shows i → post e b → told e b)
    → RunsOver join neutral domain (λ i e. cells e ≡ shows i) post states stored r steps
    → IfOk r (λ b. JoinedOver law join neutral cells states told columns domain b.0 b.1)
joined_over {E} {X} {R} {V} law join neutral cells states post told columns domain reads lengths shows known stored (Ok b) steps hs decoded tells run =
    let Before : ℕ → V → Type 0 = λ i v. StatesChecked (λ e. cells e ≡ shows i) post states (row b.0 (domain.place i)) v in
    let After : ℕ → V → Type 0 = λ i v. StatesChecked (λ e. cells e ≡ shown_from law.arguments.shown 0 columns i) told states (row b.0 (domain.place i)) v in
    record {
      stored = hs ∙ ap Some (sym run.dtype);
      counted = run.len;
      each = selected_map join neutral domain.selected Before After domain.width b.1
          (λ i v h s at. checked_as (λ e. cells e ≡ shows i) (λ e. cells e ≡ shown_from law.arguments.shown 0 columns i) post told states (row b.0 (domain.place i)) v (λ e c k p. (k ∙ decoded.same i h, tells i e c h s k p)) at)
          run.each;
      full = decoded.full;
      read = decoded.read;
    }
joined_over law join neutral cells states post told columns domain reads lengths shows known stored (Err e) steps hs decoded tells run = tt

-- ---- what a run answers

pub ran_failed : {E X : Type 0} (law : RowLaw E) (columns : List Array) (domain : Domain) (Gives : X → Type 0) (answer : Result (Option X) Fault) (e : Fault) (prepares steps : ℕ)
    → answer ≡ Err e → prepares ≤ 1 → steps ≡ 0 → DecodeFails law.arguments.reads 0 columns e → Ran law columns domain Gives answer prepares steps
ran_failed law columns domain Gives (Ok o) e prepares steps is p s h = absurd (cc)
ran_failed law columns domain Gives (Err f) e prepares steps is p s h = record {
  answered = (let same : e ≡ f = cc in subst (DecodeFails law.arguments.reads 0 columns) same h);
  declines = tt;
  prepared = p;
  most = omega (arith, s);
  least = tt;
}

pub ran_declined : {E X : Type 0} (law : RowLaw E) (columns : List Array) (domain : Domain) (Gives : X → Type 0) (answer : Result (Option X) Fault) (prepares steps : ℕ)
    → answer ≡ Ok None → prepares ≡ 0 → steps ≡ 0 → false ≡ decodes law columns domain → Ran law columns domain Gives answer prepares steps
ran_declined law columns domain Gives (Ok None) prepares steps is p s h = record { answered = (p, s); declines = h; prepared = omega (arith, p); most = omega (arith, s); least = tt }
ran_declined law columns domain Gives (Ok (Some x)) prepares steps is p s h = absurd (cc)
ran_declined law columns domain Gives (Err e) prepares steps is p s h = absurd (cc)

-- a run whose loop went over the rows
pub ran_rows : {E X : Type 0} (law : RowLaw E) (columns : List Array) (domain : Domain) (Gives : X → Type 0) (told : Result X Fault) (told_steps : ℕ) (answer : Result (Option X) Fault) (prepares steps : ℕ)
    → true ≡ decodes law columns domain → IfOk told Gives → IfErr told (λ e. e ≡ Memory) → told_steps ≤ domain.count → IfOk told (λ x. domain.count ≤ told_steps)
    → MatchResult told (λ r. answer ≡ Ok (Some r)) (λ e. answer ≡ Err e) → prepares ≡ 1 → steps ≡ told_steps → Ran law columns domain Gives answer prepares steps
ran_rows {X = X} law columns domain Gives (Ok x) told_steps answer prepares steps decoded gives errors most least same p s =
    let Of : Result (Option X) Fault → Type 0 = λ r. Ran law columns domain Gives r prepares steps in
    subst Of (sym same) (record { answered = gives; declines = decoded; prepared = omega (arith, p); most = omega (arith, s, most); least = omega (arith, s, least) })
ran_rows {X = X} law columns domain Gives (Err e) told_steps answer prepares steps decoded gives errors most least same p s =
    let Of : Result (Option X) Fault → Type 0 = λ r. Ran law columns domain Gives r prepares steps in
    subst Of (sym same) (record { answered = inl errors; declines = tt; prepared = omega (arith, p); most = omega (arith, s, most); least = tt })

-- ---- evidence

-- the rows of a callback that leaves no evidence are all accepted
pub accepted_over : {E X R V : Type 0} (in_range : E → Type 0) (law : RowLaw E) (join : V → V → V) (neutral : V) (cells : X → List Cell) (states : R → Cell) (post : X → R × V → Type 0) (columns : List Array) (domain : Domain) (a : Array) (total : V)
    → JoinLaws E in_range law.join law.neutral → law.finish law.neutral ≡ None → ((of : List Cell) → EvidenceIs (λ e. e ≡ law.neutral) (law.meaning of))
    → ((e : X) (b : R × V) → post e b → law.meaning (cells e) ≡ done (states b.0) law.neutral)
    → JoinedOver law join neutral cells states post columns domain a total → ColumnOver law columns domain a
accepted_over {V = V} in_range law join neutral cells states post columns domain a total laws accepts quiet agrees j =
    let IsAt : ℕ → V → Type 0 = λ i v. StatesChecked (λ e. cells e ≡ shown_from law.arguments.shown 0 columns i) post states (row a (domain.place i)) v in
    record {
      stored = j.stored;
      counted = j.counted;
      each = λ i h s.
          let at = joined_each join neutral domain.selected IsAt domain.width total j.each i h s in
          let found = at.there in
          record {
            cell = states found.value;
            evidence = law.neutral;
            is = found.is;
            outcome_is = ap law.meaning (sym found.maps.stands) ∙ agrees found.maps.item (found.value, at.evidence) found.maps.answer;
            accepted = accepts;
          };
      full = j.full;
      read = j.read;
      accepted = ap law.finish (joined_nothing in_range law.join law.neutral law.meaning (selected_cells law.arguments.shown columns domain) domain.width laws quiet) ∙ accepts;
    }

is_selected : (shown : ℕ → Array → ℕ → Cell) (columns : List Array) (domain : Domain) (i : ℕ) (b : Bool) → domain.selected i ≡ b → domain.selected i ≡ is_some (selected_cells shown columns domain i)
is_selected shown columns domain i true e = rw e refl
is_selected shown columns domain i false e = rw e refl

shows_selected : (shown : ℕ → Array → ℕ → Cell) (columns : List Array) (domain : Domain) (i : ℕ) (of : List Cell) (b : Bool) → domain.selected i ≡ b → selected_cells shown columns domain i ≡ Some of → shown_from shown 0 columns i ≡ of
shows_selected shown columns domain i of true e h =
    let there : ◌≡◌ {A = Option (List Cell)} (Some (shown_from shown 0 columns i)) (Some of) = subst (λ (b : Bool). (if b then Some (shown_from shown 0 columns i) else None) ≡ Some of) e h in
    cc there
shows_selected shown columns domain i of false e h =
    let there : ◌≡◌ {A = Option (List Cell)} None (Some of) = subst (λ (b : Bool). (if b then Some (shown_from shown 0 columns i) else None) ≡ Some of) e h in
    absurd (cc)

-- what a loop joined is the evidence of the rows that ran
pub evidence_joined : {E X R : Type 0} {post : X → R × E → Type 0} (in_range : E → Type 0) (join : E → E → E) (neutral : E) (law : RowLaw E) (arity : ℕ) (infallible : Bool) (cells : X → List Cell) (states : R → Cell) (columns : List Array) (domain : Domain) (a : Array) (total : E)
    → JoinLaws E in_range join neutral → Lawful law arity infallible in_range join neutral
    → ((e : X) (b : R × E) → post e b → law.meaning (cells e) ≡ done (states b.0) b.1)
    → JoinedOver law join neutral cells states (λ e b. post e b) columns domain a total
    → JoinedRows in_range law (selected_cells law.arguments.shown columns domain) (λ i. row a (domain.place i)) domain.width total
evidence_joined {post = post} in_range join neutral law arity infallible cells states columns domain a total laws lawful agrees j =
    let shown = law.arguments.shown in
    joined_rows {post = post} in_range join neutral law arity infallible cells (λ i. shown_from shown 0 columns i) states (selected_cells shown columns domain) (λ i. row a (domain.place i)) domain.selected domain.width total laws lawful
    (λ i h. is_selected shown columns domain i (domain.selected i) refl)
    (λ i of h e. shows_selected shown columns domain i of (domain.selected i) refl e)
    (λ i h s x b k p. agrees x b p)
    j.each
