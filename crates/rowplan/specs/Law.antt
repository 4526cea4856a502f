-- What a row function means at some options and types: one record of plain data, and the laws that a call over whole columns rests on.
use Rattle.std.specs.Prelude.{◌≡◌, ◌≤◌, ℕ, Bool, true, false, List, Option}
use Rattle.coltypes.specs.Cell.{Cell}
use Rattle.coltypes.specs.LogicalType.{LogicalType}
use Rattle.rowtypes.specs.Elements.{Elements}
use Rattle.rowplan.specs.declared.batch_plan.RowPolicy.{RowPolicy}
use Rattle.rowplan.specs.Outcomes.{EvidenceIs, FinishLaws, IsDone, NeverFails, Outcome}
use Rattle.rowplan.specs.Outputs.{Output}

-- arity: how many arguments there are
-- accepts: the function takes these options and types
-- arguments: which types the arguments may have, which cells are read, and what columns show
-- output: the type of what is stored, and of what is shown
-- room: the output holds this many rows
-- placeholder: the cell at rows that are skipped
-- policy: over which rows a run may go
-- deferred: failures are evidence, which is judged once for all rows
-- meaning: what a row of cells comes to
-- join, neutral: how the evidence of rows is joined, and what is joined of no rows
-- finish: the code of an error, where the evidence isn't accepted
pub record RowLaw (E : Type 0) : Type 1 where
  pub arity : ℕ
  pub accepts : Bool
  pub arguments : Elements
  pub output : Output
  pub room : ℕ → Bool
  pub placeholder : Cell
  pub policy : RowPolicy
  pub deferred : Bool
  pub meaning : List Cell → Outcome E
  pub join : E → E → E
  pub neutral : E
  pub finish : E → Option ℕ

-- there are as many arguments as names; the evidence is joined as its type joins it; no evidence is left where none is deferred, no error where some is, and no row fails where
-- the function is infallible
pub record Lawful {E : Type 0} (law : RowLaw E) (arity : ℕ) (infallible : Bool) (in_range : E → Type 0) (joins : E → E → E) (default : E) : Type 0 where
  pub arity_is : law.arity ≡ arity
  pub join_is : law.join ≡ joins
  pub neutral_is : law.neutral ≡ default
  pub finish_laws : FinishLaws E in_range joins default law.finish
  pub room_falls : (n m : ℕ) → m ≤ n → law.room n ≡ true → law.room m ≡ true
  pub evidence_in_range : (cells : List Cell) → EvidenceIs in_range (law.meaning cells)
  pub no_evidence : (cells : List Cell) → law.deferred ≡ false → EvidenceIs (λ e. e ≡ law.neutral) (law.meaning cells)
  pub no_error : (cells : List Cell) → law.deferred ≡ true → IsDone (law.meaning cells)
  pub never_fails : (cells : List Cell) → infallible ≡ true → NeverFails law.finish (law.meaning cells)

-- the same law, whose output is shown under a declared type
abbrev pub labelled : {E : Type 0} → Option LogicalType → RowLaw E → RowLaw E
labelled label law = record {
  arity = law.arity;
  accepts = law.accepts;
  arguments = law.arguments;
  output = record { storage = law.output.storage; label = label };
  room = law.room;
  placeholder = law.placeholder;
  policy = law.policy;
  deferred = law.deferred;
  meaning = law.meaning;
  join = law.join;
  neutral = law.neutral;
  finish = law.finish;
}

-- the same law, which takes options and types only where this is true
abbrev pub accepted_where : {E : Type 0} → Bool → RowLaw E → RowLaw E
accepted_where accepts law = record {
  arity = law.arity;
  accepts = accepts;
  arguments = law.arguments;
  output = law.output;
  room = law.room;
  placeholder = law.placeholder;
  policy = law.policy;
  deferred = law.deferred;
  meaning = law.meaning;
  join = law.join;
  neutral = law.neutral;
  finish = law.finish;
}

pub labelled_is_lawful : {E : Type 0} {law : RowLaw E} {arity : ℕ} {infallible : Bool} {r : E → Type 0} {j : E → E
    → E} {n : E} (label : Option LogicalType) → Lawful law arity infallible r j n → Lawful (labelled label law) arity infallible r j n
labelled_is_lawful label h = record {
  arity_is = h.arity_is;
  join_is = h.join_is;
  neutral_is = h.neutral_is;
  finish_laws = h.finish_laws;
  room_falls = h.room_falls;
  evidence_in_range = h.evidence_in_range;
  no_evidence = h.no_evidence;
  no_error = h.no_error;
  never_fails = h.never_fails;
}

pub accepted_is_lawful : {E : Type 0} {law : RowLaw E} {arity : ℕ} {infallible : Bool} {r : E → Type 0} {j : E → E
    → E} {n : E} (accepts : Bool) → Lawful law arity infallible r j n → Lawful (accepted_where accepts law) arity infallible r j n
accepted_is_lawful accepts h = record {
  arity_is = h.arity_is;
  join_is = h.join_is;
  neutral_is = h.neutral_is;
  finish_laws = h.finish_laws;
  room_falls = h.room_falls;
  evidence_in_range = h.evidence_in_range;
  no_evidence = h.no_evidence;
  no_error = h.no_error;
  never_fails = h.never_fails;
}
