-- The laws of the usual kinds of row functions, each made from what is its own: its arguments, its output and the meaning of a row. That
-- they are lawful is proved here once, so that a function cites it in a line.
use Rattle.std.proofs.Common.{subst}
use Rattle.std.specs.Prelude.{◌≡◌, ◌||◌, ℕ, Bool, not, List, Option, None, Some, T, ⊤, map, refl}
pub use Rattle.std.specs.Prelude.{true, false}
use Rattle.bitlane.specs.declared.failure_evidence.NoFailure.{NoFailure}
use Rattle.coltypes.specs.Cell.{Cell}
use Rattle.coltypes.specs.LogicalType.{LogicalType}
use Rattle.rowtypes.specs.Elements.{Elements}
use Rattle.rowplan.specs.declared.batch_plan.RowPolicy.{RowPolicy}
use Rattle.rowplan.specs.Law.{Lawful, RowLaw}
use Rattle.rowplan.specs.Outcomes.{FinishLaws, done}

-- the texts that a constant of a module lists
abbrev pub texts_of : record { now : List (record { now : List ℕ }) } → List (List ℕ)
texts_of listed = map (λ text. text.now) listed.now

-- an output of this type, which is stored and shown, and holds this cell at rows that are skipped
pub record Stored : Type 0 where
  pub type : LogicalType
  pub placeholder : Cell

-- ---- functions that have a cell for each row

pub true_is_false : {P : Type 0} → true ≡ false → P
true_is_false h = absurd (subst T h tt)

pub false_is_true : {P : Type 0} → false ≡ true → P
false_is_true h = absurd (subst (λ (b : Bool). T (not b)) h tt)

-- the law of a function that has a cell for each row, of so many arguments
abbrev pub total : ℕ → Elements → RowPolicy → Stored → (List Cell → Cell) → RowLaw NoFailure
total arity arguments policy stored cell = record {
  arity = arity;
  accepts = true;
  arguments = arguments;
  output = record { storage = Some stored.type; label = None };
  room = λ n. true;
  placeholder = stored.placeholder;
  policy = policy;
  deferred = false;
  meaning = λ cells. done (cell cells) (record {});
  join = λ a b. a;
  neutral = record {};
  finish = λ e. None;
}

pub total_is_lawful : (arity : ℕ) (arguments : Elements) (policy : RowPolicy) (stored : Stored) (cell : List Cell
    → Cell) (infallible : Bool) → Lawful (total arity arguments policy stored cell) arity infallible (λ _. ⊤) (λ a b. a) (record {})
total_is_lawful arity arguments policy stored cell infallible = record {
  arity_is = refl;
  join_is = refl;
  neutral_is = refl;
  finish_laws = record { accepts_neutral = refl; accepts_parts = λ a b p q h. (refl, refl); accepts_join = λ a b p q h k. refl };
  room_falls = λ n m le h. refl;
  evidence_in_range = λ cells. tt;
  no_evidence = λ cells h. refl;
  no_error = λ cells h. tt;
  never_fails = λ cells h. refl;
}

-- ---- functions whose rows leave evidence of failures, which is joined and judged once

-- the law of a function that has a cell for each row, and evidence of its failures
abbrev pub by_evidence : {E : Type 0} → (E → E → E) → E → (E → Option ℕ) → ℕ → Elements → RowPolicy → Stored → (List Cell → Cell)
    → (List Cell → E) → RowLaw E
by_evidence join neutral finish arity arguments policy stored cell evidence = record {
  arity = arity;
  accepts = true;
  arguments = arguments;
  output = record { storage = Some stored.type; label = None };
  room = λ n. true;
  placeholder = stored.placeholder;
  policy = policy;
  deferred = true;
  meaning = λ cells. done (cell cells) (evidence cells);
  join = join;
  neutral = neutral;
  finish = finish;
}

pub evidence_is_lawful : {E : Type 0} {in_range : E → Type 0} {join : E → E → E} {neutral : E} {finish : E
    → Option ℕ} {arity : ℕ} {arguments : Elements} {policy : RowPolicy} {stored : Stored} {cell : List Cell → Cell} {evidence : List Cell
    → E}
    → FinishLaws E in_range join neutral finish → ((cells : List Cell) → in_range (evidence cells)) → Lawful (by_evidence join neutral finish arity arguments policy stored cell evidence) arity false in_range join neutral
evidence_is_lawful judges ranged = record {
  arity_is = refl;
  join_is = refl;
  neutral_is = refl;
  finish_laws = judges;
  room_falls = λ n m le h. refl;
  evidence_in_range = ranged;
  no_evidence = λ cells h. true_is_false h;
  no_error = λ cells h. tt;
  never_fails = λ cells h. false_is_true h;
}

-- the code, where some row failed
abbrev pub code_where : ℕ → Bool → Option ℕ
code_where code true = Some code
code_where code false = None

pub code_parts : (code : ℕ) (a b : Bool) → code_where code (a || b) ≡ None → (code_where code a ≡ None) × (code_where code b ≡ None)
code_parts code true true h = (h, h)
code_parts code true false h = (h, refl)
code_parts code false b h = (refl, h)

pub code_join : (code : ℕ) (a b : Bool) → code_where code a ≡ None → code_where code b ≡ None → code_where code (a || b) ≡ None
code_join code true b h k = h
code_join code false b h k = k

-- the law of a function that fails with one code where some row does: each row has a cell, and evidence of whether it failed
abbrev pub fails_with : ℕ → ℕ → Elements → RowPolicy → Stored → (List Cell → Cell) → (List Cell → Bool) → RowLaw Bool
fails_with code = by_evidence ◌||◌ false (code_where code)

pub fails_is_lawful : (code arity : ℕ) (arguments : Elements) (policy : RowPolicy) (stored : Stored) (cell : List Cell
    → Cell) (fails : List Cell → Bool) → Lawful (fails_with code arity arguments policy stored cell fails) arity false (λ _. ⊤) ◌||◌ false
fails_is_lawful code arity arguments policy stored cell fails =
    evidence_is_lawful (record { accepts_neutral = refl; accepts_parts = λ a b p q h. code_parts code a b h; accepts_join = λ a b p q h k. code_join code a b h k }) (λ cells. tt)
