-- What each visit asks: that its elements and its output are those of the function's law, and that its callbacks compute the meaning.
use Rattle.std.specs.Prelude.{◌≡◌, ◌↔◌, ⊤, ℕ, List, length, Option, Some, true, refl, Result, Ok}
use Rattle.std.specs.Borrow.{Bor}
use Rattle.coltypes.specs.Cell.{Cell}
use Rattle.coltypes.specs.LogicalType.{LogicalType}
use Rattle.coltypes.specs.declared.fault.RowError.{RowError}
use Rattle.colbase.specs.Arrays.{Array}
use Rattle.rowtypes.specs.Elements.{Elements}
use Rattle.rowtypes.specs.Rows.{AgreesWith, ReadsFrom, ReadsKnown}
use Rattle.rowplan.specs.Law.{RowLaw}
use Rattle.rowplan.specs.Outcomes.{done, judged}

-- the elements of the visit, at each place, are those of the law, and there are as many types as arguments
pub record Selects {E : Type 0} (law : RowLaw E) (arity : ℕ) (elements : Elements) (types : List LogicalType) : Type 0 where
  pub arity_is : arity ≡ law.arity
  pub count : length types ≡ law.arity
  pub accepts : (k : ℕ) (t : LogicalType) → elements.accepts k t ≡ law.arguments.accepts k t
  pub reads : (k : ℕ) (c : Cell) → elements.reads k c ↔ law.arguments.reads k c
  pub shown : (k : ℕ) (a : Array) (i : ℕ) → elements.shown k a i ≡ law.arguments.shown k a i
  pub tolerant : (k : ℕ) (a : Array) → elements.tolerant k a ≡ law.arguments.tolerant k a

-- a visit over the law's own elements selects them
pub selects_own : {E : Type 0} (law : RowLaw E) (arity : ℕ) (types : List LogicalType) → arity ≡ law.arity → length types ≡ law.arity
    → Selects law arity law.arguments types
selects_own law arity types is count = record {
  arity_is = is;
  count = count;
  accepts = λ k t. refl;
  reads = λ k c. (λ h. h, λ h. h);
  shown = λ k a i. refl;
  tolerant = λ k a. refl;
}

-- what is stored is of the law's type, under the label that was told, and there is room for each number of rows
pub record Stores {E : Type 0} (law : RowLaw E) (type : LogicalType) (skipped : Cell) (told : Option LogicalType) : Type 0 where
  pub storage : law.output.storage ≡ Some type
  pub label : law.output.label ≡ told
  pub placeholder : skipped ≡ law.placeholder
  pub room : (n : ℕ) → law.room n ≡ true

-- a callback without a prepared value may be called with each row that is read, and gives its meaning, which leaves no evidence
pub record Computes {E X R : Type 0} (law : RowLaw E) (elements : Elements) (cells : X → List Cell) (states : R → Cell) (pre : X → Type 0) (post : X → R → Type 0) : Type 0 where
  pub callable : (e : X) → ReadsFrom elements.reads 0 (cells e) → pre e
  pub agrees : (e : X) (r : R) → ReadsFrom elements.reads 0 (cells e) → post e r → law.meaning (cells e) ≡ done (states r) law.neutral

-- the same, with the evidence that the row leaves
pub record Checks {E X R : Type 0} (law : RowLaw E) (elements : Elements) (cells : X → List Cell) (states : R → Cell) (pre : X → Type 0) (post : X → R × E → Type 0) : Type 0 where
  pub callable : (e : X) → ReadsFrom elements.reads 0 (cells e) → pre e
  pub agrees : (e : X) (r : R × E) → ReadsFrom elements.reads 0 (cells e) → post e r → law.meaning (cells e) ≡ done (states r.0) r.1

-- what `prepare` is given is what is known of the rows, where it is read
abbrev pub Prepares : {K : Type 0} → Elements → (K → List (Option Cell)) → (K → Type 0) → Type 0
Prepares {K} elements known pre = (k : K) → ReadsKnown elements.reads 0 (known k) → pre k

-- a callback that is lent what was prepared of the known cells, which are those of each row
pub record ComputesPrepared {E K X R P F : Type 0} (law : RowLaw E) (elements : Elements) (known : K → List (Option Cell)) (cells : X → List Cell) (states : R → Cell) (prepared : K → Result P F → Type 0) (pre : Bor P → X → Type 0) (post : Bor P → X → R → Type 0) : Type 0 where
  pub callable : (k : K) (p : P) (q : Bor P) (e : X) → ReadsKnown elements.reads 0 (known k) → prepared k (Ok p) → q.now ≡ p
      → ReadsFrom elements.reads 0 (cells e) → AgreesWith (known k) (cells e) → pre q e
  pub agrees : (k : K) (p : P) (q : Bor P) (e : X) (r : R) → ReadsKnown elements.reads 0 (known k) → prepared k (Ok p) → q.now ≡ p
      → ReadsFrom elements.reads 0 (cells e) → AgreesWith (known k) (cells e) → post q e r
      → law.meaning (cells e) ≡ done (states r) law.neutral

-- the same, with the evidence that the row leaves
pub record ChecksPrepared {E K X R P F : Type 0} (law : RowLaw E) (elements : Elements) (known : K → List (Option Cell)) (cells : X → List Cell) (states : R → Cell) (prepared : K → Result P F → Type 0) (pre : Bor P → X → Type 0) (post : Bor P → X → R × E → Type 0) : Type 0 where
  pub callable : (k : K) (p : P) (q : Bor P) (e : X) → ReadsKnown elements.reads 0 (known k) → prepared k (Ok p) → q.now ≡ p
      → ReadsFrom elements.reads 0 (cells e) → AgreesWith (known k) (cells e) → pre q e
  pub agrees : (k : K) (p : P) (q : Bor P) (e : X) (r : R × E) → ReadsKnown elements.reads 0 (known k) → prepared k (Ok p) → q.now ≡ p
      → ReadsFrom elements.reads 0 (cells e) → AgreesWith (known k) (cells e) → post q e r → law.meaning (cells e) ≡ done (states r.0) r.1

-- evidence in range is judged as the law's `finish` does
pub record Judges {E : Type 0} (law : RowLaw E) (in_range : E → Type 0) (pre : E → Type 0) (post : E → Result ⊤ RowError → Type 0) : Type 0 where
  pub callable : (v : E) → in_range v → pre v
  pub finishes : (v : E) (r : Result ⊤ RowError) → in_range v → post v r → r ≡ judged (law.finish v)
