-- What the generated columns hold, and that their sums never fail.
use Rattle.std.proofs.Common.{◌≡◌, ◌∙◌, ℕ, ℤ, pos, zero, suc, ◌+◌, ◌*◌, ◌%◌, ◌<◌, ◌≤◌, ◌^◌, ◌==◌, ◌+ℤ◌, Bool, true, false, not, ◌||◌, List, [], ◌∷◌, Option, Some, None, Result, Ok, Err, refl, ap, sym, subst, arith, get_or, length, inl, inr, option_map, lt-ltb, eq-eqb}
use Rattle.std.specs.Prelude.{IfErr, if◌then◌else◌, IfSome, nat_lt, ◌⊎◌}
use Rattle.std.proofs.Math.Nat.{mod-lt}
use Rattle.bitlane.specs.Bits.{tabulate}
use Rattle.bitlane.proofs.Tables.{length-tabulate, get_or-tabulate}
use Rattle.colbase.specs.Arrays.{Array, MustRead, len, row}
use Rattle.coltypes.specs.Cell.{Cell, number}
use Rattle.coltypes.specs.LogicalType.{primitive}
use Rattle.coltypes.specs.declared.dtype.PType.TheVariants as ptype
use Rattle.coltypes.specs.declared.dtype.Nullability.TheVariants.{Nullable}
use Rattle.coltypes.specs.declared.fault.Fault.{Fault}
use Rattle.coltypes.specs.declared.fault.Fault.TheVariants.{InputLength, Layout, Memory}
use Rattle.coltypes.specs.declared.fault.LayoutFault.TheVariants as layout
use Rattle.coltypes.specs.declared.validity.Validity.TheVariants as validity
use Rattle.colbase.specs.Faults.{Builds}
use Rattle.coltypes.specs.Checks.{length_check}
use Rattle.rowelems.specs.Reading.{IsNumberOf}
use Rattle.rowtypes.specs.Rows.{first_refused}
use Rattle.rowplan.specs.Constructors.{code_where, true_is_false}
use Rattle.rowexec.specs.Evidence.{RowsFail, joined, joined_with}
use Rattle.rowexec.specs.Reads.{UnreadAt}
use Rattle.rowexec.specs.Rows.{full_cells, types_of, with_cell, wrong_length}
use Rattle.rowsample.specs.Functions.{checked_adds, exact_sum, is_outside}
use Rattle.rowrun.specs.Generator.{IsSmall, generated, generated_column, is_null_in, is_valid_in, left, right, stored_in, sum_at}
use Rattle.rowrun.specs.Results.{CauseOf}
use Rattle.rowrun.specs.declared.batch.Call.TheVariants.{CheckedAdd}
use Rattle.rowrun.specs.declared.generator.column.Pattern.{Pattern}

-- ---- cells

-- the cell of a row by its pattern
abbrev pub cell_in : Pattern → ℕ → Option Cell
cell_in p i = if is_valid_in p i then Some (number (stored_in p i)) else None

pub row_is : (p : Pattern) (n i : ℕ) → i < n → row (generated_column p n) i ≡ cell_in p i
row_is p n i within =
    ap (λ (valid : Bool). if valid then Some (number (get_or (tabulate (stored_in p) n) i (pos 0))) else None) (get_or-tabulate (is_valid_in p) n i false within)
    ∙ ap (λ (z : ℤ). if is_valid_in p i then Some (number z) else None) (get_or-tabulate (stored_in p) n i (pos 0) within)

-- a number from 0 to below the limit
record IsBelow (limit : ℕ) (z : ℤ) : Type 0 where
  size : ℕ
  is : z ≡ pos size
  below : size < limit

-- the cell is null, or a number below the limit
abbrev CellBelow : ℕ → Option Cell → Type 0
CellBelow limit c = (c ≡ None) ⊎ ((z : ℤ) × (c ≡ Some (number z)) × IsBelow limit z)

by_null : (null : Bool) (z stored : ℤ) (limit : ℕ) → IsBelow limit z → CellBelow limit (if not null then Some (number (if null then stored else z)) else None)
by_null true z stored limit below = inl refl
by_null false z stored limit below = inr (z, refl, below)

cell_below : (p : Pattern) (i : ℕ) → 0 < p.modulus → CellBelow p.modulus (cell_in p i)
cell_below p i some = by_null (is_null_in p i) (pos ((p.step * i) % p.modulus)) p.under_null p.modulus (record { size = (p.step * i) % p.modulus; is = refl; below = mod-lt (p.step * i) some })

-- the sum of two cells, where neither is null
abbrev SmallSum : Option (List Cell) → Type 0
SmallSum cells = (cells ≡ None) ⊎ ((xs : List Cell) × (cells ≡ Some xs) × IsSmall (exact_sum xs))

both_small : (a b : Option Cell) (y z : ℤ) → a ≡ Some (number y) → b ≡ Some (number z) → IsBelow 1000 y → IsBelow 97 z → SmallSum (with_cell a (with_cell b (Some [])))
both_small a b y z first second low high =
    inr (
      number y ∷ number z ∷ [],
      ap (λ (c : Option Cell). with_cell c (with_cell b (Some []))) first ∙ ap (λ (c : Option Cell). with_cell (Some (number y)) (with_cell c (Some []))) second,
      record { size = low.size + high.size; is = ap (λ (x : ℤ). x +ℤ z) low.is ∙ ap (λ (x : ℤ). pos low.size +ℤ x) high.is; small = omega (arith, low.below, high.below) },
    )

small_of : (a b : Option Cell) → CellBelow 1000 a → CellBelow 97 b → SmallSum (with_cell a (with_cell b (Some [])))
small_of a b (inl none) second = inl (ap (λ (c : Option Cell). with_cell c (with_cell b (Some []))) none)
small_of a b (inr (y, is, low)) (inl none) = inl (ap (λ (c : Option Cell). with_cell c (with_cell b (Some []))) is ∙ ap (λ (c : Option Cell). with_cell (Some (number y)) (with_cell c (Some []))) none)
small_of a b (inr (y, is, low)) (inr (z, so, high)) = both_small a b y z is so low high

cells_small : (n i : ℕ) → i < n → SmallSum (full_cells (generated n) i)
unfolding generated
cells_small n i within =
    let some : 0 < 1000 = omega arith in
    let some_too : 0 < 97 = omega arith in
    small_of (row (generated_column left n) i) (row (generated_column right n) i)
    (subst (CellBelow 1000) (sym (row_is left n i within)) (cell_below left i some))
    (subst (CellBelow 97) (sym (row_is right n i within)) (cell_below right i some_too))

sum_small : (cells : Option (List Cell)) → SmallSum cells → IfSome (option_map exact_sum cells) IsSmall
sum_small cells (inl none) = subst (λ (c : Option (List Cell)). IfSome (option_map exact_sum c) IsSmall) (sym none) tt
sum_small cells (inr (xs, is, small)) = subst (λ (c : Option (List Cell)). IfSome (option_map exact_sum c) IsSmall) (sym is) small

pub small_sums : (n i : ℕ) → i < n → IfSome (sum_at n i) IsSmall
small_sums n i within = sum_small (full_cells (generated n) i) (cells_small n i within)

-- ---- no row fails

small_inside : (z : ℤ) → IsSmall z → is_outside z ≡ false
small_inside z small = ap is_outside small.is ∙ ap not (lt-ltb small.size (2 ^ 63) (omega (arith, small.small)))

evidence_more : (total : Bool) (cells : Option (List Cell)) → total ≡ false → SmallSum cells → joined_with ◌||◌ false checked_adds.meaning total cells ≡ false
evidence_more total cells so (inl none) = ap (joined_with ◌||◌ false checked_adds.meaning total) none ∙ so
evidence_more total cells so (inr (xs, is, small)) =
    ap (joined_with ◌||◌ false checked_adds.meaning total) is ∙ ap (λ (b : Bool). b || is_outside (exact_sum xs)) so ∙ small_inside (exact_sum xs) small

no_evidence : (n k : ℕ) → k ≤ n → joined ◌||◌ false checked_adds.meaning (full_cells (generated n)) k ≡ false
no_evidence n zero within = refl
no_evidence n (suc k) within = evidence_more _ _ (no_evidence n k (omega (arith, within))) (cells_small n k (omega (arith, within)))

no_row_fails : (n : ℕ) (e : Fault) → RowsFail checked_adds (generated n) n e → e ≡ Memory
no_row_fails n e fails =
    let none : code_where 1 (joined ◌||◌ false checked_adds.meaning (full_cells (generated n)) n) ≡ None = ap (code_where 1) (no_evidence n n (omega arith)) in
    let impossible : ◌≡◌ {A = Option ℕ} None (Some fails.code) = sym none ∙ fails.judged in absurd (cc)

-- ---- each cell is read

cell_read : (c : Option Cell) (limit : ℕ) (x : Cell) → limit ≤ 1000 → CellBelow limit c → c ≡ Some x → IsNumberOf ptype.I64 x
cell_read c limit x low (inl none) is = let impossible : ◌≡◌ {A = Option Cell} None (Some x) = sym none ∙ is in absurd (cc)
cell_read c limit x low (inr (z, is, below)) same =
    let cell : number z ≡ x = cc in
    let inside : nat_lt below.size (2 ^ 63) ≡ true = lt-ltb below.size (2 ^ 63) (omega (arith, below.below, low)) in
    subst (IsNumberOf ptype.I64) (ap number (sym below.is) ∙ cell) inside

each_read : (p : Pattern) (n : ℕ) (x : Cell) → 0 < p.modulus → p.modulus ≤ 1000 → MustRead (generated_column p n) x → IsNumberOf ptype.I64 x
each_read p n x some low (inl (i, within, is)) =
    let inside : i < n = subst (λ (k : ℕ). i < k) (length-tabulate (stored_in p) n) within in
    cell_read (cell_in p i) p.modulus x low (cell_below p i some) (sym (row_is p n i inside) ∙ is)
each_read p n x some low (inr (within, is)) = let impossible : ◌≡◌ {A = Option Cell} None (Some x) = is in absurd (cc)

none_unread : (n j : ℕ) → UnreadAt checked_adds.arguments.reads 0 (generated n) j → ⊥
unfolding generated
none_unread n j (inl (is, unread)) =
    let some : 0 < 1000 = omega arith in
    let low : 1000 ≤ 1000 = omega arith in
    unread.unread (each_read left n unread.cell some low unread.must)
none_unread n j (inr (inl (is, unread))) =
    let some : 0 < 97 = omega arith in
    let low : 97 ≤ 1000 = omega arith in
    unread.unread (each_read right n unread.cell some low unread.must)
none_unread n j (inr (inr never)) = never

-- ---- the columns fit the call

-- a validity array of as many rows is built, unless memory runs out
pub built_or_memory : (a : Array) (r : Result Array Fault) (marks : List Bool) (n : ℕ) → length marks ≡ n → Builds r (length_check (validity.Array marks) n) a → IfErr r (λ e. e ≡ Memory)
built_or_memory a (Ok b) marks n same builds = tt
built_or_memory a (Err e) marks n same (inl is) = is
built_or_memory a (Err e) marks n same (inr told) =
    let passes : length_check (validity.Array marks) n ≡ None = ap (λ (b : Bool). if b then None else Some (layout.Length n (length marks))) (eq-eqb (length marks) n same) in
    let impossible : ◌≡◌ {A = Option Fault} None (Some e) = sym (ap (option_map Layout) passes) ∙ told in
    absurd (cc)

each_counted : (n : ℕ) → wrong_length n 0 (generated n) ≡ None
unfolding generated
each_counted n =
    let first : (len (generated_column left n) == n) ≡ true = ap (λ (k : ℕ). k == n) (length-tabulate (stored_in left) n) ∙ eq-eqb n n refl in
    let second : (len (generated_column right n) == n) ≡ true = ap (λ (k : ℕ). k == n) (length-tabulate (stored_in right) n) ∙ eq-eqb n n refl in
    ap (λ (b : Bool). if b then wrong_length n 1 (generated_column right n ∷ []) else Some (InputLength 0 (len (generated_column left n)) n)) first
    ∙ ap (λ (b : Bool). if b then None else Some (InputLength 1 (len (generated_column right n)) n)) second

pub types_are : (n : ℕ) → types_of (generated n) ≡ primitive ptype.I64 Nullable ∷ primitive ptype.I64 Nullable ∷ []
unfolding generated
types_are n = refl

types_taken : (n k : ℕ) → first_refused checked_adds.arguments.accepts 0 (types_of (generated n)) ≡ Some k → ⊥
unfolding generated
types_taken n k refused = let impossible : ◌≡◌ {A = Option ℕ} None (Some k) = refused in absurd (cc)

two_columns : (n : ℕ) → length (generated n) ≡ 2
unfolding generated
two_columns n = refl

-- Of the causes of a fault only want of memory can hold.
pub memory_alone : (n : ℕ) (e : Fault) → CauseOf CheckedAdd n (generated n) e → e ≡ Memory
memory_alone n e (inl (inl (many, is))) = absurd (many (two_columns n))
memory_alone n e (inl (inr (many, wrong))) = let impossible : ◌≡◌ {A = Option Fault} None (Some e) = sym (each_counted n) ∙ wrong in absurd (cc)
memory_alone n e (inr (fits, inl is)) = is
memory_alone n e (inr (fits, inr (inl (inl (refused, is))))) = true_is_false refused
memory_alone n e (inr (fits, inr (inl (inr (taken, inl refused))))) = absurd (types_taken n refused.place refused.first)
memory_alone n e (inr (fits, inr (inl (inr (taken, inr disorder))))) = absurd (disorder.out_of_order (refl, tt))
memory_alone n e (inr (fits, inr (inr (planned, inl is)))) = is
memory_alone n e (inr (fits, inr (inr (planned, inr (unsettled, inl (inl is)))))) = is
memory_alone n e (inr (fits, inr (inr (planned, inr (unsettled, inl (inr names)))))) = absurd (none_unread n names.place names.unread)
memory_alone n e (inr (fits, inr (inr (planned, inr (unsettled, inr fails))))) = no_row_fails n e fails.judged
