-- Which of the cells that the arguments show at a row are read.
use Rattle.std.proofs.Common.{◌≡◌, ◌∙◌, ◌≢◌, ℕ, suc, ◌<◌, Bool, true, false, List, [], ◌∷◌, Option, None, Some, inl, inr, ap, refl, sym, subst, arith}
use Rattle.std.specs.Prelude.{◌↔◌, ◌⊎◌, IsSome, is_some, nat_lt}
use Rattle.rowtypes.proofs.Lengths.{has_row}
use Rattle.colbase.specs.Arrays.{Array, constant_cell, len, row}
use Rattle.coltypes.specs.Cell.{Cell}
use Rattle.rowtypes.specs.Arguments.{ShowsConstant, ShowsRow}
use Rattle.rowelems.specs.Argument.{IsWithin, ReadsAll, length_unless}
use Rattle.rowtypes.specs.Rows.{HasRow, ReadsAllFrom, ReadsFrom, decoded_lengths, each_length, shown_from}
use Rattle.rowelems.specs.Shown.{batch_value}
use Rattle.rowplan.specs.Law.{RowLaw}
use Rattle.rowplan.specs.Policies.{deferred_policy, owned_policy}
use Rattle.rowplan.specs.declared.batch_plan.RowPolicy.{RowPolicy}
use Rattle.rowplan.specs.declared.batch_plan.RowPolicy.TheVariants.{Dense}
use Rattle.rowexec.specs.Counts.{runs_valid_only}
use Rattle.rowexec.specs.Reads.{ReadsFull}
use Rattle.rowexec.specs.Rows.{EachHasRows, full_cells, with_cell}
use Rattle.rowexec.specs.RowRuns.{EachFull, FullAt, ReadsBy}
use Rattle.rowloops.specs.Domain.{Domain}
use Rattle.rowexec.proofs.FullRows.{constant_row, picked, shown_at, split}
use Rattle.rowexec.proofs.Known.{value_must_be_read}

shown_read : (reads : Cell → Type 0) (shown : Array → ℕ → Cell) → ShowsConstant shown → ShowsRow shown → (a : Array) (i : ℕ) (o : Option Cell) → row a i ≡ o → ReadsAll reads a → i < len a → IsSome o → reads (shown a i)
shown_read reads shown p q a i None e r h s = absurd (cc)
shown_read reads shown p q a i (Some c) e r h s = subst reads (sym (shown_at shown p q a i c (batch_value a) refl e)) (r c (inl (i, h, e)))

-- where no argument is null at a row, the cells shown there are read
full_reads : (reads : ℕ → Cell → Type 0) (shown : ℕ → Array → ℕ → Cell) → ((k : ℕ) → ShowsConstant (shown k)) → ((k : ℕ) → ShowsRow (shown k)) → (k : ℕ) (arrays : List Array) (i : ℕ) → ReadsAllFrom reads k arrays → FullAt i arrays → ReadsFrom reads k (shown_from shown k arrays i)
full_reads reads shown p q k [] i r f = tt
full_reads reads shown p q k (a ∷ arrays) i r f = (shown_read (reads k) (shown k) (p k) (q k) a i (row a i) refl r.0 f.0 f.1, full_reads reads shown p q (suc k) arrays i r.1 f.2)

-- so are cells that a decoded row shows there
pub full_row_reads : (reads : ℕ → Cell → Type 0) (shown : ℕ → Array → ℕ → Cell) → ((k : ℕ) → ShowsConstant (shown k)) → ((k : ℕ) → ShowsRow (shown k)) → (columns : List Array) (i : ℕ) (cells : List Cell) → cells ≡ shown_from shown 0 columns i → ReadsAllFrom reads 0 columns → FullAt i columns → ReadsFrom reads 0 cells
full_row_reads reads shown p q columns i cells e r f = subst (λ (c : List Cell). ReadsFrom reads 0 c) (sym e) (full_reads reads shown p q 0 columns i r f)

both_some : (o : Option Cell) (rest : Option (List Cell)) → is_some (with_cell o rest) ≡ true → IsSome o × (is_some rest ≡ true)
both_some (Some c) (Some cells) h = (refl, refl)
both_some (Some c) None h = absurd (cc)
both_some None rest h = absurd (cc)

-- a row whose cells are there is a full row
pub full_at : (n i : ℕ) (arrays : List Array) → EachHasRows n arrays → i < n → is_some (full_cells arrays i) ≡ true → FullAt i arrays
full_at n i [] e h f = tt
full_at n i (a ∷ arrays) e h f =
    let s = both_some (row a i) (full_cells arrays i) f in
    (omega (arith, e.0), s.0, full_at n i arrays e.1 h s.1)

full_has_cells : (i : ℕ) (arrays : List Array) → FullAt i arrays → is_some (full_cells arrays i) ≡ true
full_has_cells i [] h = refl
full_has_cells i (a ∷ arrays) h = are_some (row a i) (full_cells arrays i) h.1 (full_has_cells i arrays h.2)
  where
    are_some : (o : Option Cell) (rest : Option (List Cell)) → IsSome o → is_some rest ≡ true → is_some (with_cell o rest) ≡ true
    are_some (Some x) (Some xs) p q = refl
    are_some (Some x) None p q = absurd (cc)
    are_some None rest p q = absurd (cc)

-- a full row has cells
pub full_selected : (columns : List Array) (n : ℕ) → ((i : ℕ) → i < n → FullAt i columns) → (i : ℕ) → i < n → true ≡ is_some (full_cells columns i)
full_selected columns n full i h = sym (full_has_cells i columns (full i h))

-- where the policy has rows run that aren't full, the elements are dense safe
owned_safe : (policy : RowPolicy) (safe infallible : Bool) → runs_valid_only policy ≡ false → policy ≡ owned_policy safe infallible → safe ≡ true
owned_safe policy true infallible r e = refl
owned_safe policy false infallible r e =
    let k : false ≡ true = sym r ∙ ap runs_valid_only e in
    absurd (cc)

deferred_safe : (policy : RowPolicy) (safe infallible : Bool) → runs_valid_only policy ≡ false → policy ≡ deferred_policy safe infallible → safe ≡ true
deferred_safe policy true infallible r e = refl
deferred_safe policy false infallible r e =
    let k : false ≡ true = sym r ∙ ap runs_valid_only e in
    absurd (cc)

-- so the rows that run are read
pub owned_reads : (policy : RowPolicy) (safe infallible : Bool) (columns : List Array) (domain : Domain) → policy ≡ owned_policy safe infallible → (runs_valid_only policy ≡ false) ⊎ EachFull columns domain → ReadsBy safe columns domain
owned_reads policy safe infallible columns domain e (inl r) = inl (owned_safe policy safe infallible r e)
owned_reads policy safe infallible columns domain e (inr full) = inr full

pub deferred_reads : (policy : RowPolicy) (safe infallible : Bool) (columns : List Array) (domain : Domain) → policy ≡ deferred_policy safe infallible → (runs_valid_only policy ≡ false) ⊎ EachFull columns domain → ReadsBy safe columns domain
deferred_reads policy safe infallible columns domain e (inl r) = inl (deferred_safe policy safe infallible r e)
deferred_reads policy safe infallible columns domain e (inr full) = inr full

-- a visit with evidence never has all rows run whatever their nulls
pub never_dense : (policy : RowPolicy) (safe infallible : Bool) → policy ≡ deferred_policy safe infallible → policy ≢ Dense
never_dense policy true true e h = cc (e, h)
never_dense policy true false e h = cc (e, h)
never_dense policy false infallible e h = cc (e, h)

-- a cell of a row that isn't null is one that must be read: it is the value of a batch constant, or stands in a row that is there
cell_read : (reads : Cell → Type 0) (a : Array) (i : ℕ) (c : Cell) (o : Option Cell) → batch_value a ≡ o → IsWithin i (length_unless o (len a)) → ReadsAll reads a → row a i ≡ Some c → reads c
cell_read reads a i c None e within r h = r c (inl (i, within, h))
cell_read reads a i c (Some x) e within r h = subst reads (constant_row a i x c (picked (nat_lt 0 (len a)) (constant_cell a) x e) h) (r x (value_must_be_read a x e))

no_cells : (cells : List Cell) → Some [] ≡ Some cells → [] ≡ cells
no_cells cells e = cc e

-- so each cell of a row without a null is read
pub full_cells_read : (reads : ℕ → Cell → Type 0) (k : ℕ) (arrays : List Array) (i : ℕ) (cells : List Cell) → HasRow (decoded_lengths arrays) i → ReadsAllFrom reads k arrays → full_cells arrays i ≡ Some cells → ReadsFrom reads k cells
full_cells_read reads k [] i cells there r h = subst (ReadsFrom reads k) (no_cells cells h) tt
full_cells_read reads k (a ∷ arrays) i cells there r h =
    let s = split (row a i) (full_cells arrays i) cells h in
    subst (ReadsFrom reads k) (sym s.whole) (cell_read (reads k) a i s.first (batch_value a) refl there.0 r.0 s.here, full_cells_read reads (suc k) arrays i s.later there.1 r.1 s.there)

reads_law : (reads reads' : ℕ → Cell → Type 0) → ((k : ℕ) (c : Cell) → reads k c ↔ reads' k c) → (k : ℕ) (cells : List Cell) → ReadsFrom reads k cells → ReadsFrom reads' k cells
reads_law reads reads' same k [] h = tt
reads_law reads reads' same k (c ∷ cells) h = ((same k c).0 h.0, reads_law reads reads' same (suc k) cells h.1)

-- where the columns were decoded by elements that read what the law's read, each full row is read
pub reads_full : {E : Type 0} (law : RowLaw E) (reads : ℕ → Cell → Type 0) (columns : List Array) (n : ℕ) → ((k : ℕ) (c : Cell) → reads k c ↔ law.arguments.reads k c) → each_length n (decoded_lengths columns) ≡ true → ReadsAllFrom reads 0 columns → ReadsFull law columns n
reads_full law reads columns n same l r = λ i cells b h. reads_law reads law.arguments.reads same 0 cells (full_cells_read reads 0 columns i cells (has_row n (decoded_lengths columns) l i b) r h)
