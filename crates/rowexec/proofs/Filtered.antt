-- Columns that are filtered to the marked rows.
use Rattle.std.proofs.Common.{◌≡◌, ◌∙◌, ℕ, zero, suc, ◌<◌, Bool, true, false, List, [], ◌∷◌, ◌++◌, length, get_or, Option, None, Result, arith, inl, inr, refl, ap, sym, subst}
use Rattle.std.specs.Prelude.{is_some}
use Rattle.bitlane.specs.Bits.{bit}
use Rattle.bitlane.proofs.Tables.{get_or-tabulate, length-tabulate}
use Rattle.colbase.specs.Arrays.{Array, len, row, rows}
use Rattle.coltypes.specs.Cell.{Cell}
use Rattle.colbase.specs.Selects.{Filters}
use Rattle.coltypes.specs.Keep.{keep, place, trues}
use Rattle.coltypes.specs.declared.fault.Fault.{Fault}
use Rattle.coltypes.specs.declared.fault.Fault.TheVariants.{Row}
use Rattle.coltypes.specs.declared.fault.RowError.{RowError}
use Rattle.rowtypes.specs.Rows.{DecodeFails, FirstUnread}
use Rattle.rowplan.specs.Law.{RowLaw}
use Rattle.rowexec.specs.Reads.{ReadFails, UnreadAt}
use Rattle.rowloops.specs.Domain.{filtered_rows}
use Rattle.rowexec.specs.Evidence.{EvidenceFails}
use Rattle.rowexec.specs.RowRuns.{ColumnOver, Decides, FullAt, RanOver, RejectedOver}
use Rattle.rowloops.specs.declared.attempt.Attempt.{Attempt}
use Rattle.rowexec.specs.Rows.{Accepted, EachHasRows, full_cells, types_of, with_cell}
use Rattle.rowexec.specs.Selections.{FilteredFrom, MarksFullRows}
use Rattle.rowexec.specs.Visits.{CallFails, RunsSteps, ValidColumn}
use Rattle.rowexec.proofs.Deciding.{decided_run, decided_steps}
use Rattle.rowexec.proofs.Domains.{full_row_over, rejected_rows}
use Rattle.rowexec.proofs.JoinedRows.{joined_marked}
use Rattle.rowexec.proofs.Reading.{full_at, full_selected}
use Rattle.rowloops.proofs.SetPlaces.{place_of, place_within}

pub rows_at : (n : ℕ) (arrays : List Array) (i : ℕ) (d : Array) → EachHasRows n arrays → i < length arrays → len (get_or arrays i d) ≡ n
rows_at n [] i d r h = absurd (omega arith)
rows_at n (a ∷ arrays) zero d r h = r.0
rows_at n (a ∷ arrays) (suc i) d r h = rows_at n arrays i d r.1 (omega arith)

-- one more column
filtered_more : (marks : List Bool) (olds news : List Array) (a b : Array) → FilteredFrom marks olds news → Filters a marks b → FilteredFrom marks (olds ++ a ∷ []) (news ++ b ∷ [])
filtered_more marks [] [] a b h f = (f, tt)
filtered_more marks [] (new ∷ news) a b h f = absurd h
filtered_more marks (old ∷ olds) [] a b h f = absurd h
filtered_more marks (old ∷ olds) (new ∷ news) a b h f = (h.0, filtered_more marks olds news a b h.1 f)

pub filtered_step : (marks bits : List Bool) (olds news more_olds more_news : List Array) (a b : Array) → bits ≡ marks → more_olds ≡ olds ++ a ∷ [] → more_news ≡ news ++ b ∷ [] → FilteredFrom marks olds news → Filters a bits b → FilteredFrom marks more_olds more_news
filtered_step marks bits olds news more_olds more_news a b m p q h f =
    let More : List Array → Type 0 = λ xs. FilteredFrom marks xs (news ++ b ∷ []) in
    let MoreNews : List Array → Type 0 = λ ys. FilteredFrom marks more_olds ys in
    let Same : List Bool → Type 0 = λ bs. Filters a bs b in
    subst MoreNews (sym q) (subst More (sym p) (filtered_more marks olds news a b h (subst Same m f)))

length_kept : {X : Type 0} (bits : List Bool) (xs : List X) → length bits ≡ length xs → length (keep bits xs) ≡ trues bits
length_kept [] xs h = refl
length_kept (b ∷ bits) [] h = absurd (omega arith)
length_kept (true ∷ bits) (x ∷ xs) h = omega (arith, length_kept bits xs (omega arith))
length_kept (false ∷ bits) (x ∷ xs) h = length_kept bits xs (omega arith)

item_kept : {X : Type 0} (bits : List Bool) (xs : List X) (i : ℕ) (d : X) → length bits ≡ length xs → i < trues bits → get_or (keep bits xs) i d ≡ get_or xs (place bits i) d
item_kept [] xs i d h k = absurd (omega arith)
item_kept (b ∷ bits) [] i d h k = absurd (omega arith)
item_kept (true ∷ bits) (x ∷ xs) zero d h k = refl
item_kept (true ∷ bits) (x ∷ xs) (suc i) d h k = item_kept bits xs i d (omega arith) (omega arith)
item_kept (false ∷ bits) (x ∷ xs) i d h k = item_kept bits xs i d (omega arith) k

len_kept : (marks : List Bool) (a b : Array) → len a ≡ length marks → Filters a marks b → len b ≡ trues marks
len_kept marks a b n f = sym (length-tabulate (row b) (len b)) ∙ ap length f.kept_rows ∙ length_kept marks (rows a) (sym n ∙ sym (length-tabulate (row a) (len a)))

no_cell : Option Cell
no_cell = None

-- row i of a filtered column is the marked row number i
row_kept : (marks : List Bool) (a b : Array) (i : ℕ) → len a ≡ length marks → Filters a marks b → i < trues marks → row b i ≡ row a (place marks i)
row_kept marks a b i n f h =
    let here : i < len b = omega (arith, len_kept marks a b n f) in
    let there : place marks i < len a = omega (arith, place_within marks i h) in
    sym (get_or-tabulate (row b) (len b) i no_cell here) ∙ ap (λ xs. get_or xs i no_cell) f.kept_rows ∙ item_kept marks (rows a) i no_cell (sym n ∙ sym (length-tabulate (row a) (len a))) h ∙ get_or-tabulate (row a) (len a) (place marks i) no_cell there

pub types_kept : (marks : List Bool) (olds news : List Array) → FilteredFrom marks olds news → types_of news ≡ types_of olds
types_kept marks [] [] h = refl
types_kept marks [] (b ∷ news) h = absurd h
types_kept marks (a ∷ olds) [] h = absurd h
types_kept marks (a ∷ olds) (b ∷ news) h = cc (h.0.typed, types_kept marks olds news h.1)

pub rows_kept : (marks : List Bool) (olds news : List Array) → EachHasRows (length marks) olds → FilteredFrom marks olds news → EachHasRows (trues marks) news
rows_kept marks [] [] n h = tt
rows_kept marks [] (b ∷ news) n h = absurd h
rows_kept marks (a ∷ olds) [] n h = absurd h
rows_kept marks (a ∷ olds) (b ∷ news) n h = (len_kept marks a b n.0 h.0, rows_kept marks olds news n.1 h.1)

cells_kept : (marks : List Bool) (olds news : List Array) (i : ℕ) → EachHasRows (length marks) olds → FilteredFrom marks olds news → i < trues marks → full_cells news i ≡ full_cells olds (place marks i)
cells_kept marks [] [] i n h k = refl
cells_kept marks [] (b ∷ news) i n h k = absurd h
cells_kept marks (a ∷ olds) [] i n h k = absurd h
cells_kept marks (a ∷ olds) (b ∷ news) i n h k = ap (λ o. with_cell o (full_cells news i)) (row_kept marks a b i n.0 h.0 k) ∙ ap (with_cell (row a (place marks i))) (cells_kept marks olds news i n.1 h.1 k)

place_marked : (bits : List Bool) (i : ℕ) → i < trues bits → bit bits (place bits i) ≡ true
place_marked [] i h = absurd (omega arith)
place_marked (true ∷ bits) zero h = refl
place_marked (true ∷ bits) (suc i) h = place_marked bits i (omega arith)
place_marked (false ∷ bits) i h = place_marked bits i h

-- each row of the filtered columns is full
pub full_kept : (marks : List Bool) (olds news : List Array) → EachHasRows (length marks) olds → MarksFullRows olds (length marks) marks → FilteredFrom marks olds news → (i : ℕ) → i < trues marks → FullAt i news
full_kept marks olds news n m h i k = full_at (trues marks) i news (rows_kept marks olds news n h) k (ap is_some (cells_kept marks olds news i n h k) ∙ sym (m.each (place marks i) (place_within marks i k)) ∙ place_marked marks i k)

unread_kept : (marks : List Bool) (reads : ℕ → Cell → Type 0) (k : ℕ) (olds news : List Array) (j : ℕ) → FilteredFrom marks olds news → FirstUnread reads k news j → UnreadAt reads k olds j
unread_kept marks reads k [] [] j h p = p
unread_kept marks reads k [] (b ∷ news) j h p = absurd h
unread_kept marks reads k (a ∷ olds) [] j h p = absurd h
unread_kept marks reads k (a ∷ olds) (b ∷ news) j h (inl p) = inl (p.0, record { cell = p.1.cell; must = h.0.must_read p.1.cell p.1.must; unread = p.1.unread })
unread_kept marks reads k (a ∷ olds) (b ∷ news) j h (inr p) = inr (unread_kept marks reads (suc k) olds news j h.1 p.1)

-- a cell of a filtered column that must be read is one of its column
pub fails_kept : (marks : List Bool) (reads : ℕ → Cell → Type 0) (k : ℕ) (olds news : List Array) → FilteredFrom marks olds news → (e : Fault) → DecodeFails reads k news e → ReadFails reads k olds e
fails_kept marks reads k olds news h e (inl m) = inl m
fails_kept marks reads k olds news h e (inr p) = inr (record { place = p.place; is = p.is; unread = unread_kept marks reads k olds news p.place h p.first })

-- the values of the filtered columns, each at its own row
pub values_kept : {E : Type 0} (law : RowLaw E) (marks : List Bool) (olds news : List Array) → EachHasRows (length marks) olds → MarksFullRows olds (length marks) marks → FilteredFrom marks olds news → (a : Array) → ColumnOver law news (filtered_rows marks) a → ValidColumn law olds (length marks) a
values_kept law marks olds news n m h a f = record {
  stored = f.stored;
  counted = f.counted;
  each = λ i cells k e.
      let from = place_of marks i (m.each i k ∙ ap is_some e) in
      let Done : ℕ → Type 0 = λ r. Accepted law cells (row a r) in
      subst Done from.2 (full_row_over law news (filtered_rows marks) a f from.0 cells from.1 refl (cells_kept marks olds news from.0 n h from.1 ∙ ap (full_cells olds) from.2 ∙ e));
  read = λ i cells k e.
      let from = place_of marks i (m.each i k ∙ ap is_some e) in
      f.read from.0 cells from.1 (cells_kept marks olds news from.0 n h from.1 ∙ ap (full_cells olds) from.2 ∙ e);
}

-- a failure of the filtered columns is one of the full rows
pub rejected_kept : {E : Type 0} (law : RowLaw E) (marks : List Bool) (olds news : List Array) → EachHasRows (length marks) olds → MarksFullRows olds (length marks) marks → FilteredFrom marks olds news
    → (error : RowError) → RejectedOver law news (filtered_rows marks) error → CallFails law olds (length marks) (Row error)
rejected_kept {E} law marks olds news n m h error rejected =
    let Fails : E → Type 0 = λ v. EvidenceFails law.deferred law.finish v (Row error) in
    let each : (i : ℕ) → i < trues marks → true ≡ is_some (full_cells news i) = full_selected news (trues marks) (full_kept marks olds news n m h) in
    inr (subst Fails (joined_marked law.join law.neutral law.meaning marks (full_cells olds) (full_cells news) m.each (λ j k. cells_kept marks olds news j n h k)) (rejected_rows law news (filtered_rows marks) error each rejected))

-- a run of the filtered columns, as one of the call
pub filtered_run : {E : Type 0} (law : RowLaw E) (olds : List Array) (n : ℕ) (news : List Array) (marks : List Bool) (told : Result (Option Attempt) Fault) (answer : Result (Option Array) Fault) (told_prepares told_steps prepares steps : ℕ)
    → Decides told answer → prepares ≡ told_prepares → steps ≡ told_steps → EachHasRows n olds → MarksFullRows olds n marks → FilteredFrom marks olds news
    → RanOver law news (filtered_rows marks) told told_prepares told_steps → RunsSteps law olds n (trues marks) 1 answer prepares steps
filtered_run law olds n news marks told answer told_prepares told_steps prepares steps decides p s rows full from ran =
    let Rows : ℕ → Type 0 = λ k. EachHasRows k olds in
    let Full : ℕ → Type 0 = λ k. MarksFullRows olds k marks in
    let Of : ℕ → Type 0 = λ k. RunsSteps law olds k (trues marks) 1 answer prepares steps in
    let here = subst Rows (sym full.counted) rows in
    let marked = subst Full (sym full.counted) full in
    let m = length marks in
    subst Of full.counted
    (decided_steps law olds m (trues marks) (trues marks) answer prepares steps refl
    (decided_run law news (filtered_rows marks) (ValidColumn law olds m) (CallFails law olds m) told answer told_prepares told_steps prepares steps decides p s (inl refl)
    (values_kept law marks olds news here marked from) (rejected_kept law marks olds news here marked from) (λ e h. inl (fails_kept marks law.arguments.reads 0 olds news from e h)) ran))
