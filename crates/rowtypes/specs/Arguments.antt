-- Tuples of up to four arguments: what each place has, and the laws of tuples, which ghost members cite.
use Rattle.std.specs.Prelude.{ℕ, zero, suc, None, Some, [], ◌∷◌, ◌≡◌, refl, false}
use Rattle.coltypes.specs.Cell.{Cell, truth}
use Rattle.colbase.specs.Arrays.{Array, row}
use Rattle.rowelems.specs.Shown.{batch_value, shown_by, shown_by_constant, shown_by_row}
use Rattle.rowelems.specs.Argument.{arg_shows, arg_value}
use Rattle.rowtypes.specs.Rows.{AgreesAt, AgreesWith}
use Rattle.rowelems.specs.declared.arg_column.ArgColumn.{ArgColumn}
use Rattle.rowelems.specs.declared.arg_column.ArgColumn.TheVariants.{Value, Column}

pub value_agrees : {T C K E : Type 0} (shows : C → ℕ → Cell) (cell : K → Cell) (a : ArgColumn T C K E) (i : ℕ) → AgreesAt (arg_value cell a) (arg_shows shows cell a i)
value_agrees shows cell (Value k) i = refl
value_agrees shows cell (Column c) i = tt

-- what the argument at this place of one, two, three or four has
abbrev pub pick_one : {T : Type 0} → T → ℕ → T
pick_one a k = a

abbrev pub pick_two : {T : Type 0} → T → T → ℕ → T
pick_two a b zero = a
pick_two a b (suc k) = b

-- what the argument at this place of one, two, three or four reads
abbrev pub reads_one : (Cell → Type 0) → ℕ → Cell → Type 0
reads_one a k c = a c

abbrev pub reads_two : (Cell → Type 0) → (Cell → Type 0) → ℕ → Cell → Type 0
reads_two a b zero c = a c
reads_two a b (suc k) c = b c

-- at a batch constant an argument shows its value
abbrev pub ShowsConstant : (Array → ℕ → Cell) → Type 0
ShowsConstant shown = (a : Array) (i : ℕ) (x : Cell) → batch_value a ≡ Some x → shown a i ≡ x

-- at a row that is not null of any other array an argument shows the row's cell
abbrev pub ShowsRow : (Array → ℕ → Cell) → Type 0
ShowsRow shown = (a : Array) (i : ℕ) (x : Cell) → batch_value a ≡ None → row a i ≡ Some x → shown a i ≡ x

pub pick_one_constant : (s0 : Array → ℕ → Cell) → ShowsConstant s0 → (k : ℕ) → ShowsConstant (pick_one s0 k)
pick_one_constant s0 p0 k = p0

pub pick_one_row : (s0 : Array → ℕ → Cell) → ShowsRow s0 → (k : ℕ) → ShowsRow (pick_one s0 k)
pick_one_row s0 p0 k = p0

pub one_agree : {T0 C0 K0 E0 : Type 0} (shows0 : C0 → ℕ → Cell) (cell0 : K0 → Cell) (a0 : ArgColumn T0 C0 K0 E0) (i : ℕ) → AgreesWith (arg_value cell0 a0 ∷ []) (arg_shows shows0 cell0 a0 i ∷ [])
one_agree shows0 cell0 a0 i = (value_agrees shows0 cell0 a0 i, tt)

pub pick_two_constant : (s0 s1 : Array → ℕ → Cell) → ShowsConstant s0 → ShowsConstant s1 → (k : ℕ) → ShowsConstant (pick_two s0 s1 k)
pick_two_constant s0 s1 p0 p1 zero = p0
pick_two_constant s0 s1 p0 p1 (suc j) = p1

pub pick_two_row : (s0 s1 : Array → ℕ → Cell) → ShowsRow s0 → ShowsRow s1 → (k : ℕ) → ShowsRow (pick_two s0 s1 k)
pick_two_row s0 s1 p0 p1 zero = p0
pick_two_row s0 s1 p0 p1 (suc j) = p1

pub two_agree : {T0 C0 K0 E0 T1 C1 K1 E1 : Type 0} (shows0 : C0 → ℕ → Cell) (cell0 : K0 → Cell) (shows1 : C1 → ℕ → Cell) (cell1 : K1 → Cell) (a0 : ArgColumn T0 C0 K0 E0) (a1 : ArgColumn T1 C1 K1 E1) (i : ℕ) → AgreesWith (arg_value cell0 a0 ∷ arg_value cell1 a1 ∷ []) (arg_shows shows0 cell0 a0 i ∷ arg_shows shows1 cell1 a1 i ∷ [])
two_agree shows0 cell0 shows1 cell1 a0 a1 i = (value_agrees shows0 cell0 a0 i, (value_agrees shows1 cell1 a1 i, tt))

abbrev pub pick_three : {T : Type 0} → T → T → T → ℕ → T
pick_three a b c zero = a
pick_three a b c (suc zero) = b
pick_three a b c (suc (suc j)) = c

abbrev pub reads_three : (Cell → Type 0) → (Cell → Type 0) → (Cell → Type 0) → ℕ → Cell → Type 0
reads_three a b c zero x = a x
reads_three a b c (suc zero) x = b x
reads_three a b c (suc (suc j)) x = c x

pub pick_three_constant : (s0 s1 s2 : Array → ℕ → Cell) → ShowsConstant s0 → ShowsConstant s1 → ShowsConstant s2 → (k : ℕ) → ShowsConstant (pick_three s0 s1 s2 k)
pick_three_constant s0 s1 s2 p0 p1 p2 zero = p0
pick_three_constant s0 s1 s2 p0 p1 p2 (suc zero) = p1
pick_three_constant s0 s1 s2 p0 p1 p2 (suc (suc j)) = p2

pub pick_three_row : (s0 s1 s2 : Array → ℕ → Cell) → ShowsRow s0 → ShowsRow s1 → ShowsRow s2 → (k : ℕ) → ShowsRow (pick_three s0 s1 s2 k)
pick_three_row s0 s1 s2 p0 p1 p2 zero = p0
pick_three_row s0 s1 s2 p0 p1 p2 (suc zero) = p1
pick_three_row s0 s1 s2 p0 p1 p2 (suc (suc j)) = p2

pub three_agree : {T0 C0 K0 E0 T1 C1 K1 E1 T2 C2 K2 E2 : Type 0} (shows0 : C0 → ℕ → Cell) (cell0 : K0 → Cell) (shows1 : C1 → ℕ → Cell) (cell1 : K1 → Cell) (shows2 : C2 → ℕ → Cell) (cell2 : K2 → Cell) (a0 : ArgColumn T0 C0 K0 E0) (a1 : ArgColumn T1 C1 K1 E1) (a2 : ArgColumn T2 C2 K2 E2) (i : ℕ) → AgreesWith (arg_value cell0 a0 ∷ arg_value cell1 a1 ∷ arg_value cell2 a2 ∷ []) (arg_shows shows0 cell0 a0 i ∷ arg_shows shows1 cell1 a1 i ∷ arg_shows shows2 cell2 a2 i ∷ [])
three_agree shows0 cell0 shows1 cell1 shows2 cell2 a0 a1 a2 i = (value_agrees shows0 cell0 a0 i, (value_agrees shows1 cell1 a1 i, (value_agrees shows2 cell2 a2 i, tt)))

abbrev pub pick_four : {T : Type 0} → T → T → T → T → ℕ → T
pick_four a b c d zero = a
pick_four a b c d (suc zero) = b
pick_four a b c d (suc (suc zero)) = c
pick_four a b c d (suc (suc (suc j))) = d

abbrev pub reads_four : (Cell → Type 0) → (Cell → Type 0) → (Cell → Type 0) → (Cell → Type 0) → ℕ → Cell → Type 0
reads_four a b c d zero x = a x
reads_four a b c d (suc zero) x = b x
reads_four a b c d (suc (suc zero)) x = c x
reads_four a b c d (suc (suc (suc j))) x = d x

pub pick_four_constant : (s0 s1 s2 s3 : Array → ℕ → Cell) → ShowsConstant s0 → ShowsConstant s1 → ShowsConstant s2 → ShowsConstant s3 → (k : ℕ) → ShowsConstant (pick_four s0 s1 s2 s3 k)
pick_four_constant s0 s1 s2 s3 p0 p1 p2 p3 zero = p0
pick_four_constant s0 s1 s2 s3 p0 p1 p2 p3 (suc zero) = p1
pick_four_constant s0 s1 s2 s3 p0 p1 p2 p3 (suc (suc zero)) = p2
pick_four_constant s0 s1 s2 s3 p0 p1 p2 p3 (suc (suc (suc j))) = p3

pub pick_four_row : (s0 s1 s2 s3 : Array → ℕ → Cell) → ShowsRow s0 → ShowsRow s1 → ShowsRow s2 → ShowsRow s3 → (k : ℕ) → ShowsRow (pick_four s0 s1 s2 s3 k)
pick_four_row s0 s1 s2 s3 p0 p1 p2 p3 zero = p0
pick_four_row s0 s1 s2 s3 p0 p1 p2 p3 (suc zero) = p1
pick_four_row s0 s1 s2 s3 p0 p1 p2 p3 (suc (suc zero)) = p2
pick_four_row s0 s1 s2 s3 p0 p1 p2 p3 (suc (suc (suc j))) = p3

pub four_agree : {T0 C0 K0 E0 T1 C1 K1 E1 T2 C2 K2 E2 T3 C3 K3 E3 : Type 0} (shows0 : C0 → ℕ → Cell) (cell0 : K0 → Cell) (shows1 : C1 → ℕ → Cell) (cell1 : K1 → Cell) (shows2 : C2 → ℕ → Cell) (cell2 : K2 → Cell) (shows3 : C3 → ℕ → Cell) (cell3 : K3 → Cell) (a0 : ArgColumn T0 C0 K0 E0) (a1 : ArgColumn T1 C1 K1 E1) (a2 : ArgColumn T2 C2 K2 E2) (a3 : ArgColumn T3 C3 K3 E3) (i : ℕ) → AgreesWith (arg_value cell0 a0 ∷ arg_value cell1 a1 ∷ arg_value cell2 a2 ∷ arg_value cell3 a3 ∷ []) (arg_shows shows0 cell0 a0 i ∷ arg_shows shows1 cell1 a1 i ∷ arg_shows shows2 cell2 a2 i ∷ arg_shows shows3 cell3 a3 i ∷ [])
four_agree shows0 cell0 shows1 cell1 shows2 cell2 shows3 cell3 a0 a1 a2 a3 i = (value_agrees shows0 cell0 a0 i, (value_agrees shows1 cell1 a1 i, (value_agrees shows2 cell2 a2 i, (value_agrees shows3 cell3 a3 i, tt))))

-- the batch value, else the row's cell, else false
abbrev pub shown_by_rows : Array → ℕ → Cell
shown_by_rows = shown_by (λ a i. truth false)

pub shown_by_rows_constant : ShowsConstant shown_by_rows
shown_by_rows_constant = shown_by_constant (λ a i. truth false)

pub shown_by_rows_row : ShowsRow shown_by_rows
shown_by_rows_row = shown_by_row (λ a i. truth false)
