-- Two tuples side by side: the places of the second come after those of the first. With the laws of tuples, which
-- ghost members cite.
use Rattle.std.specs.Prelude.{ℕ, ◌-◌, Bool, true, false, nat_lt, Option, List, [], ◌∷◌, ◌++◌}
use Rattle.coltypes.specs.Cell.{Cell}
use Rattle.colbase.specs.Arrays.{Array}
use Rattle.rowtypes.specs.Arguments.{ShowsConstant, ShowsRow}
use Rattle.rowtypes.specs.Rows.{AgreesWith}

abbrev pub choose : {T : Type 0} → Bool → T → T → T
choose true a b = a
choose false a b = b

-- below n what the first has at the place, and from n on what the second has at the place less n
abbrev pub side_by_side : {T : Type 0} → ℕ → (ℕ → T) → (ℕ → T) → ℕ → T
side_by_side n f g k = choose (nat_lt k n) (f k) (g (k - n))

abbrev pub choose_reads : Bool → (Cell → Type 0) → (Cell → Type 0) → Cell → Type 0
choose_reads true a b c = a c
choose_reads false a b c = b c

abbrev pub reads_side_by_side : ℕ → (ℕ → Cell → Type 0) → (ℕ → Cell → Type 0) → ℕ → Cell → Type 0
reads_side_by_side n f g k c = choose_reads (nat_lt k n) (f k) (g (k - n)) c

choose_constant : (b : Bool) (f g : Array → ℕ → Cell) → ShowsConstant f → ShowsConstant g → ShowsConstant (choose b f g)
choose_constant true f g p q = p
choose_constant false f g p q = q

pub side_by_side_constant : (n : ℕ) (f g : ℕ → Array → ℕ → Cell) → ((k : ℕ) → ShowsConstant (f k)) → ((k : ℕ) → ShowsConstant (g k)) → (k : ℕ) → ShowsConstant (side_by_side n f g k)
side_by_side_constant n f g p q k = choose_constant (nat_lt k n) (f k) (g (k - n)) (p k) (q (k - n))

choose_row : (b : Bool) (f g : Array → ℕ → Cell) → ShowsRow f → ShowsRow g → ShowsRow (choose b f g)
choose_row true f g p q = p
choose_row false f g p q = q

pub side_by_side_row : (n : ℕ) (f g : ℕ → Array → ℕ → Cell) → ((k : ℕ) → ShowsRow (f k)) → ((k : ℕ) → ShowsRow (g k)) → (k : ℕ) → ShowsRow (side_by_side n f g k)
side_by_side_row n f g p q k = choose_row (nat_lt k n) (f k) (g (k - n)) (p k) (q (k - n))

pub both_agree : (k l : List (Option Cell)) (a b : List Cell) → AgreesWith k a → AgreesWith l b → AgreesWith (k ++ l) (a ++ b)
both_agree [] l [] b h q = q
both_agree [] l (c ∷ a) b h q = absurd h
both_agree (x ∷ k) l [] b h q = absurd h
both_agree (x ∷ k) l (c ∷ a) b h q = (h.0, both_agree k l a b h.1 q)
