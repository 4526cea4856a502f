-- At a full row the arguments show their cells.
use Rattle.std.proofs.Common.{◌≡◌, ◌∙◌, ℕ, suc, Bool, true, false, List, [], ◌∷◌, Option, None, Some, refl}
use Rattle.std.specs.Prelude.{cond, nat_lt, option_map}
use Rattle.colbase.specs.Arrays.{Array, constant, constant_cell, extension, len, masked, row}
use Rattle.coltypes.specs.Cell.{Cell}
use Rattle.coltypes.specs.CellOf.{cell_of}
use Rattle.coltypes.specs.Valid.{valid_at}
use Rattle.rowtypes.specs.Arguments.{ShowsConstant, ShowsRow}
use Rattle.rowtypes.specs.Rows.{shown_from}
use Rattle.rowelems.specs.Shown.{batch_value}
use Rattle.rowexec.specs.Rows.{full_cells, with_cell}

under_mask : (b : Bool) (o : Option Cell) (x c : Cell) → o ≡ Some x → cond b o None ≡ Some c → x ≡ c
under_mask true o x c e h = cc (e, h)
under_mask false o x c e h = absurd (cc)

-- a row of a batch constant that is not null is its value
pub constant_row : (a : Array) (i : ℕ) (x c : Cell) → constant_cell a ≡ Some x → row a i ≡ Some c → x ≡ c
constant_row (constant s n) i x c e h = cc (e, h)
constant_row (masked (constant s n) v) i x c e h = under_mask (valid_at v i) (option_map cell_of s.value) x c e h
constant_row (extension t (constant s n)) i x c e h = cc (e, h)
constant_row _ i x c e h = absurd (cc)

pub picked : (b : Bool) (o : Option Cell) (x : Cell) → cond b o None ≡ Some x → o ≡ Some x
picked true o x h = h
picked false o x h = absurd (cc)

pub shown_at : (shown : Array → ℕ → Cell) → ShowsConstant shown → ShowsRow shown → (a : Array) (i : ℕ) (c : Cell) (o : Option Cell) → batch_value a ≡ o → row a i ≡ Some c → shown a i ≡ c
shown_at shown p q a i c None e h = q a i c e h
shown_at shown p q a i c (Some x) e h = p a i x e ∙ constant_row a i x c (picked (nat_lt 0 (len a)) (constant_cell a) x e) h

-- the first cell and those after it
pub record Split (o : Option Cell) (rest : Option (List Cell)) (cells : List Cell) : Type 0 where
  pub first : Cell
  pub later : List Cell
  pub here : o ≡ Some first
  pub there : rest ≡ Some later
  pub whole : cells ≡ first ∷ later

pub split : (o : Option Cell) (rest : Option (List Cell)) (cells : List Cell) → with_cell o rest ≡ Some cells → Split o rest cells
split (Some c) (Some later) cells h = record { first = c; later = later; here = refl; there = refl; whole = cc }
split (Some c) None cells h = absurd (cc)
split None rest cells h = absurd (cc)

pub shown_full : (shown : ℕ → Array → ℕ → Cell) → ((k : ℕ) → ShowsConstant (shown k)) → ((k : ℕ) → ShowsRow (shown k)) → (k : ℕ) (arrays : List Array) (i : ℕ) (cells : List Cell) → full_cells arrays i ≡ Some cells → shown_from shown k arrays i ≡ cells
shown_full shown p q k [] i cells h = cc
shown_full shown p q k (a ∷ arrays) i cells h =
    let s = split (row a i) (full_cells arrays i) cells h in
    let here = shown_at (shown k) (p k) (q k) a i s.first (batch_value a) refl s.here in
    let later = shown_full shown p q (suc k) arrays i s.later s.there in
    cc (here, later, s.whole)
