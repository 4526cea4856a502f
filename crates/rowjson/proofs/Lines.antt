-- The lines of the rows, one after the other.
use Rattle.std.proofs.Common.{◌≡◌, ℕ, ℤ, ◌+◌, ◌<◌, pos, true, false, List, [], ◌∷◌, ◌++◌, length, get_or, Option, Some, None, option_map, ap, refl, sym, ◌∙◌, append_assoc, arith}
use Rattle.std.specs.Prelude.{is_some}
use Rattle.std.specs.List.{flat_map}
use Rattle.std.proofs.lemmas.List.{append-nil}
use Rattle.std.proofs.lemmas.Grind.{flat_map-append}
use Rattle.bitlane.specs.Bits.{tabulate}
use Rattle.bitlane.proofs.Tables.{tabulate-more}
use Rattle.coltypes.specs.Cell.{Cell, number}
use Rattle.coltypes.specs.LogicalType.{LogicalType}
use Rattle.colbase.specs.Arrays.{Array, len, row}
use Rattle.rowjson.specs.Shows.{Shows}
use Rattle.rowjson.specs.Text.{line, cell_text}

-- one more row
pub rows_more : (f : Option Cell → List ℕ) (rows : ℕ → Option Cell) (i : ℕ) (start out : List ℕ) → out ≡ start ++ flat_map f (tabulate rows i) → out ++ f (rows i) ≡ start ++ flat_map f (tabulate rows (i + 1))
rows_more f rows i start out e =
    ap (λ (o : List ℕ). o ++ f (rows i)) e ∙ append_assoc start (flat_map f (tabulate rows i)) (f (rows i))
    ∙ ap (λ (o : List ℕ). start ++ (flat_map f (tabulate rows i) ++ o)) (sym (append-nil (f (rows i))))
    ∙ ap (λ (o : List ℕ). start ++ o) (sym (flat_map-append f (tabulate rows i) (rows i ∷ [])))
    ∙ ap (λ (cells : List (Option Cell)). start ++ flat_map f cells) (sym (tabulate-more rows i))

-- the text of a number or a null is the same in each type
number_text : (t u : LogicalType) (cell : Option ℤ) → cell_text t (option_map number cell) ≡ cell_text u (option_map number cell)
number_text t u None = refl
number_text t u (Some z) = refl

cell_read : (r : Option Cell) (n : Cell) → is_some r ≡ true → ((c : Cell) → r ≡ Some c → n ≡ c) → Some n ≡ r
cell_read None n e same = cc
cell_read (Some c) n e same = ap Some (same c refl)

-- a row that is not null is the number that stands for it
pub valid_row : (a : Array) (xs : List ℤ) (i : ℕ) (x : ℤ) → Shows a xs → i < length xs → is_some (row a i) ≡ true → x ≡ get_or xs i (pos 0) → Some (number x) ≡ row a i
valid_row a xs i x shows within some e =
    let row_within : i < len a = omega (arith, within, shows.counted) in
    ap (λ (z : ℤ). Some (number z)) e ∙ cell_read (row a i) (number (get_or xs i (pos 0))) some (λ c h. shows.each i c row_within h)

pub null_row : (r : Option Cell) → is_some r ≡ false → None ≡ r
null_row None e = refl
null_row (Some c) e = cc

pub row_line : (t u : LogicalType) (cell : Option ℤ) (read : Option Cell) → option_map number cell ≡ read → line (cell_text t (option_map number cell)) ≡ line (cell_text u read)
row_line t u cell read e = ap line (number_text t u cell) ∙ ap (λ (c : Option Cell). line (cell_text u c)) e
