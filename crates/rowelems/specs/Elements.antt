-- What the elements of truth values, of integers and of scales show at each row: each differs in its own cell, which
-- stands for nulls.
use Rattle.std.specs.Prelude.{ℕ, pos, false}
use Rattle.coltypes.specs.Cell.{Cell, truth, number}
use Rattle.colbase.specs.Arrays.{Array}
use Rattle.rowelems.specs.Shown.{shown_by, stored_or}

-- under nulls the stored truth value, and false where none is stored
abbrev pub shown_truth : Array → ℕ → Cell
shown_truth = shown_by (stored_or (truth false))

-- under nulls the stored number, and zero where none is stored
abbrev pub shown_number : Array → ℕ → Cell
shown_number = shown_by (stored_or (number (pos 0)))

-- under nulls zero, whatever is stored there
abbrev pub shown_scale : Array → ℕ → Cell
shown_scale = shown_by (λ a i. number (pos 0))
