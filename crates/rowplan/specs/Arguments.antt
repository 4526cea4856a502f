-- The arguments of a row function as plain data, place by place, for laws that are named in definitions. Each computes to what the
-- element, or the tuple of elements, states of itself.
use Rattle.std.specs.Prelude.{ℕ, Bool, true, false}
use Rattle.coltypes.specs.Cell.{Cell}
use Rattle.coltypes.specs.LogicalType.{LogicalType}
use Rattle.coltypes.specs.declared.dtype.PType.{PType}
use Rattle.coltypes.specs.declared.dtype.PType.TheVariants.{I64, U8}
use Rattle.colbase.specs.Arrays.{Array}
use Rattle.rowelems.specs.Elements.{shown_number, shown_scale}
use Rattle.rowelems.specs.Reading.{IsNumberOf, IsScale, is_integer, is_timestamp}
use Rattle.rowtypes.specs.Arguments.{pick_one, pick_two, reads_one, reads_two}
use Rattle.rowtypes.specs.Elements.{Elements}

-- one element: whether a type is accepted, which cells are read, the cell that an array shows at a row, null or not, and whether an
-- array is decoded with its nulls
pub record Element : Type 1 where
  pub accepts : LogicalType → Bool
  pub reads : Cell → Type 0
  pub shown : Array → ℕ → Cell
  pub tolerant : Array → Bool

-- numbers of an integer type, nullable or not; under nulls what is stored
abbrev pub number_element : PType → Element
number_element p = record { accepts = is_integer p; reads = IsNumberOf p; shown = shown_number; tolerant = λ a. true }

-- scales from 0 to 18, as numbers of 8 bits; under nulls 0
abbrev pub scale_element : Element
scale_element = record { accepts = is_integer U8; reads = IsScale; shown = shown_scale; tolerant = λ a. false }

-- timestamps, as numbers of 64 bits
abbrev pub timestamp_element : Element
timestamp_element = record { accepts = is_timestamp; reads = IsNumberOf I64; shown = shown_number; tolerant = λ a. true }

-- the only argument
abbrev pub alone : Element → Elements
alone a = record { accepts = pick_one a.accepts; reads = reads_one a.reads; shown = pick_one a.shown; tolerant = pick_one a.tolerant }

-- the first argument and the second
abbrev pub pair : Element → Element → Elements
pair a b =
    record { accepts = pick_two a.accepts b.accepts; reads = reads_two a.reads b.reads; shown = pick_two a.shown b.shown; tolerant = pick_two a.tolerant b.tolerant }
