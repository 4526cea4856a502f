-- How a reader answers: exactly what a definition gives, unless memory ran out, so that each reader has one clause.
use Rattle.std.specs.Prelude.{◌≡◌, Bool, List, map, Option, Some, None, is_some, Result, Ok, Err}
use Rattle.rowjson.specs.Columns.{stored_values}
use Rattle.rowjson.specs.declared.tree.Stop.{Stop}
use Rattle.rowjson.specs.declared.tree.Stop.TheVariants.{Memory, NoBatch}
use Rattle.coltypes.specs.declared.fault.Fault.{Fault}
use Rattle.coltypes.specs.declared.fault.Fault.TheVariants as fault

-- nothing is read, unless memory ran out
abbrev pub Stops : {Y : Type 0} → Stop → Option Y → Type 0
Stops Memory read = Unit {0}
Stops NoBatch read = read ≡ None

-- what a reader answered, seen by a view, is what the definition gives, unless memory ran out
abbrev pub Gives : {X Y : Type 0} → (X → Y) → Result X Stop → Option Y → Type 0
Gives view (Ok x) read = read ≡ Some (view x)
Gives view (Err e) read = Stops e read

-- what is stored for the cells, and which of them are not null
pub record AreOf {X : Type 0} (under_null : X) (cells : List (Option X)) (stored : List X) (marks : List Bool) : Type 0 where
  pub stored_of : stored ≡ stored_values under_null cells
  pub marks_of : marks ≡ map is_some cells

-- why a column could not be built
abbrev pub stop_of : Fault → Stop
stop_of fault.Memory = Memory
stop_of _ = NoBatch
