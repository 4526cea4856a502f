-- The line of a fault: its name and numbers, for each variant, so that the text of a fault is determined by the fault alone.
use Rattle.std.specs.Prelude.{ℕ, List, [], ◌∷◌, ◌++◌, codes, decimal}
use Rattle.std.specs.List.{flat_map}
use Rattle.coltypes.specs.declared.fault.Fault.{Fault}
use Rattle.coltypes.specs.declared.fault.Fault.TheVariants.{Arity, InputLength, Refused, Dtype, OutputType, Decode, Capacity, Row, Memory, Layout, Cast, NotList, NullList, NeedleType, SetLength, Metadata, DayUnits, PolicyType, UnknownZone, BadPolicy, OutOfRange, Overflow, Gap, Ambiguous, Plan, NotSerializable}
use Rattle.rowjson.specs.Text.{line}

-- a number behind a space
abbrev pub number_text : ℕ → List ℕ
number_text n = codes " " ++ decimal n

-- the line of a name and numbers
abbrev pub fault_line : List ℕ → List ℕ → List ℕ
fault_line name numbers = line (codes "fault " ++ (name ++ flat_map number_text numbers))

-- The name of the variant, and its numbers in the order of its fields. `Layout`, `Plan` and `Memory` are never printed.
abbrev pub fault_text : Fault → List ℕ
fault_text (Arity expected actual) = fault_line (codes "Arity") (expected ∷ actual ∷ [])
fault_text (InputLength index length row_count) = fault_line (codes "InputLength") (index ∷ length ∷ row_count ∷ [])
fault_text Refused = fault_line (codes "Refused") []
fault_text (Dtype index) = fault_line (codes "Dtype") (index ∷ [])
fault_text OutputType = fault_line (codes "OutputType") []
fault_text (Decode index) = fault_line (codes "Decode") (index ∷ [])
fault_text (Capacity rows) = fault_line (codes "Capacity") (rows ∷ [])
fault_text (Row error) = fault_line (codes "Row") (error.0 ∷ [])
fault_text Memory = fault_line (codes "Memory") []
fault_text (Layout layout) = fault_line (codes "Layout") []
fault_text (Cast row) = fault_line (codes "Cast") (row ∷ [])
fault_text NotList = fault_line (codes "NotList") []
fault_text NullList = fault_line (codes "NullList") []
fault_text NeedleType = fault_line (codes "NeedleType") []
fault_text (SetLength bits validity) = fault_line (codes "SetLength") (bits ∷ validity ∷ [])
fault_text Metadata = fault_line (codes "Metadata") []
fault_text DayUnits = fault_line (codes "DayUnits") []
fault_text PolicyType = fault_line (codes "PolicyType") []
fault_text UnknownZone = fault_line (codes "UnknownZone") []
fault_text (BadPolicy row) = fault_line (codes "BadPolicy") (row ∷ [])
fault_text (OutOfRange row) = fault_line (codes "OutOfRange") (row ∷ [])
fault_text (Overflow row) = fault_line (codes "Overflow") (row ∷ [])
fault_text (Gap row) = fault_line (codes "Gap") (row ∷ [])
fault_text (Ambiguous row) = fault_line (codes "Ambiguous") (row ∷ [])
fault_text (Plan difference) = fault_line (codes "Plan") []
fault_text NotSerializable = fault_line (codes "NotSerializable") []
