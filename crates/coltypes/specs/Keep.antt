-- The rows that truth values select, and where they stood.
use Rattle.std.specs.Prelude.{ℕ, zero, suc, Bool, true, false, List, [], ◌∷◌}
use Rattle.coltypes.specs.declared.validity.Validity.{Validity}
use Rattle.coltypes.specs.declared.validity.Validity.TheVariants as v
use Rattle.coltypes.specs.declared.values.PrimitiveValues.{PrimitiveValues}
use Rattle.coltypes.specs.declared.values.PrimitiveValues.TheVariants as p

-- the members where the truth value is true
abbrev pub keep : {X : Type 0} → List Bool → List X → List X
keep [] xs = []
keep (b ∷ bits) [] = []
keep (true ∷ bits) (x ∷ xs) = x ∷ keep bits xs
keep (false ∷ bits) (x ∷ xs) = keep bits xs

-- how many are true
abbrev pub trues : List Bool → ℕ
trues [] = 0
trues (true ∷ bits) = suc (trues bits)
trues (false ∷ bits) = trues bits

-- where the true value number i stands
abbrev pub place : List Bool → ℕ → ℕ
place [] i = 0
place (true ∷ bits) zero = 0
place (true ∷ bits) (suc i) = suc (place bits i)
place (false ∷ bits) i = suc (place bits i)

abbrev pub keep_validity : List Bool → Validity → Validity
keep_validity bits (v.Array valid) = v.Array (keep bits valid)
keep_validity bits w = w

abbrev pub keep_values : List Bool → PrimitiveValues → PrimitiveValues
keep_values bits (p.I8 xs) = p.I8 (keep bits xs)
keep_values bits (p.I16 xs) = p.I16 (keep bits xs)
keep_values bits (p.I32 xs) = p.I32 (keep bits xs)
keep_values bits (p.I64 xs) = p.I64 (keep bits xs)
keep_values bits (p.U8 xs) = p.U8 (keep bits xs)
keep_values bits (p.U16 xs) = p.U16 (keep bits xs)
keep_values bits (p.U32 xs) = p.U32 (keep bits xs)
keep_values bits (p.U64 xs) = p.U64 (keep bits xs)
