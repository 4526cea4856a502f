-- Types that are one, and types of one list.
use Rattle.std.proofs.Common.{◌≡◌, ◌∙◌, ℕ, suc, Bool, true, List, [], ◌∷◌, length, refl, ap}
use Rattle.coltypes.specs.declared.dtype.DType.{DType}
use Rattle.coltypes.specs.Equal.{same_type}
use Rattle.coltypes.specs.EqualLaws.{type_decides}
use Rattle.coltypes.specs.LogicalType.{LogicalType}
use Rattle.rowtypes.specs.Rows.{first_refused, logical_types}
use Rattle.rowplan.specs.Law.{RowLaw}
use Rattle.rowplan.specs.Visits.{Selects, selects_own}

pub same_is_true : (t u : LogicalType) → t ≡ u → same_type t u ≡ true
same_is_true t u e = (type_decides t u).1 e

pub true_is_same : (t u : LogicalType) → same_type t u ≡ true → t ≡ u
true_is_same t u e = (type_decides t u).0 e

pub as_many : (types : List DType) → length (logical_types types) ≡ length types
as_many [] = refl
as_many (t ∷ types) = ap suc (as_many types)

pub refused_same : (f g : ℕ → LogicalType → Bool) → ((k : ℕ) (t : LogicalType) → f k t ≡ g k t) → (k : ℕ) (types : List LogicalType) → first_refused f k types ≡ first_refused g k types
refused_same f g h k [] = refl
refused_same f g h k (t ∷ types) =
    let here = h k t in
    let later = refused_same f g h (suc k) types in
    cc (here, later)

-- a visit over the law's own elements selects them, where the visitor was told the types of the call
pub selects : {E : Type 0} (law : RowLaw E) (arity : ℕ) (types : List DType) (told : List LogicalType) → arity ≡ law.arity → told ≡ logical_types types → length types ≡ law.arity → Selects law arity law.arguments told
selects law arity types told is same count = selects_own law arity told is (ap length same ∙ as_many types ∙ count)
