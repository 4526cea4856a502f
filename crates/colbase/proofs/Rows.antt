-- Which rows of an array are null.
use Rattle.std.proofs.Common.{◌≡◌, ◌∙◌, ℕ, ◌<◌, Bool, true, false, Option, Some, None, refl, ap, sym}
use Rattle.std.specs.Prelude.{is_some, IsSome, not}
use Rattle.coltypes.specs.Cell.{Cell}
use Rattle.coltypes.specs.declared.scalar.ScalarValue.{ScalarValue}
use Rattle.coltypes.specs.declared.dtype.Nullability.{Nullability}
use Rattle.coltypes.specs.declared.dtype.Nullability.TheVariants.{NonNullable, Nullable}
use Rattle.coltypes.specs.CellOf.{cell_of}
use Rattle.coltypes.specs.Valid.{valid_at, validity_kind}
use Rattle.coltypes.specs.declared.validity.Validity.{Validity}
use Rattle.coltypes.specs.declared.validity.Validity.TheVariants as v
use Rattle.coltypes.specs.declared.validity.ValidityKind.TheVariants.{NoNulls}
use Rattle.colbase.specs.Faults.{lowest, null_at}
use Rattle.colbase.specs.Parts.{own_validity}
use Rattle.coltypes.specs.Scalars.{constant_validity}
use Rattle.coltypes.specs.LogicalType.{nullability_of}
use Rattle.coltypes.specs.LogicalTypeOf.{logical_type}
use Rattle.colbase.specs.Arrays.{Array, constant, masked, extension, primitive, bool, varbin, varbinview, list, listview, fixed_size_list, row, len, Sound}
use Rattle.std.specs.Prelude.{option_map, cond}
use Rattle.colbase.proofs.Lowest.{lowest-never, lowest-none}

some_of : (o : Option Cell) → not (is_some o) ≡ false → IsSome o
some_of None h = absurd (cc)
some_of (Some x) h = refl

pub present_rows : (c : Array) → lowest (null_at c) (len c) ≡ None → (i : ℕ) → i < len c → IsSome (row c i)
present_rows c h i l = some_of (row c i) (lowest-none (null_at c) (len c) h i l)

-- where something is stored, a row is null exactly where the validity says so
chosen : (b : Bool) (c : Option Cell) → (b ≡ true → IsSome c) → b ≡ is_some (cond b c None)
chosen false c h = refl
chosen true None h = absurd (let e = h refl in cc)
chosen true (Some x) h = refl

constant_row : (v : Option ScalarValue) (n : Nullability) (i : ℕ) → valid_at (constant_validity v n) i ≡ is_some (option_map cell_of v)
constant_row None n i = refl
constant_row (Some x) NonNullable i = refl
constant_row (Some x) Nullable i = refl

pub valid_rows : (a : Array) → Sound a → (i : ℕ) → i < len a → valid_at (own_validity a) i ≡ is_some (row a i)
valid_rows (constant x n) s i h = constant_row x.value (nullability_of (logical_type x.dtype)) i
valid_rows (masked c v) s i h = chosen (valid_at v i) (row c i) (λ _. s.2 i h)
valid_rows (extension e c) s i h = valid_rows c s.0 i h
valid_rows (primitive values v) s i h = chosen (valid_at v i) _ (λ _. refl)
valid_rows (bool bits v) s i h = chosen (valid_at v i) _ (λ _. refl)
valid_rows (varbin offsets bs k v) s i h = chosen (valid_at v i) _ (λ _. refl)
valid_rows (varbinview views buffers k v) s i h = chosen (valid_at v i) _ (s.2 i h)
valid_rows (list c offsets v) s i h = chosen (valid_at v i) _ (λ _. refl)
valid_rows (listview c offsets sizes v) s i h = chosen (valid_at v i) _ (s.3 i h)
valid_rows (fixed_size_list c width n v) s i h = chosen (valid_at v i) _ (λ _. refl)

valid_by_kind : (w : Validity) (i : ℕ) → validity_kind w ≡ NoNulls → valid_at w i ≡ true
valid_by_kind v.NonNullable i h = refl
valid_by_kind v.AllValid i h = refl
valid_by_kind v.AllInvalid i h = absurd (cc)
valid_by_kind (v.Array bits) i h = absurd (cc)

-- a validity that tells of no null
pub none_by_kind : (a : Array) → Sound a → validity_kind (own_validity a) ≡ NoNulls → lowest (null_at a) (len a) ≡ None
none_by_kind a s h = lowest-never (null_at a) (len a) (λ i k. ap not (sym (valid_rows a s i k) ∙ valid_by_kind (own_validity a) i h))
