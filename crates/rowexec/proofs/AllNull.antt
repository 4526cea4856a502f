-- Columns that are null at each row.
use Rattle.std.proofs.Common.{◌≡◌, ◌∙◌, ℕ, Bool, true, false, ◌||◌, List, ◌∷◌, Option, None, Some, refl, ap, sym}
use Rattle.std.specs.Prelude.{is_some}
use Rattle.colbase.specs.Arrays.{Array, dtype, row}
use Rattle.coltypes.specs.Cell.{Cell}
use Rattle.coltypes.specs.Fits.{is_nullable}
use Rattle.coltypes.specs.LogicalType.{nullability_of}
use Rattle.coltypes.specs.Valid.{valid_at, validity_kind, validity_nullability}
use Rattle.coltypes.specs.declared.dtype.Nullability.TheVariants.{Nullable}
use Rattle.coltypes.specs.declared.validity.Validity.{Validity}
use Rattle.coltypes.specs.declared.validity.Validity.TheVariants as v
use Rattle.coltypes.specs.declared.validity.ValidityKind.TheVariants.{AllNull}
use Rattle.rowplan.specs.Outputs.{any_nullable}
use Rattle.rowexec.specs.Rows.{full_cells, types_of, with_cell}

pub all_null_type : (w : Validity) → validity_kind w ≡ AllNull → validity_nullability w ≡ Nullable
all_null_type v.NonNullable h = absurd (cc)
all_null_type v.AllValid h = absurd (cc)
all_null_type v.AllInvalid h = refl
all_null_type (v.Array bits) h = absurd (cc)

all_null_at : (w : Validity) (i : ℕ) → validity_kind w ≡ AllNull → valid_at w i ≡ false
all_null_at v.NonNullable i h = absurd (cc)
all_null_at v.AllValid i h = absurd (cc)
all_null_at v.AllInvalid i h = refl
all_null_at (v.Array bits) i h = absurd (cc)

or_here : (b : Bool) → b ≡ true → (rest : Bool) → (b || rest) ≡ true
or_here true h rest = refl
or_here false h rest = absurd (cc)

or_later : (b rest : Bool) → rest ≡ true → (b || rest) ≡ true
or_later true rest h = refl
or_later false rest h = h

pub nullable_here : (columns : List Array) (a : Array) (others : List Array) → columns ≡ a ∷ others → nullability_of (dtype a) ≡ Nullable → any_nullable (types_of columns) ≡ true
nullable_here columns a others e h = ap (λ xs. any_nullable (types_of xs)) e ∙ or_here (is_nullable (nullability_of (dtype a))) (ap is_nullable h) (any_nullable (types_of others))

pub nullable_later : (columns : List Array) (a : Array) (others : List Array) → columns ≡ a ∷ others → any_nullable (types_of others) ≡ true → any_nullable (types_of columns) ≡ true
nullable_later columns a others e h = ap (λ xs. any_nullable (types_of xs)) e ∙ or_later (is_nullable (nullability_of (dtype a))) (any_nullable (types_of others)) h

abbrev no_row : Option (List Cell)
no_row = None

none_here : (o : Option Cell) (rest : Option (List Cell)) → is_some o ≡ false → with_cell o rest ≡ no_row
none_here (Some c) rest h = absurd (cc)
none_here None rest h = refl

none_later : (o : Option Cell) (rest : Option (List Cell)) → rest ≡ no_row → with_cell o rest ≡ no_row
none_later (Some c) (Some cells) h = absurd (cc)
none_later (Some c) None h = refl
none_later None rest h = refl

pub not_full_here : (columns : List Array) (a : Array) (others : List Array) (i : ℕ) (w : Validity) → columns ≡ a ∷ others → validity_kind w ≡ AllNull → valid_at w i ≡ is_some (row a i) → full_cells columns i ≡ no_row
not_full_here columns a others i w e k t = ap (λ xs. full_cells xs i) e ∙ none_here (row a i) (full_cells others i) (sym t ∙ all_null_at w i k)

pub not_full_later : (columns : List Array) (a : Array) (others : List Array) (i : ℕ) → columns ≡ a ∷ others → full_cells others i ≡ no_row → full_cells columns i ≡ no_row
not_full_later columns a others i e h = ap (λ xs. full_cells xs i) e ∙ none_later (row a i) (full_cells others i) h
