-- The value of a list scalar fits its type.
use Rattle.std.proofs.Common.{◌≡◌, ◌∙◌, ℕ, zero, suc, ◌+◌, ◌<◌, true, List, [], ◌∷◌, ◌++◌, length, take, get_or, replicate, Option, Some, None, refl, ap, sym, map, arith, add-one}
use Rattle.std.specs.Prelude.{IsTrue, option_map, nat_eq}
use Rattle.std.proofs.lemmas.Bool.Decides.{nat_tests}
use Rattle.std.proofs.lemmas.List.Elements.{All-head, All-tail}
use Rattle.coltypes.specs.declared.scalar.Scalar.{Scalar}
use Rattle.coltypes.specs.declared.scalar.ScalarValue.{ScalarValue, fold-roll-ScalarValue}
use Rattle.coltypes.specs.declared.scalar.ScalarValue.TheVariants as v
use Rattle.coltypes.specs.declared.scalar.ScalarValue.TheOpen.{ScalarValue-F}
use Rattle.coltypes.specs.declared.dtype.DType.{DType, fold-roll-DType}
use Rattle.coltypes.specs.declared.dtype.DType.TheVariants as d
use Rattle.coltypes.specs.declared.dtype.DType.TheOpen.{DType-F}
use Rattle.coltypes.specs.declared.dtype.Nullability.{Nullability}
use Rattle.coltypes.specs.Cell.{Cell, cells, list_of}
use Rattle.coltypes.specs.CellOf.{cell_of, cell_step}
use Rattle.coltypes.specs.Fits.{all_fit, count_of, fits_type}
use Rattle.coltypes.specs.LogicalType.{LogicalType, list, fixed_size_list}
use Rattle.coltypes.specs.LogicalTypeOf.{logical_type, type_step, extension_step}
use Rattle.coltypes.specs.Scalars.{AllOfType, scalar_cell, scalar_type}

same_map : (g : Option ScalarValue → Option Cell) → g None ≡ None → ((x : ScalarValue) → g (Some x) ≡ Some (cell_of x)) → (xs : List (Option ScalarValue)) → map g xs ≡ map (option_map cell_of) xs
same_map g h k [] = refl
same_map g h k (None ∷ xs) = rw (h, same_map g h k xs) refl
same_map g h k (Some x ∷ xs) = rw (k x, same_map g h k xs) refl

-- the cell of a list of values is the list of their cells
pub cell_list : (xs : List (Option ScalarValue)) → cell_of (v.List xs) ≡ list_of (map (option_map cell_of) xs)
cell_list xs = ap cell_of (sym (v.rolls-List xs)) ∙ fold-roll-ScalarValue Cell cell_step (ScalarValue-F.List xs) ∙ ap list_of (same_map _ refl (λ x. refl) xs)

values_of_scalars : (ss : List Scalar) → map (option_map cell_of) (map (λ s. s.value) ss) ≡ map scalar_cell ss
values_of_scalars [] = refl
values_of_scalars (s ∷ ss) = ap (λ t. scalar_cell s ∷ t) (values_of_scalars ss)

pub list_cell : (ss : List Scalar) (xs : List (Option ScalarValue)) → xs ≡ map (λ s. s.value) ss → cell_of (v.List xs) ≡ list_of (map scalar_cell ss)
list_cell ss xs h = cell_list xs ∙ ap (λ (ys : List (Option ScalarValue)). list_of (map (option_map cell_of) ys)) h ∙ ap list_of (values_of_scalars ss)

member_fits : (o : Option Cell) (t : LogicalType) (more : List (Option Cell)) → IsTrue (fits_type o t) → all_fit t (cells more) ≡ true → all_fit t (cells (o ∷ more)) ≡ true
member_fits None t more h k = rw (h, k) refl
member_fits (Some c) t more h k = rw (h, k) refl

pub scalars_fit : (ss : List Scalar) (t : LogicalType) → AllOfType t ss → all_fit t (cells (map scalar_cell ss)) ≡ true
scalars_fit [] t h = refl
scalars_fit (s ∷ ss) t h =
    let e = All-head (λ s. scalar_type s ≡ t) s ss h in
    let f = ap (λ u. fits_type (scalar_cell s) u) (sym e) ∙ s.lawful in
    member_fits (scalar_cell s) t (map scalar_cell ss) f (scalars_fit ss t (All-tail (λ s. scalar_type s ≡ t) s ss h))

pub count_cells : (ss : List Scalar) → count_of (cells (map scalar_cell ss)) ≡ length ss
count_cells [] = refl
count_cells (s ∷ ss) = one_more (scalar_cell s) (map scalar_cell ss) (length ss) (count_cells ss)
  where
    one_more : (o : Option Cell) (more : List (Option Cell)) (n : ℕ) → count_of (cells more) ≡ n → count_of (cells (o ∷ more)) ≡ suc n
    one_more None more n h = ap suc h
    one_more (Some c) more n h = ap suc h

-- the value of a list of scalars, under a type whose elements they have
pub list_fits : (ss : List Scalar) (t d : LogicalType) (n : Nullability) (x : ScalarValue) → AllOfType t ss → cell_of x ≡ list_of (map scalar_cell ss) → d ≡ list t n
    → IsTrue (fits_type (Some (cell_of x)) d)
list_fits ss t d n x h e f = rw (e, f) (scalars_fit ss t h)

same_number : (n : ℕ) → nat_eq n n ≡ true
same_number n = grind (arith, nat_tests)

pub fixed_fits : (ss : List Scalar) (t d : LogicalType) (n : Nullability) (x : ScalarValue) → AllOfType t ss → cell_of x ≡ list_of (map scalar_cell ss) → d ≡ fixed_size_list t (length ss) n
    → IsTrue (fits_type (Some (cell_of x)) d)
fixed_fits ss t d n x h e f = rw (e, f, count_cells ss, same_number (length ss), scalars_fit ss t h) refl

all_repeated : (n : ℕ) (o : Option Cell) (t : LogicalType) → IsTrue (fits_type o t) → all_fit t (cells (replicate n o)) ≡ true
all_repeated zero o t h = refl
all_repeated (suc n) o t h = member_fits o t (replicate n o) h (all_repeated n o t h)

count_repeated : (n : ℕ) (o : Option Cell) → count_of (cells (replicate n o)) ≡ n
count_repeated zero o = refl
count_repeated (suc n) None = ap suc (count_repeated n None)
count_repeated (suc n) (Some c) = ap suc (count_repeated n (Some c))

pub fixed_type : (t : DType) (width : ℕ) (n : Nullability) → logical_type (d.FixedSizeList t width n) ≡ fixed_size_list (logical_type t) width n
fixed_type t width n = ap logical_type (sym (d.rolls-FixedSizeList t width n)) ∙ fold-roll-DType LogicalType LogicalType type_step extension_step (DType-F.FixedSizeList t width n)

-- as many times one element as the type says
pub repeated_fits : (t d : LogicalType) (n : ℕ) (m : Nullability) (x : ScalarValue) (o : Option Cell) → d ≡ fixed_size_list t n m → cell_of x ≡ list_of (replicate n o) → IsTrue (fits_type o t)
    → IsTrue (fits_type (Some (cell_of x)) d)
repeated_fits t d n m x o e f h = rw (e, f, count_repeated n o, same_number n, all_repeated n o t h) refl

map_replicate : (n : ℕ) (o : Option ScalarValue) → map (option_map cell_of) (replicate n o) ≡ replicate n (option_map cell_of o)
map_replicate zero o = refl
map_replicate (suc n) o = ap (λ l. option_map cell_of o ∷ l) (map_replicate n o)

pub repeated_cell : (xs : List (Option ScalarValue)) (n : ℕ) (o : Option ScalarValue) → xs ≡ replicate n o → cell_of (v.List xs) ≡ list_of (replicate n (option_map cell_of o))
repeated_cell xs n o h = cell_list xs ∙ ap (λ (ys : List (Option ScalarValue)). list_of (map (option_map cell_of) ys)) h ∙ ap list_of (map_replicate n o)

-- the values of one more scalar
pub values-more : (ss : List Scalar) (i : ℕ) (d : Scalar) → i < length ss → map (λ s. s.value) (take (i + 1) ss) ≡ map (λ s. s.value) (take i ss) ++ (get_or ss i d).value ∷ []
values-more [] i d h = absurd (omega arith)
values-more (s ∷ ss) zero d h = refl
values-more (s ∷ ss) (suc i) d h = rw add-one (ap (λ l. s.value ∷ l) (rw add-one at (values-more ss i d (omega arith))))
