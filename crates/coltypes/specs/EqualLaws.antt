-- The tests of equality decide equality, so they are equivalences, and what is equal is hashed alike.
use Rattle.std.specs.Prelude.{ℕ, ◌==◌, Bool, true, ◌≡◌, ◌&&◌, List, Option, Some, None, refl}
use Rattle.std.proofs.Common.{ap}
use Rattle.std.specs.Bool.{Decides}
use Rattle.std.specs.Option.{option_eq}
use Rattle.std.specs.Cmp.{IsEquivalence, decided, on_equiv, and_equiv, booleans_Decides, signed_Decides, unsigned_Decides}
use Rattle.std.specs.Cmp.Lexicographic.{bytes_decides, pointwise}
use Rattle.std.proofs.lemmas.Bool.Decides.{Decides-and}
use Rattle.coltypes.specs.declared.dtype.PType.{PType}
use Rattle.coltypes.specs.declared.dtype.PType.TheVariants.{I8, I16, I32, I64, U8, U16, U32, U64}
use Rattle.coltypes.specs.declared.dtype.Nullability.{Nullability}
use Rattle.coltypes.specs.declared.dtype.Nullability.TheVariants.{Nullable, NonNullable}
use Rattle.coltypes.specs.declared.dtype.TimeUnit.{TimeUnit}
use Rattle.coltypes.specs.declared.dtype.TimeUnit.TheVariants.{Nanoseconds, Microseconds, Milliseconds, Seconds, Days}
use Rattle.coltypes.specs.declared.scalar.Scalar.{Scalar}
use Rattle.coltypes.specs.LogicalType.{LogicalType, null, bool, primitive, utf8, binary, list, fixed_size_list, extension, ignore_nullability}
use Rattle.coltypes.specs.Cell.{Cell, Cells, truth, number, bytes, list as list_cell, no_cells, null_then, cell_then}
use Rattle.coltypes.specs.Scalars.{scalar_cell, scalar_type}
use Rattle.coltypes.specs.Equal.{same_ptype, same_nullability, same_unit, same_type, same_cell, same_cells, same_scalar, SameScalars, optional_input}

-- a test of one statement decides another that says the same
by_turns : {P Q : Type 0} (r : Bool) → Decides r P → (P → Q) → (Q → P) → Decides r Q
by_turns r d f g = (λ e. f (d.0 e), λ q. d.1 (g q))

option_decides : {T : Type 0} {E : T → T → Bool} → ((x y : T) → Decides (E x y) (x ≡ y)) → (a b : Option T) → Decides (option_eq E a b) (a ≡ b)
option_decides d None None = (λ e. refl, λ e. refl)
option_decides {T} {E} d (Some x) (Some y) = by_turns (E x y) (d x y) (λ e. ap Some e) (λ e. cc)
option_decides d None (Some y) = (λ e. absurd (cc), λ e. absurd (cc))
option_decides d (Some x) None = (λ e. absurd (cc), λ e. absurd (cc))

ptype_decides : (p q : PType) → Decides (same_ptype p q) (p ≡ q)
ptype_decides I8 I8 = (λ e. refl, λ e. refl)
ptype_decides I16 I16 = (λ e. refl, λ e. refl)
ptype_decides I32 I32 = (λ e. refl, λ e. refl)
ptype_decides I64 I64 = (λ e. refl, λ e. refl)
ptype_decides U8 U8 = (λ e. refl, λ e. refl)
ptype_decides U16 U16 = (λ e. refl, λ e. refl)
ptype_decides U32 U32 = (λ e. refl, λ e. refl)
ptype_decides U64 U64 = (λ e. refl, λ e. refl)
ptype_decides _ _ = (λ e. absurd (cc), λ e. absurd (cc))

nullability_decides : (n m : Nullability) → Decides (same_nullability n m) (n ≡ m)
nullability_decides Nullable Nullable = (λ e. refl, λ e. refl)
nullability_decides NonNullable NonNullable = (λ e. refl, λ e. refl)
nullability_decides _ _ = (λ e. absurd (cc), λ e. absurd (cc))

unit_decides : (x y : TimeUnit) → Decides (same_unit x y) (x ≡ y)
unit_decides Nanoseconds Nanoseconds = (λ e. refl, λ e. refl)
unit_decides Microseconds Microseconds = (λ e. refl, λ e. refl)
unit_decides Milliseconds Milliseconds = (λ e. refl, λ e. refl)
unit_decides Seconds Seconds = (λ e. refl, λ e. refl)
unit_decides Days Days = (λ e. refl, λ e. refl)
unit_decides _ _ = (λ e. absurd (cc), λ e. absurd (cc))

primitives : (p q : PType) (n m : Nullability) → Decides (same_ptype p q && same_nullability n m) (primitive p n ≡ primitive q m)
primitives p q n m = by_turns _ (Decides-and _ _ (ptype_decides p q) (nullability_decides n m)) (λ z. cc (z.0, z.1)) (λ e. ((cc), (cc)))

lists : (t u : LogicalType) (n m : Nullability) → Decides (same_type t u) (t ≡ u) → Decides (same_type t u && same_nullability n m) (list t n ≡ list u m)
lists t u n m d = by_turns _ (Decides-and _ _ d (nullability_decides n m)) (λ z. cc (z.0, z.1)) (λ e. ((cc), (cc)))

fixed_lists : (t u : LogicalType) (v w : ℕ) (n m : Nullability) → Decides (same_type t u) (t ≡ u)
    → Decides (same_type t u && ((v == w) && same_nullability n m)) (fixed_size_list t v n ≡ fixed_size_list u w m)
fixed_lists t u v w n m d =
    by_turns _ (Decides-and _ _ d (Decides-and _ _ (unsigned_Decides v w) (nullability_decides n m))) (λ z. cc (z.0, z.1.0, z.1.1)) (λ e. ((cc), ((cc), (cc))))

extensions : (a b : List ℕ) (x y : Option TimeUnit) (c d : Option (List ℕ)) (t u : LogicalType) → Decides (same_type t u) (t ≡ u)
    → Decides (pointwise ◌==◌ a b && (option_eq same_unit x y && (option_eq (pointwise ◌==◌) c d && same_type t u))) (extension a x c t ≡ extension b y d u)
extensions a b x y c d t u h =
    by_turns _ (Decides-and _ _ (bytes_decides a b) (Decides-and _ _ (option_decides unit_decides x y) (Decides-and _ _ (option_decides bytes_decides c d) h)))
    (λ z. cc (z.0, z.1.0, z.1.1.0, z.1.1.1)) (λ e. ((cc), ((cc), ((cc), (cc)))))

pub type_decides : (t u : LogicalType) → Decides (same_type t u) (t ≡ u)
type_decides null null = (λ e. refl, λ e. refl)
type_decides (bool n) (bool m) = by_turns _ (nullability_decides n m) (λ e. ap bool e) (λ e. cc)
type_decides (primitive p n) (primitive q m) = primitives p q n m
type_decides (utf8 n) (utf8 m) = by_turns _ (nullability_decides n m) (λ e. ap utf8 e) (λ e. cc)
type_decides (binary n) (binary m) = by_turns _ (nullability_decides n m) (λ e. ap binary e) (λ e. cc)
type_decides (list t n) (list u m) = lists t u n m (type_decides t u)
type_decides (fixed_size_list t v n) (fixed_size_list u w m) = fixed_lists t u v w n m (type_decides t u)
type_decides (extension a x c t) (extension b y d u) = extensions a b x y c d t u (type_decides t u)
type_decides _ _ = (λ e. absurd (cc), λ e. absurd (cc))

pub type_equiv : IsEquivalence same_type
type_equiv = decided same_type type_decides

one_more : (c d : Cell) (a b : Cells) → Decides (same_cell c d) (c ≡ d) → Decides (same_cells a b) (a ≡ b) → Decides (same_cell c d && same_cells a b) (cell_then c a ≡ cell_then d b)
one_more c d a b p q = by_turns _ (Decides-and _ _ p q) (λ z. cc (z.0, z.1)) (λ e. ((cc), (cc)))

mutual
  pub cell_decides : (a b : Cell) → Decides (same_cell a b) (a ≡ b)
  cell_decides (truth a) (truth b) = by_turns _ (booleans_Decides a b) (λ e. ap truth e) (λ e. cc)
  cell_decides (number a) (number b) = by_turns _ (signed_Decides a b) (λ e. ap number e) (λ e. cc)
  cell_decides (bytes a) (bytes b) = by_turns _ (bytes_decides a b) (λ e. ap bytes e) (λ e. cc)
  cell_decides (list_cell a) (list_cell b) = (λ e. ap list_cell ((cells_decides a b).0 e), λ e. (cells_decides a b).1 (cc))
  cell_decides _ _ = (λ e. absurd (cc), λ e. absurd (cc))

  pub cells_decides : (a b : Cells) → Decides (same_cells a b) (a ≡ b)
  cells_decides no_cells no_cells = (λ e. refl, λ e. refl)
  cells_decides (null_then a) (null_then b) = (λ e. ap null_then ((cells_decides a b).0 e), λ e. (cells_decides a b).1 (cc))
  cells_decides (cell_then c a) (cell_then d b) = one_more c d a b (cell_decides c d) (cells_decides a b)
  cells_decides _ _ = (λ e. absurd (cc), λ e. absurd (cc))

optional_decides : (a b : Option Cell) → Decides (option_eq same_cell a b) (a ≡ b)
optional_decides = option_decides cell_decides

pub scalar_decides : (a b : Scalar) → Decides (same_scalar a b) (SameScalars a b)
scalar_decides a b = Decides-and _ _ (optional_decides (scalar_cell a) (scalar_cell b)) (type_decides (ignore_nullability (scalar_type a)) (ignore_nullability (scalar_type b)))

pub scalar_equiv : IsEquivalence same_scalar
scalar_equiv = and_equiv (on_equiv scalar_cell (decided (option_eq same_cell) optional_decides)) (on_equiv (λ s. ignore_nullability (scalar_type s)) type_equiv)

-- equal scalars have equal cells, and only the cell is hashed
pub scalar_alike : (a b : Scalar) → same_scalar a b ≡ true → optional_input (scalar_cell a) ≡ optional_input (scalar_cell b)
scalar_alike a b e = ap optional_input ((scalar_decides a b).0 e).0
