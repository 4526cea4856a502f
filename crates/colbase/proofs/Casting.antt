-- What a type made nullable or not does to an array.
use Rattle.std.proofs.Common.{◌≡◌, ◌∙◌, ℕ, Bool, true, false, List, Option, Some, None, refl, ap, sym, subst, arith, inl}
use Rattle.std.specs.Prelude.{cond, option_map, IsSome, IsTrue, ◌↔◌, Result, Ok, Err, IfOk, IfErr}
use Rattle.bitlane.specs.Bits.{tabulate}
use Rattle.bitlane.proofs.Tables.{tabulate-same}
use Rattle.coltypes.specs.declared.dtype.Nullability.{Nullability}
use Rattle.coltypes.specs.declared.dtype.Nullability.TheVariants.{Nullable, NonNullable}
use Rattle.coltypes.specs.declared.fault.Fault.{Fault}
use Rattle.coltypes.specs.declared.fault.Fault.TheVariants.{Memory}
use Rattle.coltypes.specs.declared.dtype.ExtDType.{ExtDType}
use Rattle.coltypes.specs.declared.scalar.Scalar.{Scalar}
use Rattle.coltypes.specs.declared.scalar.ScalarValue.{ScalarValue}
use Rattle.coltypes.specs.declared.values.PrimitiveValues.{PrimitiveValues}
use Rattle.coltypes.specs.declared.validity.Validity.{Validity}
use Rattle.coltypes.specs.declared.validity.Validity.TheVariants as v
use Rattle.coltypes.specs.Cell.{Cell}
use Rattle.coltypes.specs.CellOf.{cell_of}
use Rattle.coltypes.specs.Fits.{fits_type}
use Rattle.coltypes.specs.LogicalType as types
use Rattle.coltypes.specs.LogicalTypeOf.{logical_type}
use Rattle.coltypes.specs.Valid.{Covers, valid_at, validity_nullability}
use Rattle.coltypes.specs.Values.{ptype_of}
use Rattle.colbase.specs.Arrays.{Array, constant, masked, extension, primitive, bool, dtype, len, masked_type, payload, row, rows, stored}
use Rattle.colbase.specs.Casts.{Casts, NoNull, refused_null}
use Rattle.coltypes.specs.Valid.{cast_validity}
use Rattle.colbase.specs.Hides.{Retypes}
use Rattle.colbase.proofs.Rows.{present_rows}
use Rattle.colbase.proofs.Nullable.{fits-with_nullability, nullable_fits}

last_counts : (t : types.LogicalType) (a b : Nullability) → types.with_nullability (types.with_nullability t a) b ≡ types.with_nullability t b
last_counts types.null a b = refl
last_counts (types.bool n) a b = refl
last_counts (types.primitive p n) a b = refl
last_counts (types.utf8 n) a b = refl
last_counts (types.binary n) a b = refl
last_counts (types.list t n) a b = refl
last_counts (types.fixed_size_list t width n) a b = refl
last_counts (types.extension name unit time_zone t) a b = ap (types.extension name unit time_zone) (last_counts t a b)

-- a type of this nullability stays as it is
pub type_stays : (t : types.LogicalType) (n : Nullability) → types.nullability_of t ≡ n → t ≡ types.with_nullability t n
type_stays types.null n h = refl
type_stays (types.bool m) n h = ap types.bool h
type_stays (types.primitive p m) n h = ap (types.primitive p) h
type_stays (types.utf8 m) n h = ap types.utf8 h
type_stays (types.binary m) n h = ap types.binary h
type_stays (types.list t m) n h = ap (types.list t) h
type_stays (types.fixed_size_list t width m) n h = ap (types.fixed_size_list t width) h
type_stays (types.extension name unit time_zone t) n h = ap (types.extension name unit time_zone) (type_stays t n h)

-- the nullability that a type comes to have makes the same type
pub same_target : (t : types.LogicalType) (to : Nullability) → types.with_nullability t (types.nullability_of (types.with_nullability t to)) ≡ types.with_nullability t to
same_target types.null to = refl
same_target (types.bool m) to = refl
same_target (types.primitive p m) to = refl
same_target (types.utf8 m) to = refl
same_target (types.binary m) to = refl
same_target (types.list t m) to = refl
same_target (types.fixed_size_list t width m) to = refl
same_target (types.extension name unit time_zone t) to = ap (types.extension name unit time_zone) (same_target t to)

pub cast_fits : (o : Option Cell) (t : types.LogicalType) (to : Nullability) → (to ≡ NonNullable → IsSome o) → IsTrue (fits_type o t) → IsTrue (fits_type o (types.with_nullability t to))
cast_fits o t Nullable p h = nullable_fits o t h
cast_fits None t NonNullable p h = absurd (let e = p refl in cc)
cast_fits (Some c) t NonNullable p h = fits-with_nullability t NonNullable c ∙ h

-- the value of a scalar, which is there where the type is not to be nullable
pub value_fits : (s : Scalar) (o : Option ScalarValue) (t : types.LogicalType) (to : Nullability) → o ≡ s.value → t ≡ types.with_nullability (logical_type s.dtype) to
    → (to ≡ NonNullable → IsSome (option_map cell_of s.value)) → IsTrue (fits_type (option_map cell_of o) t)
value_fits s o t to e h p = rw (e, h) (cast_fits (option_map cell_of s.value) (logical_type s.dtype) to p s.lawful)

pub value_there : (o : Option ScalarValue) (b : Bool) → (IsTrue b ↔ (o ≡ None)) → b ≡ false → IsSome (option_map cell_of o)
value_there None b h e = absurd (let t = h.1 refl in cc)
value_there (Some x) b h e = refl

pub covers_cast : (w : Validity) (to : Nullability) (n : ℕ) → Covers w n → Covers (cast_validity w to) n
covers_cast w NonNullable n h = tt
covers_cast v.NonNullable Nullable n h = tt
covers_cast v.AllValid Nullable n h = tt
covers_cast v.AllInvalid Nullable n h = tt
covers_cast (v.Array xs) Nullable n h = h

pub nullability_cast : (w : Validity) (to : Nullability) → validity_nullability (cast_validity w to) ≡ to
nullability_cast w NonNullable = refl
nullability_cast v.NonNullable Nullable = refl
nullability_cast v.AllValid Nullable = refl
nullability_cast v.AllInvalid Nullable = refl
nullability_cast (v.Array xs) Nullable = refl

valid_cast : (w : Validity) (to : Nullability) (i : ℕ) → (to ≡ NonNullable → valid_at w i ≡ true) → valid_at (cast_validity w to) i ≡ valid_at w i
valid_cast w NonNullable i h = sym (h refl)
valid_cast v.NonNullable Nullable i h = refl
valid_cast v.AllValid Nullable i h = refl
valid_cast v.AllInvalid Nullable i h = refl
valid_cast (v.Array xs) Nullable i h = refl

chosen_present : (b : Bool) (c : Option Cell) → IsSome (cond b c None) → b ≡ true
chosen_present true c h = refl
chosen_present false c h = absurd (cc)

-- where no row is null, a row is the child's
child_row : (b : Bool) (c : Option Cell) → IsSome (cond b c None) → c ≡ cond b c None
child_row true c h = refl
child_row false c h = absurd (cc)

pub retypes_primitive : (x : PrimitiveValues) (w : Validity) (to : Nullability) → (to ≡ NonNullable → NoNull (primitive x w))
    → Retypes (primitive x w) (types.with_nullability (dtype (primitive x w)) to) (primitive x (cast_validity w to))
retypes_primitive x w to h = record {
  counted = refl;
  typed = ap (types.primitive (ptype_of x)) (nullability_cast w to);
  shown = λ i k. ap (λ b. cond b (stored (primitive x w) i) None) (valid_cast w to i (λ e. chosen_present (valid_at w i) (stored (primitive x w) i) (h e i k)));
  kept = λ i k. refl;
}

pub retypes_bool : (xs : List Bool) (w : Validity) (to : Nullability) → (to ≡ NonNullable → NoNull (bool xs w))
    → Retypes (bool xs w) (types.with_nullability (dtype (bool xs w)) to) (bool xs (cast_validity w to))
retypes_bool xs w to h = record {
  counted = refl;
  typed = ap types.bool (nullability_cast w to);
  shown = λ i k. ap (λ b. cond b (stored (bool xs w) i) None) (valid_cast w to i (λ e. chosen_present (valid_at w i) (stored (bool xs w) i) (h e i k)));
  kept = λ i k. refl;
}

masked_nullable : (t : types.LogicalType) (w : Validity) → masked_type t (cast_validity w Nullable) ≡ types.with_nullability (masked_type t w) Nullable
masked_nullable t v.NonNullable = refl
masked_nullable t v.AllValid = sym (last_counts t Nullable Nullable)
masked_nullable t v.AllInvalid = sym (last_counts t Nullable Nullable)
masked_nullable t (v.Array xs) = sym (last_counts t Nullable Nullable)

masked_outer : (t : types.LogicalType) (w : Validity) (to : Nullability) → types.with_nullability t to ≡ types.with_nullability (masked_type t w) to
masked_outer t v.NonNullable to = refl
masked_outer t v.AllValid to = sym (last_counts t Nullable to)
masked_outer t v.AllInvalid to = sym (last_counts t Nullable to)
masked_outer t (v.Array xs) to = sym (last_counts t Nullable to)

retypes_masked : (c : Array) (w : Validity)
    → Retypes (masked c w) (types.with_nullability (dtype (masked c w)) Nullable) (masked c (cast_validity w Nullable))
retypes_masked c w = record {
  counted = refl;
  typed = masked_nullable (dtype c) w;
  shown = λ i k. ap (λ b. cond b (row c i) None) (valid_cast w Nullable i (λ e. absurd (cc)));
  kept = λ i k. refl;
}

pub retypes_mask : (c d a : Array) (w u : Validity) → d ≡ c → u ≡ cast_validity w Nullable → a ≡ masked d u
    → Retypes (masked c w) (types.with_nullability (dtype (masked c w)) Nullable) a
retypes_mask c d a w u h k e =
    let P : Array → Type 0 = λ x. Retypes (masked c w) (types.with_nullability (dtype (masked c w)) Nullable) x in
    subst P (sym (rw (h, k) at e)) (retypes_masked c w)

-- where no row is null, the child without the mask
pub retypes_child : (c : Array) (w : Validity) (a : Array) (to : Nullability) → NoNull (masked c w) → Retypes c (types.with_nullability (dtype c) to) a
    → Retypes (masked c w) (types.with_nullability (dtype (masked c w)) to) a
retypes_child c w a to h r = record {
  counted = r.counted;
  typed = r.typed ∙ masked_outer (dtype c) w to;
  shown = λ i k. r.shown i k ∙ child_row (valid_at w i) (row c i) (h i k);
  kept = λ i k. r.kept i k;
}

pub retypes_storage : (e : ExtDType) (c d a : Array) (t u : types.LogicalType) → Retypes c t d → Retypes d u a → Retypes (extension e c) u a
retypes_storage e c d a t u r s = record {
  counted = s.counted ∙ r.counted;
  typed = s.typed;
  shown = λ i k. s.shown i (rw r.counted k) ∙ r.shown i k;
  kept = λ i k. s.kept i (rw r.counted k) ∙ r.kept i k;
}

pub retypes_constant : (s d : Scalar) (n : ℕ) (t : types.LogicalType) → logical_type d.dtype ≡ t → d.value ≡ s.value → Retypes (constant s n) t (constant d n)
retypes_constant s d n t h e = record {
  counted = refl;
  typed = h;
  shown = λ i k. ap (option_map cell_of) e;
  kept = λ i k. ap (option_map cell_of) e;
}

pub retypes_empty : (c a : Array) (t : types.LogicalType) → len c ≡ 0 → len a ≡ 0 → dtype a ≡ t → Retypes c t a
retypes_empty c a t h k e = record {
  counted = k ∙ sym h;
  typed = e;
  shown = λ i l. absurd (omega (arith, h));
  kept = λ i l. absurd (omega (arith, h));
}

pub retypes_same : (c a : Array) (to : Nullability) → types.nullability_of (dtype c) ≡ to → a ≡ c → Retypes c (types.with_nullability (dtype c) to) a
retypes_same c a to h e =
    let P : Array → Type 0 = λ x. Retypes c (types.with_nullability (dtype c) to) x in
    subst P (sym e) (record { counted = refl; typed = type_stays (dtype c) to h; shown = λ i k. refl; kept = λ i k. refl })

pub retypes_at : (c d a : Array) (to : Nullability) → c ≡ d → Retypes d (types.with_nullability (dtype d) to) a → Retypes c (types.with_nullability (dtype c) to) a
retypes_at c d a to e h =
    let P : Array → Type 0 = λ x. Retypes x (types.with_nullability (dtype x) to) a in
    subst P (sym e) h

pub passes : (a : Array) (to : Nullability) → refused_null a to ≡ None → to ≡ NonNullable → NoNull a
passes a NonNullable h e = present_rows a h
passes a Nullable h e = absurd (cc)

pub rows_retyped : (c a : Array) (t : types.LogicalType) → Retypes c t a → rows a ≡ rows c
rows_retyped c a t h = ap (tabulate (row a)) h.counted ∙ tabulate-same (row a) (row c) (len c) h.shown

pub payload_retyped : (c a : Array) (t : types.LogicalType) → Retypes c t a → payload a ≡ payload c
payload_retyped c a t h = ap (tabulate (stored a)) h.counted ∙ tabulate-same (stored a) (stored c) (len c) h.kept

-- the answer of a cast, of a type that is known by the nullability it comes to have
pub casts_retyped : (c : Array) (to n : Nullability) (r : Result Array Fault) → n ≡ types.nullability_of (types.with_nullability (dtype c) to) → refused_null c n ≡ None
    → IfOk r (Retypes c (types.with_nullability (dtype c) n)) → IfErr r (λ e. e ≡ Memory) → Casts r c to
casts_retyped c to n (Ok a) h k r m =
    (ap (refused_null c) (sym h) ∙ k, r.typed ∙ ap (types.with_nullability (dtype c)) h ∙ same_target (dtype c) to, rows_retyped c a _ r, payload_retyped c a _ r)
casts_retyped c to n (Err x) h k r m = inl m
