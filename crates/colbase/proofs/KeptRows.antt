-- What filtering an array does to its rows, its payload and its type.
use Rattle.std.proofs.Common.{◌≡◌, ◌∙◌, ℕ, zero, suc, ◌<◌, Bool, true, false, List, [], ◌∷◌, length, get_or, Option, Some, None, refl, ap, sym, subst, arith, slice_range, inl, inr}
use Rattle.std.specs.Prelude.{count_by, pos, option_map, IsSome, Result, Ok, Err, IfOk}
use Rattle.bitlane.specs.Bits.{tabulate}
use Rattle.bitlane.proofs.Tables.{length-tabulate}
use Rattle.coltypes.specs.Cell.{Cell, truth, number}
use Rattle.coltypes.specs.CellOf.{cell_of}
use Rattle.coltypes.specs.LogicalType as types
use Rattle.coltypes.specs.declared.scalar.Scalar.{Scalar}
use Rattle.coltypes.specs.declared.validity.Validity.{Validity}
use Rattle.coltypes.specs.declared.validity.Validity.TheVariants as v
use Rattle.coltypes.specs.declared.values.PrimitiveValues.{PrimitiveValues}
use Rattle.coltypes.specs.declared.values.PrimitiveValues.TheVariants as p
use Rattle.coltypes.specs.Valid.{valid_at, validity_nullability, Covers}
use Rattle.coltypes.specs.Values.{count, number_at, ptype_of}
use Rattle.colbase.specs.Parts.{scalar_of}
use Rattle.colbase.specs.Arrays.{Array, constant, masked, extension, primitive, bool, varbin, varbinview, list, listview, fixed_size_list, len, dtype, masked_type, row, stored, rows, payload, constant_cell, MustRead, if_valid, Sound}
use Rattle.coltypes.specs.declared.mask.Mask.{Mask}
use Rattle.coltypes.specs.declared.mask.Mask.TheVariants as m
use Rattle.coltypes.specs.Masks.{mask_bits}
use Rattle.coltypes.specs.Keep.{keep, trues, place, keep_validity, keep_values}
use Rattle.colbase.specs.Selects.{Selects, Filters}
use Rattle.coltypes.proofs.Masks.{count_true, count_false}

pub trues-count_by : (bits : List Bool) → count_by (λ b. b) bits ≡ trues bits
trues-count_by [] = refl
trues-count_by (true ∷ bits) = omega (arith, count_true bits, trues-count_by bits)
trues-count_by (false ∷ bits) = omega (arith, count_false bits, trues-count_by bits)

place_below : (bits : List Bool) (i : ℕ) → i < trues bits → place bits i < length bits
place_below [] i h = absurd (omega arith)
place_below (true ∷ bits) zero h = omega arith
place_below (true ∷ bits) (suc i) h = omega (arith, place_below bits i (omega arith))
place_below (false ∷ bits) i h = omega (arith, place_below bits i h)

length-keep : {X : Type 0} (bits : List Bool) (xs : List X) → length bits ≡ length xs → length (keep bits xs) ≡ trues bits
length-keep [] xs h = refl
length-keep (b ∷ bits) [] h = absurd (omega arith)
length-keep (true ∷ bits) (x ∷ xs) h = omega (arith, length-keep bits xs (omega arith))
length-keep (false ∷ bits) (x ∷ xs) h = length-keep bits xs (omega arith)

get_or-keep : {X : Type 0} (bits : List Bool) (xs : List X) (i : ℕ) (d : X) → length bits ≡ length xs → i < trues bits → get_or (keep bits xs) i d ≡ get_or xs (place bits i) d
get_or-keep [] xs i d h k = absurd (omega arith)
get_or-keep (b ∷ bits) [] i d h k = absurd (omega arith)
get_or-keep (true ∷ bits) (x ∷ xs) zero d h k = refl
get_or-keep (true ∷ bits) (x ∷ xs) (suc i) d h k = get_or-keep bits xs i d (omega arith) (omega arith)
get_or-keep (false ∷ bits) (x ∷ xs) i d h k = get_or-keep bits xs i d (omega arith) k

-- cells that are the cells of another array at these places are its selected cells
keep-tabulate : {X : Type 0} (bits : List Bool) (f g : ℕ → X) → ((i : ℕ) → i < trues bits → g i ≡ f (place bits i)) → tabulate g (trues bits) ≡ keep bits (tabulate f (length bits))
keep-tabulate [] f g h = refl
keep-tabulate (true ∷ bits) f g h = ap (λ x. x ∷ tabulate (λ i. g (suc i)) (trues bits)) (h 0 (omega arith))
    ∙ ap (λ t. f 0 ∷ t) (keep-tabulate bits (λ i. f (suc i)) (λ i. g (suc i)) (λ i k. h (suc i) (omega arith)))
keep-tabulate (false ∷ bits) f g h = keep-tabulate bits (λ i. f (suc i)) g h

keep_cells : (bits : List Bool) (f g : ℕ → Option Cell) (n j : ℕ) → length bits ≡ n → j ≡ trues bits → ((i : ℕ) → i < trues bits → g i ≡ f (place bits i)) → tabulate g j ≡ keep bits (tabulate f n)
keep_cells bits f g n j e k h = ap (tabulate g) k ∙ keep-tabulate bits f g h ∙ ap (λ i. keep bits (tabulate f i)) e

keep-all : {X : Type 0} (n : ℕ) (xs : List X) → length xs ≡ n → keep (tabulate (λ i. true) n) xs ≡ xs
keep-all zero [] h = refl
keep-all zero (x ∷ xs) h = absurd (omega arith)
keep-all (suc n) [] h = refl
keep-all (suc n) (x ∷ xs) h = ap (λ t. x ∷ t) (keep-all n xs (omega arith))

keep-none : {X : Type 0} (n : ℕ) (xs : List X) → keep (tabulate (λ i. false) n) xs ≡ []
keep-none zero xs = refl
keep-none (suc n) [] = refl
keep-none (suc n) (x ∷ xs) = keep-none n xs

valid_keep : (w : Validity) (bits : List Bool) (n i : ℕ) → Covers w n → length bits ≡ n → i < trues bits → valid_at (keep_validity bits w) i ≡ valid_at w (place bits i)
valid_keep v.NonNullable bits n i h e k = refl
valid_keep v.AllValid bits n i h e k = refl
valid_keep v.AllInvalid bits n i h e k = refl
valid_keep (v.Array valid) bits n i h e k = get_or-keep bits valid i false (e ∙ sym h) k

covers_keep : (w : Validity) (bits : List Bool) (n : ℕ) → Covers w n → length bits ≡ n → Covers (keep_validity bits w) (trues bits)
covers_keep v.NonNullable bits n h e = tt
covers_keep v.AllValid bits n h e = tt
covers_keep v.AllInvalid bits n h e = tt
covers_keep (v.Array valid) bits n h e = length-keep bits valid (e ∙ sym h)

nullability_keep : (w : Validity) (bits : List Bool) → validity_nullability (keep_validity bits w) ≡ validity_nullability w
nullability_keep v.NonNullable bits = refl
nullability_keep v.AllValid bits = refl
nullability_keep v.AllInvalid bits = refl
nullability_keep (v.Array valid) bits = refl

masked_type_keep : (t : types.LogicalType) (w : Validity) (bits : List Bool) → masked_type t (keep_validity bits w) ≡ masked_type t w
masked_type_keep t v.NonNullable bits = refl
masked_type_keep t v.AllValid bits = refl
masked_type_keep t v.AllInvalid bits = refl
masked_type_keep t (v.Array valid) bits = refl

number_keep : (x : PrimitiveValues) (bits : List Bool) (i : ℕ) → length bits ≡ count x → i < trues bits → number_at (keep_values bits x) i ≡ number_at x (place bits i)
number_keep (p.I8 xs) bits i e k = get_or-keep bits xs i (pos 0) e k
number_keep (p.I16 xs) bits i e k = get_or-keep bits xs i (pos 0) e k
number_keep (p.I32 xs) bits i e k = get_or-keep bits xs i (pos 0) e k
number_keep (p.I64 xs) bits i e k = get_or-keep bits xs i (pos 0) e k
number_keep (p.U8 xs) bits i e k = ap pos (get_or-keep bits xs i 0 e k)
number_keep (p.U16 xs) bits i e k = ap pos (get_or-keep bits xs i 0 e k)
number_keep (p.U32 xs) bits i e k = ap pos (get_or-keep bits xs i 0 e k)
number_keep (p.U64 xs) bits i e k = ap pos (get_or-keep bits xs i 0 e k)

count_keep : (x : PrimitiveValues) (bits : List Bool) → length bits ≡ count x → count (keep_values bits x) ≡ trues bits
count_keep (p.I8 xs) bits e = length-keep bits xs e
count_keep (p.I16 xs) bits e = length-keep bits xs e
count_keep (p.I32 xs) bits e = length-keep bits xs e
count_keep (p.I64 xs) bits e = length-keep bits xs e
count_keep (p.U8 xs) bits e = length-keep bits xs e
count_keep (p.U16 xs) bits e = length-keep bits xs e
count_keep (p.U32 xs) bits e = length-keep bits xs e
count_keep (p.U64 xs) bits e = length-keep bits xs e

ptype_keep : (x : PrimitiveValues) (bits : List Bool) → ptype_of (keep_values bits x) ≡ ptype_of x
ptype_keep (p.I8 xs) bits = refl
ptype_keep (p.I16 xs) bits = refl
ptype_keep (p.I32 xs) bits = refl
ptype_keep (p.I64 xs) bits = refl
ptype_keep (p.U8 xs) bits = refl
ptype_keep (p.U16 xs) bits = refl
ptype_keep (p.U32 xs) bits = refl
ptype_keep (p.U64 xs) bits = refl

if_valid_keep : (w : Validity) (bits : List Bool) (n i : ℕ) → Covers w n → length bits ≡ n → i < trues bits → (c d : Option Cell) → c ≡ d → if_valid (keep_validity bits w) i c ≡ if_valid w (place bits i) d
if_valid_keep w bits n i h e k c d f = rw (valid_keep w bits n i h e k, f) refl

pub selects_primitive : (x : PrimitiveValues) (w : Validity) (bits : List Bool) → Covers w (count x) → length bits ≡ count x → Selects (primitive x w) bits (primitive (keep_values bits x) (keep_validity bits w))
selects_primitive x w bits h e =
    record {
      counted = count_keep x bits e;
      typed = ap (λ t. types.primitive t (validity_nullability (keep_validity bits w))) (ptype_keep x bits) ∙ ap (types.primitive (ptype_of x)) (nullability_keep w bits);
      shown = λ i k. if_valid_keep w bits (count x) i h e k _ _ (ap (λ z. Some (number z)) (number_keep x bits i e k));
      kept = λ i k. ap (λ z. Some (number z)) (number_keep x bits i e k);
      scalar = refl;
      batch = refl;
    }

pub selects_bool : (xs : List Bool) (w : Validity) (bits : List Bool) → Covers w (length xs) → length bits ≡ length xs → Selects (bool xs w) bits (bool (keep bits xs) (keep_validity bits w))
selects_bool xs w bits h e = record {
  counted = length-keep bits xs e;
  typed = ap types.bool (nullability_keep w bits);
  shown = λ i k. if_valid_keep w bits (length xs) i h e k _ _ (ap (λ t. Some (truth t)) (get_or-keep bits xs i false e k));
  kept = λ i k. ap (λ t. Some (truth t)) (get_or-keep bits xs i false e k);
  scalar = refl;
  batch = refl;
}

-- the value of the scalar of a constant layout
abbrev scalar_value : Option Scalar → Option Cell
scalar_value None = None
scalar_value (Some s) = option_map cell_of s.value

masked_batch : (c : Array) (w : Validity) → constant_cell (masked c w) ≡ scalar_value (scalar_of c)
masked_batch (constant s n) w = refl
masked_batch (masked c u) w = refl
masked_batch (extension e c) w = refl
masked_batch (primitive x u) w = refl
masked_batch (bool bits u) w = refl
masked_batch (varbin o bs k u) w = refl
masked_batch (varbinview views buffers k u) w = refl
masked_batch (list c o u) w = refl
masked_batch (listview c o z u) w = refl
masked_batch (fixed_size_list c width n u) w = refl

pub selects_masked : (c d : Array) (w : Validity) (bits : List Bool) → Covers w (len c) → length bits ≡ len c → Selects c bits d → Selects (masked c w) bits (masked d (keep_validity bits w))
selects_masked c d w bits h e s = record {
  counted = s.counted;
  typed = masked_type_keep (dtype d) w bits ∙ ap (λ t. masked_type t w) s.typed;
  shown = λ i k. if_valid_keep w bits (len c) i h e k _ _ (s.shown i k);
  kept = s.kept;
  scalar = refl;
  batch = masked_batch d (keep_validity bits w) ∙ ap scalar_value s.scalar ∙ sym (masked_batch c w);
}

pub selects_same : (c a d b : Array) (bits : List Bool) → c ≡ a → d ≡ b → Selects a bits b → Selects c bits d
selects_same c a d b bits e f s =
    let P : Array → Type 0 = λ x. Selects x bits d in
    let Q : Array → Type 0 = λ x. Selects a bits x in
    subst P (sym e) (subst Q (sym f) s)

pub sound_primitive : (x : PrimitiveValues) (w : Validity) (bits : List Bool) → Covers w (count x) → length bits ≡ count x → Sound (primitive (keep_values bits x) (keep_validity bits w))
sound_primitive x w bits h e = let P : ℕ → Type 0 = λ n. Covers (keep_validity bits w) n in subst P (sym (count_keep x bits e)) (covers_keep w bits (count x) h e)

pub sound_bool : (xs : List Bool) (w : Validity) (bits : List Bool) → Covers w (length xs) → length bits ≡ length xs → Sound (bool (keep bits xs) (keep_validity bits w))
sound_bool xs w bits h e = let P : ℕ → Type 0 = λ n. Covers (keep_validity bits w) n in subst P (sym (length-keep bits xs e)) (covers_keep w bits (length xs) h e)

pub sound_masked : (c d : Array) (w : Validity) (bits : List Bool) → Sound (masked c w) → length bits ≡ len c → Selects c bits d → Sound d → Sound (masked d (keep_validity bits w))
sound_masked c d w bits h e s k = (
  k,
  (let P : ℕ → Type 0 = λ n. Covers (keep_validity bits w) n in subst P (sym s.counted) (covers_keep w bits (len c) h.1 e)),
  λ i l.
      let j : i < trues bits = omega (arith, s.counted) in
      let P : Option Cell → Type 0 = λ o. IsSome o in
      subst P (sym (s.shown i j)) (h.2 (place bits i) (omega (arith, place_below bits i j))),
)

must_read_selected : (c d : Array) (bits : List Bool) → length bits ≡ len c → Selects c bits d → (x : Cell) → MustRead d x → MustRead c x
must_read_selected c d bits e s x (inl h) =
    let j : h.0 < trues bits = omega (arith, s.counted, h.1) in
    inl (place bits h.0, (omega (arith, place_below bits h.0 j)), (sym (s.shown h.0 j) ∙ h.2))
must_read_selected c d bits e s x (inr h) =
    let j : 0 < trues bits = omega (arith, s.counted, h.0) in
    inr ((omega (arith, place_below bits 0 j)), (sym s.batch ∙ h.1))

filters_selected : (c d : Array) (bits : List Bool) → length bits ≡ len c → Selects c bits d → Filters c bits d
filters_selected c d bits e s = record {
  kept_rows = keep_cells bits (row c) (row d) (len c) (len d) e s.counted s.shown;
  kept_payload = keep_cells bits (stored c) (stored d) (len c) (len d) e s.counted s.kept;
  typed = s.typed;
  must_read = must_read_selected c d bits e s;
}

-- each row of an array
pub filters_all : (c d : Array) (mask : Mask) (n : ℕ) → mask ≡ m.AllTrue n → length (mask_bits mask) ≡ len c → d ≡ c → Filters c (mask_bits mask) d
filters_all c d mask n e h f =
    let k : n ≡ len c = sym (length-tabulate (λ i. true) n) ∙ ap (λ x. length (mask_bits x)) (sym e) ∙ h in
    let P : Mask → Type 0 = λ x. Filters c (mask_bits x) c in
    let Q : Array → Type 0 = λ x. Filters c (mask_bits mask) x in
    subst Q (sym f) (subst P (sym e) (record {
      kept_rows = sym (keep-all n (rows c) (length-tabulate (row c) (len c) ∙ sym k));
      kept_payload = sym (keep-all n (payload c) (length-tabulate (stored c) (len c) ∙ sym k));
      typed = refl;
      must_read = λ x r. r;
    }))

-- no row of an array
filters_none : (c d : Array) (n : ℕ) → rows d ≡ slice_range (rows c) 0 0 → payload d ≡ slice_range (payload c) 0 0 → dtype d ≡ dtype c → ((x : Cell) → MustRead d x → MustRead c x) → Filters c (tabulate (λ i. false) n) d
filters_none c d n h k t r = record {
  kept_rows = h ∙ sym (keep-none n (rows c));
  kept_payload = k ∙ sym (keep-none n (payload c));
  typed = t;
  must_read = r;
}

pub filters_empty : {E : Type 0} (c : Array) (mask : Mask) (n : ℕ) (r : Result Array E) → mask ≡ m.AllFalse n
    → IfOk r (λ d. rows d ≡ slice_range (rows c) 0 0) → IfOk r (λ d. payload d ≡ slice_range (payload c) 0 0) → IfOk r (λ d. dtype d ≡ dtype c) → IfOk r (λ d. (x : Cell) → MustRead d x → MustRead c x)
    → IfOk r (Filters c (mask_bits mask))
filters_empty c mask n (Ok d) e h k t l = let P : Mask → Type 0 = λ x. Filters c (mask_bits x) d in subst P (sym e) (filters_none c d n h k t l)
filters_empty c mask n (Err x) e h k t l = tt

-- the rows where the truth values of a mask are true
pub filters_values : {E : Type 0} (c : Array) (mask : Mask) (bits : List Bool) (r : Result Array E) → mask ≡ m.Values bits → length (mask_bits mask) ≡ len c → IfOk r (Selects c bits) → IfOk r (Filters c (mask_bits mask))
filters_values c mask bits (Ok d) e h s =
    let P : Mask → Type 0 = λ x. Filters c (mask_bits x) d in
    subst P (sym e) (filters_selected c d bits (ap (λ x. length (mask_bits x)) (sym e) ∙ h) s)
filters_values c mask bits (Err x) e h s = tt
