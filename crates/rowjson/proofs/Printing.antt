-- The rows of a column that is printed, as they are stored and as scalars.
use Rattle.std.proofs.Common.{◌≡◌, ℕ, ℤ, ◌<◌, Bool, true, false, List, Some, None, refl, sym, ◌∙◌, subst}
use Rattle.std.specs.Prelude.{if◌then◌else◌}
use Rattle.colbase.specs.Arrays.{Array, constant, masked, extension, primitive, bool, varbin, varbinview, list, listview, fixed_size_list, len, row}
use Rattle.coltypes.specs.Cell as cells
use Rattle.coltypes.specs.Cell.{Cell, number}
use Rattle.coltypes.specs.Fits.{fits}
use Rattle.coltypes.specs.LogicalType as types
use Rattle.coltypes.specs.LogicalType.{LogicalType}
use Rattle.colbase.specs.Parts.{storage_of, values_of}
use Rattle.coltypes.specs.Valid.{valid_at}
use Rattle.coltypes.specs.Values.{number_at}
use Rattle.coltypes.specs.declared.validity.Validity.{Validity}
use Rattle.coltypes.specs.declared.values.PrimitiveValues.{PrimitiveValues}
use Rattle.coltypes.specs.declared.values.PrimitiveValues.TheVariants as values
use Rattle.rowjson.specs.Shows.{Shows, unnamed}
use Rattle.rowjson.specs.Text.{is_i64, is_printed}

-- ---- numbers that are lent

pub unnamed_storage : (a s : Array) → storage_of a ≡ Some s → s ≡ unnamed a
unnamed_storage (extension e c) s h = cc
unnamed_storage _ s h = absurd (cc)

pub unnamed_same : (a : Array) → storage_of a ≡ None → a ≡ unnamed a
unnamed_same (extension e c) h = absurd (cc)
unnamed_same (constant s n) h = refl
unnamed_same (masked c v) h = refl
unnamed_same (primitive xs v) h = refl
unnamed_same (bool bits v) h = refl
unnamed_same (varbin offsets bs k v) h = refl
unnamed_same (varbinview views buffers k v) h = refl
unnamed_same (list c offsets v) h = refl
unnamed_same (listview c offsets sizes v) h = refl
unnamed_same (fixed_size_list c width n v) h = refl

shown_if : (valid : Bool) (x : ℤ) (c : Cell) → (if valid then Some (number x) else None) ≡ Some c → number x ≡ c
shown_if true x c h = cc
shown_if false x c h = absurd (cc)

stored_shows : (xs : List ℤ) (v : Validity) → Shows (primitive (values.I64 xs) v) xs
stored_shows xs v = record { counted = refl; each = λ i c within h. shown_if (valid_at v i) (number_at (values.I64 xs) i) c h }

named_shows : (a c : Array) (xs : List ℤ) → len a ≡ len c → ((i : ℕ) → row a i ≡ row c i) → Shows c xs → Shows a xs
named_shows a c xs counted same shows = record {
  counted = shows.counted ∙ sym counted;
  each = λ i cell within h. shows.each i cell (subst (λ (n : ℕ). i < n) counted within) (sym (same i) ∙ h);
}

primitive_shows : (a : Array) (xs : List ℤ) → values_of a ≡ Some (values.I64 xs) → Shows a xs
primitive_shows (primitive w v) xs h = let is : w ≡ values.I64 xs = cc in subst (λ (u : PrimitiveValues). Shows (primitive u v) xs) (sym is) (stored_shows xs v)
primitive_shows _ xs h = absurd (cc)

-- numbers of 64 bits that are stored, also below an extension, stand for the rows
pub numbers_show : (a : Array) (xs : List ℤ) → values_of (unnamed a) ≡ Some (values.I64 xs) → Shows a xs
numbers_show (extension e c) xs h = named_shows (extension e c) c xs refl (λ i. refl) (primitive_shows c xs h)
numbers_show (primitive w v) xs h = primitive_shows (primitive w v) xs h
numbers_show (constant s n) xs h = absurd (cc)
numbers_show (masked c v) xs h = absurd (cc)
numbers_show (bool bits v) xs h = absurd (cc)
numbers_show (varbin offsets bs k v) xs h = absurd (cc)
numbers_show (varbinview views buffers k v) xs h = absurd (cc)
numbers_show (list c offsets v) xs h = absurd (cc)
numbers_show (listview c offsets sizes v) xs h = absurd (cc)
numbers_show (fixed_size_list c width n v) xs h = absurd (cc)

-- ---- scalars

-- a number
abbrev pub IsNumber : Cell → Type 0
IsNumber (number z) = Unit {0}
IsNumber _ = ⊥

number_stored : (t : LogicalType) → is_i64 t ≡ true → (c : Cell) → fits t c ≡ true → IsNumber c
number_stored (types.primitive p n) e (number z) h = tt
number_stored (types.primitive p n) e (cells.truth b) h = absurd (cc)
number_stored (types.primitive p n) e (cells.bytes bs) h = absurd (cc)
number_stored (types.primitive p n) e (cells.list cs) h = absurd (cc)
number_stored _ e c h = absurd (cc)

-- a type that is printed has no other cells than numbers
pub number_printed : (t : LogicalType) → is_printed t ≡ true → (c : Cell) → fits t c ≡ true → IsNumber c
number_printed (types.extension name unit zone t) e (number z) h = tt
number_printed (types.extension name unit zone (types.primitive p n)) e (cells.truth b) h = absurd (cc)
number_printed (types.extension name unit zone (types.primitive p n)) e (cells.bytes bs) h = absurd (cc)
number_printed (types.extension name unit zone (types.primitive p n)) e (cells.list cs) h = absurd (cc)
number_printed (types.primitive p n) e c h = number_stored (types.primitive p n) e c h
number_printed _ e c h = absurd (cc)
