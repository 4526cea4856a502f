-- What cutting an array does to its rows, its payload and its type.
use Rattle.std.proofs.Common.{◌≡◌, ◌∙◌, ℕ, ◌+◌, ◌-◌, ◌*◌, ◌<◌, ◌≤◌, false, List, [], length, drop, get_or, Option, Some, None, refl, ap, sym, subst, arith, slice_range, add_assoc, inl, inr}
use Rattle.std.specs.Prelude.{is_some, slice_index, pos, option_map}
use Rattle.std.proofs.lemmas.List.{ext_get_or, get_or-take, get_or-drop, length-take, length-drop}
use Rattle.bitlane.specs.Bits.{tabulate}
use Rattle.bitlane.proofs.Tables.{length-tabulate, get_or-tabulate, tabulate-same}
use Rattle.bitlane.proofs.Parts.{length-slice_range}
use Rattle.coltypes.specs.Cell.{Cell, truth, number, bytes, list_of}
use Rattle.coltypes.specs.LogicalType.{LogicalType, fixed_size_list as fixed_type}
use Rattle.coltypes.specs.declared.validity.Validity.{Validity}
use Rattle.coltypes.specs.declared.validity.Validity.TheVariants as v
use Rattle.coltypes.specs.declared.values.PrimitiveValues.{PrimitiveValues}
use Rattle.coltypes.specs.declared.values.PrimitiveValues.TheVariants as p
use Rattle.coltypes.specs.declared.binary.BinaryView.{BinaryView}
use Rattle.coltypes.specs.declared.binary.BinaryView.TheVariants.{Inline}
use Rattle.coltypes.specs.Valid.{valid_at, validity_nullability, Covers}
use Rattle.coltypes.specs.Values.{number_at, ptype_of}
use Rattle.coltypes.specs.Views.{view_at, view_bytes, EachIsShort}
use Rattle.colbase.specs.Arrays.{Array, constant, masked, extension, primitive, bool, varbin, varbinview, list, listview, fixed_size_list, len, dtype, masked_type, row, stored, rows, payload, constant_cell, MustRead, if_valid, list_between, list_within, Sound, OffsetsFit, StoredWhereValid}
use Rattle.colbase.specs.Cut.{cut}
use Rattle.coltypes.specs.Cut.{cut_validity, cut_values}

get_or-slice_range : {X : Type 0} (xs : List X) (a b i : ℕ) (d : X) → i < b - a → get_or (slice_range xs a b) i d ≡ get_or xs (a + i) d
get_or-slice_range xs a b i d h = get_or-take (b - a) (drop a xs) i d h ∙ get_or-drop a xs i d

valid_cut : (w : Validity) (a b i : ℕ) → i < b - a → valid_at (cut_validity w a b) i ≡ valid_at w (a + i)
valid_cut v.NonNullable a b i h = refl
valid_cut v.AllValid a b i h = refl
valid_cut v.AllInvalid a b i h = refl
valid_cut (v.Array bits) a b i h = get_or-slice_range bits a b i false h

number_cut : (x : PrimitiveValues) (a b i : ℕ) → i < b - a → number_at (cut_values x a b) i ≡ number_at x (a + i)
number_cut (p.I8 xs) a b i h = get_or-slice_range xs a b i (pos 0) h
number_cut (p.I16 xs) a b i h = get_or-slice_range xs a b i (pos 0) h
number_cut (p.I32 xs) a b i h = get_or-slice_range xs a b i (pos 0) h
number_cut (p.I64 xs) a b i h = get_or-slice_range xs a b i (pos 0) h
number_cut (p.U8 xs) a b i h = ap pos (get_or-slice_range xs a b i 0 h)
number_cut (p.U16 xs) a b i h = ap pos (get_or-slice_range xs a b i 0 h)
number_cut (p.U32 xs) a b i h = ap pos (get_or-slice_range xs a b i 0 h)
number_cut (p.U64 xs) a b i h = ap pos (get_or-slice_range xs a b i 0 h)

if_valid_cut : (w : Validity) (a b i : ℕ) → i < b - a → (c d : Option Cell) → c ≡ d → if_valid (cut_validity w a b) i c ≡ if_valid w (a + i) d
if_valid_cut w a b i h c d f = rw (valid_cut w a b i h, f) refl

between_same : (f : ℕ → Option Cell) (a b c d : ℕ) → a ≡ c → b ≡ d → list_between f a b ≡ list_between f c d
between_same f a b c d h k = rw (h, k) refl

members_cut : (f : ℕ → Option Cell) (o : List ℕ) (a b i : ℕ) → i < b - a →
    list_between f (slice_index (slice_range o a (b + 1)) i) (slice_index (slice_range o a (b + 1)) (i + 1)) ≡ list_between f (slice_index o (a + i)) (slice_index o (a + i + 1))
members_cut f o a b i h = between_same f _ _ _ _ (get_or-slice_range o a (b + 1) i 0 (omega arith))
    (get_or-slice_range o a (b + 1) (i + 1) 0 (omega arith) ∙ ap (λ k. slice_index o k) (sym (add_assoc a i 1)))

within_same : (f : ℕ → Option Cell) (n a b c d : ℕ) → a ≡ c → b ≡ d → list_within f n a b ≡ list_within f n c d
within_same f n a b c d h k = rw (h, k) refl

bytes_cut : (bs o : List ℕ) (a b i : ℕ) → i < b - a →
    slice_range bs (slice_index (slice_range o a (b + 1)) i) (slice_index (slice_range o a (b + 1)) (i + 1)) ≡ slice_range bs (slice_index o (a + i)) (slice_index o (a + i + 1))
bytes_cut bs o a b i h = rw (get_or-slice_range o a (b + 1) i 0 (omega arith), get_or-slice_range o a (b + 1) (i + 1) 0 (omega arith), add_assoc a i 1) refl

view_cut : (views : List BinaryView) (a b i : ℕ) → i < b - a → view_at (slice_range views a b) i ≡ view_at views (a + i)
view_cut views a b i h = get_or-slice_range views a b i (Inline 0 []) h

-- rows i of lists of one width lie within the elements that are kept
element_in : (a d w i t : ℕ) → i < d → t < w → i * w + t < (a + d) * w - a * w
element_in a d w i t h k = grind arith

element_within : (a b w i t : ℕ) → i < b - a → t < w → i * w + t < b * w - a * w
element_within a b w i t h k =
    let e : a + (b - a) ≡ b = omega arith in
    let P : ℕ → Type 0 = λ n. i * w + t < n * w - a * w in
    subst P e (element_in a (b - a) w i t h k)

-- the lists of one width at row i, from the elements one by one
width_rows : (f g : ℕ → Option Cell) (a i w : ℕ) → ((t : ℕ) → t < w → f (i * w + t) ≡ g ((a + i) * w + t)) → list_between f (i * w) (i * w + w) ≡ list_between g ((a + i) * w) ((a + i) * w + w)
width_rows f g a i w same =
    let n : (i * w + w) - i * w ≡ w = omega arith in
    let m : ((a + i) * w + w) - (a + i) * w ≡ w = omega arith in
    ap (λ xs. Some (list_of xs)) (ap (tabulate (λ t. f (i * w + t))) n ∙ tabulate-same (λ t. f (i * w + t)) (λ t. g ((a + i) * w + t)) w same ∙ ap (tabulate (λ t. g ((a + i) * w + t))) (sym m))

shift : (a i w t : ℕ) → a * w + (i * w + t) ≡ (a + i) * w + t
shift a i w t = omega arith

-- the row and what is stored, of a part and of the whole
record SameCells (c d : Array) (i j : ℕ) : Type 0 where
  same_row : row c i ≡ row d j
  same_stored : stored c i ≡ stored d j

cells_cut : (c : Array) (a b i : ℕ) → i < b - a → SameCells (cut c a b) c i (a + i)
cells_cut (constant s n) a b i h = record { same_row = refl; same_stored = refl }
cells_cut (masked c w) a b i h =
    let r = cells_cut c a b i h in record { same_row = if_valid_cut w a b i h _ _ r.same_row; same_stored = r.same_stored }
cells_cut (extension e c) a b i h =
    let r = cells_cut c a b i h in record { same_row = r.same_row; same_stored = r.same_stored }
cells_cut (primitive x w) a b i h =
    let s = ap (λ n. Some (number n)) (number_cut x a b i h) in record { same_row = if_valid_cut w a b i h _ _ s; same_stored = s }
cells_cut (bool bits w) a b i h =
    let s = ap (λ t. Some (truth t)) (get_or-slice_range bits a b i false h) in record { same_row = if_valid_cut w a b i h _ _ s; same_stored = s }
cells_cut (varbin o bs k w) a b i h =
    let s = ap (λ xs. Some (bytes xs)) (bytes_cut bs o a b i h) in record { same_row = if_valid_cut w a b i h _ _ s; same_stored = s }
cells_cut (varbinview views buffers k w) a b i h =
    let s = ap (λ x. option_map bytes (view_bytes x buffers)) (view_cut views a b i h) in record { same_row = if_valid_cut w a b i h _ _ s; same_stored = s }
cells_cut (list c o w) a b i h =
    let s = members_cut (λ j. row c j) o a b i h in record { same_row = if_valid_cut w a b i h _ _ s; same_stored = s }
cells_cut (listview c o z w) a b i h =
    let s = within_same (λ j. row c j) (len c) _ _ _ _ (get_or-slice_range o a b i 0 h) (get_or-slice_range z a b i 0 h) in record { same_row = if_valid_cut w a b i h _ _ s; same_stored = s }
cells_cut (fixed_size_list c width n w) a b i h =
    let s = width_rows (λ j. row (cut c (a * width) (b * width)) j) (λ j. row c j) a i width
    (λ t k. (cells_cut c (a * width) (b * width) (i * width + t) (element_within a b width i t h k)).same_row ∙ ap (λ j. row c j) (shift a i width t)) in record { same_row = if_valid_cut w a b i h _ _ s; same_stored = s }

pub row_cut : (c : Array) (a b i : ℕ) → i < b - a → row (cut c a b) i ≡ row c (a + i)
row_cut c a b i h = (cells_cut c a b i h).same_row

pub stored_cut : (c : Array) (a b i : ℕ) → i < b - a → stored (cut c a b) i ≡ stored c (a + i)
stored_cut c a b i h = (cells_cut c a b i h).same_stored

pub len_cut : (c : Array) (a b : ℕ) → a ≤ b → b ≤ len c → len (cut c a b) ≡ b - a
len_cut (constant s n) a b h k = refl
len_cut (masked c w) a b h k = len_cut c a b h k
len_cut (extension e c) a b h k = len_cut c a b h k
len_cut (primitive (p.I8 xs) w) a b h k = length-slice_range xs a b h k
len_cut (primitive (p.I16 xs) w) a b h k = length-slice_range xs a b h k
len_cut (primitive (p.I32 xs) w) a b h k = length-slice_range xs a b h k
len_cut (primitive (p.I64 xs) w) a b h k = length-slice_range xs a b h k
len_cut (primitive (p.U8 xs) w) a b h k = length-slice_range xs a b h k
len_cut (primitive (p.U16 xs) w) a b h k = length-slice_range xs a b h k
len_cut (primitive (p.U32 xs) w) a b h k = length-slice_range xs a b h k
len_cut (primitive (p.U64 xs) w) a b h k = length-slice_range xs a b h k
len_cut (bool bits w) a b h k = length-slice_range bits a b h k
len_cut (varbin o bs x w) a b h k = simp (length-take, length-drop) (omega arith)
len_cut (varbinview views buffers x w) a b h k = length-slice_range views a b h k
len_cut (list c o w) a b h k = simp (length-take, length-drop) (omega arith)
len_cut (listview c o s w) a b h k = length-slice_range o a b h k
len_cut (fixed_size_list c width n w) a b h k = refl

constant_cut : (c : Array) (a b : ℕ) → constant_cell (cut c a b) ≡ constant_cell c
constant_cut (masked (constant s n) w) a b = refl
constant_cut (extension e (constant s n)) a b = refl
constant_cut _ a b = refl

pub must_read_cut : (c : Array) (a b : ℕ) → a ≤ b → b ≤ len c → (x : Cell) → MustRead (cut c a b) x → MustRead c x
must_read_cut c a b h k x (inl p) =
    let m : p.0 < b - a = rw (len_cut c a b h k) at p.1 in
    inl (a + p.0, (omega arith), (sym (row_cut c a b p.0 m) ∙ p.2))
must_read_cut c a b h k x (inr p) =
    let m : 0 < b - a = rw (len_cut c a b h k) at p.0 in
    inr ((omega arith), (sym (constant_cut c a b) ∙ p.1))

nullability_cut : (w : Validity) (a b : ℕ) → validity_nullability (cut_validity w a b) ≡ validity_nullability w
nullability_cut v.NonNullable a b = refl
nullability_cut v.AllValid a b = refl
nullability_cut v.AllInvalid a b = refl
nullability_cut (v.Array bits) a b = refl

ptype_cut : (x : PrimitiveValues) (a b : ℕ) → ptype_of (cut_values x a b) ≡ ptype_of x
ptype_cut (p.I8 xs) a b = refl
ptype_cut (p.I16 xs) a b = refl
ptype_cut (p.I32 xs) a b = refl
ptype_cut (p.I64 xs) a b = refl
ptype_cut (p.U8 xs) a b = refl
ptype_cut (p.U16 xs) a b = refl
ptype_cut (p.U32 xs) a b = refl
ptype_cut (p.U64 xs) a b = refl

masked_type_cut : (t : LogicalType) (w : Validity) (a b : ℕ) → masked_type t (cut_validity w a b) ≡ masked_type t w
masked_type_cut t v.NonNullable a b = refl
masked_type_cut t v.AllValid a b = refl
masked_type_cut t v.AllInvalid a b = refl
masked_type_cut t (v.Array bits) a b = refl

pub dtype_cut : (c : Array) (a b : ℕ) → dtype (cut c a b) ≡ dtype c
dtype_cut (constant s n) a b = refl
dtype_cut (masked c w) a b = masked_type_cut (dtype (cut c a b)) w a b ∙ ap (λ t. masked_type t w) (dtype_cut c a b)
dtype_cut (extension e c) a b = refl
dtype_cut (primitive x w) a b = rw (ptype_cut, nullability_cut) refl
dtype_cut (bool bits w) a b = rw nullability_cut refl
dtype_cut (varbin o bs k w) a b = rw nullability_cut refl
dtype_cut (varbinview views buffers k w) a b = rw nullability_cut refl
dtype_cut (list c o w) a b = rw nullability_cut refl
dtype_cut (listview c o s w) a b = rw nullability_cut refl
dtype_cut (fixed_size_list c width n w) a b = ap (λ t. fixed_type t width (validity_nullability (cut_validity w a b))) (dtype_cut c (a * width) (b * width)) ∙ ap (λ m. fixed_type (dtype c) width m) (nullability_cut w a b)

covers_cut : (w : Validity) (n a b : ℕ) → Covers w n → a ≤ b → b ≤ n → Covers (cut_validity w a b) (b - a)
covers_cut v.NonNullable n a b h k l = tt
covers_cut v.AllValid n a b h k l = tt
covers_cut v.AllInvalid n a b h k l = tt
covers_cut (v.Array bits) n a b h k l = length-slice_range bits a b k (omega (arith, h))

offsets_cut : (o : List ℕ) (limit a b : ℕ) → OffsetsFit o limit → a ≤ b → b + 1 ≤ length o → OffsetsFit (slice_range o a (b + 1)) limit
offsets_cut o limit a b h k l =
    let n : length (slice_range o a (b + 1)) ≡ (b + 1) - a = length-slice_range o a (b + 1) (omega arith) l in
    record {
      some = omega arith;
      rising = λ i j p q. rw (get_or-slice_range o a (b + 1) i 0 (omega arith), get_or-slice_range o a (b + 1) j 0 (omega arith)) (h.rising (a + i) (a + j) (omega arith) (omega arith));
      last = λ i q. rw (get_or-slice_range o a (b + 1) i 0 (omega arith)) (h.last (a + i) (omega arith));
    }

short_cut : (views : List BinaryView) (a b : ℕ) → EachIsShort views → a ≤ b → b ≤ length views → EachIsShort (slice_range views a b)
short_cut views a b s h k i l =
    let m : i < b - a = rw (length-slice_range views a b h k) at l in
    rw (view_cut views a b i m) (s (a + i) (omega arith))

-- what is stored for each row that is not null, in the part too
stored_where_cut : (w : Validity) (n m a b : ℕ) (f g : ℕ → Option Cell) → m ≡ b - a → b ≤ n → ((i : ℕ) → i < b - a → g i ≡ f (a + i)) → StoredWhereValid w n f → StoredWhereValid (cut_validity w a b) m g
stored_where_cut w n m a b f g e l same s i h t =
    let k : i < b - a = omega arith in
    ap is_some (same i k) ∙ s (a + i) (omega arith) (sym (valid_cut w a b i k) ∙ t)

width_cut : (a b w : ℕ) → a ≤ b → b * w - a * w ≡ (b - a) * w
width_cut a b w h = grind arith

width_below : (b n w : ℕ) → b ≤ n → b * w ≤ n * w
width_below b n w h = grind arith

pub sound_cut : (c : Array) (a b : ℕ) → Sound c → a ≤ b → b ≤ len c → Sound (cut c a b)
sound_cut (constant c n) a b s h k = tt
sound_cut (masked c w) a b s h k = (
  sound_cut c a b s.0 h k,
  (rw (len_cut c a b h k) (covers_cut w _ a b s.1 h k)),
  λ i l.
      let m : i < b - a = rw (len_cut c a b h k) at l in
      rw (row_cut c a b i m) (s.2 (a + i) (omega arith)),
)
sound_cut (extension e c) a b s h k = (sound_cut c a b s.0 h k, s.1 ∙ sym (dtype_cut c a b))
sound_cut (primitive (p.I8 xs) w) a b s h k = rw (length-slice_range xs a b h k) (covers_cut w _ a b s h k)
sound_cut (primitive (p.I16 xs) w) a b s h k = rw (length-slice_range xs a b h k) (covers_cut w _ a b s h k)
sound_cut (primitive (p.I32 xs) w) a b s h k = rw (length-slice_range xs a b h k) (covers_cut w _ a b s h k)
sound_cut (primitive (p.I64 xs) w) a b s h k = rw (length-slice_range xs a b h k) (covers_cut w _ a b s h k)
sound_cut (primitive (p.U8 xs) w) a b s h k = rw (length-slice_range xs a b h k) (covers_cut w _ a b s h k)
sound_cut (primitive (p.U16 xs) w) a b s h k = rw (length-slice_range xs a b h k) (covers_cut w _ a b s h k)
sound_cut (primitive (p.U32 xs) w) a b s h k = rw (length-slice_range xs a b h k) (covers_cut w _ a b s h k)
sound_cut (primitive (p.U64 xs) w) a b s h k = rw (length-slice_range xs a b h k) (covers_cut w _ a b s h k)
sound_cut (bool bits w) a b s h k = rw (length-slice_range bits a b h k) (covers_cut w _ a b s h k)
sound_cut (varbin o bs x w) a b s h k =
    let l = s.0.some in
    (offsets_cut o (length bs) a b s.0 h (omega arith), rw (len_cut (varbin o bs x w) a b h k) (covers_cut w (length o - 1) a b s.1 h k))
sound_cut (varbinview views buffers x w) a b s h k = (
  rw (length-slice_range views a b h k) (covers_cut w _ a b s.0 h k),
  short_cut views a b s.1 h k,
  stored_where_cut w (length views) _ a b _ _ (length-slice_range views a b h k) k (stored_cut (varbinview views buffers x w) a b) s.2,
)
sound_cut (list c o w) a b s h k =
    let l = s.1.some in
    (s.0, offsets_cut o (len c) a b s.1 h (omega arith), rw (len_cut (list c o w) a b h k) (covers_cut w (length o - 1) a b s.2 h k))
sound_cut (listview c o z w) a b s h k =
    let l : b ≤ length z = omega (arith, s.1) in (
      s.0,
      length-slice_range z a b h l ∙ sym (length-slice_range o a b h k),
      rw (length-slice_range o a b h k) (covers_cut w _ a b s.2 h k),
      stored_where_cut w (length o) _ a b _ _ (length-slice_range o a b h k) k (stored_cut (listview c o z w) a b) s.3,
    )
sound_cut (fixed_size_list c width n w) a b s h k =
    let l : b * width ≤ len c = omega (arith, width_below b n width k, s.1) in
    let m : a * width ≤ b * width = width_below a b width h in
    (sound_cut c (a * width) (b * width) s.0 m l, len_cut c (a * width) (b * width) m l ∙ width_cut a b width h, covers_cut w n a b s.2 h k)

tabulate_part : (f g : ℕ → Option Cell) (n m a b : ℕ) → a ≤ b → b ≤ n → m ≡ b - a → ((i : ℕ) → i < b - a → g i ≡ f (a + i)) → tabulate g m ≡ slice_range (tabulate f n) a b
tabulate_part f g n m a b h k e q =
    ext_get_or None (tabulate g m) (slice_range (tabulate f n) a b)
    (length-tabulate g m ∙ e ∙ sym (length-slice_range (tabulate f n) a b h (rw length-tabulate k)))
    (λ i l.
    let i1 : i < m = rw length-tabulate at l in
    let i2 : i < b - a = omega arith in
    get_or-tabulate g m i None i1 ∙ q i i2 ∙ sym (get_or-slice_range (tabulate f n) a b i None i2 ∙ get_or-tabulate f n (a + i) None (omega arith)))

pub rows_cut : (c : Array) (a b : ℕ) → a ≤ b → b ≤ len c → rows (cut c a b) ≡ slice_range (rows c) a b
rows_cut c a b h k = tabulate_part (row c) (row (cut c a b)) (len c) (len (cut c a b)) a b h k (len_cut c a b h k) (row_cut c a b)

pub payload_cut : (c : Array) (a b : ℕ) → a ≤ b → b ≤ len c → payload (cut c a b) ≡ slice_range (payload c) a b
payload_cut c a b h k = tabulate_part (stored c) (stored (cut c a b)) (len c) (len (cut c a b)) a b h k (len_cut c a b h k) (stored_cut c a b)
