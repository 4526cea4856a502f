-- What an element shows is the payload, which masks leave as it is.
use Rattle.std.proofs.Common.{◌≡◌, ◌∙◌, ℕ, ◌<◌, Bool, true, false, Option, Some, None, refl, ap, sym, subst, nat_lt, inl, inr}
use Rattle.std.specs.Prelude.{IsSome, option_map, cond}
use Rattle.coltypes.specs.Cell.{Cell}
use Rattle.coltypes.specs.CellOf.{cell_of}
use Rattle.coltypes.specs.Valid.{valid_at}
use Rattle.colbase.specs.Arrays.{Array, constant, masked, extension, primitive, bool, varbin, varbinview, list, listview, fixed_size_list, row, stored, len, constant_cell, MustRead}
use Rattle.rowelems.specs.Shown.{batch_value, shown_by, stored_or, cell_or}
use Rattle.rowelems.specs.Unmasked.{unmasked}

pub stored-unmasked : (a : Array) (i : ℕ) → stored (unmasked a) i ≡ stored a i
stored-unmasked (masked c v) i = stored-unmasked c i
stored-unmasked _ i = refl

pub len-unmasked : (a : Array) → len (unmasked a) ≡ len a
len-unmasked (masked c v) = len-unmasked c
len-unmasked _ = refl

valid_cell : (b : Bool) (o : Option Cell) (x : Cell) → cond b o None ≡ Some x → o ≡ Some x
valid_cell true o x e = e
valid_cell false o x e = absurd (cc)

-- the payload of a row that is not null is its cell
pub row-stored : (a : Array) (i : ℕ) (x : Cell) → row a i ≡ Some x → stored a i ≡ Some x
row-stored (constant s n) i x e = e
row-stored (masked c v) i x e = row-stored c i x (valid_cell (valid_at v i) (row c i) x e)
row-stored (extension t c) i x e = row-stored c i x e
row-stored (primitive values v) i x e = valid_cell (valid_at v i) _ x e
row-stored (bool bits v) i x e = valid_cell (valid_at v i) _ x e
row-stored (varbin offsets bs k v) i x e = valid_cell (valid_at v i) _ x e
row-stored (varbinview views buffers k v) i x e = valid_cell (valid_at v i) _ x e
row-stored (list c offsets v) i x e = valid_cell (valid_at v i) _ x e
row-stored (listview c offsets sizes v) i x e = valid_cell (valid_at v i) _ x e
row-stored (fixed_size_list c width n v) i x e = valid_cell (valid_at v i) _ x e

-- the payload of a batch constant is its value
pub constant-stored : (a : Array) (i : ℕ) (x : Cell) → constant_cell a ≡ Some x → stored a i ≡ Some x
constant-stored (constant s n) i x e = e
constant-stored (masked (constant s n) v) i x e = e
constant-stored (extension t (constant s n)) i x e = e
constant-stored _ i x e = absurd (cc)

stored_shown : (o : Option Cell) (s d : Cell) → ((x : Cell) → o ≡ Some x → s ≡ x) → cell_or o s ≡ s
stored_shown None s d h = refl
stored_shown (Some x) s d h = sym (h x refl)

or_of : (o : Option Cell) (x d : Cell) → o ≡ Some x → cell_or o d ≡ x
or_of None x d e = absurd (cc)
or_of (Some y) x d e = cc

value_stored : (b : Bool) (o p : Option Cell) (d : Cell) → ((x : Cell) → o ≡ Some x → p ≡ Some x) → (x : Cell) → cond b o None ≡ Some x → cell_or p d ≡ x
value_stored true o p d h x e = or_of p x d (h x e)
value_stored false o p d h x e = absurd (cc)

some_or : (o : Option Cell) (d x : Cell) → IsSome o → cell_or o d ≡ x → o ≡ Some x
some_or None d x h e = absurd (cc)
some_or (Some y) d x h e = cc

pub shown-stored : (d : Cell) (a : Array) (i : ℕ) → shown_by (stored_or d) a i ≡ stored_or d a i
shown-stored d a i =
    ap (λ r. cell_or (batch_value a) r) (stored_shown (row a i) (stored_or d a i) d (λ x e. or_of (stored a i) x d (row-stored a i x e)))
    ∙ stored_shown (batch_value a) (stored_or d a i) d (value_stored (nat_lt 0 (len a)) (constant_cell a) (stored a i) d (λ x e. constant-stored a i x e))

-- the payload below the masks is what is shown
pub shown-unmasked : (d : Cell) (a : Array) (i : ℕ) → shown_by (stored_or d) a i ≡ stored_or d (unmasked a) i
shown-unmasked d a i = shown-stored d a i ∙ ap (λ o. cell_or o d) (sym (stored-unmasked a i))

-- where each cell that is shown is read, each that must be read is
pub reads-shown : (reads : Cell → Type 0) (d : Cell) (a : Array) → ((i : ℕ) → i < len a → reads (shown_by (stored_or d) a i)) → (x : Cell) → MustRead a x → reads x
reads-shown reads d a h x (inl m) = subst reads (shown-stored d a m.0 ∙ or_of (stored a m.0) x d (row-stored a m.0 x m.2)) (h m.0 m.1)
reads-shown reads d a h x (inr m) = subst reads (shown-stored d a 0 ∙ or_of (stored a 0) x d (constant-stored a 0 x m.1)) (h 0 m.0)

-- the value of a batch constant is the payload below its mask
pub constant-shown : (d : Cell) (a : Array) (x : Cell) → IsSome (constant_cell a) → stored_or d (unmasked a) 0 ≡ x → constant_cell a ≡ Some x
constant-shown d (constant s n) x h e = some_or (option_map cell_of s.value) d x h e
constant-shown d (masked (constant s n) v) x h e = some_or (option_map cell_of s.value) d x h e
constant-shown d (extension t (constant s n)) x h e = some_or (option_map cell_of s.value) d x h e
constant-shown d _ x h e = absurd (cc)
