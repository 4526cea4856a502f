-- The rows of an array from a to below b, by its layout. Offsets keep one entry more than rows, and elements stay where they are.
use Rattle.std.specs.Prelude.{ℕ, ◌+◌, ◌-◌, ◌*◌, slice_range}
use Rattle.colbase.specs.Arrays.{Array, constant, masked, extension, primitive, bool, varbin, varbinview, list, listview, fixed_size_list}
use Rattle.coltypes.specs.Cut.{cut_validity, cut_values}

abbrev pub cut : Array → ℕ → ℕ → Array
cut (constant s n) a b = constant s (b - a)
cut (masked c v) a b = masked (cut c a b) (cut_validity v a b)
cut (extension e c) a b = extension e (cut c a b)
cut (primitive values v) a b = primitive (cut_values values a b) (cut_validity v a b)
cut (bool bits v) a b = bool (slice_range bits a b) (cut_validity v a b)
cut (varbin offsets bs k v) a b = varbin (slice_range offsets a (b + 1)) bs k (cut_validity v a b)
cut (varbinview views buffers k v) a b = varbinview (slice_range views a b) buffers k (cut_validity v a b)
cut (list c offsets v) a b = list c (slice_range offsets a (b + 1)) (cut_validity v a b)
cut (listview c offsets sizes v) a b = listview c (slice_range offsets a b) (slice_range sizes a b) (cut_validity v a b)
cut (fixed_size_list c width n v) a b = fixed_size_list (cut c (a * width) (b * width)) width (b - a) (cut_validity v a b)
