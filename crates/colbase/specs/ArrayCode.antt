-- How the logic stores an array.
use Rattle.std.proofs.Common.{◌≡◌, ap}
use Rattle.std.specs.Coded.{Coded, coded_ℕ, coded_bool, coded_list}
use base.Stored.{Gv, gnil, gnum, gcons}
use Rattle.coltypes.specs.contracts.validity.Validity as validity
use Rattle.coltypes.specs.contracts.values.PrimitiveValues as values
use Rattle.coltypes.specs.contracts.scalar.Scalar as scalar
use Rattle.coltypes.specs.contracts.dtype.ExtDType as ext
use Rattle.coltypes.specs.contracts.binary.BinaryView as view
use Rattle.coltypes.specs.contracts.binary.BinaryKind as kind
use Rattle.colbase.specs.Arrays.{Array, constant, masked, extension, primitive, bool, varbin, varbinview, list, listview, fixed_size_list}

abbrev head : Gv → Gv
head gnil = gnil
head (gnum n) = gnil
head (gcons a b) = a

abbrev tail : Gv → Gv
tail gnil = gnil
tail (gnum n) = gnil
tail (gcons a b) = b

-- the number of the layout, and then its parts
abbrev pub array_code : Array → Gv
array_code (constant a b) = gcons (gnum 0) (gcons (scalar.the_row.coded.code a) (coded_ℕ.code b))
array_code (masked a b) = gcons (gnum 1) (gcons (array_code a) (validity.the_row.coded.code b))
array_code (extension a b) = gcons (gnum 2) (gcons (ext.the_row.coded.code a) (array_code b))
array_code (primitive a b) = gcons (gnum 3) (gcons (values.the_row.coded.code a) (validity.the_row.coded.code b))
array_code (bool a b) = gcons (gnum 4) (gcons ((coded_list coded_bool).code a) (validity.the_row.coded.code b))
array_code (varbin a b c d) = gcons (gnum 5) (gcons ((coded_list coded_ℕ).code a) (gcons ((coded_list coded_ℕ).code b) (gcons (kind.the_row.coded.code c) (validity.the_row.coded.code d))))
array_code (varbinview a b c d) = gcons (gnum 6) (gcons ((coded_list view.the_row.coded).code a) (gcons ((coded_list (coded_list coded_ℕ)).code b) (gcons (kind.the_row.coded.code c) (validity.the_row.coded.code d))))
array_code (list a b c) = gcons (gnum 7) (gcons (array_code a) (gcons ((coded_list coded_ℕ).code b) (validity.the_row.coded.code c)))
array_code (listview a b c d) = gcons (gnum 8) (gcons (array_code a) (gcons ((coded_list coded_ℕ).code b) (gcons ((coded_list coded_ℕ).code c) (validity.the_row.coded.code d))))
array_code (fixed_size_list a b c d) = gcons (gnum 9) (gcons (array_code a) (gcons (coded_ℕ.code b) (gcons (coded_ℕ.code c) (validity.the_row.coded.code d))))

pub array_inj : (x y : Array) → array_code x ≡ array_code y → x ≡ y
array_inj (constant a b) (constant e f) p = λ i. constant (scalar.the_row.coded.inj a e (ap (λ g. head (tail g)) p) i) (coded_ℕ.inj b f (ap (λ g. tail (tail g)) p) i)
array_inj (masked a b) (masked e f) p = λ i. masked (array_inj a e (ap (λ g. head (tail g)) p) i) (validity.the_row.coded.inj b f (ap (λ g. tail (tail g)) p) i)
array_inj (extension a b) (extension e f) p = λ i. extension (ext.the_row.coded.inj a e (ap (λ g. head (tail g)) p) i) (array_inj b f (ap (λ g. tail (tail g)) p) i)
array_inj (primitive a b) (primitive e f) p = λ i. primitive (values.the_row.coded.inj a e (ap (λ g. head (tail g)) p) i) (validity.the_row.coded.inj b f (ap (λ g. tail (tail g)) p) i)
array_inj (bool a b) (bool e f) p = λ i. bool ((coded_list coded_bool).inj a e (ap (λ g. head (tail g)) p) i) (validity.the_row.coded.inj b f (ap (λ g. tail (tail g)) p) i)
array_inj (varbin a b c d) (varbin e f g h) p = λ i. varbin ((coded_list coded_ℕ).inj a e (ap (λ g. head (tail g)) p) i) ((coded_list coded_ℕ).inj b f (ap (λ g. head (tail (tail g))) p) i) (kind.the_row.coded.inj c g (ap (λ g. head (tail (tail (tail g)))) p) i) (validity.the_row.coded.inj d h (ap (λ g. tail (tail (tail (tail g)))) p) i)
array_inj (varbinview a b c d) (varbinview e f g h) p = λ i. varbinview ((coded_list view.the_row.coded).inj a e (ap (λ g. head (tail g)) p) i) ((coded_list (coded_list coded_ℕ)).inj b f (ap (λ g. head (tail (tail g))) p) i) (kind.the_row.coded.inj c g (ap (λ g. head (tail (tail (tail g)))) p) i) (validity.the_row.coded.inj d h (ap (λ g. tail (tail (tail (tail g)))) p) i)
array_inj (list a b c) (list e f g) p = λ i. list (array_inj a e (ap (λ g. head (tail g)) p) i) ((coded_list coded_ℕ).inj b f (ap (λ g. head (tail (tail g))) p) i) (validity.the_row.coded.inj c g (ap (λ g. tail (tail (tail g))) p) i)
array_inj (listview a b c d) (listview e f g h) p = λ i. listview (array_inj a e (ap (λ g. head (tail g)) p) i) ((coded_list coded_ℕ).inj b f (ap (λ g. head (tail (tail g))) p) i) ((coded_list coded_ℕ).inj c g (ap (λ g. head (tail (tail (tail g)))) p) i) (validity.the_row.coded.inj d h (ap (λ g. tail (tail (tail (tail g)))) p) i)
array_inj (fixed_size_list a b c d) (fixed_size_list e f g h) p = λ i. fixed_size_list (array_inj a e (ap (λ g. head (tail g)) p) i) (coded_ℕ.inj b f (ap (λ g. head (tail (tail g))) p) i) (coded_ℕ.inj c g (ap (λ g. head (tail (tail (tail g)))) p) i) (validity.the_row.coded.inj d h (ap (λ g. tail (tail (tail (tail g)))) p) i)
array_inj _ _ p = absurd (cc)

abbrev pub coded_array : Coded Array
coded_array = record { code = array_code; inj = array_inj }
