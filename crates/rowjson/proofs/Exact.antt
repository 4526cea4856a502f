-- A scalar is its type and its value.
use Rattle.std.proofs.Common.{◌≡◌, ℤ, Bool, true, false, Option, Some, None, refl, sym, ap, ◌∙◌}
use Rattle.std.specs.Prelude.{option_map, is_some, if◌then◌else◌, IsTrue, ◌↔◌}
use mathlib.Core.Bool.{Bool-set}
use Rattle.serde_json.specs.Data.{Data}
use Rattle.serde_json.specs.Find.{as_null}
use Rattle.coltypes.specs.declared.dtype.DType.{DType, fold-roll-DType}
use Rattle.coltypes.specs.declared.dtype.DType.TheVariants as dtypes
use Rattle.coltypes.specs.declared.dtype.DType.TheOpen.{DType-F}
use Rattle.coltypes.specs.declared.dtype.ExtDType.{ExtDType}
use Rattle.coltypes.specs.declared.dtype.PType.{PType}
use Rattle.coltypes.specs.declared.dtype.Nullability.{Nullability}
use Rattle.coltypes.specs.declared.dtype.Nullability.TheVariants.{Nullable, NonNullable}
use Rattle.coltypes.specs.declared.scalar.Scalar.{Scalar}
use Rattle.coltypes.specs.declared.scalar.ScalarValue.{ScalarValue, ind-ScalarValue, fold-roll-ScalarValue, roll-ScalarValue}
use Rattle.coltypes.specs.declared.scalar.ScalarValue.TheVariants as values
use Rattle.coltypes.specs.declared.scalar.ScalarValue.TheOpen.{ScalarValue-F}
use Rattle.coltypes.specs.Cell.{Cell, truth, number, bytes, list}
use Rattle.coltypes.specs.CellOf.{cell_of, cell_step}
use Rattle.coltypes.specs.Fits.{fits, fits_type, in_range, is_nullable}
use Rattle.coltypes.specs.LogicalType.{LogicalType, bool, primitive}
use Rattle.coltypes.specs.LogicalTypeOf.{logical_type, extension_type, type_step, extension_step}
use Rattle.rowjson.specs.DtypeOf.{dtype_of}
use Rattle.rowjson.specs.Objects.{◌>>=◌, value_or_null}
use Rattle.rowjson.specs.Scalars.{is_of_type, scalar_if, scalar_of, scalar_in, value_under}
use Rattle.rowjson.proofs.ExactTypes.{dtype_exact, dtype_from, extension_exact, extension_logical}

-- ---- the scalar that parts state

-- two reasons why a test holds are one
same_reason : (b : Bool) (e f : b ≡ true) → e ≡ f
same_reason b e f = Bool-set b true e f

made_if : (s : Scalar) (b : Bool) (fits : is_of_type s.dtype s.value ≡ b) → scalar_if s.dtype s.value b fits ≡ Some s
made_if s true fits = ap (λ (e : is_of_type s.dtype s.value ≡ true). Some (record { dtype = s.dtype; value = s.value; lawful = e })) (same_reason _ fits s.lawful)
made_if s false fits = let no : false ≡ true = sym fits ∙ s.lawful in absurd (cc)

made : (s : Scalar) (t : DType) (v : Option ScalarValue) → s.dtype ≡ t → s.value ≡ v → Some s ≡ scalar_of t v
unfolding scalar_of
made s t v e f = sym (made_if s (is_of_type s.dtype s.value) refl) ∙ ap (λ (u : DType). scalar_of u s.value) e ∙ ap (λ (w : Option ScalarValue). scalar_of t w) f

refused_if : (t : DType) (v : Option ScalarValue) (b : Bool) (fits : is_of_type t v ≡ b) → b ≡ false → None ≡ scalar_if t v b fits
refused_if t v true fits is = absurd (cc)
refused_if t v false fits is = refl

refused : (t : DType) (v : Option ScalarValue) → is_of_type t v ≡ false → None ≡ scalar_of t v
unfolding scalar_of
refused t v is = refused_if t v (is_of_type t v) refl is

-- ---- nulls

pub null_made : (s : Scalar) (t : DType) → s.dtype ≡ t → s.value ≡ None → Some s ≡ scalar_of t None
null_made s t e f = made s t None e f

pub not_nullable : (n : Nullability) (b : Bool) → IsTrue b ↔ (n ≡ Nullable) → b ≡ false → is_nullable n ≡ false
not_nullable NonNullable b is e = refl
not_nullable Nullable b is e = let yes : b ≡ true = is.1 refl in absurd (cc)

pub null_refused : (t : DType) → is_of_type t None ≡ false → None ≡ scalar_of t None
null_refused t is = refused t None is

-- ---- values by the cells that they are

some_same : {X : Type 0} (a b : X) → Some a ≡ Some b → a ≡ b
some_same a b e = cc

truth_same : (a b : Bool) → truth a ≡ truth b → a ≡ b
truth_same a b e = cc

truth_cell : (b : Bool) (x : ScalarValue-F ScalarValue) → cell_of (roll-ScalarValue x) ≡ truth b → roll-ScalarValue x ≡ values.Bool b
truth_cell b (ScalarValue-F.Bool a) e =
    let same : truth a ≡ truth b = sym (fold-roll-ScalarValue Cell cell_step (ScalarValue-F.Bool a)) ∙ e in
    values.rolls-Bool a ∙ ap values.Bool (truth_same a b same)
truth_cell b x e = let no = sym (fold-roll-ScalarValue Cell cell_step x) ∙ e in absurd (cc)

truth_value : (v : Option ScalarValue) (b : Bool) → option_map cell_of v ≡ Some (truth b) → v ≡ Some (values.Bool b)
truth_value None b e = absurd (cc)
truth_value (Some v) b e = ap Some (ind-ScalarValue (λ u. cell_of u ≡ truth b → u ≡ values.Bool b) (λ x y is. truth_cell b x) v (some_same (cell_of v) (truth b) e))

number_same : (a b : ℤ) → number a ≡ number b → a ≡ b
number_same a b e = cc

number_cell : (z : ℤ) (x : ScalarValue-F ScalarValue) → cell_of (roll-ScalarValue x) ≡ number z → roll-ScalarValue x ≡ values.Int z
number_cell z (ScalarValue-F.Int a) e =
    let same : number a ≡ number z = sym (fold-roll-ScalarValue Cell cell_step (ScalarValue-F.Int a)) ∙ e in
    values.rolls-Int a ∙ ap values.Int (number_same a z same)
number_cell z x e = let no = sym (fold-roll-ScalarValue Cell cell_step x) ∙ e in absurd (cc)

number_value : (v : Option ScalarValue) (z : ℤ) → option_map cell_of v ≡ Some (number z) → v ≡ Some (values.Int z)
number_value None z e = absurd (cc)
number_value (Some v) z e = ap Some (ind-ScalarValue (λ u. cell_of u ≡ number z → u ≡ values.Int z) (λ x y is. number_cell z x) v (some_same (cell_of v) (number z) e))

pub truth_made : (s : Scalar) (b : Bool) (n : Nullability) → logical_type s.dtype ≡ bool n → option_map cell_of s.value ≡ Some (truth b) → Some s ≡ scalar_of (dtypes.Bool n) (Some (values.Bool b))
truth_made s b n e f = made s (dtypes.Bool n) (Some (values.Bool b)) (dtype_from s.dtype (bool n) e) (truth_value s.value b f)

pub number_made : (s : Scalar) (z : ℤ) (p : PType) (n : Nullability) → logical_type s.dtype ≡ primitive p n → option_map cell_of s.value ≡ Some (number z) → Some s ≡ scalar_of (dtypes.Primitive p n) (Some (values.Int z))
number_made s z p n e f = made s (dtypes.Primitive p n) (Some (values.Int z)) (dtype_from s.dtype (primitive p n) e) (number_value s.value z f)

pub number_refused : (z : ℤ) (p : PType) (n : Nullability) → in_range p z ≡ false → None ≡ scalar_of (dtypes.Primitive p n) (Some (values.Int z))
number_refused z p n out =
    let cell : cell_of (values.Int z) ≡ number z = ap cell_of (sym (values.rolls-Int z)) ∙ fold-roll-ScalarValue Cell cell_step (ScalarValue-F.Int z) in
    let type : logical_type (dtypes.Primitive p n) ≡ primitive p n = ap logical_type (sym (dtypes.rolls-Primitive p n)) ∙ fold-roll-DType LogicalType LogicalType type_step extension_step (DType-F.Primitive p n) in
    refused (dtypes.Primitive p n) (Some (values.Int z)) (ap (fits (logical_type (dtypes.Primitive p n))) cell ∙ ap (λ (t : LogicalType). fits t (number z)) type ∙ out)

-- ---- what is stated under a type

-- a null
pub null_read : (t : DType) (d : Data) → is_some (as_null d) ≡ true → scalar_in (logical_type t) d ≡ scalar_of t None
unfolding scalar_in
null_read t d null =
    let stated : Option (Option ScalarValue) = option_map Some (value_under (logical_type t) d) in
    ap (λ (b : Bool). (if b then Some None else stated) >>= scalar_of (dtype_of (logical_type t))) null ∙ ap (λ (u : DType). scalar_of u None) (dtype_exact t)

type_if : (t : DType) (v : Option ScalarValue) (b : Bool) (fits : is_of_type t v ≡ b) (s : Scalar) → Some s ≡ scalar_if t v b fits → s.dtype ≡ t
type_if t v true fits s is = ap (λ (u : Scalar). u.dtype) (some_same s (record { dtype = t; value = v; lawful = fits }) is)
type_if t v false fits s is = absurd (cc)

value_if : (t : DType) (v : Option ScalarValue) (b : Bool) (fits : is_of_type t v ≡ b) (s : Scalar) → Some s ≡ scalar_if t v b fits → s.value ≡ v
value_if t v true fits s is = ap (λ (u : Scalar). u.value) (some_same s (record { dtype = t; value = v; lawful = fits }) is)
value_if t v false fits s is = absurd (cc)

test_if : (t : DType) (v : Option ScalarValue) (b : Bool) (fits : is_of_type t v ≡ b) → None ≡ scalar_if t v b fits → b ≡ false
test_if t v true fits is = absurd (cc)
test_if t v false fits is = refl

type_by : (t : DType) (o : Option (Option ScalarValue)) (s : Scalar) → Some s ≡ (o >>= scalar_of t) → s.dtype ≡ t
unfolding scalar_of
type_by t None s is = absurd (cc)
type_by t (Some v) s is = type_if t v (is_of_type t v) refl s is

-- the scalar has the type
pub stated_type : (t : DType) (d : Data) (s : Scalar) → Some s ≡ scalar_in (logical_type t) d → s.dtype ≡ t
unfolding scalar_in
stated_type t d s is = type_by (dtype_of (logical_type t)) (value_or_null (value_under (logical_type t)) d) s is ∙ dtype_exact t

-- ---- extensions

-- a value is of an extension where it is of the storage
fits_under : (c : Option Cell) (e : ExtDType) → fits_type c (extension_type e) ≡ fits_type c (logical_type e.storage)
fits_under None e = refl
fits_under (Some (truth b)) e = refl
fits_under (Some (number z)) e = refl
fits_under (Some (bytes bs)) e = refl
fits_under (Some (list cs)) e = refl

of_extension : (e : ExtDType) (v : Option ScalarValue) → is_of_type (dtypes.Extension e) v ≡ is_of_type e.storage v
of_extension e v = ap (fits_type (option_map cell_of v)) (extension_logical e) ∙ fits_under (option_map cell_of v) e

value_by : (t : DType) (v : Option ScalarValue) (s : Scalar) → Some s ≡ scalar_of t v → s.value ≡ v
unfolding scalar_of
value_by t v s is = value_if t v (is_of_type t v) refl s is

named_by : (e : ExtDType) (o : Option (Option ScalarValue)) (s x : Scalar) → Some s ≡ (o >>= scalar_of (dtype_of (logical_type e.storage))) → x.dtype ≡ dtypes.Extension e → x.value ≡ s.value → Some x ≡ (o >>= scalar_of (dtype_of (extension_type e)))
named_by e None s x is type value = absurd (cc)
named_by e (Some v) s x is type value = made x (dtype_of (extension_type e)) v (type ∙ sym (extension_exact e)) (value ∙ value_by (dtype_of (logical_type e.storage)) v s is)

-- the value of the storage's scalar under the extension
pub named_read : (e : ExtDType) (d : Data) (s x : Scalar) → Some s ≡ scalar_in (logical_type e.storage) d → x.dtype ≡ dtypes.Extension e → x.value ≡ s.value → Some x ≡ scalar_in (extension_type e) d
unfolding scalar_in
named_read e d s x is type value = named_by e (value_or_null (value_under (logical_type e.storage)) d) s x is type value

test_by : (t : DType) (v : Option ScalarValue) → None ≡ scalar_of t v → is_of_type t v ≡ false
unfolding scalar_of
test_by t v is = test_if t v (is_of_type t v) refl is

unnamed_by : (e : ExtDType) (o : Option (Option ScalarValue)) → None ≡ (o >>= scalar_of (dtype_of (logical_type e.storage))) → None ≡ (o >>= scalar_of (dtype_of (extension_type e)))
unnamed_by e None is = refl
unnamed_by e (Some v) is =
    let storage : is_of_type e.storage v ≡ false = ap (λ (u : DType). is_of_type u v) (sym (dtype_exact e.storage)) ∙ test_by (dtype_of (logical_type e.storage)) v is in
    refused (dtype_of (extension_type e)) v (ap (λ (u : DType). is_of_type u v) (extension_exact e) ∙ of_extension e v ∙ storage)

-- no scalar of the storage is stated, so none of the extension
pub unnamed_read : (e : ExtDType) (d : Data) → None ≡ scalar_in (logical_type e.storage) d → None ≡ scalar_in (extension_type e) d
unfolding scalar_in
unnamed_read e d is = unnamed_by e (value_or_null (value_under (logical_type e.storage)) d) is
