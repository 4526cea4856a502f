-- A number that fits an integer type is in its range.
use Rattle.std.proofs.Common.{◌≡◌, ℕ, ℤ, pos, negsuc, ◌^◌, Bool, true, false, Option, Some, None, Result, Ok, Err, ap, sym, refl, ◌∙◌, SFits, Fits, w64, ltb-true, lt-ltb}
use Rattle.std.specs.Int.{Width, FitsUnsignedBits}
use mir.Val.{hbits}
use Rattle.std.specs.Prelude.{MatchOption, OkIff, if◌then◌else◌}
use Rattle.std.specs.Result.{result_ok}
use Rattle.std.specs.Bool.{Decides}
use Rattle.serde_json.specs.Data.{Data}
use Rattle.serde_json.specs.Find.{as_number, as_i64, as_u64}
use Rattle.coltypes.specs.Fits.{in_range, within_signed, within_unsigned}
use Rattle.coltypes.specs.declared.dtype.PType.{PType}
use Rattle.coltypes.specs.declared.dtype.PType.TheVariants.{I64, U64}
use Rattle.rowjson.specs.Columns.{signed_within, unsigned_within, signed_value, unsigned_value}
use Rattle.rowjson.specs.Objects.{◌>>=◌}

-- the ranges of colbase's definition are those of the machine's types
pub fits_decides : (w : Width) (z : ℤ) → Decides (within_signed (2 ^ hbits w) z) (SFits w z)
fits_decides w (pos n) = (λ h. record { sfits = ltb-true n (2 ^ hbits w) h }, λ f. lt-ltb n (2 ^ hbits w) f.sfits)
fits_decides w (negsuc n) = (λ h. record { sfits = ltb-true n (2 ^ hbits w) h }, λ f. lt-ltb n (2 ^ hbits w) f.sfits)

pub fits_bits : (k n : ℕ) → Decides (within_unsigned (2 ^ k) (pos n)) (FitsUnsignedBits k (pos n))
fits_bits k n = (ltb-true n (2 ^ k), lt-ltb n (2 ^ k))

-- what a conversion gives, where a test decides whether the number fits
chosen : {X E : Type 0} (test : Bool) (InRange : Type 0) (z : X) (r : Result X E) → Decides test InRange → OkIff r InRange z → result_ok r ≡ (if test then Some z else None)
chosen true InRange z (Ok x) decides is = ap Some is.1
chosen true InRange z (Err e) decides is = absurd (is (decides.0 refl))
chosen false InRange z (Ok x) decides is = let no : false ≡ true = decides.1 is.0 in absurd (cc)
chosen false InRange z (Err e) decides is = refl

-- a number that was read and converted is the value that is stated
pub signed_read : {E : Type 0} (p : PType) (InRange : Type 0) (d : Data) (z : ℤ) (r : Result ℤ E) → Decides (in_range p z) InRange → (as_number d >>= as_i64) ≡ Some z → OkIff r InRange z → result_ok r ≡ signed_value p d
unfolding signed_value
signed_read p InRange d z r decides number is = chosen (in_range p z) InRange z r decides is ∙ sym (ap (λ (o : Option ℤ). o >>= signed_within p) number)

pub unsigned_read : {E : Type 0} (p : PType) (InRange : Type 0) (d : Data) (n : ℕ) (r : Result ℕ E) → Decides (in_range p (pos n)) InRange → (as_number d >>= as_u64) ≡ Some n → OkIff r InRange n → result_ok r ≡ unsigned_value p d
unfolding unsigned_value
unsigned_read p InRange d n r decides number is = chosen (in_range p (pos n)) InRange n r decides is ∙ sym (ap (λ (o : Option ℕ). o >>= unsigned_within p) number)

-- a number that was read at the full width is in the range
signed_same : (o : Option ℤ) → MatchOption o (Unit {0}) (λ z. SFits w64 z) → o ≡ (o >>= signed_within I64)
signed_same None fits = refl
signed_same (Some z) fits = sym (ap (λ (b : Bool). if b then Some z else None) ((fits_decides w64 z).1 fits))

pub signed_whole : (d : Data) (o : Option ℤ) → o ≡ (as_number d >>= as_i64) → MatchOption o (Unit {0}) (λ z. SFits w64 z) → o ≡ signed_value I64 d
unfolding signed_value
signed_whole d o read fits = signed_same o fits ∙ ap (λ (x : Option ℤ). x >>= signed_within I64) read

unsigned_same : (o : Option ℕ) → MatchOption o (Unit {0}) (λ n. Fits w64 n) → o ≡ (o >>= unsigned_within U64)
unsigned_same None fits = refl
unsigned_same (Some n) fits = sym (ap (λ (b : Bool). if b then Some n else None) (lt-ltb n (2 ^ 64) fits.fits))

pub unsigned_whole : (d : Data) (o : Option ℕ) → o ≡ (as_number d >>= as_u64) → MatchOption o (Unit {0}) (λ n. Fits w64 n) → o ≡ unsigned_value U64 d
unfolding unsigned_value
unsigned_whole d o read fits = unsigned_same o fits ∙ ap (λ (x : Option ℕ). x >>= unsigned_within U64) read
