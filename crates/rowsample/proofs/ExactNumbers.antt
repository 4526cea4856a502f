-- The evidence that a checked operation leaves.
use Rattle.std.proofs.Common.{◌≡◌, ◌∙◌, ℤ, pos, negsuc, ◌^◌, ◌+ℤ◌, ◌-ℤ◌, ◌*ℤ◌, Bool, true, false, not, refl, ap, sym, SFits, w64, ltb-true, lt-ltb}
use Rattle.std.specs.Prelude.{FitsSigned}
use Rattle.std.specs.Bool.{Decides, FalseIff}
use mir.Val.{hbits}
use Rattle.std.specs.Int.{Width, int_rem_euclid, int_wrap, int_wrapping_add, int_wrapping_mul, int_wrapping_sub}
use Rattle.std.proofs.lemmas.Int.{wrapping_add_is, wrapping_mul_is, wrapping_sub_is}
use Rattle.coltypes.specs.Cell.{number}
use Rattle.coltypes.specs.Fits.{within_signed}
use Rattle.rowplan.specs.Outcomes.{done}
use Rattle.rowsample.specs.Functions.{is_outside, wrapped}

-- the range of an i64 is that of the machine's type
pub fits_decides : (w : Width) (z : ℤ) → Decides (within_signed (2 ^ hbits w) z) (SFits w z)
fits_decides w (pos n) = (λ h. record { sfits = ltb-true n (2 ^ hbits w) h }, λ f. lt-ltb n (2 ^ hbits w) f.sfits)
fits_decides w (negsuc n) = (λ h. record { sfits = ltb-true n (2 ^ hbits w) h }, λ f. lt-ltb n (2 ^ hbits w) f.sfits)

refuted : (test b : Bool) (P : Type 0) → Decides test P → FalseIff b P → not test ≡ b
refuted true true P decides unfit = absurd (unfit (decides.0 refl))
refuted true false P decides so = refl
refuted false true P decides unfit = refl
refuted false false P decides so = sym (decides.1 so)

both : (z : ℤ) (r : ℤ) (b : Bool) → int_wrap w64 z ≡ r → FalseIff b (FitsSigned w64 z) → wrapped z ≡ done (number r) b
both z r b is tells =
    ap (λ (x : ℤ). done (number x) (is_outside z)) is
    ∙ ap (λ (v : Bool). done (number r) v) (refuted _ b (FitsSigned w64 z) (fits_decides w64 z) tells)

-- a sum of two i64 as the machine's operation gives it
pub checked_sum : (x y r : ℤ) (b : Bool) → FitsSigned w64 x → FitsSigned w64 y → r ≡ int_wrapping_add w64 x y → FalseIff b (FitsSigned w64 (x +ℤ y)) → wrapped (x +ℤ y) ≡ done (number r) b
checked_sum x y r b f g is tells = both (x +ℤ y) r b (sym (is ∙ wrapping_add_is w64 x y f g)) tells

pub checked_product : (x y r : ℤ) (b : Bool) → FitsSigned w64 x → FitsSigned w64 y → r ≡ int_wrapping_mul w64 x y → FalseIff b (FitsSigned w64 (x *ℤ y)) → wrapped (x *ℤ y) ≡ done (number r) b
checked_product x y r b f g is tells = both (x *ℤ y) r b (sym (is ∙ wrapping_mul_is w64 x y f g)) tells

-- a number below another by the remainder that the machine's operation gave
pub checked_step : (x ticks rem r : ℤ) (b : Bool) → FitsSigned w64 x → FitsSigned w64 rem → rem ≡ int_rem_euclid x ticks → r ≡ int_wrapping_sub w64 x rem → FalseIff b (FitsSigned w64 (x -ℤ rem)) → wrapped (x -ℤ int_rem_euclid x ticks) ≡ done (number r) b
checked_step x ticks rem r b f g step is tells =
    ap (λ (z : ℤ). wrapped (x -ℤ z)) (sym step) ∙ both (x -ℤ rem) r b (sym (is ∙ wrapping_sub_is w64 x rem f g)) tells
