-- The numbers whose product with a power of 10 is an i64.
use Rattle.std.proofs.Common.{◌≡◌, ℕ, zero, suc, ◌^◌, ◌-◌, ◌/◌, ◌*◌, ◌%◌, ◌<◌, ◌≤◌, ℤ, pos, negsuc, ◌*ℤ◌, ◌≤ℤ◌, neg_ℤ, Bool, true, false, ◌||◌, ◌∙◌, refl, sym, w64, SFits, to_z, of_z, arith, Option, Some, None, MatchOption, subst}
use Rattle.std.specs.Prelude.{◌↔◌}
use Rattle.std.specs.Bool.{FalseIff}
use Rattle.std.specs.Int.Signed.{lt_z}
use lib.Signed.{quot_z}
use Rattle.std.proofs.Math.Nat.{div-le_self, le-div_iff_mul-le, pow-le-pow_right}
use Rattle.std.proofs.lemmas.Int.{to_z-of_z, ints}
use Rattle.coltypes.specs.Cell.{number}
use Rattle.rowplan.specs.Outcomes.{done}
use Rattle.rowsample.specs.Functions.{wrapped}
use Rattle.rowsample.specs.declared.rescale.Power.{Power}
use Rattle.rowsample.specs.Powers.{power_of, HasBounds}
use Rattle.rowsample.proofs.ExactNumbers.{checked_product}

-- a number from the least that a factor takes to an i64 to the greatest
abbrev Within : ℕ → ℤ → Type 0
Within factor value = (neg_ℤ (pos (2 ^ 63 / factor)) ≤ℤ value) × (value ≤ℤ pos ((2 ^ 63 - 1) / factor))

negative : (product : ℕ) → 0 < product → SFits w64 (neg_ℤ (pos product)) ↔ (product ≤ 2 ^ 63)
negative zero positive = absurd (omega arith)
negative (suc n) positive = (λ h. let k : n < 2 ^ 63 = h.sfits in omega arith, λ h. record { sfits = omega arith })

positive_product : (n factor : ℕ) → 0 < factor → 0 < suc n * factor
positive_product n zero positive = absurd (omega arith)
positive_product n (suc m) positive = omega arith

bounded : (factor : ℕ) (value : ℤ) → 0 < factor → SFits w64 (value *ℤ pos factor) ↔ Within factor value
bounded factor (pos n) positive =
    let most : (n ≤ (2 ^ 63 - 1) / factor) ↔ (n * factor ≤ 2 ^ 63 - 1) = le-div_iff_mul-le positive in
    (λ h. let k : n * factor < 2 ^ 63 = h.sfits in let q = most.1 (omega arith) in (omega (arith, ints), omega (arith, ints)), λ h. let q = most.0 (omega (arith, ints, h.1)) in record { sfits = omega arith })
bounded factor (negsuc n) positive =
    let least : (suc n ≤ 2 ^ 63 / factor) ↔ (suc n * factor ≤ 2 ^ 63) = le-div_iff_mul-le positive in
    let product = negative (suc n * factor) (positive_product n factor positive) in
    (λ h. let q = least.1 (product.0 h) in (omega (arith, ints), omega (arith, ints)), λ h. product.1 (least.0 (omega (arith, ints, h.0))))

positive_power : (scale : ℕ) → 0 < 10 ^ scale
positive_power zero = omega arith
positive_power (suc k) = let below = positive_power k in omega arith

pub has_bounds : (scale : ℕ) → HasBounds (power_of scale)
has_bounds scale = record { is_i64 = λ value. bounded (10 ^ scale) value (positive_power scale) }

pub power_bounds : (power : Power) (scale : ℕ) → power ≡ power_of scale → HasBounds power
power_bounds power scale is = subst HasBounds (sym is) (has_bounds scale)

pub known_bounds : (known : Option Power) (power : Power) (scale : ℕ) → known ≡ Some power → MatchOption known (Unit {0}) (λ p. p ≡ power_of scale) → HasBounds power
known_bounds (Some p) power scale is same = let eq : p ≡ power_of scale = same in power_bounds power scale (cc)
known_bounds None power scale is same = absurd (cc)

power_fits : (scale : ℕ) → scale ≤ 18 → SFits w64 (pos (10 ^ scale))
power_fits scale h = let k : 10 ^ scale ≤ 10 ^ 18 = pow-le-pow_right (omega arith) h in record { sfits = omega arith }

negative_fits : (n : ℕ) → n ≤ 2 ^ 63 → SFits w64 (neg_ℤ (pos n))
negative_fits zero h = record { sfits = omega arith }
negative_fits (suc n) h = record { sfits = omega arith }

quotient_fits : (z : ℤ) (n : ℕ) → SFits w64 z → 0 < n → SFits w64 (quot_z z (pos n))
quotient_fits (pos m) n f positive = let k : m / n ≤ m = div-le_self m n in let h : m < 2 ^ 63 = f.sfits in record { sfits = omega arith }
quotient_fits (negsuc m) n f positive = let k : suc m / n ≤ suc m = div-le_self (suc m) n in let h : m < 2 ^ 63 = f.sfits in negative_fits (suc m / n) (omega arith)

-- an i64 can be divided by a power of 10
pub divides : (z r : ℤ) (scale : ℕ) → SFits w64 z → r ≡ pos (10 ^ scale) → scale ≤ 18 → (0 < of_z w64 r) × SFits w64 (quot_z z (to_z w64 (of_z w64 r)))
divides z r scale f is h =
    let positive = positive_power scale in
    let fits : SFits w64 r = subst (SFits w64) (sym is) (power_fits scale h) in
    let back : to_z w64 (of_z w64 r) ≡ r = to_z-of_z w64 r fits in
    (subst (λ x. 0 < of_z w64 x) (sym is) positive, subst (λ x. SFits w64 (quot_z z x)) (sym (back ∙ is)) (quotient_fits z (10 ^ scale) f positive))

-- what the two comparisons tell of the product
by_test : (b : Bool) (P : Type 0) → (b ≡ true → ¬ P) → (b ≡ false → P) → FalseIff b P
by_test true P refuses holds = refuses refl
by_test false P refuses holds = holds refl

outside : (value least most : ℤ) (P : Type 0) → P ↔ ((least ≤ℤ value) × (value ≤ℤ most)) → FalseIff (lt_z value least || lt_z most value) P
outside value least most P is = by_test _ P (λ t p. let w = is.0 p in let l = w.0 in let m = w.1 in grind (arith, ints)) (λ t. is.1 (grind (arith, ints), grind (arith, ints)))

pub bounded_product : (value factor least most : ℤ) → SFits w64 value → SFits w64 factor → SFits w64 least → SFits w64 most
    → SFits w64 (value *ℤ factor) ↔ ((least ≤ℤ value) × (value ≤ℤ most))
    → wrapped (value *ℤ factor) ≡ done (number (to_z w64 (of_z w64 value * of_z w64 factor % 2 ^ 64))) (lt_z (to_z w64 (of_z w64 value)) (to_z w64 (of_z w64 least)) || lt_z (to_z w64 (of_z w64 most)) (to_z w64 (of_z w64 value)))
bounded_product value factor least most v f l m is =
    let test : FalseIff (lt_z value least || lt_z most value) (SFits w64 (value *ℤ factor)) = outside value least most (SFits w64 (value *ℤ factor)) is in
    checked_product value factor _ _ v f refl (simp (to_z-of_z, v, l, m) test)
