-- Powers of 10, each with the numbers whose product with it is an i64: two comparisons stand in for a product of 128 bits.
use Rattle.std.specs.Prelude.{ℕ, ◌^◌, ◌-◌, ◌/◌, ℤ, pos, ◌*ℤ◌, ◌≤ℤ◌, neg_ℤ, ◌↔◌, FitsSigned}
use Rattle.std.specs.Int.{w64}
use Rattle.rowsample.specs.declared.rescale.Power.{Power}

abbrev pub power_of : ℕ → Power
power_of scale = record {
  factor = pos (10 ^ scale);
  least = neg_ℤ (pos (2 ^ 63 / 10 ^ scale));
  most = pos ((2 ^ 63 - 1) / 10 ^ scale);
}

-- a product with the factor is an i64 exactly where the number is none below the least and none above the most
pub record HasBounds (power : Power) : Type 0 where
  pub is_i64 : (value : ℤ) → FitsSigned w64 (value *ℤ power.factor) ↔ ((power.least ≤ℤ value) × (value ≤ℤ power.most))
