use Rattle.std.proofs.Common.{◌≡◌, ℕ, ◌<◌, ◌≤◌, length, get_or}
use Rattle.bitlane.specs.Bits.{bit}
use Rattle.coltypes.specs.Masks.{mask_bits}
use Rattle.rowelems.specs.Scales.{number_or_zero}
use Rattle.rowelems.proofs.element.decimal_scale.write_scales.Given as goal

abbrev pub invariant-loop-i : goal.invariant-loop-i
invariant-loop-i l = record {
  many : length l.scales ≡ length l.initial.scales;
  same : (k : ℕ) → k < l.i → get_or l.scales k 0 ≡ number_or_zero (bit (mask_bits l.read) k) (get_or l.numbers k 0);
  scale : (k : ℕ) → k < l.i → get_or l.scales k 0 ≤ 18;
}
