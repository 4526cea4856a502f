-- How often a source or a sink has failed: a count that stays at the last value of a u64.
use Rattle.std.specs.Prelude.{◌≡◌, ℕ, ◌^◌, ◌-◌, ◌<◌, ◌≤◌}

-- the count never falls, and stays in range
pub record Counts (before now : ℕ) : Type 0 where
  pub no_lower : before ≤ now
  pub in_range : now < 2 ^ 64

-- the count rose, or it stands at its last value
abbrev pub HasRisen : ℕ → ℕ → Type 0
HasRisen before now = before < 2 ^ 64 - 1 → before < now

-- the count did not rise, and it does not stand at its last value
pub record StandsStill (before now : ℕ) : Type 0 where
  pub same : now ≡ before
  pub not_last : now < 2 ^ 64 - 1
