-- What filling with the default leaves. A default is told by a predicate, since a type may have several.
use Rattle.std.specs.Prelude.{◌≡◌, ℕ, ◌<◌, List, length, slice_index_or}

-- as many items as before, each of them a default
pub record FilledList {T : Type 0} (is_default : T → Type 0) (before after : List T) : Type 0 where
  pub many : length after ≡ length before
  pub each : (i : ℕ) (d : T) → i < length before → is_default (slice_index_or after i d)
