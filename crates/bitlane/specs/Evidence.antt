-- The laws of joining evidence of failures.
use Rattle.std.specs.Prelude.{◌≡◌}

-- of values in range, joining is associative, commutative and idempotent, and stays in range; the neutral value is in range and changes nothing
pub record JoinLaws (E : Type 0) (in_range : E → Type 0) (join : E → E → E) (neutral : E) : Type 0 where
  pub associative : (a b c : E) → in_range a → in_range b → in_range c → join (join a b) c ≡ join a (join b c)
  pub commutative : (a b : E) → in_range a → in_range b → join a b ≡ join b a
  pub idempotent : (a : E) → in_range a → join a a ≡ a
  pub stays_in_range : (a b : E) → in_range a → in_range b → in_range (join a b)
  pub neutral_in_range : in_range neutral
  pub neutral_left : (a : E) → in_range a → join neutral a ≡ a
