-- The laws of joining where there is one value alone.
use Rattle.std.specs.Prelude.{⊤, ◌≡◌, refl}
use Rattle.bitlane.specs.declared.failure_evidence.NoFailure.{NoFailure}
use Rattle.bitlane.specs.Evidence.{JoinLaws}

pub one_value : (a b : NoFailure) → a ≡ b
one_value a b = refl

pub no_failure_laws : JoinLaws NoFailure (λ _. ⊤) (λ a b. a) (record {})
no_failure_laws = record {
  associative = λ a b c p q r. refl;
  commutative = λ a b p q. refl;
  idempotent = λ a p. refl;
  stays_in_range = λ a b p q. tt;
  neutral_in_range = tt;
  neutral_left = λ a p. refl;
}
