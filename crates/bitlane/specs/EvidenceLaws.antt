-- The laws of joining truth values, and flags in the bits of a byte.
use Rattle.std.specs.Prelude.{⊤, bit_or}
use Rattle.std.proofs.Common.{◌≡◌, ◌∙◌, ℕ, zero, suc, ◌+◌, ◌*◌, ◌<◌, ◌/◌, ◌%◌, Bool, true, false, ◌||◌, refl, ap, sym, lit<}
use mathlib.Core.Path.{ap₂}
use native.Mathlib.Nat.{div-add-mod', mod-lt, zero-lt-suc, not-suc-le-zero, le_of_suc-le-suc}
use lib.Arith.{bin_ind}
use lib.Bits.{or_shr, or_mod}
use Rattle.std.proofs.lemmas.Nat.{or_comm, or_of_8}
use Rattle.std.specs.Int.Bits.{or_self}
use Rattle.bitlane.specs.Evidence.{JoinLaws}

pub bool_laws : JoinLaws Bool (λ _. ⊤) ◌||◌ false
bool_laws = record {
  associative = λ a b c p q r. elim a as (λ v. ((v || b) || c) ≡ (v || (b || c))) [ true ↦ refl | false ↦ refl ];
  commutative = λ a b p q. elim a as (λ v. (v || b) ≡ (b || v)) [ true ↦ elim b as (λ w. (true || w) ≡ (w || true)) [ true ↦ refl | false ↦ refl ] | false ↦ elim b as (λ w. (false || w) ≡ (w || false)) [ true ↦ refl | false ↦ refl ] ];
  idempotent = λ a p. elim a as (λ v. (v || v) ≡ v) [ true ↦ refl | false ↦ refl ];
  stays_in_range = λ a b p q. tt;
  neutral_in_range = tt;
  neutral_left = λ a p. refl;
}

-- two numbers with the same last bit and the same bits before it are the same
same_bits : (x y : ℕ) → x / 2 ≡ y / 2 → x % 2 ≡ y % 2 → x ≡ y
same_bits x y p q = sym (div-add-mod' x 2) ∙ ap₂ (λ (a b : ℕ). a * 2 + b) p q ∙ div-add-mod' y 2

last_bit : (x : ℕ) → x % 2 < 2
last_bit x = mod-lt x (zero-lt-suc 1)

not_last_bit : {P : Type 0} {x : ℕ} → suc (suc x) < 2 → P
not_last_bit h = absurd (not-suc-le-zero (le_of_suc-le-suc (le_of_suc-le-suc h)))

last_bit_assoc : (x y z : ℕ) → x < 2 → y < 2 → z < 2 → bit_or (bit_or x y) z ≡ bit_or x (bit_or y z)
last_bit_assoc zero y z p q r = refl
last_bit_assoc (suc zero) zero z p q r = refl
last_bit_assoc (suc zero) (suc zero) zero p q r = refl
last_bit_assoc (suc zero) (suc zero) (suc zero) p q r = refl
last_bit_assoc (suc zero) (suc zero) (suc (suc z)) p q r = not_last_bit r
last_bit_assoc (suc zero) (suc (suc y)) z p q r = not_last_bit q
last_bit_assoc (suc (suc x)) y z p q r = not_last_bit p

pub or_assoc : (a b c : ℕ) → bit_or (bit_or a b) c ≡ bit_or a (bit_or b c)
or_assoc =
    bin_ind (λ (n : ℕ). (b c : ℕ) → bit_or (bit_or n b) c ≡ bit_or n (bit_or b c)) (λ b c. refl)
    (λ n ih b c. same_bits _ _
    (or_shr (bit_or n b) c 1 ∙ ap (λ (x : ℕ). bit_or x (c / 2)) (or_shr n b 1) ∙ ih (b / 2) (c / 2)
    ∙ sym (or_shr n (bit_or b c) 1 ∙ ap (bit_or (n / 2)) (or_shr b c 1)))
    (or_mod (bit_or n b) c 1 ∙ ap (λ (x : ℕ). bit_or x (c % 2)) (or_mod n b 1)
    ∙ last_bit_assoc (n % 2) (b % 2) (c % 2) (last_bit n) (last_bit b) (last_bit c)
    ∙ sym (or_mod n (bit_or b c) 1 ∙ ap (bit_or (n % 2)) (or_mod b c 1))))

pub flag_laws : JoinLaws ℕ (λ x. x < 256) bit_or 0
flag_laws = record {
  associative = λ a b c p q r. or_assoc a b c;
  commutative = λ a b p q. or_comm a b;
  idempotent = λ a p. or_self a;
  stays_in_range = λ a b p q. or_of_8 a b p q;
  neutral_in_range = lit< tt;
  neutral_left = λ a p. refl;
}
