-- The indices of true values, by the first value.
use Rattle.std.proofs.Common.{◌≡◌, ◌∙◌, ℕ, ◌+◌, ◌<◌, ◌≤◌, Bool, true, List, [], ◌∷◌, length, get_or, ap, refl, arith}
use Rattle.std.specs.Prelude.{drop}
use Rattle.std.proofs.Math.ListN.{drop_of_length-le}
use Rattle.std.proofs.lemmas.List.{drop_more}
use Rattle.bitlane.specs.Bits.{true_indices_from}

pub none_left : (i : ℕ) (bits : List Bool) → length bits ≡ 0 → true_indices_from i bits ≡ []
none_left i [] e = refl
none_left i (b ∷ bits) e = absurd (omega arith)

pub true_first : (i : ℕ) (bits : List Bool) (b : Bool) (tail : List Bool) → bits ≡ b ∷ tail → b ≡ true → true_indices_from i bits ≡ i ∷ true_indices_from (i + 1) tail
true_first i bits b tail e t = ap (true_indices_from i) e ∙ ap (λ x. true_indices_from i (x ∷ tail)) t

-- a true value is the first of those from its index on
pub true_at : (i : ℕ) (bits : List Bool) (d : Bool) → i < length bits → get_or bits i d ≡ true → true_indices_from i (drop i bits) ≡ i ∷ true_indices_from (i + 1) (drop (i + 1) bits)
true_at i bits d h t = true_first i (drop i bits) (get_or bits i d) (drop (i + 1) bits) (drop_more bits i d h) t

pub none_after : (i : ℕ) (bits : List Bool) → length bits ≤ i → true_indices_from i (drop i bits) ≡ []
none_after i bits h = ap (true_indices_from i) (drop_of_length-le bits h)
