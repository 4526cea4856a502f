-- What a mask says of a row.
use Rattle.std.proofs.Common.{◌≡◌, ◌∙◌, ℕ, zero, suc, ◌+◌, ◌<◌, Bool, true, false, List, [], ◌∷◌, length, refl, sym, subst, arith}
use Rattle.std.specs.Prelude.{count_by, cond, ◌==◌}
use Rattle.std.proofs.lemmas.Bool.Decides.{nat_tests}
use Rattle.std.proofs.lemmas.List.Sums.{count_by-le-length, sum_by-cons}
use Rattle.bitlane.specs.Bits.{bit, tabulate}
use Rattle.bitlane.proofs.Tables.{length-tabulate, get_or-tabulate}
use Rattle.coltypes.specs.declared.mask.Mask.{Mask}
use Rattle.coltypes.specs.declared.mask.Mask.TheVariants as m
use Rattle.coltypes.specs.declared.validity.Validity.{Validity}
use Rattle.coltypes.specs.declared.validity.Validity.TheVariants as v
use Rattle.coltypes.specs.Valid.{Covers, valid_at}
use Rattle.coltypes.specs.Masks.{mask_bits, mask_of_bits, validity_mask}

pub count_true : (bits : List Bool) → count_by (λ b. b) (true ∷ bits) ≡ 1 + count_by (λ b. b) bits
count_true bits = sum_by-cons (λ x. cond x 1 0) true bits

pub count_false : (bits : List Bool) → count_by (λ b. b) (false ∷ bits) ≡ count_by (λ b. b) bits
count_false bits = refl

pub count_all : (n : ℕ) → count_by (λ b. b) (tabulate (λ i. true) n) ≡ n
count_all zero = refl
count_all (suc n) = omega (arith, count_true (tabulate (λ i. true) n), count_all n)

pub count_none : (n : ℕ) → count_by (λ b. b) (tabulate (λ i. false) n) ≡ 0
count_none zero = refl
count_none (suc n) = omega (arith, count_false (tabulate (λ i. false) n), count_none n)

equal : (a b : ℕ) → (a == b) ≡ true → a ≡ b
equal a b h = grind (arith, nat_tests)

all_true : (bits : List Bool) → count_by (λ b. b) bits ≡ length bits → (i : ℕ) → i < length bits → bit bits i ≡ true
all_true [] h i k = absurd (omega arith)
all_true (true ∷ bits) h zero k = refl
all_true (true ∷ bits) h (suc i) k = all_true bits (omega (arith, count_true bits)) i (omega arith)
all_true (false ∷ bits) h i k = absurd (omega (arith, count_false bits, count_by-le-length (λ b. b) bits))

all_false : (bits : List Bool) → count_by (λ b. b) bits ≡ 0 → (i : ℕ) → i < length bits → bit bits i ≡ false
all_false [] h i k = absurd (omega arith)
all_false (true ∷ bits) h i k = absurd (omega (arith, count_true bits))
all_false (false ∷ bits) h zero k = refl
all_false (false ∷ bits) h (suc i) k = all_false bits (omega (arith, count_false bits)) i (omega arith)

-- the mask has a truth value for each of n rows, and each is the one given
pub record TellsRows (mask : Mask) (n : ℕ) (valid : ℕ → Bool) : Type 0 where
  pub rows : length (mask_bits mask) ≡ n
  pub tells : (i : ℕ) → i < n → bit (mask_bits mask) i ≡ valid i

each_true : (n : ℕ) (valid : ℕ → Bool) → ((i : ℕ) → i < n → valid i ≡ true) → TellsRows (m.AllTrue n) n valid
each_true n valid h = record {
  rows = length-tabulate (λ i. true) n;
  tells = λ i k. get_or-tabulate (λ i. true) n i false k ∙ sym (h i k);
}

each_false : (n : ℕ) (valid : ℕ → Bool) → ((i : ℕ) → i < n → valid i ≡ false) → TellsRows (m.AllFalse n) n valid
each_false n valid h = record {
  rows = length-tabulate (λ i. false) n;
  tells = λ i k. get_or-tabulate (λ i. false) n i false k ∙ sym (h i k);
}

by_tests : (bits : List Bool) (p q : Bool) → (p ≡ true → (i : ℕ) → i < length bits → bit bits i ≡ true) → (q ≡ true → (i : ℕ) → i < length bits → bit bits i ≡ false)
    → TellsRows (cond p (m.AllTrue (length bits)) (cond q (m.AllFalse (length bits)) (m.Values bits))) (length bits) (bit bits)
by_tests bits true q h k = each_true (length bits) (bit bits) (h refl)
by_tests bits false true h k = each_false (length bits) (bit bits) (k refl)
by_tests bits false false h k = record { rows = refl; tells = λ i l. refl }

of_bits : (bits : List Bool) → TellsRows (mask_of_bits bits (count_by (λ b. b) bits)) (length bits) (bit bits)
of_bits bits = by_tests bits (count_by (λ b. b) bits == length bits) (count_by (λ b. b) bits == 0)
    (λ e. all_true bits (equal (count_by (λ b. b) bits) (length bits) e)) (λ e. all_false bits (equal (count_by (λ b. b) bits) 0 e))

pub tells_rows : (w : Validity) (n : ℕ) → Covers w n → TellsRows (validity_mask w n) n (valid_at w)
tells_rows v.NonNullable n h = each_true n (λ i. true) (λ i k. refl)
tells_rows v.AllValid n h = each_true n (λ i. true) (λ i k. refl)
tells_rows v.AllInvalid n h = each_false n (λ i. false) (λ i k. refl)
tells_rows (v.Array bits) n h = let P : ℕ → Type 0 = λ k. TellsRows (validity_mask (v.Array bits) k) k (valid_at (v.Array bits)) in subst P h (of_bits bits)
