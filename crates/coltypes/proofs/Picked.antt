-- The selected members, read at the indices of the true values.
use Rattle.std.proofs.Common.{◌≡◌, ◌∙◌, ℕ, zero, suc, ◌+◌, ◌<◌, ◌≤◌, Bool, true, false, List, [], ◌∷◌, ◌++◌, length, take, drop, refl, ap, arith, add-one}
use Rattle.bitlane.specs.Bits.{true_indices, true_indices_from}
use Rattle.coltypes.specs.Keep.{keep}

-- the members at these indices
abbrev pub picked : {X : Type 0} → List X → List ℕ → List X
picked xs [] = []
picked xs (i ∷ is) = take 1 (drop i xs) ++ picked xs is

abbrev pub EachBelow : ℕ → List ℕ → Type 0
EachBelow n [] = Unit {0}
EachBelow n (i ∷ is) = (i < n) × EachBelow n is

indices_below : (n k : ℕ) (bits : List Bool) → k + length bits ≤ n → EachBelow n (true_indices_from k bits)
indices_below n k [] h = tt
indices_below n k (true ∷ bits) h = ((omega arith), indices_below n (k + 1) bits (omega arith))
indices_below n k (false ∷ bits) h = indices_below n (k + 1) bits (omega arith)

drop_tail : {X : Type 0} (xs : List X) (k : ℕ) (y : X) (ys : List X) → drop k xs ≡ y ∷ ys → drop (k + 1) xs ≡ ys
drop_tail [] zero y ys e = absurd (cc)
drop_tail (x ∷ xs) zero y ys e = cc
drop_tail [] (suc k) y ys e = absurd (cc)
drop_tail (x ∷ xs) (suc k) y ys e = rw add-one (rw add-one at (drop_tail xs k y ys e))

picked-from : {X : Type 0} (xs : List X) (bits : List Bool) (k : ℕ) (ys : List X) → drop k xs ≡ ys → length bits ≡ length ys → picked xs (true_indices_from k bits) ≡ keep bits ys
picked-from xs [] k ys e h = refl
picked-from xs (b ∷ bits) k [] e h = absurd (omega arith)
picked-from xs (true ∷ bits) k (y ∷ ys) e h = ap (λ t. take 1 t ++ picked xs (true_indices_from (k + 1) bits)) e
    ∙ ap (λ t. y ∷ t) (picked-from xs bits (k + 1) ys (drop_tail xs k y ys e) (omega arith))
picked-from xs (false ∷ bits) k (y ∷ ys) e h = picked-from xs bits (k + 1) ys (drop_tail xs k y ys e) (omega arith)

pub below-start : (bits : List Bool) (is : List ℕ) (n : ℕ) → is ≡ true_indices bits → length bits ≡ n → EachBelow n is
below-start bits is n e h = rw e (indices_below n 0 bits (omega arith))

pub picked-start : {X : Type 0} (bits : List Bool) (xs kept : List X) (is : List ℕ) → is ≡ true_indices bits → length bits ≡ length xs → kept ≡ [] → kept ++ picked xs is ≡ keep bits xs
picked-start bits xs kept is e h k = rw (e, k) (picked-from xs bits 0 xs refl h)
