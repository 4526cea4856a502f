-- Lists made from a function of the index.
use Rattle.std.proofs.Common.{◌≡◌, ◌∙◌, ℕ, zero, suc, ◌+◌, ◌<◌, List, [], ◌∷◌, ◌++◌, length, get_or, refl, ap, arith, add-one, map}
use Rattle.bitlane.specs.Bits.{tabulate}

pub length-tabulate : {X : Type 0} (f : ℕ → X) (n : ℕ) → length (tabulate f n) ≡ n
length-tabulate f zero = refl
length-tabulate f (suc n) = omega (arith, length-tabulate (λ i. f (suc i)) n)

pub get_or-tabulate : {X : Type 0} (f : ℕ → X) (n i : ℕ) (d : X) → i < n → get_or (tabulate f n) i d ≡ f i
get_or-tabulate f zero i d h = absurd (omega arith)
get_or-tabulate f (suc n) zero d h = refl
get_or-tabulate f (suc n) (suc i) d h = get_or-tabulate (λ k. f (suc k)) n i d (omega arith)

tabulate-suc : {X : Type 0} (f : ℕ → X) (n : ℕ) → tabulate f (suc n) ≡ tabulate f n ++ f n ∷ []
tabulate-suc f zero = refl
tabulate-suc f (suc n) = ap (λ t. f 0 ∷ t) (tabulate-suc (λ i. f (suc i)) n)

pub tabulate-more : {X : Type 0} (f : ℕ → X) (n : ℕ) → tabulate f (n + 1) ≡ tabulate f n ++ f n ∷ []
tabulate-more f n = rw add-one (tabulate-suc f n)

pub tabulate-same : {X : Type 0} (f g : ℕ → X) (n : ℕ) → ((i : ℕ) → i < n → f i ≡ g i) → tabulate f n ≡ tabulate g n
tabulate-same f g zero h = refl
tabulate-same f g (suc n) h = ap (λ x. x ∷ tabulate (λ i. f (suc i)) n) (h 0 (omega arith))
    ∙ ap (λ t. g 0 ∷ t) (tabulate-same (λ i. f (suc i)) (λ i. g (suc i)) n (λ i k. h (suc i) (omega arith)))

-- f of each element, index by index
pub tabulate-map : {X Y : Type 0} (f : X → Y) (xs : List X) (d : X) → tabulate (λ i. f (get_or xs i d)) (length xs) ≡ map f xs
tabulate-map f [] d = refl
tabulate-map f (x ∷ xs) d = ap (λ t. f x ∷ t) (tabulate-map f xs d)
