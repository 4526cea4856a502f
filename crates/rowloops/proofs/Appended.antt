-- Joins of the evidence of answers whose values are appended.
use Rattle.std.proofs.Common.{◌≡◌, ℕ, zero, suc, ◌+◌, ◌<◌, Bool, true, false, List, [], ◌∷◌, ◌++◌, length, get_or, subst, sym, add-one, refl, arith}
use Rattle.std.proofs.lemmas.List.{get_or_push}
use Rattle.bitlane.specs.Maps.{Joined, more, skip, MapsTo}
use Rattle.bitlane.proofs.Joins.{Joined-map}

-- an index of the first of two lists
front : {X : Type 0} (xs ys : List X) (i : ℕ) (d : X) → i < length xs → get_or (xs ++ ys) i d ≡ get_or xs i d
front [] ys i d h = absurd (omega arith)
front (x ∷ xs) ys zero d h = refl
front (x ∷ xs) ys (suc i) d h = front xs ys i d (omega arith)

-- a join over a list stays one where a value is appended
kept : {X T E : Type 0} (item_at : ℕ → X → Type 0) (post : X → T × E → Type 0) (join : E → E → E) (neutral : E) (selected : ℕ → Bool) (xs : List T) (x : T) (n : ℕ) (total : E)
    → length xs ≡ n → Joined join neutral selected (λ k e. (d : T) → MapsTo (item_at k) post (get_or xs k d, e)) n total
    → Joined join neutral selected (λ k e. (d : T) → MapsTo (item_at k) post (get_or (xs ++ x ∷ []) k d, e)) n total
kept {T = T} item_at post join neutral selected xs x n total e j =
    Joined-map join neutral selected _ _ n total
    (λ k v below at d. let Is : T → Type 0 = λ y. MapsTo (item_at k) post (y, v) in subst Is (sym (front xs (x ∷ []) k d (omega (arith, e)))) (at d))
    j

-- one step of a loop that appends the value of an answer to the item at n, and joins its evidence
pub appended : {X T E : Type 0} (item_at : ℕ → X → Type 0) (post : X → T × E → Type 0) (join : E → E → E) (neutral : E) (selected : ℕ → Bool) (xs : List T) (n : ℕ) (total : E)
    → length xs ≡ n → selected n ≡ true → Joined join neutral selected (λ k e. (d : T) → MapsTo (item_at k) post (get_or xs k d, e)) n total
    → (x : X) → item_at n x → (r : T × E) → post x r → (next : E) → next ≡ join total r.1
    → Joined join neutral selected (λ k e. (d : T) → MapsTo (item_at k) post (get_or (xs ++ r.0 ∷ []) k d, e)) (n + 1) next
appended {X} {T} {E} item_at post join neutral selected xs n total e selects so_far x stands r answer next is =
    let After : ℕ → E → Type 0 = λ k v. (d : T) → MapsTo (item_at k) post (get_or (xs ++ r.0 ∷ []) k d, v) in
    let here : After n r.1 = λ d. let Is : T → Type 0 = λ y. MapsTo (item_at n) post (y, r.1) in subst Is (sym (get_or_push xs r.0 d n e)) (record { item = x; stands = stands; answer = answer }) in
    let step : Joined join neutral selected After (suc n) (join total r.1) = more (kept item_at post join neutral selected xs r.0 n total e so_far) selects here in
    let At : ℕ → Type 0 = λ m. Joined join neutral selected After m next in
    let With : E → Type 0 = λ t. Joined join neutral selected After (suc n) t in
    subst At (sym (add-one n)) (subst With (sym is) step)

-- one step of a loop that appends a value at an index that isn't selected
pub passed : {X T E : Type 0} (item_at : ℕ → X → Type 0) (post : X → T × E → Type 0) (join : E → E → E) (neutral : E) (selected : ℕ → Bool) (xs : List T) (x : T) (n : ℕ) (total : E)
    → length xs ≡ n → selected n ≡ false → Joined join neutral selected (λ k e. (d : T) → MapsTo (item_at k) post (get_or xs k d, e)) n total
    → Joined join neutral selected (λ k e. (d : T) → MapsTo (item_at k) post (get_or (xs ++ x ∷ []) k d, e)) (n + 1) total
passed {X} {T} {E} item_at post join neutral selected xs x n total e unselected so_far =
    let At : ℕ → Type 0 = λ m. Joined join neutral selected (λ k v. (d : T) → MapsTo (item_at k) post (get_or (xs ++ x ∷ []) k d, v)) m total in
    subst At (sym (add-one n)) (skip (kept item_at post join neutral selected xs x n total e so_far) unselected)
