-- Joins over selected indices.
use Rattle.std.proofs.Common.{◌≡◌, ℕ, suc, ◌+◌, ◌<◌, ◌≢◌, Bool, true, List, length, get_or, slice_set, subst, sym, add-one, arith, refl, get_or-set_same, get_or-set_other}
use Rattle.bitlane.specs.Maps.{Joined, none, more, skip, MapsTo}

-- a join stays one where each value that is at an index below the end by P is there by Q
pub Joined-map : {V : Type 0} (join : V → V → V) (neutral : V) (selected : ℕ → Bool) (P Q : ℕ → V → Type 0) (n : ℕ) (total : V)
    → ((k : ℕ) (v : V) → k < n → P k v → Q k v) → Joined join neutral selected P n total → Joined join neutral selected Q n total
Joined-map join neutral selected P Q n total h none = none
Joined-map join neutral selected P Q n total h (more {n = m} j s at) = more (Joined-map join neutral selected P Q m _ (λ k v lt. h k v (omega arith)) j) s (h m _ (omega arith) at)
Joined-map join neutral selected P Q n total h (skip {n = m} j s) = skip (Joined-map join neutral selected P Q m _ (λ k v lt. h k v (omega arith)) j) s

-- no index yet, and a value that is neutral
pub Joined-none : {V : Type 0} (join : V → V → V) (neutral : V) (selected : ℕ → Bool) (P : ℕ → V → Type 0) (total : V) → total ≡ neutral → Joined join neutral selected P 0 total
Joined-none join neutral selected P total e = subst (λ x. Joined join neutral selected P 0 x) (sym e) none

-- the same end
pub Joined-at : {V : Type 0} (join : V → V → V) (neutral : V) (selected : ℕ → Bool) (P : ℕ → V → Type 0) (n m : ℕ) (total : V)
    → n ≡ m → Joined join neutral selected P n total → Joined join neutral selected P m total
Joined-at join neutral selected P n m total e j = subst (λ k. Joined join neutral selected P k total) e j

-- one step of a loop that writes the value of an answer at i and joins its evidence
pub checked_step : {X T E : Type 0} (item_at : ℕ → X → Type 0) (post : X → T × E → Type 0) (join : E → E → E) (neutral : E)
    (out : List T) (i : ℕ) (total : E) → i < length out
    → Joined join neutral (λ _. true) (λ k e. (d : T) → MapsTo (item_at k) post (get_or out k d, e)) i total
    → (x : X) → item_at i x → (r : T × E) → post x r → (next : E) → next ≡ join total r.1
    → Joined join neutral (λ _. true) (λ k e. (d : T) → MapsTo (item_at k) post (get_or (slice_set out i r.0) k d, e)) (i + 1) next
checked_step {X} {T} {E} item_at post join neutral out i total lt so_far x stands r answer next e =
    let Before : ℕ → E → Type 0 = λ k v. (d : T) → MapsTo (item_at k) post (get_or out k d, v) in
    let After : ℕ → E → Type 0 = λ k v. (d : T) → MapsTo (item_at k) post (get_or (slice_set out i r.0) k d, v) in
    let kept : (k : ℕ) (v : E) → k < i → Before k v → After k v =
    λ k v below at d.
    let ne : k ≢ i = omega arith in
    let P : T → Type 0 = λ y. MapsTo (item_at k) post (y, v) in
    subst P (sym (get_or-set_other out i k r.0 d ne)) (at d) in
    let here : After i r.1 =
    λ d.
    let P : T → Type 0 = λ y. MapsTo (item_at i) post (y, r.1) in
    subst P (sym (get_or-set_same out i r.0 d lt)) (record { item = x; stands = stands; answer = answer }) in
    let step : Joined join neutral (λ _. true) After (suc i) (join total r.1) =
    more (Joined-map join neutral (λ _. true) Before After i total kept so_far) refl here in
    let At : ℕ → Type 0 = λ n. Joined join neutral (λ _. true) After n next in
    subst At (sym (add-one i)) (let With : E → Type 0 = λ t. Joined join neutral (λ _. true) After (suc i) t in subst With (sym e) step)
