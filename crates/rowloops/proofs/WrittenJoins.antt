-- Joins of the evidence of answers whose values are written.
use Rattle.std.proofs.Common.{◌≡◌, ℕ, suc, ◌+◌, ◌<◌, ◌≢◌, Bool, true, List, length, get_or, slice_set, subst, sym, add-one, arith, inl, inr, get_or-set_same, get_or-set_other}
use Rattle.std.proofs.lemmas.Bool.{cases_eq}
use Rattle.bitlane.specs.Maps.{Joined, none, more, skip, MapsTo}
use Rattle.bitlane.proofs.Joins.{Joined-map}

-- some evidence is at an index
pub record HasEvidence {V : Type 0} (IsAt : V → Type 0) : Type 0 where
  pub evidence : V
  pub there : IsAt evidence

has_at : {V : Type 0} (IsAt : ℕ → V → Type 0) (k m : ℕ) (v : V) → k ≡ m → IsAt m v → HasEvidence (IsAt k)
has_at {V} IsAt k m v e there = record { evidence = v; there = (let At : ℕ → Type 0 = λ n. IsAt n v in subst At (sym e) there) }

-- a join has evidence at each selected index
pub joined_each : {V : Type 0} (join : V → V → V) (neutral : V) (selected : ℕ → Bool) (IsAt : ℕ → V → Type 0) (n : ℕ) (total : V)
    → Joined join neutral selected IsAt n total → (k : ℕ) → k < n → selected k ≡ true → HasEvidence (IsAt k)
joined_each join neutral selected IsAt n total none k below s = absurd (omega arith)
joined_each join neutral selected IsAt n total (more {n = m} {total = before} {v = v} j t there) k below s =
    elim (cases_eq k m) [ inl e ↦ has_at IsAt k m v e there | inr ne ↦ joined_each join neutral selected IsAt m before j k (omega arith) s ]
joined_each join neutral selected IsAt n total (skip {n = m} {total = before} j f) k below s =
    elim (cases_eq k m) [
      | inl e ↦ (let Is : ℕ → Type 0 = λ i. selected i ≡ true in let there : selected m ≡ true = subst Is e s in absurd (cc))
      | inr ne ↦ joined_each join neutral selected IsAt m before j k (omega arith) s
    ]

-- one step of a loop that writes the value of an answer to item n at the place of n, which is i, and joins its evidence
pub joined_write : {X T E : Type 0} (item_at : ℕ → X → Type 0) (post : X → T × E → Type 0) (join : E → E → E) (neutral : E) (selected : ℕ → Bool) (place : ℕ → ℕ)
    (out : List T) (n i : ℕ) (total : E) → i < length out → place n ≡ i → ((k : ℕ) → k < n → place k ≢ i) → selected n ≡ true
    → Joined join neutral selected (λ k e. (d : T) → MapsTo (item_at k) post (get_or out (place k) d, e)) n total
    → (x : X) → item_at n x → (r : T × E) → post x r → (next : E) → next ≡ join total r.1
    → Joined join neutral selected (λ k e. (d : T) → MapsTo (item_at k) post (get_or (slice_set out i r.0) (place k) d, e)) (n + 1) next
joined_write {X} {T} {E} item_at post join neutral selected place out n i total within at_i apart selects so_far x stands r answer next e =
    let Before : ℕ → E → Type 0 = λ k v. (d : T) → MapsTo (item_at k) post (get_or out (place k) d, v) in
    let After : ℕ → E → Type 0 = λ k v. (d : T) → MapsTo (item_at k) post (get_or (slice_set out i r.0) (place k) d, v) in
    let kept : (k : ℕ) (v : E) → k < n → Before k v → After k v =
    λ k v below at d.
    let P : T → Type 0 = λ y. MapsTo (item_at k) post (y, v) in
    subst P (sym (get_or-set_other out i (place k) r.0 d (apart k below))) (at d) in
    let here : After n r.1 =
    λ d.
    let P : T → Type 0 = λ y. MapsTo (item_at n) post (y, r.1) in
    let There : ℕ → Type 0 = λ m. P (get_or (slice_set out i r.0) m d) in
    subst There (sym at_i) (subst P (sym (get_or-set_same out i r.0 d within)) (record { item = x; stands = stands; answer = answer })) in
    let step : Joined join neutral selected After (suc n) (join total r.1) =
    more (Joined-map join neutral selected Before After n total kept so_far) selects here in
    let At : ℕ → Type 0 = λ m. Joined join neutral selected After m next in
    let With : E → Type 0 = λ t. Joined join neutral selected After (suc n) t in
    subst At (sym (add-one n)) (subst With (sym e) step)
