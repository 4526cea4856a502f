-- The places of the true values, in their order.
use Rattle.std.proofs.Common.{◌≡◌, ◌∙◌, ℕ, zero, suc, ◌+◌, ◌<◌, ◌≤◌, ◌≢◌, Bool, true, false, List, [], ◌∷◌, length, get_or, slice_set, ap, sym, subst, arith, refl}
use Rattle.std.specs.Prelude.{count_by}
use Rattle.bitlane.specs.Bits.{bit, true_indices, true_indices_from}
use Rattle.bitlane.specs.Maps.{Joined, MapsTo}
use Rattle.coltypes.specs.Keep.{place, trues}
use Rattle.colbase.proofs.KeptRows.{trues-count_by}
use Rattle.rowloops.proofs.WrittenJoins.{joined_write}

pub place_within : (bits : List Bool) (j : ℕ) → j < trues bits → place bits j < length bits
place_within [] j h = absurd (omega arith)
place_within (true ∷ bits) zero h = omega arith
place_within (true ∷ bits) (suc j) h = omega (arith, place_within bits j (omega arith))
place_within (false ∷ bits) j h = omega (arith, place_within bits j h)

-- later true values stand at later places
place_rises : (bits : List Bool) (i j : ℕ) → i < j → j < trues bits → place bits i < place bits j
place_rises [] i j r h = absurd (omega arith)
place_rises (true ∷ bits) i zero r h = absurd (omega arith)
place_rises (true ∷ bits) zero (suc j) r h = omega arith
place_rises (true ∷ bits) (suc i) (suc j) r h = omega (arith, place_rises bits i j (omega arith) (omega arith))
place_rises (false ∷ bits) i j r h = omega (arith, place_rises bits i j r h)

-- the true value at i is one of those that are counted
pub place_of : (bits : List Bool) (i : ℕ) → bit bits i ≡ true → (j : ℕ) × (j < trues bits) × (place bits j ≡ i)
place_of [] i t = absurd (cc)
place_of (true ∷ bits) zero t = (0, (omega arith), refl)
place_of (true ∷ bits) (suc i) t = let h = place_of bits i t in (suc h.0, (omega (arith, h.1)), ap suc h.2)
place_of (false ∷ bits) zero t = absurd (cc)
place_of (false ∷ bits) (suc i) t = let h = place_of bits i t in (h.0, h.1, ap suc h.2)

-- the true values before one stand at places of their own
pub place_least : (bits : List Bool) (j : ℕ) → j < trues bits → j ≤ place bits j
place_least [] j h = absurd (omega arith)
place_least (true ∷ bits) zero h = omega arith
place_least (true ∷ bits) (suc j) h = omega (arith, place_least bits j (omega arith))
place_least (false ∷ bits) j h = omega (arith, place_least bits j h)

pub counted_within : (bits : List Bool) (j : ℕ) → j < count_by (λ b. b) bits → place bits j < length bits
counted_within bits j h = place_within bits j (omega (arith, trues-count_by bits))

pub counted_least : (bits : List Bool) (i j : ℕ) → i ≡ place bits j → j < count_by (λ b. b) bits → j ≤ i
counted_least bits i j e h = omega (arith, e, place_least bits j (omega (arith, trues-count_by bits)))

-- these indices are the places of the true values number j, j + 1 and so on, to the last
abbrev pub PlacesFrom : List Bool → ℕ → List ℕ → Type 0
PlacesFrom bits j [] = j ≡ count_by (λ b. b) bits
PlacesFrom bits j (i ∷ is) = (i ≡ place bits j) × (i < length bits) × (j < count_by (λ b. b) bits) × PlacesFrom bits (j + 1) is

places_from : (bits whole : List Bool) (n j : ℕ) → j + trues bits ≡ trues whole → ((k : ℕ) → k < trues bits → place whole (j + k) ≡ n + place bits k) → PlacesFrom whole j (true_indices_from n bits)
places_from [] whole n j e h = omega (arith, e, trues-count_by whole)
places_from (true ∷ bits) whole n j e h =
    let from : j + 0 ≡ j = omega arith in
    let to : n + 0 ≡ n = omega arith in
    let here : n ≡ place whole j = sym (subst (λ k. place whole k ≡ n) from (h 0 (omega arith) ∙ to)) in
    let below : j < trues whole = omega (arith, e) in (
      here,
      omega (arith, here, place_within whole j below),
      omega (arith, trues-count_by whole),
      places_from bits whole (n + 1) (j + 1) (omega (arith, e)) (λ k lt.
          let on : j + suc k ≡ j + 1 + k = omega arith in
          let past : n + suc (place bits k) ≡ n + 1 + place bits k = omega arith in
          subst (λ m. place whole m ≡ n + 1 + place bits k) on (h (suc k) (omega arith) ∙ past)),
    )
places_from (false ∷ bits) whole n j e h = places_from bits whole (n + 1) j e (λ k lt.
    let past : n + suc (place bits k) ≡ n + 1 + place bits k = omega arith in
    h k lt ∙ past)

pub places_start : (bits : List Bool) (is : List ℕ) → is ≡ true_indices bits → PlacesFrom bits 0 is
places_start bits is e = rw e (places_from bits bits 0 0 (omega arith) (λ k lt. let from : 0 + k ≡ k = omega arith in let to : place bits k ≡ 0 + place bits k = omega arith in ap (place bits) from ∙ to))

-- at the end each true value is counted
pub places_end : (bits : List Bool) (j : ℕ) (is : List ℕ) → is ≡ [] → PlacesFrom bits j is → j ≡ count_by (λ b. b) bits
places_end bits j [] e h = h
places_end bits j (i ∷ is) e h = absurd (cc)

-- one step of a loop that writes the value of an answer to item j at the place of the true value number j, and joins its evidence
pub place_step : {X T E : Type 0} (item_at : ℕ → X → Type 0) (post : X → T × E → Type 0) (join : E → E → E) (neutral : E) (bits : List Bool)
    (out : List T) (i j : ℕ) (total : E) → i < length out → i ≡ place bits j → j < count_by (λ b. b) bits
    → Joined join neutral (λ _. true) (λ k e. (d : T) → MapsTo (item_at k) post (get_or out (place bits k) d, e)) j total
    → (x : X) → item_at j x → (r : T × E) → post x r → (next : E) → next ≡ join total r.1
    → Joined join neutral (λ _. true) (λ k e. (d : T) → MapsTo (item_at k) post (get_or (slice_set out i r.0) (place bits k) d, e)) (j + 1) next
place_step item_at post join neutral bits out i j total within is_place counted so_far x stands r answer next e =
    let apart : (k : ℕ) → k < j → place bits k ≢ i =
    λ k below. omega (arith, is_place, place_rises bits k j below (omega (arith, counted, trues-count_by bits))) in
    joined_write item_at post join neutral (λ _. true) (place bits) out j i total within (sym is_place) apart refl so_far x stands r answer next e
