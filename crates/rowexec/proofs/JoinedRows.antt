-- The evidence of rows that are told in other ways: by other columns, by their marks, and by one row that stands for all.
use Rattle.std.proofs.Common.{◌≡◌, ◌∙◌, ℕ, zero, suc, ◌<◌, Bool, true, false, List, [], ◌∷◌, length, Option, None, Some, arith, refl, ap, sym}
use Rattle.std.specs.Prelude.{is_some}
use Rattle.bitlane.specs.Bits.{bit}
use Rattle.bitlane.specs.Evidence.{JoinLaws}
use Rattle.coltypes.specs.Cell.{Cell}
use Rattle.coltypes.specs.Keep.{place, trues}
use Rattle.rowplan.specs.Outcomes.{EvidenceIs, Outcome, done, failed}
use Rattle.rowexec.specs.Evidence.{evidence_of, joined, joined_with}

-- the same cells at each row
pub joined_same : {E : Type 0} (join : E → E → E) (neutral : E) (meaning : List Cell → Outcome E) (f g : ℕ → Option (List Cell)) (n : ℕ) → ((i : ℕ) → i < n → f i ≡ g i) → joined join neutral meaning f n ≡ joined join neutral meaning g n
joined_same join neutral meaning f g zero h = refl
joined_same {E} join neutral meaning f g (suc n) h =
    let With : E → Option (List Cell) → E = joined_with join neutral meaning in
    ap (λ t. With t (f n)) (joined_same join neutral meaning f g n (λ i b. h i (omega (arith, b)))) ∙ ap (With (joined join neutral meaning g n)) (h n (omega arith))

pub evidence_within : {E : Type 0} (in_range : E → Type 0) (neutral : E) (outcome : Outcome E) → in_range neutral → EvidenceIs in_range outcome → in_range (evidence_of neutral outcome)
evidence_within in_range neutral (done c e) n h = h
evidence_within in_range neutral (failed code) n h = n

-- one row and more of the same cells have the evidence of that row
pub joined_alike : {E : Type 0} (in_range : E → Type 0) (join : E → E → E) (neutral : E) (meaning : List Cell → Outcome E) (f : ℕ → Option (List Cell)) (cells : List Cell) → JoinLaws E in_range join neutral → EvidenceIs in_range (meaning cells)
    → ((i : ℕ) → f i ≡ Some cells) → (n : ℕ) → joined join neutral meaning f (suc n) ≡ evidence_of neutral (meaning cells)
joined_alike in_range join neutral meaning f cells laws w h zero =
    ap (joined_with join neutral meaning neutral) (h 0) ∙ laws.neutral_left _ (evidence_within in_range neutral (meaning cells) laws.neutral_in_range w)
joined_alike {E} in_range join neutral meaning f cells laws w h (suc n) =
    let here : E = evidence_of neutral (meaning cells) in
    let before = joined_alike in_range join neutral meaning f cells laws w h n in
    ap (joined_with join neutral meaning (joined join neutral meaning f (suc n))) (h (suc n)) ∙ ap (λ t. join t here) before ∙ laws.idempotent here (evidence_within in_range neutral (meaning cells) laws.neutral_in_range w)

pub joined_first : {E : Type 0} (in_range : E → Type 0) (join : E → E → E) (neutral : E) (meaning : List Cell → Outcome E) (f : ℕ → Option (List Cell)) (cells : List Cell) → JoinLaws E in_range join neutral → EvidenceIs in_range (meaning cells)
    → ((i : ℕ) → f i ≡ Some cells) → (n : ℕ) → 0 < n → joined join neutral meaning f 1 ≡ joined join neutral meaning f n
joined_first in_range join neutral meaning f cells laws w h zero b = absurd (omega (arith, b))
joined_first in_range join neutral meaning f cells laws w h (suc n) b = joined_alike in_range join neutral meaning f cells laws w h 0 ∙ sym (joined_alike in_range join neutral meaning f cells laws w h n)

-- how many of the first n values are true
abbrev counted : List Bool → ℕ → ℕ
counted bits zero = 0
counted [] (suc n) = 0
counted (true ∷ bits) (suc n) = suc (counted bits n)
counted (false ∷ bits) (suc n) = counted bits n

counted_all : (bits : List Bool) → counted bits (length bits) ≡ trues bits
counted_all [] = refl
counted_all (true ∷ bits) = ap suc (counted_all bits)
counted_all (false ∷ bits) = counted_all bits

counted_true : (bits : List Bool) (n : ℕ) → n < length bits → bit bits n ≡ true → counted bits (suc n) ≡ suc (counted bits n)
counted_true [] n h e = absurd (omega (arith, h))
counted_true (true ∷ bits) zero h e = cc (counted_none bits)
  where
    counted_none : (bs : List Bool) → counted bs 0 ≡ 0
    counted_none bs = refl
counted_true (false ∷ bits) zero h e = absurd (cc)
counted_true (true ∷ bits) (suc n) h e = ap suc (counted_true bits n (omega (arith, h)) e)
counted_true (false ∷ bits) (suc n) h e = counted_true bits n (omega (arith, h)) e

counted_false : (bits : List Bool) (n : ℕ) → n < length bits → bit bits n ≡ false → counted bits (suc n) ≡ counted bits n
counted_false [] n h e = absurd (omega (arith, h))
counted_false (true ∷ bits) zero h e = absurd (cc)
counted_false (false ∷ bits) zero h e = refl
counted_false (true ∷ bits) (suc n) h e = ap suc (counted_false bits n (omega (arith, h)) e)
counted_false (false ∷ bits) (suc n) h e = counted_false bits n (omega (arith, h)) e

-- the true value that stands at n is the one after those before it
place_counted : (bits : List Bool) (n : ℕ) → n < length bits → bit bits n ≡ true → (counted bits n < trues bits) × (place bits (counted bits n) ≡ n)
place_counted [] n h e = absurd (omega (arith, h))
place_counted (true ∷ bits) zero h e = (omega arith, refl)
place_counted (false ∷ bits) zero h e = absurd (cc)
place_counted (true ∷ bits) (suc n) h e =
    let p = place_counted bits n (omega (arith, h)) e in
    (omega (arith, p.0), ap suc p.1)
place_counted (false ∷ bits) (suc n) h e =
    let p = place_counted bits n (omega (arith, h)) e in
    (p.0, ap suc p.1)

-- the marked rows one after the other have the evidence of all rows, where the others have no cells
joined_upto : {E : Type 0} (join : E → E → E) (neutral : E) (meaning : List Cell → Outcome E) (marks : List Bool) (f g : ℕ → Option (List Cell))
    → ((i : ℕ) → i < length marks → bit marks i ≡ is_some (f i)) → ((j : ℕ) → j < trues marks → g j ≡ f (place marks j))
    → (n : ℕ) → n < suc (length marks) → joined join neutral meaning g (counted marks n) ≡ joined join neutral meaning f n
joined_upto join neutral meaning marks f g m k zero h = refl
joined_upto {E} join neutral meaning marks f g m k (suc n) h =
    let here : n < length marks = omega (arith, h) in
    let before = joined_upto join neutral meaning marks f g m k n (omega (arith, h)) in
    step (bit marks n) refl here before
  where
    With : E → Option (List Cell) → E
    With = joined_with join neutral meaning

    no_more : (o : Option (List Cell)) (t : E) → is_some o ≡ false → With t o ≡ t
    no_more None t e = refl
    no_more (Some cells) t e = absurd (cc)

    step : (b : Bool) → bit marks n ≡ b → n < length marks → joined join neutral meaning g (counted marks n) ≡ joined join neutral meaning f n → joined join neutral meaning g (counted marks (suc n)) ≡ joined join neutral meaning f (suc n)
    step true e here before =
        let at = place_counted marks n here e in
        ap (joined join neutral meaning g) (counted_true marks n here e)
        ∙ ap (With (joined join neutral meaning g (counted marks n))) (k (counted marks n) at.0 ∙ ap f at.1)
        ∙ ap (λ t. With t (f n)) before
    step false e here before =
        ap (joined join neutral meaning g) (counted_false marks n here e)
        ∙ before ∙ sym (no_more (f n) (joined join neutral meaning f n) (sym (m n here) ∙ e))

pub joined_marked : {E : Type 0} (join : E → E → E) (neutral : E) (meaning : List Cell → Outcome E) (marks : List Bool) (f g : ℕ → Option (List Cell))
    → ((i : ℕ) → i < length marks → bit marks i ≡ is_some (f i)) → ((j : ℕ) → j < trues marks → g j ≡ f (place marks j))
    → joined join neutral meaning g (trues marks) ≡ joined join neutral meaning f (length marks)
joined_marked join neutral meaning marks f g m k =
    ap (joined join neutral meaning g) (sym (counted_all marks)) ∙ joined_upto join neutral meaning marks f g m k (length marks) (omega arith)
