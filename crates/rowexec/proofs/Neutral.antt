-- The joined evidence of outcomes that leave none.
use Rattle.std.proofs.Common.{◌≡◌, ℕ, zero, suc, List, Option, None, Some, refl}
use Rattle.bitlane.specs.Evidence.{JoinLaws}
use Rattle.coltypes.specs.Cell.{Cell}
use Rattle.rowplan.specs.Outcomes.{EvidenceIs, Outcome, done, failed}
use Rattle.rowexec.specs.Evidence.{evidence_of, joined, joined_with}

evidence_is : {E : Type 0} (neutral : E) (o : Outcome E) → EvidenceIs (λ e. e ≡ neutral) o → evidence_of neutral o ≡ neutral
evidence_is neutral (done c e) h = h
evidence_is neutral (failed code) h = refl

with_nothing : {E : Type 0} (in_range : E → Type 0) (join : E → E → E) (neutral : E) (meaning : List Cell → Outcome E) (total : E) (cells : Option (List Cell)) → JoinLaws E in_range join neutral → ((of : List Cell) → EvidenceIs (λ e. e ≡ neutral) (meaning of)) → total ≡ neutral → joined_with join neutral meaning total cells ≡ neutral
with_nothing in_range join neutral meaning total None laws quiet e = e
with_nothing in_range join neutral meaning total (Some of) laws quiet e = rw e (rw (evidence_is neutral (meaning of) (quiet of)) (laws.neutral_left neutral laws.neutral_in_range))

-- where each outcome has the neutral evidence, so has their join
pub joined_nothing : {E : Type 0} (in_range : E → Type 0) (join : E → E → E) (neutral : E) (meaning : List Cell → Outcome E) (cells : ℕ → Option (List Cell)) (n : ℕ) → JoinLaws E in_range join neutral → ((of : List Cell) → EvidenceIs (λ e. e ≡ neutral) (meaning of)) → joined join neutral meaning cells n ≡ neutral
joined_nothing in_range join neutral meaning cells zero laws quiet = refl
joined_nothing in_range join neutral meaning cells (suc n) laws quiet = with_nothing in_range join neutral meaning (joined join neutral meaning cells n) (cells n) laws quiet (joined_nothing in_range join neutral meaning cells n laws quiet)
