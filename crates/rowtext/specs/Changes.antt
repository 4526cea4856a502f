-- What one call did to a source or to a sink.
use Rattle.std.specs.Prelude.{◌≡◌, ℕ, ◌<◌, ◌≤◌, List, length, Option}
use Rattle.rowtext.specs.Bytes.{Takes, IsAtEnd, Grows}
use Rattle.rowtext.specs.FaultCounts.{HasRisen, StandsStill}

-- what is told of its bytes, and its count of faults, before the call and after
pub record Change : Type 0 where
  pub before : Option (List ℕ)
  pub after : Option (List ℕ)
  pub faults_before : ℕ
  pub faults_after : ℕ

abbrev pub change : {A : Type 0} → (A → Option (List ℕ)) → (A → ℕ) → A → A → Change
change told faults old new = record { before = told old; after = told new; faults_before = faults old; faults_after = faults new }

-- it failed in the call, or its count stands at its last value
abbrev pub HasFailed : Change → Type 0
HasFailed c = HasRisen c.faults_before c.faults_after

-- it did not fail in the call
abbrev pub IsSteady : Change → Type 0
IsSteady c = StandsStill c.faults_before c.faults_after

abbrev pub IsUntouched : Change → Type 0
IsUntouched c = c.after ≡ c.before

-- just these bytes were appended to what the sink holds
abbrev pub Gained : Change → List ℕ → Type 0
Gained sink bytes = Grows sink.before bytes sink.after

-- the most bytes of an input
abbrev pub max_bytes : ℕ
max_bytes = 67108864

-- no more bytes were taken than an input may have
abbrev pub TookFew : Change → Type 0
TookFew source = (taken : List ℕ) × Takes source.before taken source.after × (length taken ≤ max_bytes)

-- more bytes were taken than an input may have
abbrev pub TookTooMany : Change → Type 0
TookTooMany source = (taken : List ℕ) × Takes source.before taken source.after × (max_bytes < length taken)

-- all bytes were taken, no more than an input may have, and this is true of them
abbrev pub TookAll : Change → (List ℕ → Type 0) → Type 0
TookAll source P = (bytes : List ℕ) × Takes source.before bytes source.after × (length bytes ≤ max_bytes) × IsAtEnd source.after × P bytes
