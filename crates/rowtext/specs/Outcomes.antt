-- How a top call ends.
use Rattle.std.specs.Prelude.{◌≡◌, ℕ, ◌≤◌, List, length, nat_le, MatchBool, ◌⊎◌}
use Rattle.rowtext.specs.Bytes.{IsProperPrefix}
use Rattle.rowtext.specs.declared.reply.Answer.{Answer}
use Rattle.rowtext.specs.declared.reply.Answer.TheVariants.{Form, Unbuilt, Fault, Printed}
use Rattle.rowtext.specs.declared.reply.Reply.{Reply}
use Rattle.rowtext.specs.declared.reply.Reply.TheVariants.{Usage, Unread, Long, Answered}
use Rattle.rowtext.specs.Replies.{reply_status, reply_text}
use Rattle.rowtext.specs.Changes.{Change, HasFailed, IsUntouched, Gained, max_bytes}

-- The reply was written, or a proper prefix of its text where the sink failed.
pub data Wrote (reply : Reply) (status : ℕ) (sink : Change) : Type 0 where
  whole : status ≡ reply_status reply → Gained sink (reply_text reply) → Wrote reply status sink
  cut : status ≡ 6 → HasFailed sink → (prefix : List ℕ) → IsProperPrefix prefix (reply_text reply) → Gained sink prefix → Wrote reply status sink

-- A reply that has its cause was written, or memory ran out before the first write, and this is true of the source.
pub data Ends (cause : Reply → Type 0) (kept : Type 0) (status : ℕ) (sink : Change) : Type 0 where
  wrote : (reply : Reply) → cause reply → Wrote reply status sink → Ends cause kept status sink
  memory : status ≡ 4 → kept → IsUntouched sink → Ends cause kept status sink

-- the reply has its cause, and its whole text was written
abbrev pub Did : (Reply → Type 0) → Change → Reply → Type 0
Did cause sink reply = cause reply × Gained sink (reply_text reply)

-- What each status says.
pub record ByStatus (cause : Reply → Type 0) (kept : Type 0) (status : ℕ) (sink : Change) : Type 0 where
  pub is_printed : status ≡ 0 → (text : List ℕ) × cause (Answered (Printed text)) × Gained sink text
  pub is_usage : status ≡ 1 → Did cause sink Usage
  pub is_form : status ≡ 2 → Did cause sink (Answered Form)
  pub is_fault : status ≡ 3 → (text : List ℕ) × cause (Answered (Fault text)) × Gained sink text
  pub is_memory : status ≡ 4 → kept × IsUntouched sink
  pub is_unread : status ≡ 5 → Did cause sink Unread
  pub is_cut : status ≡ 6 → (reply : Reply) × cause reply × HasFailed sink × (prefix : List ℕ) × IsProperPrefix prefix (reply_text reply) × Gained sink prefix
  pub is_long : status ≡ 7 → Did cause sink Long
  pub is_unbuilt : status ≡ 8 → Did cause sink (Answered Unbuilt)
  pub is_known : status ≤ 8

-- A reply of which this is true was written whole, or memory ran out before the first write.
abbrev pub WroteWhole : (Reply → Type 0) → ℕ → Change → Type 0
WroteWhole P status sink = ((status ≡ 4) × IsUntouched sink) ⊎ ((reply : Reply) × P reply × (status ≡ reply_status reply) × Gained sink (reply_text reply))

-- the reply is an answer of which this is true
abbrev pub IsAnswer : (Answer → Type 0) → Reply → Type 0
IsAnswer P Usage = ⊥
IsAnswer P Unread = ⊥
IsAnswer P Long = ⊥
IsAnswer P (Answered answer) = P answer

-- what an input leads to, too long or not
abbrev pub InputLeads : (List ℕ → Answer → Type 0) → List ℕ → Reply → Type 0
InputLeads leads bytes reply = MatchBool (nat_le (length bytes) max_bytes) (IsAnswer (leads bytes) reply) (reply ≡ Long)
