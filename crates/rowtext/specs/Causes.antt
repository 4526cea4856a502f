-- When a top call means to write what.
use Rattle.std.specs.Prelude.{◌≡◌, ℕ, List, Bool, true, false}
use Rattle.rowtext.specs.declared.reply.Answer.{Answer}
use Rattle.rowtext.specs.declared.reply.Reply.{Reply}
use Rattle.rowtext.specs.declared.reply.Reply.TheVariants.{Usage, Unread, Long, Answered}
use Rattle.rowtext.specs.declared.command.Command.{Command}
use Rattle.rowtext.specs.declared.command.Command.TheVariants.{Unknown, WithInput, WithoutInput}
use Rattle.rowtext.specs.Changes.{Change, HasFailed, IsUntouched, TookFew, TookTooMany, TookAll}

-- the command of a call whose known words all ask for an answer to the input
abbrev pub input_command : Bool → Command
input_command true = WithInput
input_command false = Unknown

-- The reply has its cause. The words ask for a command, the words alone and the bytes of an input lead to answers,
-- and the call did this to its source.
pub data HasCause (command : Command) (words_lead : Answer → Type 0) (input_leads : List ℕ → Answer → Type 0) (source : Change) : Reply → Type 0 where
  usage : command ≡ Unknown → IsUntouched source → HasCause command words_lead input_leads source Usage
  unread : command ≡ WithInput → HasFailed source → TookFew source → HasCause command words_lead input_leads source Unread
  long : command ≡ WithInput → TookTooMany source → HasCause command words_lead input_leads source Long
  of_input : (answer : Answer) → command ≡ WithInput → TookAll source (λ bytes. input_leads bytes answer) → HasCause command words_lead input_leads source (Answered answer)
  of_words : (answer : Answer) → command ≡ WithoutInput → IsUntouched source → words_lead answer → HasCause command words_lead input_leads source (Answered answer)

-- where the words ask for no answer to an input, the source is as it was
abbrev pub KeptWithoutInput : {A : Type 0} → Command → A → A → Type 0
KeptWithoutInput command old new = (command ≡ WithInput → ⊥) → new ≡ old
