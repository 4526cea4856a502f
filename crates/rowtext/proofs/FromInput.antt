-- Answers to an input, and answers to words that need none.
use Rattle.std.proofs.Common.{◌≡◌, ℕ, List}
use Rattle.rowtext.specs.declared.command.Command.{Command}
use Rattle.rowtext.specs.declared.command.Command.TheVariants.{WithoutInput}
use Rattle.rowtext.specs.declared.reply.Answer.{Answer}
use Rattle.rowtext.specs.declared.reply.Answer.TheVariants.{Fault, Printed}
use Rattle.rowtext.specs.declared.reply.Reply.TheVariants.{Answered}
use Rattle.rowtext.specs.Changes.{Change, IsUntouched, TookAll, Gained}
use Rattle.rowtext.specs.Causes.{HasCause, of_input, of_words}
use Rattle.rowtext.specs.Outcomes.{Ends}
use Rattle.rowtext.proofs.Statuses.{of_zero, of_three}

-- Where no words alone lead to an answer, the bytes of the input led to it.
pub from_input : {command : Command} {words_lead : Answer → Type 0} {input_leads : List ℕ → Answer → Type 0} {source : Change} (answer : Answer) → (command ≡ WithoutInput → (a : Answer) → words_lead a → ⊥) → HasCause command words_lead input_leads source (Answered answer) → TookAll source (λ bytes. input_leads bytes answer)
from_input answer none (of_input a with all) = all
from_input answer none (of_words a without kept led) = absurd (none without a led)

-- Where no words alone lead to an answer, status 0 says that the text of the input's answer was written.
pub printed : {command : Command} {words_lead : Answer → Type 0} {input_leads : List ℕ → Answer → Type 0} {source : Change} {kept : Type 0} {status : ℕ} {sink : Change} → Ends (HasCause command words_lead input_leads source) kept status sink → (command ≡ WithoutInput → (a : Answer) → words_lead a → ⊥) → status ≡ 0 → TookAll source (λ bytes. (text : List ℕ) × input_leads bytes (Printed text) × Gained sink text)
printed ends none is =
    let did = of_zero ends is in
    let all = from_input (Printed did.0) none did.1 in
    (all.0, all.1, all.2, all.3, (did.0, all.4, did.2))

-- The same of status 3 and the text of a fault.
pub faulted : {command : Command} {words_lead : Answer → Type 0} {input_leads : List ℕ → Answer → Type 0} {source : Change} {kept : Type 0} {status : ℕ} {sink : Change} → Ends (HasCause command words_lead input_leads source) kept status sink → (command ≡ WithoutInput → (a : Answer) → words_lead a → ⊥) → status ≡ 3 → TookAll source (λ bytes. (text : List ℕ) × input_leads bytes (Fault text) × Gained sink text)
faulted ends none is =
    let did = of_three ends is in
    let all = from_input (Fault did.0) none did.1 in
    (all.0, all.1, all.2, all.3, (did.0, all.4, did.2))

-- Where the words need no input, nothing was read, and they led to the answer.
pub from_words : {command : Command} {words_lead : Answer → Type 0} {input_leads : List ℕ → Answer → Type 0} {source : Change} (answer : Answer) → command ≡ WithoutInput → HasCause command words_lead input_leads source (Answered answer) → IsUntouched source × words_lead answer
from_words answer is (of_input a with all) = cc
from_words answer is (of_words a without kept led) = (kept, led)
