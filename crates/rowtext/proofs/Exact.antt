-- Exactly where a top call ends with which status.
use Rattle.std.proofs.Common.{◌≡◌, ℕ, ◌<◌, ◌≤◌, true, false, nat_le, List, [], ◌++◌, length, Option, Some, None, refl, sym, ap, subst, ◌∙◌, inl, inr, arith, length-append}
use Rattle.std.specs.Prelude.{MatchBool, ⊤}
use Rattle.std.proofs.lemmas.List.{append-nil}
use Rattle.rowtext.specs.Bytes.{Takes, IsAtEnd}
use Rattle.rowtext.specs.declared.command.Command.{Command}
use Rattle.rowtext.specs.declared.command.Command.TheVariants.{Unknown, WithInput, WithoutInput}
use Rattle.rowtext.specs.declared.reply.Answer.{Answer}
use Rattle.rowtext.specs.declared.reply.Reply.{Reply}
use Rattle.rowtext.specs.declared.reply.Reply.TheVariants.{Usage, Unread, Long, Answered}
use Rattle.rowtext.specs.Replies.{reply_status}
use Rattle.rowtext.specs.Changes.{Change, HasFailed, IsSteady, TookTooMany, TookAll, max_bytes}
use Rattle.rowtext.specs.Causes.{HasCause, usage, unread, long, of_input, of_words}
use Rattle.rowtext.specs.Outcomes.{whole, cut, Ends, wrote, memory, WroteWhole, IsAnswer, InputLeads}

-- what is left, where the bytes are told
took : (before after : Option (List ℕ)) (bytes taken : List ℕ) → before ≡ Some bytes → Takes before taken after → (rest : List ℕ) × (after ≡ Some rest) × (bytes ≡ taken ++ rest)
took before None bytes taken told takes = cc
took before (Some rest) bytes taken told takes = (rest, refl, cc)

at_end : (after : Option (List ℕ)) (rest : List ℕ) → after ≡ Some rest → IsAtEnd after → rest ≡ []
at_end None rest e end = cc
at_end (Some left) rest e end = cc

steady : (c : Change) → IsSteady c → HasFailed c → ⊥
steady c s failed = omega (arith, s.same, s.not_last, failed)

-- where the bytes are told, the number of those that were taken is known
same_length : (before after : Option (List ℕ)) (bytes a b : List ℕ) → before ≡ Some bytes → Takes before a after → Takes before b after → length a ≡ length b
same_length before after bytes a b told first second =
    let one = took before after bytes a told first in
    let two = took before after bytes b told second in
    let same : one.0 ≡ two.0 = cc (one.1, two.1) in
    omega (arith, ap length one.2, ap length two.2, length-append a one.0, length-append b two.0, ap length same)

not_few : (source : Change) (bytes : List ℕ) → source.before ≡ Some bytes → TookTooMany source → (taken : List ℕ) → Takes source.before taken source.after → length taken ≤ max_bytes → ⊥
not_few source bytes told many taken takes few =
    omega (arith, few, many.2, same_length source.before source.after bytes taken many.0 told takes many.1)

-- all the bytes are those that the source told
all_bytes : (source : Change) (bytes : List ℕ) (P : List ℕ → Type 0) → source.before ≡ Some bytes → (all : TookAll source P) → all.0 ≡ bytes
all_bytes source bytes P told all =
    let rest = took source.before source.after bytes all.0 told all.1 in
    sym (rest.2 ∙ ap (λ (left : List ℕ). all.0 ++ left) (at_end source.after rest.0 rest.1 all.3) ∙ append-nil all.0)

leads_all : (leads : List ℕ → Answer → Type 0) (source : Change) (bytes : List ℕ) (answer : Answer) → source.before ≡ Some bytes → TookAll source (λ b. leads b answer) → leads bytes answer
leads_all leads source bytes answer told all =
    subst (λ (b : List ℕ). leads b answer) (all_bytes source bytes (λ b. leads b answer) told all) all.4

-- Where the sink did not fail, a reply that has its cause was written whole, or memory ran out.
wrote_whole : {cause : Reply → Type 0} {kept : Type 0} {status : ℕ} {sink : Change} (P : Reply → Type 0) → ((reply : Reply) → cause reply → P reply) → IsSteady sink → Ends cause kept status sink → WroteWhole P status sink
wrote_whole P so s (memory is held kept) = inl (is, kept)
wrote_whole P so s (wrote reply c (whole is gained)) = inr (reply, so reply c, is, gained)
wrote_whole {sink = sink} P so s (wrote reply c (cut is failed prefix proper gained)) = absurd (steady sink s failed)

-- The same, where the status is not that of a failed reading.
wrote_read : {cause : Reply → Type 0} {kept : Type 0} {status : ℕ} {sink : Change} (P : Reply → Type 0) → ((reply : Reply) → cause reply → (reply_status reply ≡ 5 → ⊥) → P reply) → (status ≡ 5 → ⊥) → IsSteady sink → Ends cause kept status sink → WroteWhole P status sink
wrote_read P so ne s (memory is held kept) = inl (is, kept)
wrote_read P so ne s (wrote reply c (whole is gained)) = inr (reply, so reply c (λ five. ne (is ∙ five)), is, gained)
wrote_read {sink = sink} P so ne s (wrote reply c (cut is failed prefix proper gained)) = absurd (steady sink s failed)

usage_of : {command : Command} {words_lead : Answer → Type 0} {input_leads : List ℕ → Answer → Type 0} {source : Change} (reply : Reply) → command ≡ Unknown → HasCause command words_lead input_leads source reply → reply ≡ Usage
usage_of Usage is cause = refl
usage_of Unread is (unread with failed few) = cc
usage_of Long is (long with many) = cc
usage_of (Answered answer) is (of_input a with all) = cc
usage_of (Answered answer) is (of_words a without kept led) = cc

long_of : {command : Command} {words_lead : Answer → Type 0} {input_leads : List ℕ → Answer → Type 0} {source : Change} (bytes : List ℕ) (reply : Reply) → command ≡ WithInput → source.before ≡ Some bytes → TookTooMany source → HasCause command words_lead input_leads source reply → reply ≡ Long
long_of bytes Usage is told many (usage unknown kept) = cc
long_of {source = source} bytes Unread is told many (unread with failed few) = absurd (not_few source bytes told many few.0 few.1 few.2)
long_of bytes Long is told many (long with some) = refl
long_of {source = source} bytes (Answered answer) is told many (of_input a with all) = absurd (not_few source bytes told many all.0 all.1 all.2)
long_of bytes (Answered answer) is told many (of_words a without kept led) = cc

answer_of : {command : Command} {words_lead : Answer → Type 0} {input_leads : List ℕ → Answer → Type 0} {source : Change} (bytes : List ℕ) (reply : Reply) → command ≡ WithInput → source.before ≡ Some bytes → TookAll source (λ b. ⊤) → HasCause command words_lead input_leads source reply → (reply_status reply ≡ 5 → ⊥) → IsAnswer (input_leads bytes) reply
answer_of bytes Usage is told all (usage unknown kept) ne = cc
answer_of bytes Unread is told all (unread with failed few) ne = absurd (ne refl)
answer_of {source = source} bytes Long is told all (long with many) ne = absurd (not_few source bytes told many all.0 all.1 all.2)
answer_of {input_leads = input_leads} {source = source} bytes (Answered answer) is told all (of_input a with own) ne = leads_all input_leads source bytes answer told own
answer_of bytes (Answered answer) is told all (of_words a without kept led) ne = cc

few_lead : (leads : List ℕ → Answer → Type 0) (bytes : List ℕ) (answer : Answer) → length bytes ≤ max_bytes → leads bytes answer → InputLeads leads bytes (Answered answer)
few_lead leads bytes answer few led =
    let fits : nat_le (length bytes) max_bytes ≡ true = grind (arith, few) in
    subst (λ b. MatchBool b (leads bytes answer) (Answered answer ≡ Long)) (sym fits) led

many_lead : (leads : List ℕ → Answer → Type 0) (bytes : List ℕ) → max_bytes < length bytes → InputLeads leads bytes Long
many_lead leads bytes many =
    let over : nat_le (length bytes) max_bytes ≡ false = grind (arith, many) in
    subst (λ b. MatchBool b (IsAnswer (leads bytes) Long) (Long ≡ Long)) (sym over) refl

reply_of : {command : Command} {words_lead : Answer → Type 0} {input_leads : List ℕ → Answer → Type 0} {source : Change} (bytes : List ℕ) (reply : Reply) → command ≡ WithInput → source.before ≡ Some bytes → IsSteady source → HasCause command words_lead input_leads source reply → InputLeads input_leads bytes reply
reply_of bytes Usage is told s (usage unknown kept) = cc
reply_of {source = source} bytes Unread is told s (unread with failed few) = absurd (steady source s failed)
reply_of {input_leads = input_leads} {source = source} bytes Long is told s (long with many) =
    let rest = took source.before source.after bytes many.0 told many.1 in
    many_lead input_leads bytes (omega (arith, many.2, ap length rest.2, length-append many.0 rest.0))
reply_of {input_leads = input_leads} {source = source} bytes (Answered answer) is told s (of_input a with all) =
    let same = all_bytes source bytes (λ b. input_leads b answer) told all in
    few_lead input_leads bytes answer (omega (arith, all.2, ap length same)) (leads_all input_leads source bytes answer told all)
reply_of bytes (Answered answer) is told s (of_words a without kept led) = cc

words_of : {command : Command} {words_lead : Answer → Type 0} {input_leads : List ℕ → Answer → Type 0} {source : Change} (reply : Reply) → command ≡ WithoutInput → HasCause command words_lead input_leads source reply → IsAnswer words_lead reply
words_of Usage is (usage unknown kept) = cc
words_of Unread is (unread with failed few) = cc
words_of Long is (long with many) = cc
words_of (Answered answer) is (of_input a with all) = cc
words_of (Answered answer) is (of_words a without kept led) = led

-- Words that the call doesn't know give status 1, unless the sink fails.
pub refused : {command : Command} {words_lead : Answer → Type 0} {input_leads : List ℕ → Answer → Type 0} {source : Change} {kept : Type 0} {status : ℕ} {sink : Change} → Ends (HasCause command words_lead input_leads source) kept status sink → command ≡ Unknown → IsSteady sink → WroteWhole (λ reply. reply ≡ Usage) status sink
refused ends is sink = wrote_whole (λ reply. reply ≡ Usage) (λ reply cause. usage_of reply is cause) sink ends

-- More bytes than an input may have give status 7, unless the sink fails.
pub too_long : {command : Command} {words_lead : Answer → Type 0} {input_leads : List ℕ → Answer → Type 0} {source : Change} {kept : Type 0} {status : ℕ} {sink : Change} → Ends (HasCause command words_lead input_leads source) kept status sink → (bytes : List ℕ) → command ≡ WithInput → source.before ≡ Some bytes → TookTooMany source → IsSteady sink → WroteWhole (λ reply. reply ≡ Long) status sink
too_long ends bytes is told many sink = wrote_whole (λ reply. reply ≡ Long) (λ reply cause. long_of bytes reply is told many cause) sink ends

-- Where all the bytes were taken and the status isn't that of a failed reading, they alone decide, unless the sink fails.
pub exact : {command : Command} {words_lead : Answer → Type 0} {input_leads : List ℕ → Answer → Type 0} {source : Change} {kept : Type 0} {status : ℕ} {sink : Change} → Ends (HasCause command words_lead input_leads source) kept status sink → (bytes : List ℕ) → command ≡ WithInput → source.before ≡ Some bytes → TookAll source (λ b. ⊤) → (status ≡ 5 → ⊥) → IsSteady sink → WroteWhole (IsAnswer (input_leads bytes)) status sink
exact {input_leads = input_leads} ends bytes is told all ne sink =
    wrote_read (IsAnswer (input_leads bytes)) (λ reply cause. answer_of bytes reply is told all cause) ne sink ends

-- Where neither the source nor the sink fails, the input alone decides, unless memory runs out.
pub complete : {command : Command} {words_lead : Answer → Type 0} {input_leads : List ℕ → Answer → Type 0} {source : Change} {kept : Type 0} {status : ℕ} {sink : Change} → Ends (HasCause command words_lead input_leads source) kept status sink → (bytes : List ℕ) → command ≡ WithInput → source.before ≡ Some bytes → IsSteady source → IsSteady sink → WroteWhole (InputLeads input_leads bytes) status sink
complete {input_leads = input_leads} ends bytes is told source sink =
    wrote_whole (InputLeads input_leads bytes) (λ reply cause. reply_of bytes reply is told source cause) sink ends

-- Words that need no input decide alone, unless the sink fails or memory runs out.
pub words_alone : {command : Command} {words_lead : Answer → Type 0} {input_leads : List ℕ → Answer → Type 0} {source : Change} {kept : Type 0} {status : ℕ} {sink : Change} → Ends (HasCause command words_lead input_leads source) kept status sink → command ≡ WithoutInput → IsSteady sink → WroteWhole (IsAnswer words_lead) status sink
words_alone {words_lead = words_lead} ends is sink = wrote_whole (IsAnswer words_lead) (λ reply cause. words_of reply is cause) sink ends
