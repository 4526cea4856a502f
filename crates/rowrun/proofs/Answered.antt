-- What a status of `run` says where the engine was called.
use Rattle.std.proofs.Common.{◌≡◌, ◌∙◌, ℕ, List, Option, Some, true, ◌⊎◌, inl, inr, refl, ap, sym, subst, arith}
use Rattle.std.specs.Prelude.{unwrap_or}
use Rattle.colbase.specs.Column.{Column}
use Rattle.coltypes.specs.declared.fault.Fault as f
use Rattle.rowtext.specs.declared.command.Command.TheVariants.{Unknown, WithInput, WithoutInput}
use Rattle.rowtext.specs.declared.reply.Answer.{Answer}
use Rattle.rowtext.specs.declared.reply.Answer.TheVariants.{Fault, Form, Printed, Unbuilt}
use Rattle.rowtext.specs.declared.reply.Reply.{Reply}
use Rattle.rowtext.specs.declared.reply.Reply.TheVariants.{Usage, Unread, Long, Answered}
use Rattle.rowtext.specs.Bytes.{IsProperPrefix}
use Rattle.rowtext.specs.Changes.{Change, IsSteady, IsUntouched, TookAll, Gained}
use Rattle.rowtext.specs.Causes.{HasCause, usage, unread, long, of_input, of_words}
use Rattle.rowtext.specs.Outcomes.{Ends, Wrote, wrote, memory as no_memory, whole, cut as cut_short}
use Rattle.rowtext.specs.Replies.{reply_status, reply_text}
use Rattle.rowtext.proofs.Statuses.{of_three, of_zero}
use Rattle.rowrun.specs.Batch.{Batch, batch_of}
use Rattle.rowrun.specs.Faults.{fault_text}
use Rattle.rowrun.specs.Generator.{summary}
use Rattle.rowrun.specs.Results.{IsResult, HasFault}
use Rattle.rowjson.specs.Text.{text}
use Rattle.rowrun.specs.Words.{Generates, IsGen, Leads, WordsLead, command_of, cut, is_run, memory, printed, rows_asked}
use Rattle.rowrun.proofs.Asked.{asked, asks, of_gen, run_of}

-- the text of a result was written
abbrev pub WroteResult : Change → List ℕ → Type 0
WroteResult sink bytes = (b : Batch) × (batch_of bytes ≡ Some b) × (c : Column) × IsResult b c × Gained sink (text c)

-- the line of a fault was written
abbrev pub WroteFault : Change → List ℕ → Type 0
WroteFault sink bytes = (b : Batch) × (batch_of bytes ≡ Some b) × (e : f.Fault) × HasFault b e × Gained sink (fault_text e)

-- an input led to a text, which was written
abbrev pub LedTo : Type 0 → (List ℕ → Answer) → Change → List ℕ → Type 0
LedTo called answer sink bytes = (text : List ℕ) × Leads called bytes (answer text) × Gained sink text

-- the engine was called, and this is true of the bytes
record Called (called : Type 0) (P : List ℕ → Type 0) (bytes : List ℕ) : Type 0 where
  pub rose : called
  pub so : P bytes

result_led : (called : Type 0) (sink : Change) (bytes : List ℕ) → LedTo called (λ t. Printed t) sink bytes → Called called (WroteResult sink) bytes
result_led called sink bytes (t, (rose, b, states, c, is, e), gained) = record { rose = rose; so = (b, states, c, is, subst (Gained sink) e gained) }

fault_led : (called : Type 0) (sink : Change) (bytes : List ℕ) → LedTo called (λ t. Fault t) sink bytes → Called called (WroteFault sink) bytes
fault_led called sink bytes (t, (rose, b, states, e, has, is), gained) = record { rose = rose; so = (b, states, e, has, subst (Gained sink) is gained) }

-- all was read, and what follows is true of the bytes
mapped : (source : Change) (P Q : List ℕ → Type 0) → ((bytes : List ℕ) → P bytes → Q bytes) → TookAll source P → TookAll source Q
mapped source P Q so (bytes, took, few, end, p) = (bytes, took, few, end, so bytes p)

of_took : (source : Change) (P : List ℕ → Type 0) (X : Type 0) → ((bytes : List ℕ) → P bytes → X) → TookAll source P → X
of_took source P X so (bytes, took, few, end, p) = so bytes p

-- ---- answers to the input, and to words that ask for rows

-- the cause of an answer is in the input or in the words
abbrev FromEither : Type 0 → List (List ℕ) → Change → Answer → Type 0
FromEither called words source answer =
    ((command_of words ≡ WithInput) × TookAll source (λ bytes. Leads called bytes answer)) ⊎ ((command_of words ≡ WithoutInput) × IsUntouched source × WordsLead called words answer)

by_cause : (called : Type 0) (words : List (List ℕ)) (source : Change) (answer : Answer) → HasCause (command_of words) (WordsLead called words) (Leads called) source (Answered answer) → FromEither called words source answer
by_cause called words source answer (of_input a with all) = inl (with, all)
by_cause called words source answer (of_words a without kept led) = inr (without, kept, led)

fault_from : (called : Type 0) (words : List (List ℕ)) (source : Change) (t : List ℕ) → FromEither called words source (Fault t) → TookAll source (λ bytes. Leads called bytes (Fault t))
fault_from called words source t (inl (with, all)) = all
fault_from called words source t (inr (without, kept, led)) = absurd led

pub fault_written : {called : Type 0} (words : List (List ℕ)) {source : Change} {kept : Type 0} {status : ℕ} {sink : Change} → Ends (HasCause (command_of words) (WordsLead called words) (Leads called) source) kept status sink → status ≡ 3 → TookAll source (WroteFault sink)
fault_written {called = called} words {source = source} {sink = sink} ends is =
    let did = of_three ends is in
    let all = fault_from called words source did.0 (by_cause called words source (Fault did.0) did.1) in
    mapped source (λ bytes. Leads called bytes (Fault did.0)) (WroteFault sink) (λ bytes h. (fault_led called sink bytes (did.0, h, did.2)).so) all

-- what status 0 says of the words
abbrev pub IsDone : List (List ℕ) → Change → Change → Type 0
IsDone words source sink = ((is_run words ≡ true) × TookAll source (WroteResult sink)) ⊎ ((n : ℕ) × IsGen words n × IsUntouched source × Gained sink (summary n))

done_by : (called : Type 0) (words : List (List ℕ)) (source sink : Change) (t : List ℕ) → FromEither called words source (Printed t) → Gained sink t → IsDone words source sink
done_by called words source sink t (inl (with, all)) gained =
    inl (run_of words with, mapped source (λ bytes. Leads called bytes (Printed t)) (WroteResult sink) (λ bytes h. (result_led called sink bytes (t, h, gained)).so) all)
done_by called words source sink t (inr (without, kept, (rose, n, told, is))) gained =
    inr (n, asks words n told, kept, subst (Gained sink) is gained)

pub done_written : {called : Type 0} (words : List (List ℕ)) {source : Change} {kept : Type 0} {status : ℕ} {sink : Change} → Ends (HasCause (command_of words) (WordsLead called words) (Leads called) source) kept status sink → status ≡ 0 → IsDone words source sink
done_written {called = called} words {source = source} {sink = sink} ends is =
    let did = of_zero ends is in
    done_by called words source sink did.0 (by_cause called words source (Printed did.0) did.1) did.2

printed_called : (called : Type 0) (words : List (List ℕ)) (source sink : Change) (t : List ℕ) → FromEither called words source (Printed t) → Gained sink t → called
printed_called called words source sink t (inl (with, all)) gained =
    of_took source (λ bytes. Leads called bytes (Printed t)) called (λ bytes h. (result_led called sink bytes (t, h, gained)).rose) all
printed_called called words source sink t (inr (without, kept, (rose, n, told, is))) gained = rose

pub was_called : {called : Type 0} (words : List (List ℕ)) {source : Change} {kept : Type 0} {status : ℕ} {sink : Change} → Ends (HasCause (command_of words) (WordsLead called words) (Leads called) source) kept status sink → (status ≡ 0) ⊎ (status ≡ 3) → called
was_called {called = called} words {source = source} {sink = sink} ends (inl zero) =
    let did = of_zero ends zero in
    printed_called called words source sink did.0 (by_cause called words source (Printed did.0) did.1) did.2
was_called {called = called} words {source = source} {sink = sink} ends (inr three) =
    let did = of_three ends three in
    let all = fault_from called words source did.0 (by_cause called words source (Fault did.0) did.1) in
    of_took source (λ bytes. Leads called bytes (Fault did.0)) called (λ bytes h. (fault_led called sink bytes (did.0, h, did.2)).rose) all

-- ---- the words `gen` and a number

same_number : (words : List (List ℕ)) (n m : ℕ) → rows_asked words ≡ Some n → rows_asked words ≡ Some m → m ≡ n
same_number words n m one other = ap (λ (o : Option ℕ). unwrap_or o 0) (sym other ∙ one)

-- a reply of these words is the summary, nothing was read, and the engine was called
pub record IsSummary (called : Type 0) (n : ℕ) (source : Change) (reply : Reply) : Type 0 where
  pub rose : called
  pub kept : IsUntouched source
  pub status_is : reply_status reply ≡ 0
  pub text_is : reply_text reply ≡ summary n

summarised_answer : (called : Type 0) (words : List (List ℕ)) (source : Change) (n : ℕ) (answer : Answer) → rows_asked words ≡ Some n → command_of words ≡ WithoutInput → FromEither called words source answer → IsSummary called n source (Answered answer)
summarised_answer called words source n answer told is (inl (with, all)) = let impossible : WithInput ≡ WithoutInput = sym with ∙ is in absurd (cc)
summarised_answer called words source n Form told is (inr (without, kept, led)) = absurd led
summarised_answer called words source n Unbuilt told is (inr (without, kept, led)) = absurd led
summarised_answer called words source n (Fault t) told is (inr (without, kept, led)) = absurd led
summarised_answer called words source n (Printed t) told is (inr (without, kept, (rose, m, so, is_text))) =
    record { rose = rose; kept = kept; status_is = refl; text_is = is_text ∙ ap summary (same_number words n m told so) }

summarised : (called : Type 0) (words : List (List ℕ)) (source : Change) (n : ℕ) (reply : Reply) → rows_asked words ≡ Some n → command_of words ≡ WithoutInput → HasCause (command_of words) (WordsLead called words) (Leads called) source reply → IsSummary called n source reply
summarised called words source n Usage told is (usage unknown kept) = let impossible : Unknown ≡ WithoutInput = sym unknown ∙ is in absurd (cc)
summarised called words source n Unread told is (unread with failed few) = let impossible : WithInput ≡ WithoutInput = sym with ∙ is in absurd (cc)
summarised called words source n Long told is (long with many) = let impossible : WithInput ≡ WithoutInput = sym with ∙ is in absurd (cc)
summarised called words source n (Answered answer) told is cause =
    summarised_answer called words source n answer told is (by_cause called words source answer cause)

generates_by : {called : Type 0} {source : Change} {status : ℕ} {sink : Change} (n : ℕ) (reply : Reply) → IsSummary called n source reply → Wrote reply status sink → Generates called n status source sink
generates_by {sink = sink} n reply is (whole so gained) =
    printed (so ∙ is.status_is) is.rose is.kept (subst (Gained sink) is.text_is gained)
generates_by {sink = sink} n reply is (cut_short six failed prefix proper gained) =
    cut six is.rose is.kept failed prefix (subst (IsProperPrefix prefix) is.text_is proper) gained

pub generates : {called : Type 0} (words : List (List ℕ)) {source : Change} {kept : Type 0} {status : ℕ} {sink : Change} → Ends (HasCause (command_of words) (WordsLead called words) (Leads called) source) kept status sink → (kept → IsUntouched source) → (n : ℕ) → IsGen words n → Generates called n status source sink
generates {called = called} words {source = source} (wrote reply cause written) if_kept n gen =
    let so = asked words n gen in
    generates_by n reply (summarised called words source n reply so (of_gen words n so) cause) written
generates words (no_memory four kept untouched) if_kept n gen = memory four (if_kept kept) untouched

pub steady_generates : {called : Type 0} {source : Change} {status : ℕ} {sink : Change} (n : ℕ) → Generates called n status source sink → IsSteady sink → (status ≡ 0) ⊎ (status ≡ 4)
steady_generates n (printed zero rose kept gained) steady = inl zero
steady_generates n (memory four kept untouched) steady = inr four
steady_generates n (cut six rose kept failed prefix proper gained) steady =
    let higher = failed (omega (arith, steady.same, steady.not_last)) in absurd (omega (arith, higher, steady.same))
