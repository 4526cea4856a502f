-- What each status says, for any top call.
use Rattle.std.proofs.Common.{◌≡◌, ◌≤◌, ℕ, List, refl, sym, subst, ◌∙◌, arith}
use Rattle.rowtext.specs.Bytes.{IsProperPrefix}
use Rattle.rowtext.specs.declared.reply.Answer.TheVariants.{Form, Unbuilt, Fault, Printed}
use Rattle.rowtext.specs.declared.reply.Reply.{Reply}
use Rattle.rowtext.specs.declared.reply.Reply.TheVariants.{Usage, Unread, Long, Answered}
use Rattle.rowtext.specs.Replies.{reply_status, reply_text}
use Rattle.rowtext.specs.Changes.{Change, HasFailed, IsUntouched, Gained}
use Rattle.rowtext.specs.Outcomes.{whole, cut, Ends, wrote, memory, Did, ByStatus}

-- each status of a fixed text belongs to one reply

only_usage : (reply : Reply) → reply_status reply ≡ 1 → reply ≡ Usage
only_usage Usage e = refl
only_usage (Answered (Printed text)) e = absurd (omega (arith, e))
only_usage reply e = absurd (omega (arith, e))

only_form : (reply : Reply) → reply_status reply ≡ 2 → reply ≡ Answered Form
only_form (Answered Form) e = refl
only_form reply e = absurd (omega (arith, e))

only_unread : (reply : Reply) → reply_status reply ≡ 5 → reply ≡ Unread
only_unread Unread e = refl
only_unread (Answered (Printed text)) e = absurd (omega (arith, e))
only_unread reply e = absurd (omega (arith, e))

only_long : (reply : Reply) → reply_status reply ≡ 7 → reply ≡ Long
only_long Long e = refl
only_long (Answered (Printed text)) e = absurd (omega (arith, e))
only_long reply e = absurd (omega (arith, e))

only_unbuilt : (reply : Reply) → reply_status reply ≡ 8 → reply ≡ Answered Unbuilt
only_unbuilt (Answered Unbuilt) e = refl
only_unbuilt reply e = absurd (omega (arith, e))

-- a status that one reply has: its cause, and its text
of_one : {cause : Reply → Type 0} {kept : Type 0} {status : ℕ} {sink : Change} (n : ℕ) (only : Reply) → ((reply : Reply) → reply_status reply ≡ n → reply ≡ only) → (n ≡ 4 → ⊥) → (n ≡ 6 → ⊥) → Ends cause kept status sink → status ≡ n → Did cause sink only
of_one n only is_only not_memory not_cut (memory four so kept) is = absurd (not_memory (sym is ∙ four))
of_one n only is_only not_memory not_cut (wrote reply c (cut six failed prefix proper gained)) is = absurd (not_cut (sym is ∙ six))
of_one {cause = cause} {sink = sink} n only is_only not_memory not_cut (wrote reply c (whole s gained)) is =
    let same : reply ≡ only = is_only reply (sym s ∙ is) in
    (subst cause same c, subst (λ (p : Reply). Gained sink (reply_text p)) same gained)

pub of_zero : {cause : Reply → Type 0} {kept : Type 0} {status : ℕ} {sink : Change} → Ends cause kept status sink → status ≡ 0 → (text : List ℕ) × cause (Answered (Printed text)) × Gained sink text
of_zero (memory four so kept) is = absurd (omega (arith, is, four))
of_zero (wrote reply c (cut six failed prefix proper gained)) is = absurd (omega (arith, is, six))
of_zero (wrote (Answered (Printed text)) c (whole s gained)) is = (text, c, gained)
of_zero (wrote reply c (whole s gained)) is = absurd (omega (arith, is, s))

pub of_three : {cause : Reply → Type 0} {kept : Type 0} {status : ℕ} {sink : Change} → Ends cause kept status sink → status ≡ 3 → (text : List ℕ) × cause (Answered (Fault text)) × Gained sink text
of_three (memory four so kept) is = absurd (omega (arith, is, four))
of_three (wrote reply c (cut six failed prefix proper gained)) is = absurd (omega (arith, is, six))
of_three (wrote (Answered (Fault text)) c (whole s gained)) is = (text, c, gained)
of_three (wrote reply c (whole s gained)) is = absurd (omega (arith, is, s))

-- no reply has these statuses
not_four : (reply : Reply) → reply_status reply ≡ 4 → ⊥
not_four (Answered (Printed text)) e = omega (arith, e)
not_four (Answered Form) e = omega (arith, e)
not_four (Answered (Fault text)) e = omega (arith, e)
not_four (Answered Unbuilt) e = omega (arith, e)
not_four reply e = omega (arith, e)

not_six : (reply : Reply) → reply_status reply ≡ 6 → ⊥
not_six (Answered (Printed text)) e = omega (arith, e)
not_six (Answered Form) e = omega (arith, e)
not_six (Answered (Fault text)) e = omega (arith, e)
not_six (Answered Unbuilt) e = omega (arith, e)
not_six reply e = omega (arith, e)

in_range : (reply : Reply) → reply_status reply ≤ 8
in_range (Answered (Printed text)) = omega arith
in_range (Answered Form) = omega arith
in_range (Answered (Fault text)) = omega arith
in_range (Answered Unbuilt) = omega arith
in_range reply = omega arith

of_four : {cause : Reply → Type 0} {kept : Type 0} {status : ℕ} {sink : Change} → Ends cause kept status sink → status ≡ 4 → kept × IsUntouched sink
of_four (memory four so untouched) is = (so, untouched)
of_four (wrote reply c (cut six failed prefix proper gained)) is = absurd (omega (arith, is, six))
of_four (wrote reply c (whole s gained)) is = absurd (not_four reply (sym s ∙ is))

of_six : {cause : Reply → Type 0} {kept : Type 0} {status : ℕ} {sink : Change} → Ends cause kept status sink → status ≡ 6 → (reply : Reply) × cause reply × HasFailed sink × (prefix : List ℕ) × IsProperPrefix prefix (reply_text reply) × Gained sink prefix
of_six (memory four so kept) is = absurd (omega (arith, is, four))
of_six (wrote reply c (cut six failed prefix proper gained)) is = (reply, c, failed, prefix, proper, gained)
of_six (wrote reply c (whole s gained)) is = absurd (not_six reply (sym s ∙ is))

known : {cause : Reply → Type 0} {kept : Type 0} {status : ℕ} {sink : Change} → Ends cause kept status sink → status ≤ 8
known (memory four so kept) = omega (arith, four)
known (wrote reply c (cut six failed prefix proper gained)) = omega (arith, six)
known (wrote reply c (whole s gained)) = omega (arith, s, in_range reply)

pub by_status : {cause : Reply → Type 0} {kept : Type 0} {status : ℕ} {sink : Change} → Ends cause kept status sink → ByStatus cause kept status sink
by_status ends = record {
  is_printed = of_zero ends;
  is_usage = of_one 1 Usage only_usage (λ e. omega (arith, e)) (λ e. omega (arith, e)) ends;
  is_form = of_one 2 (Answered Form) only_form (λ e. omega (arith, e)) (λ e. omega (arith, e)) ends;
  is_fault = of_three ends;
  is_memory = of_four ends;
  is_unread = of_one 5 Unread only_unread (λ e. omega (arith, e)) (λ e. omega (arith, e)) ends;
  is_cut = of_six ends;
  is_long = of_one 7 Long only_long (λ e. omega (arith, e)) (λ e. omega (arith, e)) ends;
  is_unbuilt = of_one 8 (Answered Unbuilt) only_unbuilt (λ e. omega (arith, e)) (λ e. omega (arith, e)) ends;
  is_known = known ends;
}
