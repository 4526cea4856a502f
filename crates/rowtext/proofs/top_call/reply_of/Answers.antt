use Rattle.std.proofs.Common.{refl, sym}
use Rattle.rowtext.specs.Causes.{usage, of_words}
use Rattle.rowtext.proofs.top_call.reply_of.Goals as goal

pub returns-in-Unknown-clause-cause : goal.returns-in-Unknown-clause-cause
returns-in-Unknown-clause-cause g c = usage (sym c.in-Unknown.ensures) refl

pub returns-in_ok-answered-in-WithoutInput-clause-cause : goal.returns-in_ok-answered-in-WithoutInput-clause-cause
returns-in_ok-answered-in-WithoutInput-clause-cause g c =
    of_words c.in_ok-answered-in-WithoutInput.answered (sym c.in-WithoutInput.ensures) refl (c.in_ok-answered-in-WithoutInput.ensures (sym c.in-WithoutInput.ensures))
