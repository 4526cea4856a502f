use Rattle.std.proofs.Common.{ap, Err, rules, arith}
use Rattle.rowtext.specs.Causes.{unread, long, of_input}
use Rattle.rowtext.proofs.top_call.input_reply.Goals as goal

pub returns-in-Err-Failed-clause-cause : goal.returns-in-Err-Failed-clause-cause
returns-in-Err-Failed-clause-cause g c =
    let is = ap Err c.in-Err-Failed.field-0-is in
    unread c.requires (c.in-Err-Failed.ensures.failed is) (c.in-Err-Failed.ensures.few is)

pub returns-in-Err-Long-clause-cause : goal.returns-in-Err-Long-clause-cause
returns-in-Err-Long-clause-cause g c =
    let many = c.in-Err-Long.ensures.long (ap Err c.in-Err-Long.field-0-is) in
    long c.requires (many.0, many.1, omega (arith, many.2))

pub returns-clause-cause : goal.returns-clause-cause
returns-clause-cause g c =
    of_input c.in_ok-answer.answer c.requires (c.in-Ok.bytes.items, c.in-Ok.ensures.whole, c.in-Ok.ensures.fits, c.in-Ok.ensures.end, search rules)
