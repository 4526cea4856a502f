use Rattle.rowtext.specs.Outcomes.{wrote}
use Rattle.rowtext.proofs.top_call.conduct.Goals as goal

pub returns-in-Ok-clause-ends : goal.returns-in-Ok-clause-ends
returns-in-Ok-clause-ends g c = wrote c.in-Ok.reply c.in-Ok.ensures.cause c.write_reply.ensures.wrote
