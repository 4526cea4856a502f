use Rattle.std.proofs.Common.{refl, subst, List, ℕ}
use Rattle.rowtext.specs.Bytes.{IsProperPrefix}
use Rattle.rowtext.specs.Outcomes.{cut}
use Rattle.rowtext.proofs.reply.write_reply.Goals as goal

pub returns-in-Err-clause-wrote : goal.returns-in-Err-clause-wrote
returns-in-Err-clause-wrote g c =
    let prefix = c.in-Err.ensures.prefix in
    cut refl c.in-Err.ensures.cause prefix.0 (subst (λ (text : List ℕ). IsProperPrefix prefix.0 text) c.text.ensures prefix.1) prefix.2
