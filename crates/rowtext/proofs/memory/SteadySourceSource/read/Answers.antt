use Rattle.std.proofs.Common.{Some, ap, ◌∙◌, ◌≡◌, drop, take, List, ℕ}
use Rattle.rowtext.proofs.Pieces.{next_piece}
use Rattle.rowtext.proofs.memory.SteadySourceSource.read.Goals as goal

pub returns-clause-bytes : goal.returns-clause-bytes
returns-clause-bytes c =
    let bytes : take c.copy_piece-count.result c.copy_piece-count.new.buf ≡ take c.copy_piece-count.result (drop c.args.self.now.at c.args.self.now.bytes.items) =
    c.copy_piece-count.ensures.bytes ∙ ap (λ (xs : List ℕ). take c.copy_piece-count.result (drop c.args.self.now.at xs)) c.deref.ensures.value in
    ap Some (next_piece c.args.self.now.bytes.items c.copy_piece-count.new.buf c.args.self.now.at c.copy_piece-count.result bytes)
