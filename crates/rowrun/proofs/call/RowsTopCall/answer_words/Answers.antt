use Rattle.std.proofs.Common.{map, string_bytes, sym, ◌∙◌}
use Rattle.rowrun.proofs.Asked.{asks}
use Rattle.rowrun.proofs.call.RowsTopCall.answer_words.Goals as goal

pub summary_of-requires : goal.summary_of-requires
summary_of-requires g c = (asks (map string_bytes c.args.words.now) c.in-Some.rows (sym c.rows_asked.ensures ∙ c.in-Some.is)).in_range
