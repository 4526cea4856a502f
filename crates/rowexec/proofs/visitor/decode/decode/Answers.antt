use Rattle.std.proofs.Common.{◌∙◌, ap, length, sym}
use Rattle.rowtypes.specs.Rows.{logical_types}
use Rattle.rowloops.specs.Domain.{domain_of}
use Rattle.rowexec.specs.RowRuns.{decodes}
use Rattle.rowexec.proofs.Batches.{accepts_same, as_many_types, fails_same, tolerant_same}
use Rattle.rowexec.proofs.Results.{err_then}
use Rattle.rowexec.proofs.Running.{decoded_if, told_as}
use Rattle.rowexec.proofs.visitor.decode.decode.Goals as goal

pub decode_whole-requires-clause-arity : goal.decode_whole-requires-clause-arity
decode_whole-requires-clause-arity g c =
    let args = c.args.args.now in
    sym (as_many_types args.columns.now) ∙ ap length (sym c.requires.ready.types_are) ∙ c.requires.arguments.count ∙ sym c.requires.arguments.arity_is

pub decode_whole-requires-clause-types : goal.decode_whole-requires-clause-types
decode_whole-requires-clause-types g c =
    let args = c.args.args.now in
    accepts_same g.Args.ElementTuple.elements.accepts (g.F.RowSpec.law args.options.now (logical_types args.types.now)).arguments.accepts c.requires.arguments.accepts 0 args.columns.now c.requires.ready.accepted

pub decode_null_tolerant-requires-clause-arity : goal.decode_null_tolerant-requires-clause-arity
decode_null_tolerant-requires-clause-arity g c =
    let args = c.args.args.now in
    sym (as_many_types args.columns.now) ∙ ap length (sym c.requires.ready.types_are) ∙ c.requires.arguments.count ∙ sym c.requires.arguments.arity_is

pub decode_null_tolerant-requires-clause-types : goal.decode_null_tolerant-requires-clause-types
decode_null_tolerant-requires-clause-types g c =
    let args = c.args.args.now in
    accepts_same g.Args.ElementTuple.elements.accepts (g.F.RowSpec.law args.options.now (logical_types args.types.now)).arguments.accepts c.requires.arguments.accepts 0 args.columns.now c.requires.ready.accepted

pub decode_whole-requires-in-Filtered-clause-arity : goal.decode_whole-requires-in-Filtered-clause-arity
decode_whole-requires-in-Filtered-clause-arity g c =
    let args = c.args.args.now in
    sym (as_many_types args.columns.now) ∙ ap length (sym c.requires.ready.types_are) ∙ c.requires.arguments.count ∙ sym c.requires.arguments.arity_is

pub decode_whole-requires-in-Filtered-clause-types : goal.decode_whole-requires-in-Filtered-clause-types
decode_whole-requires-in-Filtered-clause-types g c =
    let args = c.args.args.now in
    accepts_same g.Args.ElementTuple.elements.accepts (g.F.RowSpec.law args.options.now (logical_types args.types.now)).arguments.accepts c.requires.arguments.accepts 0 args.columns.now c.requires.ready.accepted

pub returns-in-All-clause-told : goal.returns-in-All-clause-told
returns-in-All-clause-told g c =
    let args = c.args.args.now in
    let law = g.F.RowSpec.law args.options.now (logical_types args.types.now) in
    told_as c.decode_whole.result _ _ (ap (decodes law args.columns.now) (sym (ap domain_of c.in-All.is))) c.decode_whole.ensures.told

pub returns-in-All-clause-decoded : goal.returns-in-All-clause-decoded
returns-in-All-clause-decoded g c =
    let args = c.args.args.now in
    let law = g.F.RowSpec.law args.options.now (logical_types args.types.now) in
    let T = g.Args.ElementTuple in
    let tuple = g.met.Args.ElementTuple in
    let made = c.decode_whole.ensures in
    decoded_if law T.elements T.DENSE_SAFE args.columns.now (domain_of args.domain) T.lengths T.shows T.known_of T.ARITY (logical_types args.types.now) c.decode_whole.result
    c.requires.arguments tuple.shown_constant tuple.shown_row c.requires.ready.asked c.requires.reads made.lengths made.same made.known made.read made.dense

pub returns-in-All-clause-errors : goal.returns-in-All-clause-errors
returns-in-All-clause-errors g c =
    let args = c.args.args.now in
    let law = g.F.RowSpec.law args.options.now (logical_types args.types.now) in
    let T = g.Args.ElementTuple in
    err_then c.decode_whole.result _ _ c.decode_whole.ensures.errors (fails_same T.elements.reads law.arguments.reads c.requires.arguments.reads 0 args.columns.now)

pub returns-in-Marked-clause-told : goal.returns-in-Marked-clause-told
returns-in-Marked-clause-told g c =
    let args = c.args.args.now in
    let law = g.F.RowSpec.law args.options.now (logical_types args.types.now) in
    told_as c.decode_null_tolerant.result _ _ (tolerant_same g.Args.ElementTuple.elements.tolerant law.arguments.tolerant c.requires.arguments.tolerant 0 args.columns.now ∙ ap (decodes law args.columns.now) (sym (ap domain_of c.in-Marked.is))) c.decode_null_tolerant.ensures.told

pub returns-in-Marked-clause-decoded : goal.returns-in-Marked-clause-decoded
returns-in-Marked-clause-decoded g c =
    let args = c.args.args.now in
    let law = g.F.RowSpec.law args.options.now (logical_types args.types.now) in
    let T = g.Args.ElementTuple in
    let tuple = g.met.Args.ElementTuple in
    let made = c.decode_null_tolerant.ensures in
    decoded_if law T.elements T.DENSE_SAFE args.columns.now (domain_of args.domain) T.lengths T.shows T.known_of T.ARITY (logical_types args.types.now) c.decode_null_tolerant.result
    c.requires.arguments tuple.shown_constant tuple.shown_row c.requires.ready.asked c.requires.reads made.lengths made.same made.known made.read made.dense

pub returns-in-Marked-clause-errors : goal.returns-in-Marked-clause-errors
returns-in-Marked-clause-errors g c =
    let args = c.args.args.now in
    let law = g.F.RowSpec.law args.options.now (logical_types args.types.now) in
    let T = g.Args.ElementTuple in
    err_then c.decode_null_tolerant.result _ _ c.decode_null_tolerant.ensures.errors (fails_same T.elements.reads law.arguments.reads c.requires.arguments.reads 0 args.columns.now)

pub returns-in-Filtered-clause-told : goal.returns-in-Filtered-clause-told
returns-in-Filtered-clause-told g c =
    let args = c.args.args.now in
    let law = g.F.RowSpec.law args.options.now (logical_types args.types.now) in
    told_as c.decode_whole-in-Filtered.result _ _ (ap (decodes law args.columns.now) (sym (ap domain_of c.in-Filtered.is))) c.decode_whole-in-Filtered.ensures.told

pub returns-in-Filtered-clause-decoded : goal.returns-in-Filtered-clause-decoded
returns-in-Filtered-clause-decoded g c =
    let args = c.args.args.now in
    let law = g.F.RowSpec.law args.options.now (logical_types args.types.now) in
    let T = g.Args.ElementTuple in
    let tuple = g.met.Args.ElementTuple in
    let made = c.decode_whole-in-Filtered.ensures in
    decoded_if law T.elements T.DENSE_SAFE args.columns.now (domain_of args.domain) T.lengths T.shows T.known_of T.ARITY (logical_types args.types.now) c.decode_whole-in-Filtered.result
    c.requires.arguments tuple.shown_constant tuple.shown_row c.requires.ready.asked c.requires.reads made.lengths made.same made.known made.read made.dense

pub returns-in-Filtered-clause-errors : goal.returns-in-Filtered-clause-errors
returns-in-Filtered-clause-errors g c =
    let args = c.args.args.now in
    let law = g.F.RowSpec.law args.options.now (logical_types args.types.now) in
    let T = g.Args.ElementTuple in
    err_then c.decode_whole-in-Filtered.result _ _ c.decode_whole-in-Filtered.ensures.errors (fails_same T.elements.reads law.arguments.reads c.requires.arguments.reads 0 args.columns.now)
