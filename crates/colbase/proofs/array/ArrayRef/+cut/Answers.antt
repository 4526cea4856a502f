use Rattle.std.proofs.Common.{◌∙◌, ap, sym}
use Rattle.colbase.specs.Arrays.{dtype, len}
use Rattle.coltypes.specs.LogicalTypeOf.{logical_type}
use Rattle.colbase.proofs.Cut.{sound_cut, dtype_cut, len_cut}
use Rattle.colbase.proofs.array.ArrayRef.+cut.Goals as goal

pub cut-make-requires-clause-sound : goal.cut-make-requires-clause-sound
cut-make-requires-clause-sound t c =
    rw c.in_ok-layout.ensures.cut (sound_cut c.args.self.now c.args.start c.args.end c.checks.ensures c.requires.order c.requires.within)

pub cut-make-requires-clause-typed : goal.cut-make-requires-clause-typed
cut-make-requires-clause-typed t c =
    ap logical_type c.share-dtype.ensures ∙ c.dtype.ensures ∙ sym (dtype_cut c.args.self.now c.args.start c.args.end) ∙ ap dtype (sym c.in_ok-layout.ensures.cut)

pub cut-make-requires-clause-counted : goal.cut-make-requires-clause-counted
cut-make-requires-clause-counted t c =
    sym (len_cut c.args.self.now c.args.start c.args.end c.requires.order c.requires.within) ∙ ap len (sym c.in_ok-layout.ensures.cut)
