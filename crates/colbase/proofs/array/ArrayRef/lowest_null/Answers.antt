use Rattle.std.proofs.Common.{◌∙◌, arith, sym, ap}
use Rattle.std.specs.Prelude.{not}
use Rattle.colbase.proofs.Lowest.{lowest-more, lowest-found}
use Rattle.colbase.proofs.Rows.{none_by_kind}
use Rattle.colbase.specs.Faults.{null_at}
use Rattle.colbase.specs.Arrays.{len}
use Rattle.colbase.proofs.array.ArrayRef.lowest_null.Goals as goal

pub returns-in-NoNulls : goal.returns-in-NoNulls
returns-in-NoNulls c = sym (none_by_kind c.args.self.now c.checks.ensures (sym c.validity_kind.ensures ∙ c.in-NoNulls.is))

pub returns-then-not-is_valid : goal.returns-then-not-is_valid
returns-then-not-is_valid c = sym (lowest-found (null_at c.args.self.now) c.loop-i.i c.loop-i.invariant (ap not (sym c.if-not-is_valid.ensures)) (len c.args.self.now) (omega arith))

pub loop-i-preserved : goal.loop-i-preserved
loop-i-preserved c = lowest-more (null_at c.args.self.now) c.loop-i.i c.loop-i.invariant (ap not (sym c.if-not-is_valid.ensures))
