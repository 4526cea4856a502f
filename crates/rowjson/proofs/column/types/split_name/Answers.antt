use Rattle.std.proofs.Common.{arith, Some, None}
use Rattle.std.proofs.lemmas.Str.Pattern.{strip_suffix_char}
use Rattle.rowjson.proofs.Names.{marked_plain, marked_nullable, unmarked_plain, unmarked_required}
use Rattle.rowjson.proofs.column.types.split_name.Goals as goal

pub returns-in-Some-clause-plain : goal.returns-in-Some-clause-plain
returns-in-Some-clause-plain c = marked_plain _ _ (strip_suffix_char 63 c.args.name.now (Some c.in-Some.plain) c.in-Some.ensures.cases (omega arith))

pub returns-in-Some-clause-nullability : goal.returns-in-Some-clause-nullability
returns-in-Some-clause-nullability c = marked_nullable _ _ (strip_suffix_char 63 c.args.name.now (Some c.in-Some.plain) c.in-Some.ensures.cases (omega arith))

pub returns-in-None-clause-plain : goal.returns-in-None-clause-plain
returns-in-None-clause-plain c = unmarked_plain _ (strip_suffix_char 63 c.args.name.now None c.in-None.ensures.cases (omega arith))

pub returns-in-None-clause-nullability : goal.returns-in-None-clause-nullability
returns-in-None-clause-nullability c = unmarked_required _ (strip_suffix_char 63 c.args.name.now None c.in-None.ensures.cases (omega arith))
