use Rattle.std.proofs.Common.{◌≡◌, ◌++◌, drop}
use Rattle.std.specs.List.{flat_map}
use Rattle.rowrun.specs.Faults.{number_text}
use Rattle.rowrun.proofs.fault.push_numbers.Given as goal

abbrev pub invariant-loop-number : goal.invariant-loop-number
invariant-loop-number l = l.out.items ++ flat_map number_text (drop l.number-index l.numbers) ≡ l.initial.out.items ++ flat_map number_text l.numbers
