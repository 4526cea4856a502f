-- What the sources and sinks over memory tell, and their schedules.
use Rattle.std.specs.Prelude.{ℕ, List, drop}
use Rattle.rowtext.specs.declared.memory.MemorySource.{MemorySource}
use Rattle.rowtext.specs.declared.memory.SteadySource.{SteadySource}
use Rattle.rowtext.specs.declared.memory.MemorySink.{MemorySink}
use Rattle.rowtext.specs.Schedule.{Schedule}

abbrev pub memory_left : MemorySource → List ℕ
memory_left s = drop s.at s.bytes.items

abbrev pub steady_left : SteadySource → List ℕ
steady_left s = drop s.at s.bytes.items

abbrev pub memory_held : MemorySink → List ℕ
memory_held s = s.bytes.items

abbrev pub source_schedule : MemorySource → Schedule
source_schedule s = record { piece = s.piece; fails = s.fails.items; calls = s.calls }

abbrev pub sink_schedule : MemorySink → Schedule
sink_schedule s = record { piece = s.piece; fails = s.fails.items; calls = s.calls }
