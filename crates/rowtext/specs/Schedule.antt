-- Which calls of a source or a sink over memory fail, and how many bytes the others pass on.
use Rattle.std.specs.Prelude.{ℕ, ◌+◌, ◌-◌, ◌^◌, min, Bool, List, ◌==◌}
use Rattle.std.specs.List.{list_any}

-- the most bytes of a call, the numbers of the calls that fail, and how many calls were made
pub record Schedule : Type 0 where
  pub piece : ℕ
  pub fails : List ℕ
  pub calls : ℕ

-- the number of the next call, counted from 1, which stays at the last value of a u64
abbrev pub next_call : Schedule → ℕ
next_call s = min (s.calls + 1) (2 ^ 64 - 1)

-- one more call was made
abbrev pub called : Schedule → Schedule
called s = record s { calls = next_call s }

-- the next call is among those that fail
abbrev pub fails_next : Schedule → Bool
fails_next s = list_any (λ call. call == next_call s) s.fails
