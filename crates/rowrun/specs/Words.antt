-- The words that the call knows, and what they and the bytes of an input lead to. Each answer says that the engine was called, where it was.
use Rattle.std.specs.Prelude.{◌≡◌, ◌≤◌, ℕ, Bool, false, ◌&&◌, nat_le, if◌then◌else◌, List, [], ◌∷◌, map, String, string_bytes, Option, Some, None, IsSome, codes, decimal}
use Rattle.std.specs.declared.alloc.Global.{Global}
use Rattle.std.specs.Str.{bytes_eq}
use Rattle.std.specs.Str.Parse.{digits_value}
use Rattle.colbase.specs.Column.{Column}
use Rattle.coltypes.specs.declared.fault.Fault as f
use Rattle.rowtext.specs.declared.command.Command.{Command}
use Rattle.rowtext.specs.declared.command.Command.TheVariants.{WithoutInput}
use Rattle.rowtext.specs.declared.reply.Answer.{Answer}
use Rattle.rowtext.specs.declared.reply.Answer.TheVariants.{Form, Unbuilt, Fault, Printed}
use Rattle.rowtext.specs.declared.reply.Reply.{Reply}
use Rattle.rowtext.specs.Bytes.{IsProperPrefix}
use Rattle.rowtext.specs.Changes.{Change, HasFailed, IsUntouched, Gained}
use Rattle.rowtext.specs.Causes.{HasCause, input_command}
use Rattle.rowrun.specs.Batch.{Batch, batch_of}
use Rattle.rowjson.specs.Objects.{json_of}
use Rattle.rowrun.specs.Faults.{fault_text}
use Rattle.rowrun.specs.Generator.{most_rows, summary}
use Rattle.rowrun.specs.Results.{IsResult, HasFault}
use Rattle.rowjson.specs.Text.{text}

-- ---- words

-- the one word `run`
abbrev pub is_run : List (List ℕ) → Bool
is_run (word ∷ []) = bytes_eq word (codes "run")
is_run _ = false

-- the two words `gen` and a number of rows in range, in decimal without sign and without leading zero
pub record IsGen (words : List (List ℕ)) (n : ℕ) : Type 0 where
  pub spelled : words ≡ codes "gen" ∷ decimal n ∷ []
  pub in_range : n ≤ most_rows

-- the number whose decimal the word is, where that is in range
unfoldable pub count_in : List ℕ → Option ℕ
count_in word =
    if bytes_eq (decimal (digits_value 10 word)) word && nat_le (digits_value 10 word) most_rows then Some (digits_value 10 word) else None

-- the number of rows that the words ask to generate
abbrev pub rows_asked : List (List ℕ) → Option ℕ
rows_asked (word ∷ count ∷ []) = if bytes_eq word (codes "gen") then count_in count else None
rows_asked _ = None

-- words that ask for rows need no input
abbrev pub command_by : Option ℕ → Bool → Command
command_by None run = input_command run
command_by (Some n) run = WithoutInput

-- what the words ask for
abbrev pub command_of : List (List ℕ) → Command
command_of words = command_by (rows_asked words) (is_run words)

-- ---- answers

-- What all the bytes of an input lead to: they are no JSON, they are JSON that states no batch, or they state a batch, whose fault or whose result is printed
-- where the engine was called.
abbrev pub Leads : Type 0 → List ℕ → Answer → Type 0
Leads called bytes Form = json_of bytes ≡ None
Leads called bytes Unbuilt = IsSome (json_of bytes) × (batch_of bytes ≡ None)
Leads called bytes (Fault t) = called × (b : Batch) × (batch_of bytes ≡ Some b) × (e : f.Fault) × HasFault b e × (t ≡ fault_text e)
Leads called bytes (Printed t) = called × (b : Batch) × (batch_of bytes ≡ Some b) × (c : Column) × IsResult b c × (t ≡ text c)

-- What words that ask for rows lead to: the summary of these rows is printed where the engine was called. They lead to nothing else.
abbrev pub WordsLead : Type 0 → List (List ℕ) → Answer → Type 0
WordsLead called words Form = ⊥
WordsLead called words Unbuilt = ⊥
WordsLead called words (Fault t) = ⊥
WordsLead called words (Printed t) = called × (n : ℕ) × (rows_asked words ≡ Some n) × (t ≡ summary n)

-- the reply has its cause in a call with these words that did this to its source, where the engine was called
abbrev pub CauseOfReply : Type 0 → List (String Global) → Change → Reply → Type 0
CauseOfReply called words source reply =
    HasCause (command_of (map string_bytes words)) (WordsLead called (map string_bytes words)) (Leads called) source reply

-- How a call that generates n rows ends: its whole summary was written, or a proper prefix of it where the sink failed, or memory ran out before the first write.
-- Where the engine wasn't called nothing was written. Nothing was read.
pub data Generates (called : Type 0) (n status : ℕ) (source sink : Change) : Type 0 where
  printed : status ≡ 0 → called → IsUntouched source → Gained sink (summary n) → Generates called n status source sink
  cut : status ≡ 6 → called → IsUntouched source → HasFailed sink → (prefix : List ℕ) → IsProperPrefix prefix (summary n) → Gained sink prefix → Generates called n status source sink
  memory : status ≡ 4 → IsUntouched source → IsUntouched sink → Generates called n status source sink
