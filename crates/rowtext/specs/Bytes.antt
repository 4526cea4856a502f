-- What a source has left and what a sink holds, where they tell it.
use Rattle.std.specs.Prelude.{◌≡◌, ℕ, ◌<◌, List, [], ◌++◌, length, Option, option_map, IfSome}

-- the bytes are the next ones, and whether the bytes to come are told stays
abbrev pub Takes : Option (List ℕ) → List ℕ → Option (List ℕ) → Type 0
Takes old bytes new = old ≡ option_map (λ rest. bytes ++ rest) new

-- nothing is left, where that is told
abbrev pub IsAtEnd : Option (List ℕ) → Type 0
IsAtEnd left = IfSome left (λ rest. rest ≡ [])

-- just these bytes are appended, and whether the content is told stays
abbrev pub Grows : Option (List ℕ) → List ℕ → Option (List ℕ) → Type 0
Grows old bytes new = new ≡ option_map (λ held. held ++ bytes) old

-- a prefix of the text that is not all of it
pub record IsProperPrefix (prefix text : List ℕ) : Type 0 where
  pub rest : List ℕ
  pub whole : prefix ++ rest ≡ text
  pub more : 0 < length rest
