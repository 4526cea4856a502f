-- The JSON value of bytes, the members of an object, and the items of an array. An object is asked for its number of keys, so that
-- with each key that is read no other key is there.
use Rattle.std.specs.Prelude.{ℕ, Bool, false, ◌+◌, ◌==◌, if◌then◌else◌, List, [], ◌∷◌, Option, Some, None, is_some, option_map, option_and_then, ℤ}
use Rattle.serde_json.specs.Data.{Data, Items, no_items, item, Members, no_members, member}
use Rattle.std.specs.Str.{is_utf8}
use Rattle.serde_json.specs.Read.{read}
use Rattle.serde_json.specs.Find.{get, as_null, as_number, as_u64, as_str, as_array, as_object, as_i64}

infixl 10 ◌>>=◌
abbrev pub ◌>>=◌ : {A B : Type 0} → Option A → (A → Option B) → Option B
o >>= f = option_and_then f o

-- the JSON value of the bytes, if they are a text that is one
unfoldable pub json_of : List ℕ → Option Data
json_of bytes = if is_utf8 bytes then read bytes else None

abbrev pub member_count : Members → ℕ
member_count no_members = 0
member_count (member k d ms) = member_count ms + 1

abbrev pub counted : ℕ → Option Members → Bool
counted n None = false
counted n (Some ms) = member_count ms == n

-- an object with this number of keys
unfoldable pub has_keys : ℕ → Data → Bool
has_keys n d = counted n (as_object d)

unfoldable pub text_in : List ℕ → Data → Option (List ℕ)
text_in key d = get key d >>= as_str

unfoldable pub array_in : List ℕ → Data → Option Items
array_in key d = get key d >>= as_array

unfoldable pub number_in : List ℕ → Data → Option ℕ
number_in key d = get key d >>= as_number >>= as_u64

-- what a value states that may be null
abbrev pub value_or_null : {X : Type 0} → (Data → Option X) → Data → Option (Option X)
value_or_null value d = if is_some (as_null d) then Some None else option_map Some (value d)

unfoldable pub integer_in : List ℕ → Data → Option ℤ
integer_in key d = get key d >>= as_number >>= as_i64

-- what the items state, where each of them states something
abbrev pub all_in : {X : Type 0} → (Data → Option X) → Items → Option (List X)
all_in f no_items = Some []
all_in f (item d ds) = option_and_then (λ x. option_map (λ xs. x ∷ xs) (all_in f ds)) (f d)
