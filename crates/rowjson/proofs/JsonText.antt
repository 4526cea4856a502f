-- The JSON value of bytes, and two columns.
use Rattle.std.proofs.Common.{◌≡◌, ℕ, List, [], ◌∷◌, length, None, ap, refl, ◌∙◌, Bool, true, false, arith, ◌+◌, add-one}
use Rattle.std.specs.Prelude.{if◌then◌else◌}
use Rattle.std.specs.Str.{IsUtf8, IsValidUpTo}
use Rattle.std.specs.Str.Lossy.{utf8_valid_len}
use Rattle.std.specs.Str.{is_utf8}
use Rattle.std.proofs.lemmas.Str.{IsUtf8-from_is_utf8, is_utf8-from_IsUtf8, utf8_valid_len-IsUtf8}
use Rattle.serde_json.specs.Data.{Data}
use Rattle.serde_json.specs.Read.{read}
use Rattle.serde_json.specs.View.{members_of}
use Rattle.std.specs.Prelude.{String}
use Rattle.std.specs.declared.alloc.Global.{Global}
use Rattle.rowjson.specs.Objects.{json_of}
use Rattle.rowjson.specs.Objects.{member_count}

pub json_of_text : (bs : List ℕ) → IsUtf8 bs → json_of bs ≡ read bs
unfolding json_of
json_of_text bs valid = ap (λ b. if b then read bs else None) (is_utf8-from_IsUtf8 bs valid)

not_utf8 : (bs : List ℕ) (n : ℕ) → IsValidUpTo bs n → n ≡ utf8_valid_len bs → (b : Bool) → is_utf8 bs ≡ b → b ≡ false
not_utf8 bs n up_to is true e = let whole : utf8_valid_len bs ≡ length bs = utf8_valid_len-IsUtf8 bs (IsUtf8-from_is_utf8 bs e) in absurd (omega (arith, up_to.short, is, whole))
not_utf8 bs n up_to is false e = refl

pub json_of_bytes : (bs : List ℕ) (n : ℕ) → IsValidUpTo bs n → n ≡ utf8_valid_len bs → json_of bs ≡ None
unfolding json_of
json_of_bytes bs n up_to is = ap (λ b. if b then read bs else None) (not_utf8 bs n up_to is (is_utf8 bs) refl)

pub member_count-members_of : (ms : List (String Global × Data)) → member_count (members_of ms) ≡ length ms
member_count-members_of [] = refl
member_count-members_of (m ∷ ms) = ap (λ n. n + 1) (member_count-members_of ms) ∙ add-one (length ms)
